-- What a read does to the window and to what is told of the source.
use Rattle.std.proofs.Common.{◌≡◌, ◌≢◌, ℕ, zero, suc, ◌+◌, ◌-◌, ◌<◌, ◌≤◌, min, Bool, true, false, List, [], ◌∷◌, ◌++◌, length, take, drop, get_or, set, Option, Some, None, Result, Ok, Err, refl, sym, ap, ◌∙◌, subst, append_assoc, append-nil, length-append, length-drop, arith}
use Rattle.std.proofs.lemmas.List.{take_all, take_more, take_more_set, length-take, take_min, take-take, take-append-le, drop-append-le, drop-take, drop-drop, get_or-drop, drop-set-lt, take-append-drop}
use Rattle.std.proofs.Math.Seq.{take-append-add}
use borrow.Rule.Slice.PartMut.{put_mid, post_of}
use Rattle.pg_io.specs.Streams.{Gains, ReadTakes, TakesNext, Rose}
use Rattle.pg_io.specs.declared.streams.Failed.{Failed}
use Rattle.http_sessions.specs.declared.window.Window.{Window}
use Rattle.http_sessions.specs.declared.scan.Scan.{Scan}
use Rattle.http_sessions.specs.declared.scan.Extent.{Extent}
use Rattle.http_sessions.specs.declared.scan.Place.TheVariants.{Before}
use Rattle.http_sessions.specs.HeadEnd.{after_head, IsScanOf, IsHeadWith, Stops, Goes}
use Rattle.http_sessions.specs.SessionRuns.{Passed, Leaves, IsAtEnd}
use Rattle.http_sessions.specs.Windows.{window_of, IsWindow, Came, HeadStands, HasNoHead, HasPart}

-- ---- what passed

pub passed_none : (a : Option (List ℕ)) → Passed a a []
passed_none None = refl
passed_none (Some p) = ap (λ (l : List ℕ). Some l) (sym (append-nil p))

pub passed_on : (a b c : Option (List ℕ)) (x y : List ℕ) → Passed a b x → Passed b c y → Passed a c (x ++ y)
passed_on None b c x y e f = subst (λ (o : Option (List ℕ)). Passed o c y) e f
passed_on (Some p) b c x y e f = let g = subst (λ (o : Option (List ℕ)). Passed o c y) e f in g ∙ ap (λ (l : List ℕ). Some l) (append_assoc p x y)

leaves_none : (a : Option (List ℕ)) → Leaves a a []
leaves_none None = refl
leaves_none (Some p) = refl

leaves_two : (p x y q : List ℕ) (c : Option (List ℕ)) → p ≡ x ++ q → Leaves (Some q) c y → Leaves (Some p) c (x ++ y)
leaves_two p x y q None e f = f
leaves_two p x y q (Some r) e f = e ∙ ap (λ (l : List ℕ). x ++ l) f ∙ sym (append_assoc x y r)

leaves_on : (a b c : Option (List ℕ)) (x y : List ℕ) → Leaves a b x → Leaves b c y → Leaves a c (x ++ y)
leaves_on None b c x y e f = subst (λ (o : Option (List ℕ)). Leaves o c y) e f
leaves_on (Some p) None c x y e f = absurd e
leaves_on (Some p) (Some q) c x y e f = leaves_two p x y q c e f

pub came_none : (g l : Option (List ℕ)) (w : List ℕ) → Came g g l l w w
came_none g l w = record { some = []; window = sym (append-nil w); given_is = passed_none g; left_is = leaves_none l }

pub came_on : (g0 g1 g2 l0 l1 l2 : Option (List ℕ)) (w0 w1 w2 : List ℕ) → Came g0 g1 l0 l1 w0 w1 → Came g1 g2 l1 l2 w1 w2 → Came g0 g2 l0 l2 w0 w2
came_on g0 g1 g2 l0 l1 l2 w0 w1 w2 x y = record {
  some = x.some ++ y.some;
  window = y.window ∙ ap (λ (l : List ℕ). l ++ y.some) x.window ∙ append_assoc w0 x.some y.some;
  given_is = passed_on g0 g1 g2 x.some y.some x.given_is y.given_is;
  left_is = leaves_on l0 l1 l2 x.some y.some x.left_is y.left_is;
}

-- ---- one read

passed_ok : (a b : Option (List ℕ)) (n : ℕ) (into : List ℕ) → Gains a b (Ok n) into → Passed a b (take n into)
passed_ok None b n into e = e
passed_ok (Some p) b n into e = e

passed_err : (a b : Option (List ℕ)) (e : Failed) (into : List ℕ) → Gains a b (Err e) into → Passed a b []
passed_err None b f into e = e
passed_err (Some p) b f into e = e ∙ ap (λ (l : List ℕ). Some l) (sym (append-nil p))

leaves_ok : (a b : Option (List ℕ)) (n : ℕ) (into : List ℕ) → ReadTakes a b (Ok n) into → Leaves a b (take n into)
leaves_ok None b n into e = e
leaves_ok (Some p) None n into e = absurd e
leaves_ok (Some p) (Some q) n into e = sym (ap (λ (l : List ℕ). l ++ q) e.given ∙ ap (λ (l : List ℕ). take n p ++ l) e.rest ∙ take-append-drop n p)

leaves_err : (a b : Option (List ℕ)) (e : Failed) (into : List ℕ) → ReadTakes a b (Err e) into → Leaves a b []
leaves_err None b f into e = e
leaves_err (Some p) None f into e = absurd e
leaves_err (Some p) (Some q) f into e = sym e

pub at_end : (a b : Option (List ℕ)) (n : ℕ) (into : List ℕ) → ReadTakes a b (Ok n) into → n ≡ 0 → 0 < length into → IsAtEnd b
at_end None b n into e none room = let here : IsAtEnd None = tt in subst (λ (o : Option (List ℕ)). IsAtEnd o) (sym e) here
at_end (Some p) None n into e none room = absurd e
at_end (Some p) (Some q) n into e none room = e.rest ∙ ap (drop n) (e.ended none room) ∙ drop_nil n
  where
    drop_nil : (n : ℕ) → drop {A = ℕ} n [] ≡ []
    drop_nil zero = refl
    drop_nil (suc n) = refl

-- the window after bytes were written behind it
front_of : (room into : List ℕ) (start held : ℕ) → start ≤ held → held ≤ length room
    → drop start (put_mid held (length room - held) room into) ≡ take (held - start) (drop start room) ++ (into ++ post_of held (length room - held) room)
front_of room into start held le within =
    let size : length (take held room) ≡ held = let m = length-take held room in omega (arith, m) in
    let split : held ≡ start + (held - start) = omega arith in
    drop-append-le start (take held room) (into ++ post_of held (length room - held) room) (omega (arith, size))
    ∙ ap (λ (l : List ℕ). l ++ (into ++ post_of held (length room - held) room)) (ap (λ k. drop start (take k room)) split ∙ drop-take start (held - start) room)

size_of_window : (room : List ℕ) (start held : ℕ) → start ≤ held → held ≤ length room → length (take (held - start) (drop start room)) ≡ held - start
size_of_window room start held le within = let m = length-take (held - start) (drop start room) in let d = length-drop start room in omega (arith, m, d)

pub window_len : (room : List ℕ) (w : Window) → IsWindow room w → length (window_of room w) ≡ w.held - w.start
window_len room w k = size_of_window room w.start w.held k.ordered k.within

pub window_more : (room into : List ℕ) (start held n : ℕ) → start ≤ held → held ≤ length room → n ≤ length into
    → take ((held + n) - start) (drop start (put_mid held (length room - held) room into)) ≡ take (held - start) (drop start room) ++ take n into
window_more room into start held n le within some =
    let w = take (held - start) (drop start room) in
    let size = size_of_window room start held le within in
    let count : (held + n) - start ≡ length w + n = omega (arith, size) in
    ap (take ((held + n) - start)) (front_of room into start held le within)
    ∙ ap (λ k. take k (w ++ (into ++ post_of held (length room - held) room))) count
    ∙ take-append-add w (into ++ post_of held (length room - held) room) n
    ∙ ap (λ (l : List ℕ). w ++ l) (take-append-le n into (post_of held (length room - held) room) some)

pub window_kept : (room into : List ℕ) (start held : ℕ) → start ≤ held → held ≤ length room
    → take (held - start) (drop start (put_mid held (length room - held) room into)) ≡ take (held - start) (drop start room)
window_kept room into start held le within =
    let size = size_of_window room start held le within in
    ap (take (held - start)) (front_of room into start held le within)
    ∙ take-append-le (held - start) (take (held - start) (drop start room)) (into ++ post_of held (length room - held) room) (omega (arith, size))
    ∙ take-take (held - start) (held - start) (drop start room) (omega arith)

pub came_ok : (g0 g1 l0 l1 : Option (List ℕ)) (before room into : List ℕ) (start held n : ℕ) → start ≤ held → held ≤ length room → n ≤ length into
    → take (held - start) (drop start room) ≡ before → Gains g0 g1 (Ok n) into → ReadTakes l0 l1 (Ok n) into
    → Came g0 g1 l0 l1 before (take ((held + n) - start) (drop start (put_mid held (length room - held) room into)))
came_ok g0 g1 l0 l1 before room into start held n le within some same g l = record {
  some = take n into;
  window = window_more room into start held n le within some ∙ ap (λ (x : List ℕ). x ++ take n into) same;
  given_is = passed_ok g0 g1 n into g;
  left_is = leaves_ok l0 l1 n into l;
}

pub came_err : (g0 g1 l0 l1 : Option (List ℕ)) (before now into : List ℕ) (e : Failed) → now ≡ before → Gains g0 g1 (Err e) into → ReadTakes l0 l1 (Err e) into → Came g0 g1 l0 l1 before now
came_err g0 g1 l0 l1 before now into e same g l = record {
  some = [];
  window = same ∙ sym (append-nil before);
  given_is = passed_err g0 g1 e into g;
  left_is = leaves_err l0 l1 e into l;
}

-- ---- moving the window

pub moved_more : (room room0 : List ℕ) (i start : ℕ) → start + i < length room → take i room ≡ take i (drop start room0) → drop i room ≡ drop i room0
    → take (i + 1) (set room i (get_or room (start + i) 0)) ≡ take (i + 1) (drop start room0)
moved_more room room0 i start lt moved kept =
    let here : i < length room = omega arith in
    let same : length room - i ≡ length room0 - i = sym (length-drop i room) ∙ ap (λ (l : List ℕ). length l) kept ∙ length-drop i room0 in
    let there : i < length (drop start room0) = omega (arith, length-drop start room0, same) in
    let one : get_or room (start + i) 0 ≡ get_or room (i + start) 0 = ap (λ k. get_or room k 0) (let e : start + i ≡ i + start = omega arith in e) in
    let two : get_or room0 (i + start) 0 ≡ get_or room0 (start + i) 0 = ap (λ k. get_or room0 k 0) (let e : i + start ≡ start + i = omega arith in e) in
    let v : get_or room (start + i) 0 ≡ get_or (drop start room0) i 0 =
    one ∙ sym (get_or-drop i room start 0) ∙ ap (λ (l : List ℕ). get_or l start 0) kept ∙ get_or-drop i room0 start 0 ∙ two ∙ sym (get_or-drop start room0 i 0) in
    take_more_set room i (get_or room (start + i) 0) here ∙ ap (λ (l : List ℕ). l ++ get_or room (start + i) 0 ∷ []) moved ∙ ap (λ x. take i (drop start room0) ++ x ∷ []) v ∙ sym (take_more (drop start room0) i 0 there)

pub kept_more : (room room0 : List ℕ) (i v : ℕ) → drop i room ≡ drop i room0 → drop (i + 1) (set room i v) ≡ drop (i + 1) room0
kept_more room room0 i v kept =
    drop-set-lt (i + 1) room i v (omega arith) ∙ sym (drop-drop 1 i room) ∙ ap (drop 1) kept ∙ drop-drop 1 i room0

-- ---- the first bytes of the window

pub front_is : (w : List ℕ) (count : ℕ) → count ≡ min (length w) 16384 → take count w ≡ take 16384 w
front_is w count e = ap (λ k. take k w) (let m : count ≡ min 16384 (length w) = omega (arith, e) in m) ∙ take_min 16384 w

pub looked_within : (w : List ℕ) (at : ℕ) → at ≤ length w → at ≤ 16384 → at ≤ length (take 16384 w)
looked_within w at a b = let m = length-take 16384 w in omega (arith, m)

pub looked_so_far : (w : List ℕ) (s : Scan) → s.at ≤ 16384 → IsScanOf (take s.at w) s → IsScanOf (take s.at (take 16384 w)) s
looked_so_far w s le k = subst (λ (l : List ℕ). IsScanOf l s) (sym (take-take s.at 16384 w le)) k

pub head_stands : (w : List ℕ) (x : Extent) → Stops (take 16384 w) x → HeadStands w x
head_stands w x k =
    let m = length-take 16384 w in
    let i = k.within in
    let le : x.end ≤ 16384 = omega (arith, m, i) in
    record { within = omega (arith, m, i); some = k.some; size = le; head = subst (λ (l : List ℕ). IsHeadWith l x.first x.lines) (take-take x.end 16384 w le) k.head }

none_yet : (seen : List ℕ) (s : Scan) → IsScanOf seen s → after_head Before seen ≡ None
none_yet seen s k = ap (after_head Before) (sym (append-nil seen)) ∙ k.going []

pub has_no_head : (w : List ℕ) (s : Scan) → Goes (take 16384 w) s → 16384 ≤ s.at → HasNoHead w
has_no_head w s k le = let m = length-take 16384 w in let e = k.whole in record { size = omega (arith, m, e); none = none_yet (take 16384 w) s k.scan }

whole_front : (w : List ℕ) (s : Scan) → Goes (take 16384 w) s → s.at < 16384 → take 16384 w ≡ w
whole_front w s k lt = let m = length-take 16384 w in let e = k.whole in take_all 16384 w (omega (arith, m, e))

pub has_part : (w : List ℕ) (s : Scan) → Goes (take 16384 w) s → s.at < 16384 → HasPart w
has_part w s k lt =
    let m = length-take 16384 w in
    let e = k.whole in
    record { size = omega (arith, m, e); none = ap (after_head Before) (sym (whole_front w s k lt)) ∙ none_yet (take 16384 w) s k.scan }

-- a scan of the whole window is one of its front, after more bytes came
pub scanned : (w now some : List ℕ) (s : Scan) → Goes (take 16384 w) s → s.at < 16384 → now ≡ w ++ some → (s.at ≤ length now) × IsScanOf (take s.at now) s
scanned w now some s k lt is =
    let all = whole_front w s k lt in
    let size : s.at ≡ length w = k.whole ∙ ap (λ (l : List ℕ). length l) all in
    let count = ap (λ (l : List ℕ). length l) is in
    let front : take s.at now ≡ take 16384 w = ap (take s.at) is ∙ take-append-le s.at w some (omega (arith, size)) ∙ take_all s.at w (omega (arith, size)) ∙ sym all in
    (omega (arith, size, count, length-append w some), subst (λ (l : List ℕ). IsScanOf l s) (sym front) k.scan)

pub reads_on : (before now : List ℕ) (n : ℕ) (piece : List ℕ) → now ≡ before ++ piece → length piece ≡ n → 0 < n → length before < length now
reads_on before now n piece e size some = let c = ap (λ (l : List ℕ). length l) e in omega (arith, c, length-append before piece, size)

pub came_nothing : (g0 g1 l0 l1 : Option (List ℕ)) (before now into : List ℕ) (n : ℕ) → now ≡ before → n ≡ 0 → Gains g0 g1 (Ok n) into → ReadTakes l0 l1 (Ok n) into → Came g0 g1 l0 l1 before now
came_nothing g0 g1 l0 l1 before now into n same none g l =
    let e : take n into ≡ [] = ap (λ k. take k into) none in
    record {
      some = take n into;
      window = same ∙ sym (ap (λ (x : List ℕ). before ++ x) e ∙ append-nil before);
      given_is = passed_ok g0 g1 n into g;
      left_is = leaves_ok l0 l1 n into l;
    }

pub rose_since : (start before now : ℕ) → before ≡ start → Rose before now → Rose start now
rose_since start before now e r = subst (λ (n : ℕ). Rose n now) e r
