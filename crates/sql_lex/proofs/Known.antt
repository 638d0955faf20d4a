-- What is known of a token of a text.
use Rattle.std.proofs.Common.{◌≡◌, ◌≢◌, ℕ, ◌+◌, ◌-◌, ◌≤◌, false, List, [], ◌∷◌, ◌++◌, length, get_or, take, drop, refl, sym, ap, subst, ◌∙◌, ⊎_elim, inl, inr, arith, length-append, length-drop, append_assoc, ◌<◌, Result, Ok, Err}
use borrow.Author.Tests.{ltb-false}
use Rattle.std.proofs.Math.Seq.{drop-append_seam}
use Rattle.std.proofs.lemmas.List.{take_rest, take_at, take-append-drop, length-take-le, take_all, drop-drop, drop-take, get_or-drop, get_or-take}
use Rattle.std.proofs.lemmas.Str.{IsUtf8-nil, IsUtf8-drop, IsCharBoundary-before_ascii, IsCharBoundary-after_ascii, utf8_valid_len_le}
use Rattle.std.specs.Bool.{nat_lt}
use Rattle.std.specs.Str.{IsUtf8}
use Rattle.std.specs.Str.Lossy.{utf8_valid_len}
use Rattle.pg_base.specs.Pos.{position_after}
use Rattle.sql_lex.specs.declared.token.Token.{Token}
use Rattle.sql_lex.specs.declared.token.Piece.{Piece}
use Rattle.sql_lex.specs.declared.token.TokenKind.TheVariants.{EscStr, End}
use Rattle.sql_lex.specs.Bytes.{before}
use Rattle.sql_lex.specs.Separators.{Stop, after_separators}
use Rattle.sql_lex.specs.Lex.{Found, token_at, token_after, answer, bad_byte, first_token, IsTokenOf}
use Rattle.sql_lex.specs.Value.{spelling}
use Rattle.sql_lex.specs.Grammar.{AreSeparators, IsSpelling}
use Rattle.sql_lex.specs.Laws.{StandsIn, IsLongest, IsTokenFrom, gap}
use Rattle.sql_lex.specs.Offsets.{found_of}
use Rattle.sql_lex.proofs.Utf8.{cut_after_ascii, valid_front}
use Rattle.sql_lex.proofs.Shapes.{Shape, IsAfterAscii, token_shape, cond_is, err_ok, ok_same}
use Rattle.sql_lex.proofs.Separating.{IsPassed, separators_passed, separators_front}
use Rattle.sql_lex.proofs.Spelled.{IsToken, token_found, token_longest}
use Rattle.sql_lex.proofs.Answering.{ends}

abbrev pub piece_of : Token → Piece
piece_of t = record { kind = t.kind; from = t.from; «to» = t.«to» }

pub record Known (z : List ℕ) (at : ℕ) (t : Token) : Type 0 where
  pub gap : after_separators (drop at z) ≡ Ok (drop t.from z)
  pub reads : token_at (drop t.from z) ≡ Ok (found_of z (piece_of t))
  pub from : at ≤ t.from
  pub order : t.from ≤ t.«to»
  pub within : t.«to» ≤ length z
  pub text : IsUtf8 (take (t.«to» - at) (drop at z))
  pub pos : t.pos ≡ position_after (take t.from z)

-- a rest of what stands from a place on is what stands from a later place on
record IsRest (z : List ℕ) (at : ℕ) (rest : List ℕ) : Type 0 where
  same : rest ≡ drop (before z rest) z
  from : at ≤ before z rest
  within : before z rest ≤ length z

rest_of : (z : List ℕ) (at : ℕ) (front rest : List ℕ) → at ≤ length z → drop at z ≡ front ++ rest → IsRest z at rest
rest_of z at front rest le e =
    let len : length z - at ≡ length front + length rest = sym (length-drop at z) ∙ ap length e ∙ length-append front rest in
    let place : before z rest ≡ at + length front = omega arith in
    record {
      same = sym (drop-append_seam front rest) ∙ ap (λ (w : List ℕ). drop (length front) w) (sym e) ∙ drop-drop (length front) at z ∙ ap (λ (n : ℕ). drop n z) (sym place);
      from = omega arith;
      within = omega arith;
    }

-- what stands after a token is a rest of what it is read from
after_of : (w : List ℕ) (f : Found) → token_at w ≡ Ok f → (front : List ℕ) × (w ≡ front ++ f.after)
after_of w f e =
    let s = token_shape w f e in
    ⊎_elim
    (λ (over : (w ≡ []) × (f.after ≡ []) × (f.kind ≡ End)). ([], over.0 ∙ sym over.1))
    (λ (after : IsAfterAscii w f.after). (after.front ++ after.last ∷ [], after.split ∙ sym (append_assoc after.front (after.last ∷ []) f.after)))
    s.ends

-- that a token ends with ASCII, or is the end, makes what is read for it a text
text_of : (z : List ℕ) (at : ℕ) (piece : Piece) → token_after (after_separators (drop at z)) ≡ Ok (found_of z piece) → at ≤ piece.from → piece.from ≤ piece.«to» → piece.«to» ≤ length z → piece.«to» ≤ bad_byte z at
    → IsUtf8 (take (piece.«to» - at) (drop at z))
text_of z at piece wanted from order within good =
    let rest = drop at z in
    let n = piece.«to» - at in
    let len = length-drop at z in
    let short = utf8_valid_len_le rest in
    let long : n ≤ utf8_valid_len rest = omega arith in
    ⊎_elim
    (λ (all : n ≡ length rest).
    let whole : utf8_valid_len rest ≡ n = omega arith in subst (λ (k : ℕ). IsUtf8 (take k rest)) whole (valid_front rest))
    (λ (e : (0 < n) × (get_or rest (n - 1) 0 < 128)). cut_after_ascii rest n e.0 (omega arith) e.1 long)
    (ends z at piece wanted from order within (after_separators rest) wanted)

module _ (z : List ℕ) (at : ℕ) (t : Token) (le : at ≤ length z) where
  known_of : (front : List ℕ) (f : Found) → after_separators (drop at z) ≡ Ok front → token_at front ≡ Ok f → nat_lt (bad_byte z at) (before z f.after) ≡ false
      → record { kind = f.kind; from = before z f.front; «to» = before z f.after; pos = position_after (take (before z f.front) z) } ≡ t → Known z at t
  known_of front f gap reads good same =
      let s = separators_front (drop at z) front (separators_passed (drop at z) front gap).separators in
      let here = rest_of z at s.0 front le s.1 in
      let shape = token_shape front f reads in
      let a = after_of front f reads in
      let there = rest_of z (before z front) a.0 f.after here.within (sym here.same ∙ a.1) in
      let front_is : f.front ≡ drop (before z f.front) z = shape.front ∙ here.same ∙ ap (λ (w : List ℕ). drop (before z w) z) (sym shape.front) in
      let from_is : before z f.front ≡ before z front = ap (before z) shape.front in
      let piece : Piece = record { kind = f.kind; from = before z f.front; «to» = before z f.after } in
      let found_is : f ≡ found_of z piece = ap (λ (w : List ℕ). let g : Found = record { kind = f.kind; front = w; after = f.after } in g) front_is ∙ ap (λ (w : List ℕ). let g : Found = record { kind = f.kind; front = drop (before z f.front) z; after = w } in g) there.same in
      let gap_is : after_separators (drop at z) ≡ Ok (drop (before z f.front) z) = gap ∙ ap Ok (sym shape.front ∙ front_is) in
      let reads_is : token_at (drop (before z f.front) z) ≡ Ok (found_of z piece) = ap token_at (sym front_is ∙ shape.front) ∙ reads ∙ ap Ok found_is in
      let from = here.from in
      let order = there.from in
      let within = there.within in
      let clear = ltb-false (bad_byte z at) (before z f.after) good in
      subst (Known z at) same (record {
        gap = gap_is;
        reads = reads_is;
        from = omega arith;
        order = omega arith;
        within = within;
        text = text_of z at piece (ap token_after gap_is ∙ reads_is) (omega arith) (omega arith) within clear;
        pos = refl;
      })

  known_when : (r : Result (List ℕ) Stop) → after_separators (drop at z) ≡ r → (q : Result Found Stop) → token_after r ≡ q → answer z (bad_byte z at) q ≡ Ok t → Known z at t
  known_when (Err stop) gap q e a = absurd (stopped (ap (answer z (bad_byte z at)) e ∙ a))
    where
      stopped : answer z (bad_byte z at) (Err stop) ≡ Ok t → ⊥
      stopped b = elim (cond_is (nat_lt (bad_byte z at) (before z stop.unread)) _ _ _ b) [ inl x ↦ err_ok _ _ x.1 | inr x ↦ err_ok _ _ x.1 ]
  known_when (Ok front) gap (Err stop) e a = elim (cond_is (nat_lt (bad_byte z at) (before z stop.unread)) _ _ _ a) [ inl x ↦ absurd (err_ok _ _ x.1) | inr x ↦ absurd (err_ok _ _ x.1) ]
  known_when (Ok front) gap (Ok f) e a = elim (cond_is (nat_lt (bad_byte z at) (before z f.after)) _ _ _ a) [
    | inl x ↦ absurd (err_ok _ _ x.1)
    | inr x ↦ known_of front f gap e x.0 (ok_same _ _ x.1)
  ]

  pub known : first_token z at ≡ Ok t → Known z at t
  unfolding first_token
  known e = known_when _ refl _ refl e

module _ (z : List ℕ) (t : Token) (k : IsTokenOf z t) where
  abbrev here : Known z k.at t
  here = known z k.at t k.within k.reads

  pub token_order : (t.from ≤ t.«to») × (t.«to» ≤ length z)
  token_order = (here.order, here.within)

  pub length-spelling : length (spelling z t) ≡ t.«to» - t.from
  length-spelling =
      let o = here.order in
      let w = here.within in
      length-take-le (t.«to» - t.from) (drop t.from z) (omega (arith, length-drop t.from z))

  -- a token is a text
  pub IsUtf8-spelling : IsUtf8 (spelling z t)
  IsUtf8-spelling =
      let at = k.at in
      let from = here.from in
      let order = here.order in
      let within = here.within in
      let n = t.from - at in
      let m = t.«to» - t.from in
      let sum : n + m ≡ t.«to» - at = omega arith in
      let start : at + n ≡ t.from = omega arith in
      let all = subst (λ (i : ℕ). IsUtf8 (take i (drop at z))) (sym sum) here.text in
      let cut : drop n (take (n + m) (drop at z)) ≡ spelling z t = drop-take n m (drop at z) ∙ ap (λ (w : List ℕ). take m w) (drop-drop n at z ∙ ap (λ (i : ℕ). drop i z) start) in
      ⊎_elim
      (λ (over : (drop t.from z ≡ []) × (drop t.«to» z ≡ []) × (t.kind ≡ End)).
      let none : drop t.from z ≡ [] = over.0 in
      subst IsUtf8 (sym (ap (λ (w : List ℕ). take m w) none ∙ take_all m [] (omega arith))) IsUtf8-nil)
      (λ (after : IsAfterAscii (drop t.from z) (drop t.«to» z)).
      let len : length (take (n + m) (drop at z)) ≡ n + m = length-take-le (n + m) (drop at z) (omega (arith, length-drop at z)) in
      let some : 0 < m = omega (arith, ap length after.split, length-append after.front (after.last ∷ drop t.«to» z), length-drop t.from z, length-drop t.«to» z) in
      let byte : get_or (take (n + m) (drop at z)) n 0 ≡ get_or (drop t.from z) 0 0 =
      get_or-take (n + m) (drop at z) n 0 (omega arith) ∙ get_or-drop at z n 0 ∙ ap (λ (i : ℕ). get_or z i 0) (let plain : at + n ≡ t.from + 0 = omega arith in plain) ∙ sym (get_or-drop t.from z 0 0) in
      let ascii : get_or (take (n + m) (drop at z)) n 0 < 128 = subst (λ (b : ℕ). b < 128) (sym byte) after.first in
      subst IsUtf8 cut (IsUtf8-drop _ n all (IsCharBoundary-before_ascii _ n (omega (arith, len)) ascii)))
      (token_shape (drop t.from z) (found_of z (piece_of t)) here.reads).ends

  shape_here : Shape (drop t.from z) (found_of z (piece_of t))
  shape_here = token_shape (drop t.from z) (found_of z (piece_of t)) here.reads

  byte_at : (i : ℕ) → i < t.«to» - t.from → get_or (spelling z t) i 0 ≡ get_or (drop t.from z) i 0
  byte_at i lt = get_or-take (t.«to» - t.from) (drop t.from z) i 0 lt

  -- after its first byte too
  pub IsUtf8-opened : (t.kind ≡ End → ⊥) → (0 < length (spelling z t)) × IsUtf8 (drop 1 (spelling z t))
  IsUtf8-opened some = ⊎_elim
      (λ (over : (drop t.from z ≡ []) × (drop t.«to» z ≡ []) × (t.kind ≡ End)). absurd (some over.2))
      (λ (after : IsAfterAscii (drop t.from z) (drop t.«to» z)).
      let m : 0 < t.«to» - t.from = omega (arith, ap length after.split, length-append after.front (after.last ∷ drop t.«to» z), length-drop t.from z, length-drop t.«to» z) in
      let len : 0 < length (spelling z t) = omega (arith, length-spelling) in
      let ascii : get_or (spelling z t) 0 0 < 128 = subst (λ (b : ℕ). b < 128) (sym (byte_at 0 m)) after.first in
      (len, IsUtf8-drop _ 1 IsUtf8-spelling (IsCharBoundary-after_ascii _ 0 IsUtf8-spelling len ascii)))
      shape_here.ends

  -- and after its second one, where an escape mark stands before its quote
  pub IsUtf8-opened_twice : t.kind ≡ EscStr → (1 < length (spelling z t)) × IsUtf8 (drop 2 (spelling z t))
  IsUtf8-opened_twice marked =
      let m = shape_here.marked marked in
      let wide : 1 < t.«to» - t.from = omega (arith, m.1, length-drop t.from z, length-drop t.«to» z) in
      let len : 1 < length (spelling z t) = omega (arith, length-spelling) in
      let ascii : get_or (spelling z t) 1 0 < 128 = subst (λ (b : ℕ). b < 128) (sym (byte_at 1 wide)) m.0 in
      (len, IsUtf8-drop _ 2 IsUtf8-spelling (IsCharBoundary-after_ascii _ 1 IsUtf8-spelling len ascii))

  -- the same of the slice of the spelling
  pub opened_slice : (s : List ℕ) → s ≡ spelling z t → (t.kind ≡ End → ⊥) → (1 ≤ length s) × IsUtf8 (take (length s - 1) (drop 1 s))
  opened_slice s e some =
      let o = IsUtf8-opened some in
      let P : List ℕ → Type 0 = λ w. (1 ≤ length w) × IsUtf8 (take (length w - 1) (drop 1 w)) in
      let len = o.0 in
      subst P (sym e) (omega arith, subst IsUtf8 (sym (take_rest (spelling z t) 1)) o.1)

  pub opened_twice_slice : (s : List ℕ) → s ≡ spelling z t → t.kind ≡ EscStr → (2 ≤ length s) × IsUtf8 (take (length s - 2) (drop 2 s))
  opened_twice_slice s e marked =
      let o = IsUtf8-opened_twice marked in
      let P : List ℕ → Type 0 = λ w. (2 ≤ length w) × IsUtf8 (take (length w - 2) (drop 2 w)) in
      let len = o.0 in
      subst P (sym e) (omega arith, subst IsUtf8 (sym (take_rest (spelling z t) 2)) o.1)

-- ---- where a token stands, and what stands before it

module _ (z : List ℕ) (at : ℕ) (t : Token) (le : at ≤ length z) (e : first_token z at ≡ Ok t) where
  abbrev seen : Known z at t
  seen = known z at t le e

  pub stands : StandsIn z at t
  stands =
      let order = seen.order in
      let within = seen.within in
      let shape = token_shape (drop t.from z) (found_of z (piece_of t)) seen.reads in
      record {
        from = seen.from;
        order = order;
        within = within;
        some = λ (some : t.kind ≢ End). ⊎_elim
            (λ (over : (drop t.from z ≡ []) × (drop t.«to» z ≡ []) × (t.kind ≡ End)). absurd (some over.2))
            (λ (after : IsAfterAscii (drop t.from z) (drop t.«to» z)). omega (arith, ap length after.split, length-append after.front (after.last ∷ drop t.«to» z), length-drop t.from z, length-drop t.«to» z))
            shape.ends;
        last = λ (h : t.kind ≡ End). omega (arith, ap length (shape.ended h), length-drop t.from z);
      }

  found_here : IsToken (drop t.from z) (found_of z (piece_of t))
  found_here = token_found (drop t.from z) (found_of z (piece_of t)) seen.reads

  passed_here : IsPassed (drop at z) (drop t.from z)
  passed_here = separators_passed (drop at z) (drop t.from z) seen.gap

  pub spelled : IsSpelling t.kind (spelling z t)
  spelled =
      let p = found_here in
      let order = seen.order in
      let within = seen.within in
      let len : length p.text ≡ t.«to» - t.from = omega (arith, ap length p.split, length-append p.text (drop t.«to» z), length-drop t.from z, length-drop t.«to» z) in
      let same : spelling z t ≡ p.text = ap (λ (w : List ℕ). take (t.«to» - t.from) w) p.split ∙ take_at p.text (drop t.«to» z) (t.«to» - t.from) len in
      subst (IsSpelling t.kind) (sym same) (p.value, p.spelled)

  pub separated : AreSeparators (drop at z) (drop t.from z)
  separated = passed_here.separators

  longest : IsLongest (drop t.from z) (t.«to» - t.from)
  longest kind front rest split h =
      let order = seen.order in
      let within = seen.within in
      let short = token_longest (found_of z (piece_of t)) kind front h.0 rest h.1 (ap token_at (sym split) ∙ seen.reads) in
      omega (arith, short, ap length split, length-append front rest, length-drop t.from z, length-drop t.«to» z)

  pub by_grammar : IsTokenFrom z at t
  by_grammar = record {
    separated = separated;
    begins = passed_here.over;
    spelled = spelled;
    longest = longest;
    follows = found_here.follows;
    utf8 = seen.text;
    pos = seen.pos;
  }

  -- from the place on, what stands before the token, the token, and the rest
  pub parts : drop at z ≡ gap z at t ++ (spelling z t ++ drop t.«to» z)
  parts =
      let from = seen.from in
      let order = seen.order in
      let first : at + (t.from - at) ≡ t.from = omega arith in
      let second : t.from + (t.«to» - t.from) ≡ t.«to» = omega arith in
      sym (take-append-drop (t.from - at) (drop at z))
      ∙ ap (λ (w : List ℕ). gap z at t ++ w) (drop-drop (t.from - at) at z ∙ ap (λ (n : ℕ). drop n z) first
      ∙ sym (take-append-drop (t.«to» - t.from) (drop t.from z)) ∙ ap (λ (w : List ℕ). spelling z t ++ w) (drop-drop (t.«to» - t.from) t.from z ∙ ap (λ (n : ℕ). drop n z) second))
