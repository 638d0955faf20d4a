-- What each way out of a turn says of the session.
use Rattle.std.proofs.Common.{◌≡◌, ℕ, suc, ◌+◌, ◌-◌, ◌<◌, ◌≤◌, Bool, true, false, cond, ◌||◌, ◌==◌, List, [], ◌∷◌, ◌++◌, length, take, drop, Option, Some, None, Result, Ok, Err, refl, sym, ap, ◌∙◌, subst, append_assoc, append-nil, length-append, length-drop, arith}
use Rattle.std.specs.List.{list_all}
use Rattle.std.proofs.lemmas.List.{take-append-le, take-append-drop, take-take, drop-take, length-take, drop-drop}
use Rattle.std.proofs.lemmas.Bool.Decides.{nat_tests}
use Rattle.pg_base.specs.Limits.{most_replies}
use Rattle.pg_io.specs.Streams.{Rose, Delivers}
use Rattle.pg_io.specs.declared.streams.Failed.{Failed}
use Rattle.http_sessions.proofs.Sends.{took_front, passed_all}
use Rattle.http_sessions.specs.declared.refusal.Refusal.{Refusal}
use Rattle.http_sessions.specs.declared.reply.Reply.{Reply}
use Rattle.http_sessions.specs.declared.reply.Note.{Note}
use Rattle.http_sessions.specs.declared.report.SessionEnd.{SessionEnd}
use Rattle.http_sessions.specs.declared.report.SessionEnd.TheVariants.{Closed, Spent, Truncated, Refused, ReadFault, WriteFault, Memory}
use Rattle.http_sessions.specs.declared.reading.Halt.{Halt}
use Rattle.http_sessions.specs.declared.reading.Halt.TheVariants.{End, Fault}
use Rattle.http_sessions.specs.declared.refusal.Refusal.TheVariants.{HeadTooLarge}
use Rattle.http_sessions.specs.declared.wants.Wants.TheVariants.{Refuses, Body}
use Rattle.http_sessions.specs.declared.scan.Extent.{Extent}
use Rattle.http_sessions.specs.HeadEnd.{is_line_byte}
use Rattle.http_sessions.specs.Messages.{Message, IsMessage, Asks, IsRefused, no_end, by_head, IsBlank, IsCut, in_head, in_body, AsksForWord}
use Rattle.http_sessions.specs.ReplyText.{IsReplyStatus, reply_of, refusal_text, status_of, note_of, continue_text, if_so}
use Rattle.http_sessions.specs.SessionRuns.{Passed, IsFrontOf, Step, is_last, last_end, Exchanges, none, more, Ends, at_end, inside, unread, unread_inside, refused, last_reply, memory, unwritten_word, unwritten_refusal, unwritten_reply, Session, HasReadCause, HasWriteCause}
use Rattle.http_sessions.specs.declared.window.Window.{Window}
use Rattle.http_sessions.specs.Windows.{Came, HasPart, HasNoHead, HaltIs, HeadStands, IsWindow, window_of}
use Rattle.http_sessions.specs.Turns.{TookFront, RefuseIs, ReplyIs, HasSentCause, HasGotCause, before_end, inside_end, GoesOn, TurnIs, Answered, Turn, SoFar, Ran}
use Rattle.http_sessions.proofs.Received.{passed_none, passed_on, came_none, came_on, window_len}

-- ---- causes

pub before_got : (halt : Halt) (b : Bool) (f0 f1 : ℕ) (left : Option (List ℕ)) → HaltIs halt f0 f1 left → HasGotCause (Some (before_end halt b)) f0 f1
before_got End true f0 f1 left h = h.0
before_got End false f0 f1 left h = h.0
before_got Fault b f0 f1 left h = h

pub before_sent : (halt : Halt) (b : Bool) (k : ℕ) → HasSentCause (Some (before_end halt b)) k k
before_sent End true k = refl
before_sent End false k = refl
before_sent Fault b k = refl

pub inside_got : (halt : Halt) (f0 f1 : ℕ) (left : Option (List ℕ)) → HaltIs halt f0 f1 left → HasGotCause (Some (inside_end halt)) f0 f1
inside_got End f0 f1 left h = h.0
inside_got Fault f0 f1 left h = h

pub inside_sent : (halt : Halt) (k k1 : ℕ) → k1 ≡ k → HasSentCause (Some (inside_end halt)) k k1
inside_sent End k k1 e = e
inside_sent Fault k k1 e = e

pub refused_got : (end : SessionEnd) (t now : Option (List ℕ)) (n : ℕ) (text : List ℕ) (f0 f1 : ℕ) → RefuseIs t now n text end → f1 ≡ f0 → HasGotCause (Some end) f0 f1
refused_got (Refused m) t now n text f0 f1 r e = e
refused_got WriteFault t now n text f0 f1 r e = e
refused_got Closed t now n text f0 f1 r e = absurd r
refused_got Spent t now n text f0 f1 r e = absurd r
refused_got Truncated t now n text f0 f1 r e = absurd r
refused_got ReadFault t now n text f0 f1 r e = absurd r
refused_got Memory t now n text f0 f1 r e = absurd r

pub replied_got : (result : Option SessionEnd) (t now : Option (List ℕ)) (r : Reply) (closes : Bool) (count : ℕ) (f0 f1 : ℕ) → ReplyIs t now r closes count result → f1 ≡ f0 → HasGotCause result f0 f1
replied_got None t now r closes count f0 f1 x e = e
replied_got (Some WriteFault) t now r closes count f0 f1 x e = e
replied_got (Some Spent) t now r closes count f0 f1 x e = e
replied_got (Some Closed) t now r closes count f0 f1 x e = e
replied_got (Some Truncated) t now r closes count f0 f1 x e = absurd x
replied_got (Some (Refused n)) t now r closes count f0 f1 x e = absurd x
replied_got (Some ReadFault) t now r closes count f0 f1 x e = absurd x
replied_got (Some Memory) t now r closes count f0 f1 x e = absurd x

sent_end : (end : SessionEnd) (k0 k1 k2 : ℕ) → k1 ≡ k0 → HasWriteCause end k1 k2 → HasWriteCause end k0 k2
sent_end end k0 k1 k2 e h = subst (λ (n : ℕ). HasWriteCause end n k2) e h

pub sent_since : (result : Option SessionEnd) (k0 k1 k2 : ℕ) → k1 ≡ k0 → HasSentCause result k1 k2 → HasSentCause result k0 k2
sent_since result k0 k1 k2 e h = subst (λ (n : ℕ). HasSentCause result n k2) e h

pub got_since : (result : Option SessionEnd) (k0 k1 k2 : ℕ) → k1 ≡ k0 → HasGotCause result k1 k2 → HasGotCause result k0 k2
got_since result k0 k1 k2 e h = subst (λ (n : ℕ). HasGotCause result n k2) e h

pub halted_got : (halt : Halt) (end : SessionEnd) (b : Bool) (f0 f1 : ℕ) (left : Option (List ℕ)) → end ≡ before_end halt b → HaltIs halt f0 f1 left → HasGotCause (Some end) f0 f1
halted_got halt end b f0 f1 left e h = subst (λ (x : SessionEnd). HasGotCause (Some x) f0 f1) (sym e) (before_got halt b f0 f1 left h)

pub halted_sent : (halt : Halt) (end : SessionEnd) (b : Bool) (k : ℕ) → end ≡ before_end halt b → HasSentCause (Some end) k k
halted_sent halt end b k e = subst (λ (x : SessionEnd). HasSentCause (Some x) k k) (sym e) (before_sent halt b k)

pub inside_got_at : (halt : Halt) (end : SessionEnd) (f0 f1 : ℕ) (left : Option (List ℕ)) → end ≡ inside_end halt → HaltIs halt f0 f1 left → HasGotCause (Some end) f0 f1
inside_got_at halt end f0 f1 left e h = subst (λ (x : SessionEnd). HasGotCause (Some x) f0 f1) (sym e) (inside_got halt f0 f1 left h)

pub inside_sent_at : (halt : Halt) (end : SessionEnd) (k k1 : ℕ) → end ≡ inside_end halt → k1 ≡ k → HasSentCause (Some end) k k1
inside_sent_at halt end k k1 e same = subst (λ (x : SessionEnd). HasSentCause (Some x) k k1) (sym e) (inside_sent halt k k1 same)

-- ---- the body in the window

part_of : (room : List ℕ) (start held k : ℕ) → k ≤ held - start → drop k (take (held - start) (drop start room)) ≡ take ((held - start) - k) (drop (start + k) room)
part_of room start held k le =
    let n : held - start ≡ k + ((held - start) - k) = omega (arith, le) in
    ap (λ m. drop k (take m (drop start room))) n ∙ drop-take k ((held - start) - k) (drop start room) ∙ ap (take ((held - start) - k)) (drop-drop k start room)

pub body_is : (room : List ℕ) (start held h size : ℕ) → start ≤ held → h + size ≤ held - start
    → take ((start + h + size) - (start + h)) (drop (start + h) room) ≡ take size (drop h (take (held - start) (drop start room)))
body_is room start held h size le whole =
    let n : (start + h + size) - (start + h) ≡ size = omega arith in
    ap (λ m. take m (drop (start + h) room)) n ∙ sym (ap (take size) (part_of room start held h (omega (arith, whole))) ∙ take-take size ((held - start) - h) (drop (start + h) room) (omega (arith, whole)))

pub left_is : (room : List ℕ) (start held h size : ℕ) → start ≤ held → h + size ≤ held - start
    → take (held - (start + h + size)) (drop (start + h + size) room) ≡ drop (h + size) (take (held - start) (drop start room))
left_is room start held h size le whole =
    let n : held - (start + h + size) ≡ (held - start) - (h + size) = omega arith in
    let m : start + h + size ≡ start + (h + size) = omega arith in
    sym (part_of room start held (h + size) whole ∙ sym (ap (λ k. take k (drop (start + h + size) room)) n ∙ ap (λ k. take ((held - start) - (h + size)) (drop k room)) m))

-- ---- what stands at the front of the window

pub refused_long : (w : List ℕ) → HasNoHead w → IsRefused w HeadTooLarge
refused_long w k = no_end w k.size k.none

pub refused_head : (w : List ℕ) (count : ℕ) (refusal : Refusal) → Asks (take count w) (Refuses refusal) → IsRefused w refusal
refused_head w count refusal a = by_head w (take count w) (drop count w) refusal (sym (take-append-drop count w)) a

same_front : (w0 w1 some : List ℕ) (h : ℕ) → w1 ≡ w0 ++ some → h ≤ length w0 → take h w1 ≡ take h w0
same_front w0 w1 some h e le = ap (take h) e ∙ take-append-le h w0 some le

module _ {S : Type 0} (front : S → ℕ) (responds : S → List ℕ → Reply → S → Type 0) where
  ending : {s t : S} {g0 g1 l0 l1 k0 k1 : Option (List ℕ)} {w0 w1 : List ℕ} {n0 n1 : List Note} (end : SessionEnd) (pending output : List ℕ) (notes : List Note)
      → Came g0 g1 l0 l1 w0 pending → Passed k0 k1 output → n1 ≡ n0 ++ notes → Ends front responds (length n0) s pending l1 output notes end t
      → Turn front responds (Some end) s t g0 g1 l0 l1 k0 k1 w0 w1 n0 n1
  ending end pending output notes came passed noted ends = record { pending = pending; output = output; notes = notes; came = came; passed = passed; notes_are = noted; is = ends }

  pub turn_after : {result : Option SessionEnd} {s t : S} {g0 g1 g2 l0 l1 l2 k0 k1 : Option (List ℕ)} {w0 w1 w2 : List ℕ} {n0 n1 : List Note}
      → Came g0 g1 l0 l1 w0 w1 → Turn front responds result s t g1 g2 l1 l2 k0 k1 w1 w2 n0 n1 → Turn front responds result s t g0 g2 l0 l2 k0 k1 w0 w2 n0 n1
  turn_after came x = record { pending = x.pending; output = x.output; notes = x.notes; came = came_on _ _ _ _ _ _ _ _ _ came x.came; passed = x.passed; notes_are = x.notes_are; is = x.is }

  pub turn_before : {g0 g1 l0 l1 : Option (List ℕ)} {w0 w1 : List ℕ} (f0 f1 : ℕ) (s : S) (k : Option (List ℕ)) (n : List Note) (halt : Halt) (b : Bool) → list_all is_line_byte w1 ≡ b
      → Came g0 g1 l0 l1 w0 w1 → HasPart w1 → HaltIs halt f0 f1 l1 → Turn front responds (Some (before_end halt b)) s s g0 g1 l0 l1 k k w0 w1 n n
  turn_before {w1 = w1} f0 f1 s k n End true e came p h = ending Closed w1 [] [] came (passed_none k) (sym (append-nil n)) (at_end (record { size = p.size; blank = e }) h.1)
  turn_before {w1 = w1} f0 f1 s k n End false e came p h = ending Truncated w1 [] [] came (passed_none k) (sym (append-nil n)) (inside false (in_head w1 p.size p.none e) h.1)
  turn_before {w1 = w1} f0 f1 s k n Fault true e came p h = ending ReadFault w1 [] [] came (passed_none k) (sym (append-nil n)) (unread (record { size = p.size; blank = e }))
  turn_before {w1 = w1} f0 f1 s k n Fault false e came p h = ending ReadFault w1 [] [] came (passed_none k) (sym (append-nil n)) (unread_inside false (in_head w1 p.size p.none e))

  refused_as : {s : S} {left : Option (List ℕ)} {w : List ℕ} {given : ℕ} (refusal : Refusal) (m : ℕ) → m ≡ status_of refusal → IsRefused w refusal
      → Ends front responds given s w left (refusal_text (front s) refusal) [] (Refused m) s
  refused_as {s} {left} {w} {given} refusal m e r = let P : ℕ → Type 0 = λ n. Ends front responds given s w left (refusal_text (front s) refusal) [] (Refused n) s in subst P (sym e) (refused refusal r)

  pub turn_refused : {g0 g1 l0 l1 : Option (List ℕ)} {w0 w1 : List ℕ} (s : S) (k0 k1 : Option (List ℕ)) (n : List Note) (refusal : Refusal) (end : SessionEnd)
      → Came g0 g1 l0 l1 w0 w1 → IsRefused w1 refusal → RefuseIs k0 k1 (status_of refusal) (refusal_text (front s) refusal) end → Turn front responds (Some end) s s g0 g1 l0 l1 k0 k1 w0 w1 n n
  turn_refused {w1 = w1} s k0 k1 n refusal (Refused m) came r x = ending (Refused m) w1 (refusal_text (front s) refusal) [] came x.1 (sym (append-nil n)) (refused_as refusal m x.0 r)
  turn_refused {w1 = w1} s k0 k1 n refusal WriteFault came r x = ending WriteFault w1 x.front [] came x.passed (sym (append-nil n)) (unwritten_refusal refusal x.front r x.is_front)
  turn_refused s k0 k1 n refusal Closed came r x = absurd x
  turn_refused s k0 k1 n refusal Spent came r x = absurd x
  turn_refused s k0 k1 n refusal Truncated came r x = absurd x
  turn_refused s k0 k1 n refusal ReadFault came r x = absurd x
  turn_refused s k0 k1 n refusal Memory came r x = absurd x

  pub refused_at : {g0 g1 l0 l1 : Option (List ℕ)} {w0 w1 : List ℕ} (s : S) (k0 k1 : Option (List ℕ)) (n : List Note) (refusal : Refusal) (end : SessionEnd) (f : ℕ) → f ≡ front s
      → Came g0 g1 l0 l1 w0 w1 → IsRefused w1 refusal → RefuseIs k0 k1 (status_of refusal) (refusal_text f refusal) end → Turn front responds (Some end) s s g0 g1 l0 l1 k0 k1 w0 w1 n n
  refused_at s k0 k1 n refusal end f e came r x = turn_refused s k0 k1 n refusal end came r (subst (λ (m : ℕ). RefuseIs k0 k1 (status_of refusal) (refusal_text m refusal) end) e x)

  pub halted_at : {g0 g1 l0 l1 : Option (List ℕ)} {w0 w1 : List ℕ} (f0 f1 : ℕ) (s : S) (k : Option (List ℕ)) (n : List Note) (halt : Halt) (end : SessionEnd) → end ≡ before_end halt (list_all is_line_byte w1)
      → Came g0 g1 l0 l1 w0 w1 → HasPart w1 → HaltIs halt f0 f1 l1 → Turn front responds (Some end) s s g0 g1 l0 l1 k k w0 w1 n n
  halted_at {g0} {g1} {l0} {l1} {w0} {w1} f0 f1 s k n halt end e came p h =
      let P : SessionEnd → Type 0 = λ x. Turn front responds (Some x) s s g0 g1 l0 l1 k k w0 w1 n n in
      subst P (sym e) (turn_before f0 f1 s k n halt (list_all is_line_byte w1) refl came p h)

  pub turn_unworded : {w : List ℕ} (s : S) (g l k0 k1 : Option (List ℕ)) (n : List Note) (h size : ℕ) (closes : Bool)
      → Asks (take h w) (Body size closes true) → TookFront k0 k1 continue_text → Turn front responds (Some WriteFault) s s g g l l k0 k1 w w n n
  turn_unworded {w} s g l k0 k1 n h size closes asks x =
      ending WriteFault w x.front [] (came_none g l w) x.passed (sym (append-nil n))
      (unwritten_word x.front (record { head = take h w; rest = drop h w; size = size; closes = closes; asks = asks; input_is = sym (take-append-drop h w) }) x.is_front)

  pub unworded_at : {w : List ℕ} (s : S) (g l k0 k1 : Option (List ℕ)) (n : List Note) (h size : ℕ) (closes continues : Bool) (e : Failed) → continues ≡ true
      → Asks (take h w) (Body size closes continues) → Delivers {A = Unit {0}} k0 k1 (Err e) (if_so continues continue_text) → Turn front responds (Some WriteFault) s s g g l l k0 k1 w w n n
  unworded_at {w} s g l k0 k1 n h size closes continues e so asks x =
      let P : Bool → Type 0 = λ b. Asks (take h w) (Body size closes b) in
      let Q : Bool → Type 0 = λ b. Delivers {A = Unit {0}} k0 k1 (Err e) (if_so b continue_text) in
      turn_unworded s g l k0 k1 n h size closes (subst P so asks) (took_front k0 k1 e continue_text (subst Q so x))

  module _ {g0 g1 l0 l1 : Option (List ℕ)} {w0 w1 : List ℕ} (h size : ℕ) (closes continues : Bool) (came : Came g0 g1 l0 l1 w0 w1)
      (within : h ≤ length w0) (asks : Asks (take h w0) (Body size closes continues)) where
    splits : w1 ≡ take h w0 ++ drop h w1
    splits = sym (take-append-drop h w1) ∙ ap (λ (l : List ℕ). l ++ drop h w1) (same_front w0 w1 came.some h came.window within)

    cut : length w1 < h + size → IsCut w1 continues
    cut short = in_body w1 (take h w0) (drop h w1) size closes continues splits asks
        (let d = length-drop h w1 in let longer = ap (λ (l : List ℕ). length l) came.window in omega (arith, d, short, longer, length-append w0 came.some, within))

    pub turn_inside : (f0 f1 : ℕ) (s : S) (k0 k1 : Option (List ℕ)) (n : List Note) (halt : Halt) → length w1 < h + size → HaltIs halt f0 f1 l1
        → Passed k0 k1 (if_so continues continue_text) → Turn front responds (Some (inside_end halt)) s s g0 g1 l0 l1 k0 k1 w0 w1 n n
    turn_inside f0 f1 s k0 k1 n End short x passed = ending Truncated w1 (if_so continues continue_text) [] came passed (sym (append-nil n)) (inside continues (cut short) x.1)
    turn_inside f0 f1 s k0 k1 n Fault short x passed = ending ReadFault w1 (if_so continues continue_text) [] came passed (sym (append-nil n)) (unread_inside continues (cut short))

    pub inside_at : (f0 f1 : ℕ) (s : S) (k0 k1 : Option (List ℕ)) (n : List Note) (halt : Halt) (end : SessionEnd) → end ≡ inside_end halt → length w1 < h + size → HaltIs halt f0 f1 l1
        → Passed k0 k1 (if_so continues continue_text) → Turn front responds (Some end) s s g0 g1 l0 l1 k0 k1 w0 w1 n n
    inside_at f0 f1 s k0 k1 n halt end e short x passed =
        let P : SessionEnd → Type 0 = λ y. Turn front responds (Some y) s s g0 g1 l0 l1 k0 k1 w0 w1 n n in
        subst P (sym e) (turn_inside f0 f1 s k0 k1 n halt short x passed)

    module _ (whole : h + size ≤ length w1) where
      size_of_body : length (take size (drop h w1)) ≡ size
      size_of_body = let t = length-take size (drop h w1) in let d = length-drop h w1 in omega (arith, t, d, whole)

      is_message : IsMessage (take h w0 ++ take size (drop h w1)) (record { body = take size (drop h w1); closes = closes; continues = continues })
      is_message = record { head = take h w0; asks = subst (λ (n : ℕ). Asks (take h w0) (Body n closes continues)) (sym size_of_body) asks; bytes_are = refl }

      left_over : w1 ≡ (take h w0 ++ take size (drop h w1)) ++ drop (h + size) w1
      left_over =
          splits ∙ ap (λ (l : List ℕ). take h w0 ++ l) (sym (take-append-drop size (drop h w1)) ∙ ap (λ (l : List ℕ). take size (drop h w1) ++ l) (drop-drop size h w1))
          ∙ sym (append_assoc (take h w0) (take size (drop h w1)) (drop (h + size) w1))

      last : {s t : S} {k0 k2 : Option (List ℕ)} {w2 : List ℕ} {n0 n1 : List Note} (k1 : Option (List ℕ)) (r : Reply) (end : SessionEnd) → Passed k0 k1 (if_so continues continue_text)
          → Step front responds s (take size (drop h w1)) r t → n1 ≡ n0 ++ note_of r ∷ [] → is_last (length n0) (record { body = take size (drop h w1); closes = closes; continues = continues }) ≡ true
          → last_end (length n0) ≡ end → Passed k1 k2 (reply_of true r) → Turn front responds (Some end) s t g0 g1 l0 l1 k0 k2 w0 w2 n0 n1
      last {s} {t} {k0} {k2} {w2} {n0} {n1} k1 r end word step noted is_it ends passed =
          let P : SessionEnd → Type 0 = λ e. Ends front responds (length n0) s w1 l1 (if_so continues continue_text ++ reply_of true r) (note_of r ∷ []) e t in
          ending end w1 (if_so continues continue_text ++ reply_of true r) (note_of r ∷ []) came (passed_on k0 k1 k2 (if_so continues continue_text) (reply_of true r) word passed) noted
          (subst P ends (last_reply t (take h w0 ++ take size (drop h w1)) (drop (h + size) w1) (record { body = take size (drop h w1); closes = closes; continues = continues }) r left_over is_message step is_it))

      pub turn_answered : {s t : S} {k0 k2 : Option (List ℕ)} {w2 : List ℕ} {n0 n1 : List Note} (k1 : Option (List ℕ)) (result : Option SessionEnd) → Passed k0 k1 (if_so continues continue_text)
          → Answered front responds result s t k1 k2 w1 w2 n0 n1 h size closes → Turn front responds result s t g0 g1 l0 l1 k0 k2 w0 w2 n0 n1
      turn_answered {s} {t} {k0} {k2} {w2} {n0} {n1} k1 None word x = record {
        pending = w1;
        output = if_so continues continue_text ++ reply_of false x.reply;
        notes = note_of x.reply ∷ [];
        came = came;
        passed = passed_on k0 k1 k2 (if_so continues continue_text) (reply_of false x.reply) word x.is_reply.1;
        notes_are = x.notes_are;
        is = record {
          bytes = take h w0 ++ take size (drop h w1);
          message = record { body = take size (drop h w1); closes = closes; continues = continues };
          reply = x.reply;
          pending_is = left_over ∙ ap (λ (l : List ℕ). (take h w0 ++ take size (drop h w1)) ++ l) (sym x.left_is);
          is_message = is_message;
          step = x.step;
          goes_on = x.is_reply.0;
          output_is = refl;
          notes_are = refl;
        };
      }
      turn_answered {s} {t} {k0} {k2} {w2} {n0} {n1} k1 (Some WriteFault) word x =
          ending WriteFault w1 (if_so continues continue_text ++ x.is_reply.front) (note_of x.reply ∷ []) came
          (passed_on k0 k1 k2 (if_so continues continue_text) x.is_reply.front word x.is_reply.passed) x.notes_are
          (unwritten_reply t (take h w0 ++ take size (drop h w1)) (drop (h + size) w1) x.is_reply.front (record { body = take size (drop h w1); closes = closes; continues = continues }) x.reply left_over is_message x.step x.is_reply.is_front)
      turn_answered k1 (Some Spent) word x =
          last k1 x.reply Spent word x.step x.notes_are (ap (λ b. b || closes) x.is_reply.0) (ap (λ b. cond b Spent Closed) x.is_reply.0) x.is_reply.1
      turn_answered k1 (Some Closed) word x =
          last k1 x.reply Closed word x.step x.notes_are (ap (λ b. b || closes) x.is_reply.0 ∙ x.is_reply.1) (ap (λ b. cond b Spent Closed) x.is_reply.0) x.is_reply.2
      turn_answered k1 (Some Truncated) word x = absurd x.is_reply
      turn_answered k1 (Some (Refused n)) word x = absurd x.is_reply
      turn_answered k1 (Some ReadFault) word x = absurd x.is_reply
      turn_answered k1 (Some Memory) word x = absurd x.is_reply

  pub answered_so : {result : Option SessionEnd} {s t : S} {k0 k1 : Option (List ℕ)} {n0 n1 : List Note} (room : List ℕ) (start held h size count : ℕ) (closes : Bool) (r : Reply) (body : List ℕ)
      → start ≤ held → h + size ≤ held - start → body ≡ take ((start + h + size) - (start + h)) (drop (start + h) room)
      → responds s body r t → front t ≡ r.front → front s ≤ front t → IsReplyStatus r.status
      → n1 ≡ n0 ++ note_of r ∷ [] → count ≡ length n1 → ReplyIs k0 k1 r closes count result
      → Answered front responds result s t k0 k1 (take (held - start) (drop start room)) (take (held - (start + h + size)) (drop (start + h + size) room)) n0 n1 h size closes
  answered_so {result} {s} {t} {k0} {k1} {n0} {n1} room start held h size count closes r body le whole is step front_is rises status noted counted reply =
      let c : count ≡ length n0 + 1 = let e = ap (λ (l : List Note). length l) noted in omega (arith, counted, e, length-append n0 (note_of r ∷ [])) in
      let P : List ℕ → Type 0 = λ b. responds s b r t in
      let Q : ℕ → Type 0 = λ n. ReplyIs k0 k1 r closes n result in
      record {
        reply = r;
        step = record { responds_so = subst P (is ∙ body_is room start held h size le whole) step; front_is = front_is; rises = rises; status = status };
        left_is = left_is room start held h size le whole;
        notes_are = noted;
        is_reply = subst Q c reply;
      }

  -- ---- the session so far

  pub so_none : {w : List ℕ} (s : S) (g l k : Option (List ℕ)) (n : List Note) → w ≡ [] → n ≡ [] → SoFar front responds s s g g l l k k w n
  so_none {w} s g l k n empty fresh = record {
    answered = [];
    output = [];
    came = subst (λ (x : List ℕ). Came g g l l [] x) (sym empty) (came_none g l []);
    passed = passed_none k;
    exchanges = subst (λ (x : List Note). Exchanges front responds s [] [] x s) (sym fresh) (none s);
  }

  pub so_start : (s : S) (g l k : Option (List ℕ)) → SoFar front responds s s g g l l k k [] []
  so_start s g l k = so_none s g l k [] refl refl

  lifted : {g0 g1 l0 l1 : Option (List ℕ)} {w0 w1 : List ℕ} (a : List ℕ) → Came g0 g1 l0 l1 w0 w1 → Came g0 g1 l0 l1 (a ++ w0) (a ++ w1)
  lifted {w0 = w0} a x = record { some = x.some; window = ap (λ (l : List ℕ). a ++ l) x.window ∙ sym (append_assoc a w0 x.some); given_is = x.given_is; left_is = x.left_is }

  pub so_more : {s t u : S} {g0 g1 g2 l0 l1 l2 k0 k1 k2 : Option (List ℕ)} {w1 w2 : List ℕ} {n1 n2 : List Note}
      → SoFar front responds s t g0 g1 l0 l1 k0 k1 w1 n1 → Turn front responds None t u g1 g2 l1 l2 k1 k2 w1 w2 n1 n2 → SoFar front responds s u g0 g2 l0 l2 k0 k2 w2 n2
  so_more {s} {t} {u} {g0} {g1} {g2} {l0} {l1} {l2} {k0} {k1} {k2} {w1} {w2} {n1} {n2} so x =
      let step = x.is in
      let words = if_so step.message.continues continue_text ++ reply_of false step.reply in
      let noted = x.notes_are ∙ ap (λ (l : List Note). n1 ++ l) step.notes_are in
      record {
        answered = so.answered ++ step.bytes;
        output = so.output ++ words;
        came = subst (λ (l : List ℕ). Came g0 g2 l0 l2 [] l) (ap (λ (l : List ℕ). so.answered ++ l) step.pending_is ∙ sym (append_assoc so.answered step.bytes w2)) (came_on _ _ _ _ _ _ _ _ _ so.came (lifted so.answered x.came));
        passed = passed_on k0 k1 k2 so.output words so.passed (subst (λ (l : List ℕ). Passed k1 k2 l) step.output_is x.passed);
        exchanges = subst (λ (l : List Note). Exchanges front responds s (so.answered ++ step.bytes) (so.output ++ words) l u) (sym noted)
            (more s t u so.answered step.bytes so.output n1 step.message step.reply so.exchanges step.is_message step.step step.goes_on);
      }

  pub so_few : {t u : S} {g1 g2 l1 l2 k1 k2 : Option (List ℕ)} {w1 w2 : List ℕ} {n1 n2 : List Note} (turn : ℕ)
      → length n1 ≡ turn → turn < 1000000 → Turn front responds None t u g1 g2 l1 l2 k1 k2 w1 w2 n1 n2 → (turn + 1 < 1000000) × (length n2 ≡ turn + 1)
  so_few {n1 = n1} {n2} turn count lt x =
      let step = x.is in
      let noted = ap (λ (l : List Note). length l) (x.notes_are ∙ ap (λ (l : List Note). n1 ++ l) step.notes_are) in
      let both = length-append n1 (note_of step.reply ∷ []) in
      (below turn count lt step.goes_on, omega (arith, noted, both, count))
    where
      first_false : (a b : Bool) → (a || b) ≡ false → a ≡ false
      first_false true b e = e
      first_false false b e = refl

      below : (turn : ℕ) → length n1 ≡ turn → turn < 1000000 → ((length n1 + 1 == most_replies) || x.is.message.closes) ≡ false → turn + 1 < 1000000
      below turn count lt e = let f = first_false (length n1 + 1 == most_replies) x.is.message.closes e in grind (arith, f, nat_tests)

  pub so_ends : {s t u : S} {g0 g1 g2 l0 l1 l2 k0 k1 k2 : Option (List ℕ)} {w1 w2 : List ℕ} {n1 n2 : List Note} (end : SessionEnd)
      → SoFar front responds s t g0 g1 l0 l1 k0 k1 w1 n1 → Turn front responds (Some end) t u g1 g2 l1 l2 k1 k2 w1 w2 n1 n2 → Ran front responds end n2 s u g0 g2 l0 l2 k0 k2
  so_ends {s} {t} {u} {g0} {g1} {g2} {l0} {l1} {l2} {k0} {k1} {k2} {w1} {w2} {n1} {n2} end so x = record {
    input = so.answered ++ x.pending;
    output = so.output ++ x.output;
    came = came_on _ _ _ _ _ _ _ _ _ so.came (lifted so.answered x.came);
    passed = passed_on k0 k1 k2 so.output x.output so.passed x.passed;
    session = record {
      middle = t;
      answered = so.answered;
      pending = x.pending;
      written = so.output;
      noted = n1;
      last = x.output;
      last_notes = x.notes;
      exchanges = so.exchanges;
      ends = x.is;
      input_is = refl;
      output_is = refl;
      notes_are = x.notes_are;
    };
  }

  pub so_memory : {s t : S} {g0 g1 l0 l1 k0 k1 : Option (List ℕ)} {w : List ℕ} {n now : List Note} → SoFar front responds s t g0 g1 l0 l1 k0 k1 w n → now ≡ n → Ran front responds Memory now s t g0 g1 l0 l1 k0 k1
  so_memory {s} {t} {w = w} {n} {now} so same = record {
    input = so.answered ++ w;
    output = so.output;
    came = so.came;
    passed = so.passed;
    session = record {
      middle = t;
      answered = so.answered;
      pending = w;
      written = so.output;
      noted = n;
      last = [];
      last_notes = [];
      exchanges = so.exchanges;
      ends = memory;
      input_is = refl;
      output_is = sym (append-nil so.output);
      notes_are = same ∙ sym (append-nil n);
    };
  }

pub so_kept : {S : Type 0} (front : S → ℕ) (responds : S → List ℕ → Reply → S → Type 0) {s t : S} {g0 g1 l0 l1 k0 k1 : Option (List ℕ)} {w : List ℕ} (n m : List Note)
    → m ≡ n → SoFar front responds s t g0 g1 l0 l1 k0 k1 w n → SoFar front responds s t g0 g1 l0 l1 k0 k1 w m
so_kept front responds {s} {t} {g0} {g1} {l0} {l1} {k0} {k1} {w} n m e x = let P : List Note → Type 0 = λ y. SoFar front responds s t g0 g1 l0 l1 k0 k1 w y in subst P (sym e) x

-- the report of an end
pub report_is : {S : Type 0} (front : S → ℕ) (responds : S → List ℕ → Reply → S → Type 0) {s t : S} {g0 g1 l0 l1 k0 k1 : Option (List ℕ)} (end told : SessionEnd) (notes items : List Note)
    → told ≡ end → notes ≡ items → Ran front responds end items s t g0 g1 l0 l1 k0 k1 → Ran front responds told notes s t g0 g1 l0 l1 k0 k1
report_is front responds {s} {t} {g0} {g1} {l0} {l1} {k0} {k1} end told notes items e f x =
    let P : SessionEnd → Type 0 = λ y. Ran front responds y items s t g0 g1 l0 l1 k0 k1 in
    let Q : List Note → Type 0 = λ y. Ran front responds told y s t g0 g1 l0 l1 k0 k1 in
    subst Q (sym f) (subst P (sym e) x)

-- the head's bytes in the buffer are the first ones of the window
pub front_bytes : (room : List ℕ) (w : Window) (x : Extent) → IsWindow room w → HeadStands (window_of room w) x → take ((w.start + x.end) - w.start) (drop w.start room) ≡ take x.end (window_of room w)
front_bytes room w x k h =
    let n : (w.start + x.end) - w.start ≡ x.end = omega arith in
    let i = h.within in
    let size = window_len room w k in
    ap (λ m. take m (drop w.start room)) n ∙ sym (take-take x.end (w.held - w.start) (drop w.start room) (omega (arith, i, size)))

pub refused_front : (w head : List ℕ) (count : ℕ) (refusal : Refusal) → head ≡ take count w → Asks head (Refuses refusal) → IsRefused w refusal
refused_front w head count refusal e a = refused_head w count refusal (subst (λ (l : List ℕ). Asks l (Refuses refusal)) e a)
