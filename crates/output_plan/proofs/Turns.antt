-- A turn of the walk that appends errors.
use Rattle.std.proofs.Common.{◌≡◌, ℕ, ◌+◌, ◌<◌, ◌≤◌, List, [], ◌∷◌, ◌++◌, map, drop, length, get_or, codes, Option, Bool, true, false, sym, ap, ◌∙◌, subst, append_assoc, arith, length-append}
use Rattle.std.proofs.lemmas.List.{append-nil}
use Rattle.std.specs.Prelude.{slice_get}
use Rattle.place_tree.specs.declared.place.Place.{Place}
use Rattle.place_tree.specs.Fold.{same_place}
use Rattle.place_tree.specs.Response.{key, FieldError, error_text, more_errors, member_errors}
use Rattle.place_tree.proofs.Folds.{same_place_true}
use Rattle.response_text.specs.declared.path.Part.{Part}
use Rattle.response_text.specs.Paths.{errors_left, part_of}
use Rattle.batch_execute.specs.Nexts.{next_from, next_or}
use Rattle.batch_execute.specs.Reading.{Trail}
use Rattle.output_plan.specs.declared.fault.PrintFault.{PrintFault}
use Rattle.output_plan.specs.declared.fault.PrintFault.TheVariants as fault
use Rattle.output_plan.specs.Failures.{answer_errors, pos_or, pos_at, key_or, key_at}
use Rattle.output_plan.specs.Laid.{Laid, shown_on}
use Rattle.output_plan.specs.Layout.{IsLaidOut}
use Rattle.output_plan.specs.Leaves.{Stops}
use Rattle.output_plan.specs.Printed.{members_at}
use Rattle.output_plan.proofs.Errors.{errors_here}
use Rattle.output_plan.proofs.Tables.{there, next_is}

-- errors that follow others
pub behind : (out before : List ℕ) (after some : Bool) (front : List FieldError) → ((rest : List FieldError) → out ++ errors_left after rest ≡ before ++ errors_left some (front ++ rest))
    → (next all : List FieldError) → front ++ next ≡ all → (rest : List FieldError) → out ++ errors_left after (next ++ rest) ≡ before ++ errors_left some (all ++ rest)
behind out before after some front h next all same rest =
    h (next ++ rest) ∙ ap (λ l. before ++ errors_left some l) (sym (append_assoc front next rest) ∙ ap (λ l. l ++ rest) same)

-- ---- texts that are too long

more_longer : (front next : List FieldError) → length (more_errors front) ≤ length (more_errors (front ++ next))
more_longer [] next = omega arith
more_longer (e ∷ front) next =
    let later = more_longer front next in
    omega (
      arith,
      later,
      length-append (codes ",") (error_text e ++ more_errors front),
      length-append (error_text e) (more_errors front),
      length-append (codes ",") (error_text e ++ more_errors (front ++ next)),
      length-append (error_text e) (more_errors (front ++ next)),
    )

left_longer : (some : Bool) (front next : List FieldError) → length (errors_left some front) ≤ length (errors_left some (front ++ next))
left_longer true front next =
    let later = more_longer front next in
    omega (arith, later, length-append (more_errors front) (codes "],"), length-append (more_errors (front ++ next)) (codes "],"))
left_longer false [] next = omega arith
left_longer false (e ∷ front) next =
    let later = more_longer front next in
    omega (
      arith,
      later,
      length-append (codes "\"errors\":[") (error_text e ++ (more_errors front ++ codes "],")),
      length-append (error_text e) (more_errors front ++ codes "],"),
      length-append (more_errors front) (codes "],"),
      length-append (codes "\"errors\":[") (error_text e ++ (more_errors (front ++ next) ++ codes "],")),
      length-append (error_text e) (more_errors (front ++ next) ++ codes "],"),
      length-append (more_errors (front ++ next)) (codes "],"),
    )

longer : (e : PrintFault) (out : List ℕ) (some : Bool) (front next : List FieldError) → Stops e (out ++ errors_left some front) → Stops e (out ++ errors_left some (front ++ next))
longer fault.TooLong out some front next h =
    let more = left_longer some front next in
    omega (arith, more, h, length-append out (errors_left some front), length-append out (errors_left some (front ++ next)))
longer fault.Memory out some front next h = tt

-- where the errors at the front are too long, so are all
pub stopped : (e : PrintFault) (out before : List ℕ) (written some : Bool) (front next all whole : List FieldError) → front ++ next ≡ all
    → Stops e (out ++ errors_left written front)
    → ((rest : List FieldError) → out ++ errors_left written (all ++ rest) ≡ before ++ errors_left some (whole ++ rest))
    → Stops e (before ++ errors_left some whole)
stopped e out before written some front next all whole same h kept =
    subst (Stops e)
    (ap (λ l. out ++ errors_left written l) (same ∙ sym (append-nil all)) ∙ kept [] ∙ ap (λ l. before ++ errors_left some l) (append-nil whole))
    (longer e out written front next h)

module _ (x : Laid) (places : List Place) (labels : List (List ℕ)) (nexts : List ℕ) (laid : IsLaidOut places labels nexts) (i : ℕ) (p : Place) (lt : i < length places) (is : p ≡ get_or places i p)
    (parent : Option ℕ) (s t : Trail) (at : t ≡ s) (path route : List Part) (along : route ≡ path) (h : same_place p.parent parent ≡ true) (n : ℕ) (next : n ≡ next_or i (slice_get nexts i)) where
  pub errors_go :
      answer_errors x (drop (i + 1) places) i (pos_at places i) (shown_on x i t) (map part_of route ++ key (key_at places i) ∷ []) ++ member_errors (members_at x (drop n places) n parent s) (map part_of path)
      ≡ member_errors (members_at x (drop i places) i parent s) (map part_of path)
  errors_go =
      let found = there places i p lt is in
      let later = member_errors (members_at x (drop n places) n parent s) (map part_of path) in
      ap (λ u. answer_errors x (drop (i + 1) places) i (pos_at places i) (shown_on x i u) (map part_of route ++ key (key_at places i) ∷ []) ++ later) at
      ∙ ap (λ r. answer_errors x (drop (i + 1) places) i (pos_at places i) (shown_on x i s) (map part_of r ++ key (key_at places i) ∷ []) ++ later) along
      ∙ ap (λ o. answer_errors x (drop (i + 1) places) i (pos_or o) (shown_on x i s) (map part_of path ++ key (key_or o) ∷ []) ++ later) found
      ∙ errors_here x places i p lt is parent s (map part_of path) h n (next ∙ next_is places labels nexts laid i p lt is ∙ ap (λ q. next_from q (i + 1) (drop (i + 1) places)) (same_place_true p.parent parent h))
