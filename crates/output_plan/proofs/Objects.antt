-- The text of a value is the text that is printed for it.
use Rattle.std.proofs.Common.{◌≡◌, ℕ, ◌+◌, ◌<◌, List, [], ◌∷◌, ◌++◌, map, drop, length, get_or, codes, Some, Bool, true, false, refl, sym, ap, ◌∙◌, append_assoc, arith, length-append}
use Rattle.pg_base.proofs.ListSteps.{drop-item}
use Rattle.place_tree.specs.declared.place.Place.{Place}
use Rattle.place_tree.specs.Events.{comma}
use Rattle.place_tree.specs.declared.answer.Answer.{Answer}
use Rattle.place_tree.specs.declared.answer.Answer.TheVariants.{Shows, Fails, One, Many}
use Rattle.place_tree.specs.Fold.{below}
use Rattle.place_tree.specs.Response.{objects, value_of, value_text, elements_text, more_elements}
use Rattle.stmt_tree.specs.declared.found.RowTree.{RowTree}
use Rattle.batch_execute.specs.Reading.{Trail}
use Rattle.output_plan.specs.declared.fault.PrintFault.{PrintFault}
use Rattle.output_plan.specs.declared.fault.PrintFault.TheVariants as fault
use Rattle.output_plan.specs.Laid.{Laid}
use Rattle.output_plan.specs.Leaves.{Stops}
use Rattle.output_plan.specs.Printed.{members_at, object_text, objects_text, answer_text}

module _ (x : Laid) (after : List Place) (i : ℕ) where
  more_same : (ss : List Trail) → more_elements (objects (map (members_at x after (i + 1) (Some i)) ss)) ≡ objects_text x after i true ss
  more_same [] = refl
  more_same (s ∷ ss) = ap (λ t. codes "," ++ (object_text x after i s ++ t)) (more_same ss)

  elements_same : (ss : List Trail) → elements_text (objects (map (members_at x after (i + 1) (Some i)) ss)) ≡ objects_text x after i false ss
  elements_same [] = refl
  elements_same (s ∷ ss) = ap (λ t. object_text x after i s ++ t) (more_same ss)

  pub value_same : (p : Place) (a : Answer Trail) → value_text (value_of p (below (members_at x after (i + 1) (Some i)) a)) ≡ answer_text x after i a
  value_same p (Shows l) = refl
  value_same p (Fails m) = refl
  value_same p (One s) = refl
  value_same p (Many ss) = ap (λ t. codes "[" ++ (t ++ codes "]")) (elements_same ss)

  -- ---- a turn of the walk over rows

  regrouped : (before c o t e : List ℕ) → ((before ++ c) ++ o) ++ (t ++ e) ≡ before ++ ((c ++ (o ++ t)) ++ e)
  regrouped before c o t e =
      append_assoc (before ++ c) o (t ++ e) ∙ append_assoc before c (o ++ (t ++ e))
      ∙ ap (λ l. before ++ l) (ap (λ l. c ++ l) (sym (append_assoc o t e)) ∙ sym (append_assoc c (o ++ t) e))

  module _ (onto : RowTree → Trail) (trees : List RowTree) (k : ℕ) (tree : RowTree) (lt : k < length trees) (is : tree ≡ get_or trees k tree) (due : Bool)
      (so_far total : List ℕ) (same : so_far ++ (objects_text x after i due (map onto (drop k trees)) ++ codes "]") ≡ total) where
    pub object_on : (mid out : List ℕ) → mid ≡ so_far ++ comma due → out ≡ mid ++ object_text x after i (onto tree)
        → out ++ (objects_text x after i true (map onto (drop (k + 1) trees)) ++ codes "]") ≡ total
    object_on mid out a b =
        let rest = objects_text x after i true (map onto (drop (k + 1) trees)) ++ codes "]" in
        ap (λ o. o ++ rest) (b ∙ ap (λ m. m ++ object_text x after i (onto tree)) a)
        ∙ regrouped so_far (comma due) (object_text x after i (onto tree)) (objects_text x after i true (map onto (drop (k + 1) trees))) (codes "]")
        ∙ ap (λ l. so_far ++ (objects_text x after i due (map onto l) ++ codes "]")) (sym (drop-item trees k tree lt is))
        ∙ same

-- ---- texts that are too long

-- so is each text that goes on from one
pub stops_front : (e : PrintFault) (front rest total : List ℕ) → front ++ rest ≡ total → Stops e front → Stops e total
stops_front fault.TooLong front rest total same h = let n = ap length same in omega (arith, n, length-append front rest, h)
stops_front fault.Memory front rest total same h = tt
