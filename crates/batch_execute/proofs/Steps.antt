-- A turn of the loops over lists.
use Rattle.std.proofs.Common.{◌≡◌, ℕ, zero, suc, ◌+◌, ◌-◌, ◌<◌, List, [], ◌∷◌, ◌++◌, map, sum, length, drop, Option, None, Bool, true, false, refl, sym, ap, ◌∙◌, arith, append_assoc}
use Rattle.std.specs.Prelude.{slice_index_or}
use Rattle.pg_base.proofs.ListSteps.{drop-item}
use Rattle.place_tree.specs.declared.place.Place.{Place}
use Rattle.plan_steps.specs.declared.plan.Step.{Step}
use Rattle.stmt_tree.specs.declared.found.Found.{Found}
use Rattle.stmt_tree.specs.declared.found.Found.TheViews.{out-Found, out-RowTree, roll-out-Found, roll-out-RowTree}
use Rattle.stmt_tree.specs.declared.found.RowTree.{RowTree}
use Rattle.stmt_tree.specs.Meaning.{trees_in, trees_of, trees_in_all}
use Rattle.stmt_tree.proofs.Batched.{sum_cons}
use Rattle.stmt_tree.proofs.Meaning.{trees_in_roll, trees_of_roll}
use Rattle.batch_execute.specs.declared.way.Way.{Way}
use Rattle.batch_execute.specs.Roles.{steps_from, steps_of}
use Rattle.batch_execute.specs.Taken.{Takes}
use Rattle.batch_execute.specs.Ways.{way_of, ways_from, ways_of}

-- ---- numbers of rows

pub trees_is : (f : Found) → trees_in f ≡ sum (map trees_of (out-Found f).rows)
trees_is f = ap trees_in (sym (roll-out-Found f)) ∙ trees_in_roll (out-Found f)

pub tree_has : (t : RowTree) → trees_of t ≡ trees_in_all (out-RowTree t).children + 1
tree_has t = ap trees_of (sym (roll-out-RowTree t)) ∙ trees_of_roll (out-RowTree t)

-- what was found for one key, and for those after it
pub found_here : (found : List Found) (i : ℕ) (one : Found) → i < length found → one ≡ slice_index_or found i one →
    trees_in_all (drop i found) ≡ sum (map trees_of (out-Found one).rows) + trees_in_all (drop (i + 1) found)
found_here found i one lt is =
    ap trees_in_all (drop-item found i one lt is) ∙ sum_cons (trees_in one) (map trees_in (drop (i + 1) found))
    ∙ ap (λ n. n + trees_in_all (drop (i + 1) found)) (trees_is one)

-- one row, and those below it
pub takes_one : (before now count : ℕ) (r : Bool) → (before ≡ 0 → ⊥) → Takes (before - 1) now count r → Takes before now (count + 1) r
takes_one zero now count r some h = absurd (some refl)
takes_one (suc n) now count true some h = omega (arith, h)
takes_one (suc n) now count false some h = omega (arith, h)

-- ---- ways

ways_next : (all steps : List Step) (n k : ℕ) → k < length steps → ways_from all n (drop k steps) ≡ way_of all n ∷ ways_from all (n + 1) (drop (suc k) steps)
ways_next all [] n k lt = absurd (omega (arith, lt))
ways_next all (s ∷ steps) n zero lt = refl
ways_next all (s ∷ steps) n (suc k) lt = ways_next all steps n k (omega (arith, lt))

pub ways_on : (steps : List Step) (ways : List Way) (k : ℕ) → k < length steps → ways ++ ways_from steps k (drop k steps) ≡ ways_of steps → (next : List Way) → next ≡ ways ++ way_of steps k ∷ [] → next ++ ways_from steps (k + 1) (drop (k + 1) steps) ≡ ways_of steps
ways_on steps ways k lt so next is =
    let e : suc k ≡ k + 1 = omega arith in
    ap (λ l. l ++ ways_from steps (k + 1) (drop (k + 1) steps)) is
    ∙ append_assoc ways (way_of steps k ∷ []) (ways_from steps (k + 1) (drop (k + 1) steps))
    ∙ ap (λ l. ways ++ l) (sym (ways_next steps steps k k lt ∙ ap (λ j. way_of steps k ∷ ways_from steps (k + 1) (drop j steps)) e))
    ∙ so

-- ---- no steps

none_next : (places : List Place) (n k : ℕ) → k < length places → steps_from [] n (drop k places) ≡ None ∷ steps_from [] (n + 1) (drop (suc k) places)
none_next [] n k lt = absurd (omega (arith, lt))
none_next (p ∷ places) n zero lt = refl
none_next (p ∷ places) n (suc k) lt = none_next places n k (omega (arith, lt))

pub none_on : (places : List Place) (steps : List (Option ℕ)) (k : ℕ) → k < length places → steps ++ steps_from [] k (drop k places) ≡ steps_of [] places → (next : List (Option ℕ)) → next ≡ steps ++ None ∷ [] → next ++ steps_from [] (k + 1) (drop (k + 1) places) ≡ steps_of [] places
none_on places steps k lt so next is =
    let e : suc k ≡ k + 1 = omega arith in
    ap (λ l. l ++ steps_from [] (k + 1) (drop (k + 1) places)) is
    ∙ append_assoc steps (None ∷ []) (steps_from [] (k + 1) (drop (k + 1) places))
    ∙ ap (λ l. steps ++ l) (sym (none_next places k k lt ∙ ap (λ j. None ∷ steps_from [] (k + 1) (drop j places)) e))
    ∙ so
