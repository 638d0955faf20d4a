-- The last row of a fetch on a trail, looked for from its end.
use Rattle.std.proofs.Common.{◌≡◌, ℕ, zero, suc, ◌+◌, ◌<◌, List, [], ◌∷◌, drop, length, get_or, Some, None, true, false, cond, sym, ap, ◌∙◌}
use Rattle.std.specs.Prelude.{◌==◌}
use Rattle.pg_base.proofs.ListSteps.{drop-item}
use Rattle.plan_steps.specs.Values.{later}
use Rattle.stmt_tree.specs.declared.found.RowTree.{RowTree}
use Rattle.batch_execute.specs.declared.reading.Spot.{Spot}
use Rattle.batch_execute.specs.Reading.{tree_on}
use Rattle.batch_execute.specs.Trails.{trail_of}

-- a row that is found further on is the last one of all
found_late : (trail : List Spot) (k at : ℕ) (t : RowTree) → tree_on (trail_of (drop k trail)) at ≡ Some t → tree_on (trail_of trail) at ≡ Some t
found_late trail zero at t e = e
found_late [] (suc k) at t e = e
found_late (s ∷ trail) (suc k) at t e = ap (λ o. later o (cond (s.step == at) (Some s.tree.now) None)) (found_late trail k at t e)

module _ (trail : List Spot) (k : ℕ) (s : Spot) (lt : k < length trail) (is : s ≡ get_or trail k s) (at : ℕ) (none : tree_on (trail_of (drop (k + 1) trail)) at ≡ None) where
  here : tree_on (trail_of (drop k trail)) at ≡ cond (s.step == at) (Some s.tree.now) None
  here =
      ap (λ l. tree_on (trail_of l) at) (drop-item trail k s lt is)
      ∙ ap (λ o. later o (cond (s.step == at) (Some s.tree.now) None)) none

  pub last_here : (s.step == at) ≡ true → Some s.tree.now ≡ tree_on (trail_of trail) at
  last_here e = sym (found_late trail k at s.tree.now (here ∙ ap (λ b. cond b (Some s.tree.now) None) e))

  pub not_here : (s.step == at) ≡ false → tree_on (trail_of (drop k trail)) at ≡ None
  not_here e = here ∙ ap (λ b. cond b (Some s.tree.now) None) e
