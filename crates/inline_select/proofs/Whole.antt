-- Inlined plans are sound.
use Rattle.std.proofs.Common.{◌≡◌, ◌≤◌, List, sym, ap, ◌∙◌, arith}
use Rattle.pg_base.specs.Base.{BaseParts}
use Rattle.pg_base.specs.declared.vars.Vars.{Vars}
use Rattle.rel_model.specs.declared.tables.Tables.{Tables}
use Rattle.place_tree.specs.declared.place.Tree.{Tree}
use Rattle.plan_constraints.specs.declared.constraint.Constraint.{Constraint}
use Rattle.plan_steps.specs.declared.plan.Plan.{Plan}
use Rattle.plan_steps.specs.declared.plan.Root.{Root}
use Rattle.plan_steps.specs.Denoted.{denotation, moment}
use Rattle.plan_steps.specs.Sent.{rows_found}
use Rattle.plan_steps.specs.Sound.{MayRun, visited_for, IsSound}
use Rattle.plan_steps.proofs.Few.{fetches_sound}
use Rattle.plan_steps.proofs.Running.{Running}
use Rattle.plan_steps.proofs.Served.{tree_for}
use Rattle.inline_select.specs.Inlined.{inlined}
use Rattle.inline_select.specs.Laws.{CanBeInlined, MovedFetchesAreRead, InlinedPlansAreSound}
use Rattle.inline_select.proofs.Bare.{denotation_bare}
use Rattle.inline_select.proofs.Checks.{inlined_checked}
use Rattle.inline_select.proofs.Fixed.{bare_is}
use Rattle.inline_select.proofs.ReadFetches.{read_made, fetches_made}
use Rattle.inline_select.proofs.Rows.{finds_no_more}

-- the law
pub moved_read : MovedFetchesAreRead
moved_read base plan tree constraints ready k f at = read_made base plan tree ready.checked ready.merged.fetches.flat k f at

module _ (base : BaseParts) (plan : Plan) (tree : Tree) (constraints : List Constraint) (ready : CanBeInlined base plan tree constraints) where
  was_sound : IsSound base plan tree constraints
  was_sound = fetches_sound base plan tree constraints ready.over_tree ready.checked ready.merged.fetches

  module _ (tables : Tables) (vars : Vars) (r : Root) (may : MayRun base tree constraints tables vars r) where
    runs : Running (moment base tables vars r) plan tree r constraints
    runs = record {
      over_tree = ready.over_tree;
      checked = ready.checked;
      are = ready.merged.fetches;
      fit = may.fit;
      hold = may.hold;
      valid = may.valid;
      of_tree = tree_for base tree r ready.over_tree.made may.of_tree;
    }

    shows : denotation base tables vars (inlined plan) tree r ≡ denotation base tables vars plan tree r
    shows = sym (denotation_bare base tables vars (inlined plan) tree r) ∙ ap (λ p. denotation base tables vars p tree r) (bare_is plan ready.merged.fetches.flat)

    finds : rows_found (moment base tables vars r) tree (inlined plan) r ≤ visited_for base tables vars tree r
    finds =
        let a = finds_no_more (moment base tables vars r) plan tree r constraints runs ready.merged.tells in
        let b = was_sound.few tables vars r may in
        omega (arith, a, b)

-- the law
pub inlined_sound : InlinedPlansAreSound
inlined_sound base plan tree constraints ready = record {
  checked = inlined_checked base plan tree ready.checked ready.merged.fetches.flat;
  follow = λ k s fetch over. (was_sound base plan tree constraints ready).follow k s (sym (ap (λ test. test k) (fetches_made base plan tree ready.checked ready.merged.fetches.flat)) ∙ fetch) over;
  same = λ tables vars r may. shows base plan tree constraints ready tables vars r may ∙ (was_sound base plan tree constraints ready).same tables vars r may;
  few = λ tables vars r may. finds base plan tree constraints ready tables vars r may;
}
