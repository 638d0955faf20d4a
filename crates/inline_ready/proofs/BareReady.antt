-- What stands below fetches doesn't matter to whether a plan is ready.
use Rattle.std.proofs.Common.{◌≡◌, ℕ, List, [], map, Option, Some, None, refl, sym, ap, ◌∙◌, subst}
use Rattle.std.specs.Prelude.{slice_get, option_map}
use Rattle.pg_base.specs.Base.{BaseParts}
use Rattle.pg_base.specs.declared.vars.Vars.{Vars}
use Rattle.rel_model.specs.declared.tables.Tables.{Tables}
use Rattle.place_tree.specs.declared.place.Tree.{Tree}
use Rattle.plan_constraints.specs.declared.constraint.Constraint.{Constraint}
use Rattle.plan_steps.specs.declared.plan.FetchStep.{out-FetchStep}
use Rattle.plan_steps.specs.declared.plan.Plan.{Plan}
use Rattle.plan_steps.specs.declared.plan.Root.{Root}
use Rattle.plan_steps.specs.declared.plan.Step.{Step}
use Rattle.plan_steps.specs.declared.plan.Step.TheVariants as step
use Rattle.plan_steps.specs.Denoted.{denoted, moment}
use Rattle.plan_steps.specs.Named.{step_for}
use Rattle.plan_steps.specs.Under.{root_place}
use Rattle.plan_steps.specs.Values.{Moment, Path, listing_in, val_at}
use Rattle.batch_execute.specs.declared.role.Role.{Role}
use Rattle.batch_execute.specs.Counted.{counted}
use Rattle.batch_execute.specs.Denoted.{listing_shown, rows_of_step, denoted_rows, denoted_visits}
use Rattle.batch_execute.specs.Ready.{fetch_shown, IsReady}
use Rattle.batch_execute.specs.Roles.{role_of}
use Rattle.batch_execute.specs.Ways.{fetch_above}
use Rattle.batch_execute.proofs.Readied.{fetches_ready}
use Rattle.inline_select.proofs.Bare.{get_map, out_with, bare, bare_step, bare_plan, items_bare, vals_bare, denoted_bare}
use Rattle.inline_select.proofs.Fixed.{bare_is}
use Rattle.inline_select.specs.Inlined.{inlined}
use Rattle.inline_ready.specs.Laws.{InlinedPlansAreReady}

above_bare : (steps : List Step) (o : Option ℕ) → fetch_above (map bare_step steps) o ≡ fetch_above steps o
above_bare steps None = refl
above_bare steps (Some p) = ap (λ items. items p) (items_bare steps)

shown_bare : (k : ℕ) (o : Option Step) → fetch_shown k (option_map bare_step o) ≡ fetch_shown k o
shown_bare k None = refl
shown_bare k (Some (step.Const v)) = refl
shown_bare k (Some (step.Var path)) = refl
shown_bare k (Some step.Given) = refl
shown_bare k (Some (step.Fetch f)) = refl
shown_bare k (Some (step.Item s)) = refl
shown_bare k (Some (step.Column i c)) = refl
shown_bare k (Some (step.Count s)) = refl
shown_bare k (Some (step.Page s part)) = refl
shown_bare k (Some (step.CursorOf i)) = refl

rows_bare : (m : Moment) (plan : Plan) (role : Role) (path : Path) (o : Option ℕ) → rows_of_step m (bare_plan plan) role path o ≡ rows_of_step m plan role path o
rows_bare m plan role path None = refl
rows_bare m plan role path (Some k) = ap (λ vals. listing_shown role (listing_in (val_at (vals path) k))) (vals_bare m plan.steps)

visits_bare : (base : BaseParts) (tables : Tables) (vars : Vars) (plan : Plan) (tree : Tree) (r : Root) → denoted_visits base tables vars (bare_plan plan) tree r ≡ denoted_visits base tables vars plan tree r
visits_bare base tables vars plan tree r =
    let m = moment base tables vars r in
    ap (λ shown. counted shown (denoted_rows m (bare_plan plan) tree) tree.places 0 (root_place r) []) (denoted_bare m plan)
    ∙ (λ j. counted (denoted m plan) (λ i p path. rows_bare m plan (role_of m.base m.vars tree.places i p) path (step_for plan.out i) j) tree.places 0 (root_place r) [])

-- a plan is ready where it is without what stands below its fetches
pub bare_ready : (base : BaseParts) (plan : Plan) (tree : Tree) (constraints : List Constraint) → IsReady base (bare_plan plan) tree constraints → IsReady base plan tree constraints
bare_ready base plan tree constraints h = record {
  earlier = h.earlier;
  stands = λ k f at.
      h.stands k (bare f) (get_map bare_step plan.steps k ∙ ap (option_map bare_step) at)
      ∙ ap (λ o. fetch_above (map bare_step plan.steps) o.parent) (out_with [] f)
      ∙ above_bare plan.steps (out-FetchStep f).parent;
  asks = λ tables vars r may i p k s at clear uses shows fetch.
      h.asks tables vars r may i p k s at clear uses shows (ap (fetch_shown k) (get_map bare_step plan.steps k) ∙ shown_bare k (slice_get plan.steps k) ∙ fetch);
  visits = λ tables vars r may. sym (visits_bare base tables vars plan tree r) ∙ h.visits tables vars r may;
}

-- the law
pub inlined_ready : InlinedPlansAreReady
inlined_ready base plan tree constraints ready =
    bare_ready base (inlined plan) tree constraints
    (subst (λ p. IsReady base p tree constraints) (sym (bare_is plan ready.merged.fetches.flat))
    (fetches_ready base plan tree constraints ready.over_tree ready.checked ready.merged.fetches))
