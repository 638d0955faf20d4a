-- A plan that is made for a tree sends no more statements than the tree needs.
use Rattle.std.proofs.Common.{◌≤◌, List, sym, subst}
use Rattle.pg_base.specs.Base.{BaseParts}
use Rattle.pg_base.specs.declared.vars.Vars.{Vars}
use Rattle.place_tree.specs.Needs.{needed_statements}
use Rattle.place_tree.specs.declared.place.Tree.{Tree}
use Rattle.plan_constraints.specs.Constraints.{Hold}
use Rattle.plan_constraints.specs.Noted.{noted}
use Rattle.plan_constraints.specs.declared.constraint.Constraint.{Constraint}
use Rattle.plan_steps.specs.Fitting.{FitTree}
use Rattle.plan_steps.specs.Sent.{sent_count}
use Rattle.plan_steps.specs.Sound.{IsRootOf}
use Rattle.plan_steps.specs.View.{Planned}
use Rattle.plan_steps.specs.declared.plan.Root.TheVariants as root
use Rattle.planned_response.specs.Plans.{IsMadeFor}

module _ (base : BaseParts) (tree : Tree) (vars : Vars) (made : Planned) (is : IsMadeFor base tree vars made)
    (fit : FitTree base vars tree) (hold : Hold (noted base vars tree) vars) (query : IsRootOf base tree root.Query) where
  fits : FitTree made.base vars made.tree
  fits = subst (λ (b : BaseParts). FitTree b vars made.tree) (sym is.base_)
      (subst (λ (t : Tree). FitTree base vars t) (sym is.tree_) fit)

  holds : Hold made.constraints vars
  holds = subst (λ (cs : List Constraint). Hold cs vars) (sym is.constraints_) hold

  is_query : IsRootOf made.base made.tree root.Query
  is_query = subst (λ (b : BaseParts). IsRootOf b made.tree root.Query) (sym is.base_)
      (subst (λ (t : Tree). IsRootOf base t root.Query) (sym is.tree_) query)

  pub few_needed : sent_count made.tree made.plan root.Query ≤ needed_statements base vars tree
  few_needed =
      let few = is.lean.few vars root.Query fits holds is_query in
      subst (λ (t : Tree). sent_count made.tree made.plan root.Query ≤ needed_statements base vars t) is.tree_
      (subst (λ (b : BaseParts). sent_count made.tree made.plan root.Query ≤ needed_statements b vars made.tree) is.base_ few)
