use Rattle.std.proofs.Common.{◌≡◌, sym, subst, ap, ◌∙◌}
use Rattle.std.specs.Arc.{arc_value}
use Rattle.pg_base.specs.Base.{BaseParts, IsBase}
use Rattle.pg_base.specs.Catalog.{CatalogParts, IsValidCatalog}
use Rattle.plan_steps.specs.Fetches.{IsTreeOver}
use Rattle.plan_steps.specs.View.{Planned}
use Rattle.planned_response.proofs.planning.plan_of.Goals as goal

-- the draft has the tree and the base that it was made of
pub finished-requires-clause-over_tree : goal.finished-requires-clause-over_tree
finished-requires-clause-over_tree g c =
    let base = arc_value c.args.base.now in
    let is_base = subst (λ (b : BaseParts). IsBase b) c.deref.ensures c.know.ensures in
    let same = c.catalog.ensures ∙ ap (λ (b : BaseParts). b.catalog) c.deref-2.ensures in
    let is_valid = subst (λ (k : CatalogParts). IsValidCatalog k) same c.know-2.ensures in
    subst (λ (d : Planned). IsTreeOver d.base d.tree) (sym c.in-Ok.ensures.draft)
    (c.plannable_trees_stand_over_bases.ensures base c.args.tree c.args.vars.now
    (record { base_ = is_base; catalog = is_valid; tree_ = c.requires }))
