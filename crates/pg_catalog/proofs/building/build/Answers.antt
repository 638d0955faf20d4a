use Rattle.std.proofs.Common.{◌+◌, Result, Ok, Err, drop, sym, ap, subst, ◌∙◌}
use Rattle.std.proofs.lemmas.Result.{err_from_is_err_and}
use Rattle.pg_base.proofs.ListSteps.{drop-item, drop-past}
use Rattle.pg_base.specs.Catalog.{CatalogParts}
use Rattle.pg_catalog.specs.declared.fault.CatalogFault.{CatalogFault}
use Rattle.pg_catalog.specs.declared.fault.BuildError.{BuildError}
use Rattle.pg_catalog.specs.Built.{Answers, catalog_after}
use Rattle.pg_catalog.proofs.Steps.{stops, goes_on, ends}
use Rattle.pg_catalog.proofs.building.build.Goals as goal

pub returns-in_err-growing : goal.returns-in_err-growing
returns-in_err-growing c =
    let p = err_from_is_err_and c.from_residual.result c.from_residual.ensures.1 in
    let there = drop-item c.args.parts.now c.loop-part.part-index c.part-item.result c.loop-part-test.true c.part-item.is in
    let e : BuildError = c.in_err-growing.field-0.0 in
    rw (p.1, p.2) (subst (λ (due : Result CatalogParts CatalogFault). Answers due (Err e)) (sym (ap (catalog_after c.loop-part.growing) there) ∙ c.loop-part.invariant)
    (stops c.loop-part.growing c.part-item.result (drop (c.loop-part.part-index + 1) c.args.parts.now) e c.in_err-growing.ensures))

pub loop-part-preserved : goal.loop-part-preserved
loop-part-preserved c =
    let there = drop-item c.args.parts.now c.loop-part.part-index c.part-item.result c.loop-part-test.true c.part-item.is in
    sym (goes_on c.loop-part.growing c.part-item.result (drop (c.loop-part.part-index + 1) c.args.parts.now) c.in_ok-growing.growing c.in_ok-growing.ensures) ∙ sym (ap (catalog_after c.loop-part.growing) there) ∙ c.loop-part.invariant

pub returns : goal.returns
returns c =
    sym c.loop-part.invariant ∙ ap (catalog_after c.loop-part.growing) (drop-past c.args.parts.now c.loop-part.part-index c.loop-part-test.false) ∙ ends c.loop-part.growing ∙ ap (λ (d : CatalogParts). Ok d) (sym c.finish.ensures)
