use Rattle.std.proofs.Common.{List, sym, ap, ◌∙◌}
use Rattle.std.proofs.lemmas.Result.{err_from_is_err_and}
use Rattle.pg_base.proofs.ListSteps.{drop-past}
use Rattle.pg_catalog.specs.declared.part.Part.{Part}
use Rattle.ddl_reader.specs.Script.{with_parts}
use Rattle.ddl_reader.proofs.WithParts.{part_added, part_stops, with_none}
use Rattle.ddl_reader.proofs.adding.add_parts.Goals as goal

pub returns-in_err-grown : goal.returns-in_err-grown
returns-in_err-grown c =
    let l = c.loop-part in
    let p = err_from_is_err_and c.from_residual.result c.from_residual.ensures.1 in
    rw (p.1, p.2) (part_stops c.args.catalog l.grown c.args.parts.now (with_parts c.args.catalog c.args.parts.now) l.part-index c.part-item.result c.loop-part-test.true c.part-item.is l.invariant c.in_err-grown.field-0.0 c.in_err-grown.ensures)

pub loop-part-preserved : goal.loop-part-preserved
loop-part-preserved c =
    let l = c.loop-part in
    part_added c.args.catalog l.grown c.args.parts.now (with_parts c.args.catalog c.args.parts.now) l.part-index c.part-item.result c.loop-part-test.true c.part-item.is l.invariant c.in_ok-grown.grown c.in_ok-grown.ensures

pub returns : goal.returns
returns c =
    let l = c.loop-part in
    sym l.invariant ∙ ap (λ (parts : List Part). with_parts l.grown parts) (drop-past c.args.parts.now l.part-index c.loop-part-test.false) ∙ with_none l.grown
