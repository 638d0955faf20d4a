use Rattle.std.proofs.Common.{refl, length, Bor}
use Rattle.std.proofs.lemmas.Option.{slice_get_read}
use Rattle.rel_model.specs.declared.tables.Row.{Row}
use Rattle.list_execution.proofs.Windowed.{copied_goes}
use Rattle.list_execution.proofs.finding.copies.Goals as goal

pub loop-i-preserved : goal.loop-i-preserved
loop-i-preserved c =
    let at = slice_get_read c.args.rows.now (length c.args.rows.now) c.loop-i.i c.in-Some.row.now refl c.in-Some.ensures.lookup.3.0 c.in-Some.ensures.lookup.1 in
    copied_goes c.args.rows.now (λ (r : Bor Row). r.now) c.loop-i.copies _ c.loop-i.i c.args.upto c.loop-i.invariant
    c.in-Some.row.now c.in_ok-copy_row.field-0 c.push.new.self c.loop-i-test.true at c.in_ok-copy_row.ensures c.in_ok-push.ensures.ok
