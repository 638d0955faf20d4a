use Rattle.std.proofs.Common.{Bool, ap, ◌∙◌, rules}
use Rattle.std.specs.Cmp.Lexicographic.{pointwise}
use Rattle.pg_base.specs.declared.cell.Cell.{Cell}
use Rattle.rows_reader.proofs.SameCells.{tests_are}
use Rattle.rows_reader.proofs.ScanTurns.{finds, goes_on}
use Rattle.rows_reader.proofs.index.scan.Goals as goal

pub returns-then-eq : goal.returns-then-eq
returns-then-eq c =
    let same = c.if-eq.ensures ∙ ap (λ (test : Cell → Cell → Bool). pointwise test c.args.key.now c.in_ok-other.other) tests_are in
    finds c.args.places.now c.args.rows.now c.args.key.now c.in_ok-other.other c.loop-row.row-index c.row-item.result c.loop-row-test.true c.row-item.is (search rules) _ c.loop-row.invariant same

pub loop-row-preserved : goal.loop-row-preserved
loop-row-preserved c =
    let same = c.if-eq.ensures ∙ ap (λ (test : Cell → Cell → Bool). pointwise test c.args.key.now c.in_ok-other.other) tests_are in
    goes_on c.args.places.now c.args.rows.now c.args.key.now c.in_ok-other.other c.loop-row.row-index c.row-item.result c.loop-row-test.true c.row-item.is (search rules) _ c.loop-row.invariant same
