use Rattle.std.proofs.Common.{◌≡◌, pos, false, get_or, rules}
use Rattle.row_tables.specs.Rows as spec
use Rattle.row_tables.proofs.Kept.{raised_turn}
use Rattle.row_tables.proofs.table.raise_all.Goals as goal

pub loop-i-preserved : goal.loop-i-preserved
loop-i-preserved c =
    let is : c.raised.result ≡ spec.raised (get_or c.args.identities.now c.loop-i.i false) (get_or c.args.counters.now c.loop-i.i (pos 0)) c.index-cells-i.result = search rules in
    raised_turn c.args.identities.now c.args.counters.now c.args.cells.now c.loop-i.i c.index-cells-i.result c.raised.result _ _ _ c.loop-i.invariant c.loop-i-test.true c.requires.counters c.requires.cells c.index-cells-i.is is (search rules)
