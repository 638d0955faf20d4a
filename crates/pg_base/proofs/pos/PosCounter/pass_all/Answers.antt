use Rattle.std.proofs.Common.{◌∙◌, sym}
use Rattle.pg_base.proofs.PosCounters.{counter_after-drop, counter_after-end}
use Rattle.pg_base.proofs.pos.PosCounter.pass_all.Goals as goal

pub loop-byte-preserved : goal.loop-byte-preserved
loop-byte-preserved c = rw c.pass-counter.ensures (c.loop-byte.invariant ∙ counter_after-drop _ _ _ c.loop-byte-test.true)

pub returns : goal.returns
returns c = sym (c.loop-byte.invariant ∙ counter_after-end _ _ _ c.loop-byte-test.false)
