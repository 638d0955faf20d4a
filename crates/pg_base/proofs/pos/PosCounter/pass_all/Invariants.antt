use Rattle.std.proofs.Common.{◌≡◌, drop}
use Rattle.pg_base.specs.Pos.{counter_after}
use Rattle.pg_base.proofs.pos.PosCounter.pass_all.Given as goal

abbrev pub invariant-loop-byte : goal.invariant-loop-byte
invariant-loop-byte l = counter_after l.fn.self l.bytes ≡ counter_after l.counter (drop l.byte-index l.bytes)
