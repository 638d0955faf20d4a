use Rattle.std.proofs.Common.{take}
use Rattle.pg_io.proofs.ByName.{NoneNamed}
use Rattle.pg_io.proofs.counts.place_of.Given as goal

abbrev pub invariant-loop-place : goal.invariant-loop-place
invariant-loop-place l = NoneNamed (take l.place l.counts) l.name
