use Rattle.std.proofs.Common.{◌≡◌, ◌-◌, ◌≤◌, length, take, Ok}
use Rattle.pg_io.proofs.streams.write_all.Given as goal
use Rattle.pg_io.specs.Streams.{Delivers}

abbrev pub invariant-pieces : goal.invariant-pieces
invariant-pieces g l = record {
  within : l.at ≤ length l.bytes;
  given : Delivers (g.K.Sink.taken l.fn.sink) (g.K.Sink.taken l.sink) (Ok l.at) (take l.at l.bytes);
  same : g.K.Sink.faults l.sink ≡ g.K.Sink.faults l.fn.sink;
}

abbrev pub decreases-pieces : goal.decreases-pieces
decreases-pieces g l = length l.bytes - l.at
