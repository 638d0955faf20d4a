use Rattle.std.proofs.Common.{List, ℕ, subst}
use Rattle.pg_io.specs.Streams.{Delivers}
use Rattle.graphile_prog.proofs.telling.tell_line.Goals as goal

pub returns-clause-line : goal.returns-clause-line
returns-clause-line g c = record {
  outcome = c.write_all.result;
  taken = subst (λ (l : List ℕ). Delivers (g.K.Sink.taken c.args.sink.now) (g.K.Sink.taken c.write_all.new.sink) c.write_all.result l) c.requires c.write_all.ensures.bytes;
  cause = c.write_all.ensures.cause;
}
