use Rattle.std.proofs.Common.{◌≡◌, ◌-◌}
use Rattle.ddl_reader.specs.Script.{progress, statements, read}
use Rattle.ddl_reader.proofs.reading.read_statements.Given as goal

abbrev pub invariant-loop-turn : goal.invariant-loop-turn
invariant-loop-turn l = statements (l._turn-end - l._turn) (progress l.catalog l.inserts l.rows) l.tokens ≡ read l.bytes
