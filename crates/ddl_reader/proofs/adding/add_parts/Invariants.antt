use Rattle.std.proofs.Common.{◌≡◌, drop}
use Rattle.ddl_reader.specs.Script.{with_parts}
use Rattle.ddl_reader.proofs.adding.add_parts.Given as goal

abbrev pub invariant-loop-part : goal.invariant-loop-part
invariant-loop-part l = with_parts l.grown (drop l.part-index l.parts) ≡ with_parts l.fn.catalog l.parts
