use Rattle.std.proofs.Common.{◌≡◌, ◌++◌, drop}
use Rattle.ddl_reader.specs.Parts.{columns_in}
use Rattle.ddl_reader.proofs.parts.columns_in.Given as goal

abbrev pub invariant-loop-element : goal.invariant-loop-element
invariant-loop-element l = l.columns ++ columns_in (drop l.element-index l.elements) ≡ columns_in l.elements
