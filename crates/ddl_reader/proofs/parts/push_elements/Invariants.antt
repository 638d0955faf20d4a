use Rattle.std.proofs.Common.{◌≡◌, ◌++◌, drop}
use Rattle.ddl_reader.specs.Parts.{constraints_in}
use Rattle.ddl_reader.proofs.parts.push_elements.Given as goal

abbrev pub invariant-loop-element : goal.invariant-loop-element
invariant-loop-element l =
    l.parts ++ constraints_in l.table (drop l.element-index l.elements)
    ≡ l.fn.parts ++ constraints_in l.table l.elements
