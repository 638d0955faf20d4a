use Rattle.std.proofs.Common.{◌≡◌, ◌≤◌, drop}
use Rattle.ddl_reader.specs.Trees.{decimal, decimal_after, too_great}
use Rattle.ddl_reader.proofs.types.length_of.Given as goal

abbrev pub invariant-loop-digit : goal.invariant-loop-digit
invariant-loop-digit l = record {
  same : decimal_after l.number (drop l.digit-index l.digits) ≡ decimal l.digits;
  small : l.number ≤ too_great;
}
