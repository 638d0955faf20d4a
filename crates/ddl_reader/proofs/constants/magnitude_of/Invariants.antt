use Rattle.std.proofs.Common.{◌≡◌, ◌≤◌, drop}
use Rattle.ddl_reader.specs.Parts.{magnitude, magnitude_after, past_integers}
use Rattle.ddl_reader.proofs.constants.magnitude_of.Given as goal

abbrev pub invariant-loop-digit : goal.invariant-loop-digit
invariant-loop-digit l = record {
  same : magnitude_after l.number (drop l.digit-index l.digits) ≡ magnitude l.digits;
  small : l.number ≤ past_integers;
}
