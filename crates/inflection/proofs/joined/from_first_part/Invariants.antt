-- only `_`s were passed
use Rattle.std.proofs.Common.{◌≡◌, drop}
use Rattle.name_rules.specs.Joined.{field_joined}
use Rattle.inflection.proofs.joined.from_first_part.Given as goal

abbrev pub invariant-loop-at : goal.invariant-loop-at
invariant-loop-at l = field_joined (drop l.at l.name) ≡ field_joined l.name
