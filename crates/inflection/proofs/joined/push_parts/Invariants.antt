-- what is written and what is due of the rest are the whole
use Rattle.std.proofs.Common.{◌≡◌, ◌++◌, drop}
use Rattle.name_rules.specs.Joined.{joined}
use Rattle.inflection.proofs.joined.push_parts.Given as goal

abbrev pub invariant-loop-byte : goal.invariant-loop-byte
invariant-loop-byte l = l.bytes.items ++ joined l.begins (drop l.byte-index l.name) ≡ l.initial.bytes.items ++ joined l.initial.begins l.name
