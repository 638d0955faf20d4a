-- past `end` stand `_`s alone
use Rattle.std.proofs.Common.{◌≡◌, ◌+◌, ◌≤◌, length, take}
use Rattle.std.specs.List.{suffix_len}
use Rattle.name_rules.specs.Parts.{is_underscore}
use Rattle.inflection.proofs.last_part.end_of.Given as goal

abbrev pub invariant-loop-end : goal.invariant-loop-end
invariant-loop-end l = (l.end ≤ length l.name) × (l.end + suffix_len is_underscore l.name ≡ length l.name + suffix_len is_underscore (take l.end l.name))

abbrev pub decreases-loop-end : goal.decreases-loop-end
decreases-loop-end l = l.end
