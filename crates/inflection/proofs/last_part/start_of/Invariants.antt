-- from `start` to `end` stands no `_`
use Rattle.std.proofs.Common.{◌≡◌, ◌+◌, ◌≤◌, not, take}
use Rattle.std.specs.List.{suffix_len}
use Rattle.name_rules.specs.Parts.{is_underscore}
use Rattle.inflection.proofs.last_part.start_of.Given as goal

abbrev pub invariant-loop-start : goal.invariant-loop-start
invariant-loop-start l =
    (l.start ≤ l.end)
    × (l.start + suffix_len (λ c. not (is_underscore c)) (take l.end l.name) ≡ l.end + suffix_len (λ c. not (is_underscore c)) (take l.start l.name))

abbrev pub decreases-loop-start : goal.decreases-loop-start
decreases-loop-start l = l.start
