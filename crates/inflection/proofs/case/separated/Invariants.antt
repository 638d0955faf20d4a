-- what is written and what is due of the rest are the whole
use Rattle.std.proofs.Common.{◌≡◌, ◌++◌, drop, length, map}
use Rattle.std.specs.Char.{to_ascii_uppercase}
use Rattle.std.specs.Str.{chars}
use Rattle.name_rules.specs.Names.{name_character, separated_after}
use Rattle.inflection.proofs.case.separated.Given as goal

abbrev pub invariant-loop-character : goal.invariant-loop-character
invariant-loop-character l =
    l.bytes.items ++ map to_ascii_uppercase (separated_after l.before (map name_character (drop (length l.yielded) (chars l.label))))
    ≡ map to_ascii_uppercase (separated_after 95 (map name_character (chars l.label)))
