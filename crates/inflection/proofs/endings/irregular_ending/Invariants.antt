-- what the entries that are left give is what all give
use Rattle.std.proofs.Common.{◌≡◌, drop, map}
use Rattle.inflection.specs.Number.{irregular_of}
use Rattle.inflection.specs.Views.{irregular_view}
use Rattle.inflection.proofs.endings.irregular_ending.Given as goal

abbrev pub invariant-loop-entry : goal.invariant-loop-entry
invariant-loop-entry l =
    irregular_of l.number l.word (map irregular_view (drop l.entry-index l.words)) ≡ irregular_of l.number l.word (map irregular_view l.words)
