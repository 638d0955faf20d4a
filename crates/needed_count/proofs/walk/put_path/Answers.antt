use Rattle.std.proofs.Common.{Bool, ap, ◌∙◌}
use Rattle.std.specs.List.{position_or_len}
use Rattle.std.specs.Cmp.Lexicographic.{pointwise}
use Rattle.indexmap.specs.IndexSet.{insert_key}
use Rattle.needed_count.specs.declared.words.Word.{Word}
use Rattle.needed_count.proofs.SameTests.{words_are}
use Rattle.needed_count.proofs.walk.put_path.Goals as goal

pub returns-clause-number : goal.returns-clause-number
returns-clause-number c =
    c.in_ok-number.ensures.index ∙ ap (λ (test : Word → Word → Bool). position_or_len (pointwise test c.args.key) c.args.paths.now.keys) words_are

pub returns-clause-paths : goal.returns-clause-paths
returns-clause-paths c = c.in_ok-number.ensures.keys ∙ ap (λ (test : Word → Word → Bool). insert_key (pointwise test) c.args.paths.now.keys c.args.key) words_are
