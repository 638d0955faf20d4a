use Rattle.std.proofs.Common.{◌≡◌, List, Bool, ap, ◌∙◌, rules}
use Rattle.std.specs.Prelude.{not}
use Rattle.std.specs.List.{list_any, position_or_len}
use Rattle.std.specs.Cmp.Lexicographic.{pointwise}
use Rattle.indexmap.specs.IndexSet.{insert_key}
use Rattle.dedupe_steps.specs.declared.words.Word.{Word}
use Rattle.dedupe_steps.proofs.SameWords.{tests_are}
use Rattle.dedupe_steps.proofs.numbering.put_key.Goals as goal

pub returns-clause-number : goal.returns-clause-number
returns-clause-number c =
    let e : c.in-Ok.number ≡ c.in_ok-place.place = search rules in
    e ∙ c.in_ok-place.ensures.index ∙ ap (λ (test : Word → Word → Bool). position_or_len (pointwise test c.args.key) c.args.keys.now.keys) tests_are

pub returns-clause-new : goal.returns-clause-new
returns-clause-new c = c.in_ok-place.ensures.added ∙ ap (λ (test : Word → Word → Bool). not (list_any (pointwise test c.args.key) c.args.keys.now.keys)) tests_are

pub returns-clause-keys : goal.returns-clause-keys
returns-clause-keys c = c.in_ok-place.ensures.keys ∙ ap (λ (test : Word → Word → Bool). insert_key (pointwise test) c.args.keys.now.keys c.args.key) tests_are
