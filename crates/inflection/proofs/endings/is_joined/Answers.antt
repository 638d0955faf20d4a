use Rattle.std.proofs.Common.{◌≡◌, ◌++◌, ◌∙◌, Some, None, sym, ap}
use Rattle.std.specs.Str.{bytes_eq}
use Rattle.std.proofs.lemmas.Slice.Eq.{strip_prefix_is}
use Rattle.std.proofs.lemmas.Bool.Decides.{Decides-eqb}
use Rattle.inflection.proofs.Tables.{bytes_eq_after, bytes_eq_apart}
use Rattle.inflection.proofs.endings.is_joined.Goals as goal

pub returns-in-Some : goal.returns-in-Some
returns-in-Some c =
    let front = c.args.front.now in
    let end = c.args.end.now in
    let split : c.args.word.now ≡ front ++ c.in-Some.rest.now = strip_prefix_is Decides-eqb c.args.word.now front (Some c.in-Some.rest) c.in-Some.ensures.cases in
    c.eq.ensures ∙ sym (bytes_eq_after front c.in-Some.rest.now end) ∙ ap (λ w. bytes_eq w (front ++ end)) (sym split)

pub returns-in-None : goal.returns-in-None
returns-in-None c = sym (bytes_eq_apart c.args.word.now _ (strip_prefix_is Decides-eqb c.args.word.now c.args.front.now None c.in-None.ensures.cases c.args.end.now))
