use Rattle.std.proofs.Common.{IsUtf8, sym, ap, subst, ◌∙◌}
use Rattle.name_rules.specs.Inflection.{singular_of}
use Rattle.name_rules.proofs.Endings.{IsUtf8-singular_of}
use Rattle.inflection.proofs.singular.Goals as goal

pub of_bytes-requires : goal.of_bytes-requires
of_bytes-requires c = subst IsUtf8 (sym (c.in_ok-bytes.ensures ∙ ap singular_of c.as_bytes.ensures.value)) (IsUtf8-singular_of c.args.word.now c.utf8.word)
