use Rattle.std.proofs.Common.{◌∙◌, sym, ap, subst, map, []}
use Rattle.std.specs.Char.{to_ascii_lowercase}
use Rattle.std.specs.Str.{IsUtf8}
use Rattle.sql_lex.proofs.Known.{IsUtf8-spelling}
use Rattle.sql_lex.proofs.Values.{IsUtf8-folded}
use Rattle.sql_lex.proofs.value.word_text.Goals as goal

pub of_bytes-requires : goal.of_bytes-requires
of_bytes-requires c =
    let folded = c.in_ok-folded.ensures ∙ ap (map to_ascii_lowercase) c.spelling_of-spelling.ensures in
    subst IsUtf8 (sym folded) (IsUtf8-folded _ [] (IsUtf8-spelling c.args.text.now c.args.token c.requires.token))
