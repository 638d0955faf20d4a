use Rattle.std.proofs.Common.{sym, subst, []}
use Rattle.std.specs.Str.{IsUtf8}
use Rattle.sql_lex.proofs.Values.{IsUtf8-unquoted}
use Rattle.sql_lex.proofs.value.unquoted_text.Goals as goal

pub of_bytes-requires : goal.of_bytes-requires
of_bytes-requires c = subst IsUtf8 (sym c.in_ok-unquoted.ensures) (IsUtf8-unquoted c.args.escapes c.args.quote c.requires.ascii c.args.bytes.now [] c.requires.text)
