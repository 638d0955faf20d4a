use Rattle.sql_lex.proofs.Known.{IsUtf8-spelling}
use Rattle.ddl_reader.proofs.text_tokens.spelled.Goals as goal

pub of_bytes-requires : goal.of_bytes-requires
of_bytes-requires c = rw c.in_ok-copy.ensures (IsUtf8-spelling c.args.bytes.now c.args.token c.requires)
