use Rattle.pg_base.specs.Pos.{counter_after}
use Rattle.ddl_reader.proofs.text_tokens.TextTokens.new.Goals as goal

pub tokens_from-requires-clause-place : goal.tokens_from-requires-clause-place
unfolding counter_after
tokens_from-requires-clause-place c = c.start.ensures
