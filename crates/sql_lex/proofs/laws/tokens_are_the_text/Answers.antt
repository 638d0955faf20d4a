use Rattle.std.proofs.Common.{arith}
use Rattle.sql_lex.proofs.Lists.{whole_from, separated_from, one_list}
use Rattle.sql_lex.proofs.laws.tokens_are_the_text.Goals as goal

pub returns : goal.returns
returns c = record {
  whole = λ text tokens all. whole_from text 0 tokens (omega arith) all;
  separated = λ text tokens all. separated_from text 0 tokens (omega arith) all;
  one = λ text tokens others all other. one_list text 0 tokens others all other;
}
