use Rattle.std.proofs.Common.{◌≡◌, ◌∷◌, take}
use Rattle.gql_lex.specs.Block.{joined}
use Rattle.gql_lex.specs.Line.{text_at, texts}
use Rattle.gql_lex.proofs.block.joined_after.Given as goal

abbrev pub invariant-loop-line : goal.invariant-loop-line
invariant-loop-line l = l.value.items ≡ joined (text_at l.text l.fn.first ∷ texts l.text (take l.line-index l.others))
