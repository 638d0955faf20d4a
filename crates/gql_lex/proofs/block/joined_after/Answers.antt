use Rattle.std.proofs.Common.{◌∙◌, ◌++◌, List, ℕ, sym, ap}
use Rattle.gql_lex.specs.Line.{text_at}
use Rattle.gql_lex.proofs.Lines.{joined_one, joined_more}
use Rattle.gql_lex.proofs.block.joined_after.Goals as goal

pub loop-line-init : goal.loop-line-init
loop-line-init c = c.in_ok-extend_from_slice.ensures.items ∙ ap (λ (v : List ℕ). v ++ text_at c.args.text.now c.args.first) c.new-value.ensures.items ∙ sym (joined_one _)

pub loop-line-preserved : goal.loop-line-preserved
loop-line-preserved c = rw c.in_ok-extend_from_slice-2.ensures.items (rw c.in_ok-push.ensures.items (joined_more _ _ _ _ _ _ c.loop-line.invariant c.loop-line-test.true))
