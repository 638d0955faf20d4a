use Rattle.std.proofs.Common.{◌∙◌, ◌+◌, ◌<◌, length, sym, arith}
use Rattle.sql_lex.proofs.Rests.{begins_with_pair_at, is_stray, is_unterminated}
use Rattle.sql_lex.proofs.SeparatorSteps.{comment_unterminated, comment_stray, comment_closes, comment_leaves, comment_enters, comment_goes_on}
use Rattle.sql_lex.proofs.separators.comment_end.Goals as goal

pub returns-then-byte-eq0 : goal.returns-then-byte-eq0
returns-then-byte-eq0 c =
    is_stray _ _ _ _ c.stray.ensures c.comment-test.true (c.comment.invariant.same ∙ comment_stray _ _ _ _ c.comment-test.true c.if-byte-eq0.true)

pub returns-then-depth-eq0 : goal.returns-then-depth-eq0
returns-then-depth-eq0 c =
    let closes = sym c.pair_stands_at.ensures ∙ c.if-pair_stands_at.true in
    let within : c.comment.at + 1 < length c.args.text.now = begins_with_pair_at _ _ _ _ closes in
    (omega arith, omega arith, c.comment.invariant.same ∙ comment_closes _ _ _ _ c.comment-test.true c.if-byte-eq0.false closes c.if-depth-eq0.true)

pub comment-preserved-then-pair_stands_at : goal.comment-preserved-then-pair_stands_at
comment-preserved-then-pair_stands_at c =
    let closes = sym c.pair_stands_at.ensures ∙ c.if-pair_stands_at.true in
    let within : c.comment.at + 1 < length c.args.text.now = begins_with_pair_at _ _ _ _ closes in
    record {
      from = omega arith;
      within = omega arith;
      deep = omega arith;
      same = c.comment.invariant.same ∙ comment_leaves _ _ _ _ c.comment-test.true c.if-byte-eq0.false closes c.if-depth-eq0.false;
    }

pub comment-preserved-then-pair_stands_at-2 : goal.comment-preserved-then-pair_stands_at-2
comment-preserved-then-pair_stands_at-2 c =
    let opens = sym c.pair_stands_at-in-comment.ensures ∙ c.if-pair_stands_at-2.true in
    let within : c.comment.at + 1 < length c.args.text.now = begins_with_pair_at _ _ _ _ opens in
    record {
      from = omega arith;
      within = omega arith;
      deep = omega arith;
      same = c.comment.invariant.same ∙ comment_enters _ _ _ _ c.comment-test.true c.if-byte-eq0.false (sym c.pair_stands_at.ensures ∙ c.if-pair_stands_at.false) opens;
    }

pub comment-preserved : goal.comment-preserved
comment-preserved c = record {
  from = omega arith;
  within = omega arith;
  deep = omega arith;
  same = c.comment.invariant.same ∙ comment_goes_on _ _ _ _ c.comment-test.true c.if-byte-eq0.false (sym c.pair_stands_at.ensures ∙ c.if-pair_stands_at.false) (sym c.pair_stands_at-in-comment.ensures ∙ c.if-pair_stands_at-2.false);
}

pub returns : goal.returns
returns c = is_unterminated _ _ _ _ _ c.unterminated.ensures (omega arith) (c.comment.invariant.same ∙ comment_unterminated _ _ _ _ c.comment-test.false)
