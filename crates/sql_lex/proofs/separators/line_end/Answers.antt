use Rattle.std.proofs.Common.{◌∙◌, sym, arith}
use Rattle.sql_lex.proofs.Rests.{is_stray}
use Rattle.sql_lex.proofs.SeparatorSteps.{line_done, line_ends, line_stray, line_goes_on}
use Rattle.sql_lex.proofs.separators.line_end.Goals as goal

pub returns-then-is_line_end : goal.returns-then-is_line_end
returns-then-is_line_end c =
    (omega arith, omega arith, c.line.invariant.same ∙ line_ends _ _ c.line-test.true (sym c.is_line_end.ensures ∙ c.if-is_line_end.true))

pub returns-then-byte-eq0 : goal.returns-then-byte-eq0
returns-then-byte-eq0 c =
    is_stray _ _ _ _ c.stray.ensures c.line-test.true (c.line.invariant.same ∙ line_stray _ _ c.line-test.true (sym c.is_line_end.ensures ∙ c.if-is_line_end.false) c.if-byte-eq0.true)

pub line-preserved : goal.line-preserved
line-preserved c = record {
  from = omega arith;
  within = omega arith;
  same = c.line.invariant.same ∙ line_goes_on _ _ c.line-test.true (sym c.is_line_end.ensures ∙ c.if-is_line_end.false) c.if-byte-eq0.false;
}

pub returns : goal.returns
returns c = (c.line.invariant.from, c.line.invariant.within, c.line.invariant.same ∙ line_done _ _ c.line-test.false)
