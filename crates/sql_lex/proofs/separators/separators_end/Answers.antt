use Rattle.std.proofs.Common.{◌∙◌, sym, arith}
use Rattle.std.proofs.lemmas.Result.{err_from_is_err_and}
use Rattle.sql_lex.proofs.Rests.{begins_with_pair_at}
use Rattle.sql_lex.proofs.SeparatorSteps.{separators_done, separators_blank, separators_line, separators_comment, separators_end}
use Rattle.sql_lex.proofs.separators.separators_end.Goals as goal

pub separators-preserved-then-is_blank : goal.separators-preserved-then-is_blank
separators-preserved-then-is_blank c = record {
  from = omega arith;
  within = omega arith;
  same = c.separators.invariant.same ∙ separators_blank _ _ c.separators-test.true (sym c.is_blank.ensures ∙ c.if-is_blank.true);
}

pub line_end-requires : goal.line_end-requires
line_end-requires c = omega (arith, begins_with_pair_at 45 45 c.args.text.now c.separators.at (sym c.pair_stands_at.ensures ∙ c.if-pair_stands_at.true))

pub returns-in_err-at : goal.returns-in_err-at
returns-in_err-at c =
    let p = err_from_is_err_and c.from_residual.result c.from_residual.ensures.1 in
    let line = separators_line _ _ c.separators-test.true (sym c.is_blank.ensures ∙ c.if-is_blank.false) (sym c.pair_stands_at.ensures ∙ c.if-pair_stands_at.true) in
    rw (p.1, p.2) (c.in_err-at.ensures.0, c.separators.invariant.same ∙ line ∙ c.in_err-at.ensures.1)

pub separators-preserved-then-pair_stands_at : goal.separators-preserved-then-pair_stands_at
separators-preserved-then-pair_stands_at c =
    let line = separators_line _ _ c.separators-test.true (sym c.is_blank.ensures ∙ c.if-is_blank.false) (sym c.pair_stands_at.ensures ∙ c.if-pair_stands_at.true) in
    record {
      from = omega (arith, c.in_ok-at.ensures.0);
      within = c.in_ok-at.ensures.1;
      same = c.separators.invariant.same ∙ line ∙ c.in_ok-at.ensures.2;
    }

pub comment_end-requires : goal.comment_end-requires
comment_end-requires c = omega (arith, begins_with_pair_at 47 42 c.args.text.now c.separators.at (sym c.pair_stands_at-in-separators.ensures ∙ c.if-pair_stands_at-2.true))

pub returns-in_err-at-2 : goal.returns-in_err-at-2
returns-in_err-at-2 c =
    let p = err_from_is_err_and c.from_residual-in_err-at-2.result c.from_residual-in_err-at-2.ensures.1 in
    let comment = separators_comment _ _ c.separators-test.true (sym c.is_blank.ensures ∙ c.if-is_blank.false) (sym c.pair_stands_at.ensures ∙ c.if-pair_stands_at.false) (sym c.pair_stands_at-in-separators.ensures ∙ c.if-pair_stands_at-2.true) in
    rw (p.1, p.2) (c.in_err-at-2.ensures.0, c.separators.invariant.same ∙ comment ∙ c.in_err-at-2.ensures.1)

pub separators-smaller : goal.separators-smaller
separators-smaller c = omega (arith, c.in_ok-at-2.ensures.0, c.in_ok-at-2.ensures.1)

pub separators-preserved : goal.separators-preserved
separators-preserved c =
    let comment = separators_comment _ _ c.separators-test.true (sym c.is_blank.ensures ∙ c.if-is_blank.false) (sym c.pair_stands_at.ensures ∙ c.if-pair_stands_at.false) (sym c.pair_stands_at-in-separators.ensures ∙ c.if-pair_stands_at-2.true) in
    record {
      from = omega (arith, c.in_ok-at-2.ensures.0);
      within = c.in_ok-at-2.ensures.1;
      same = c.separators.invariant.same ∙ comment ∙ c.in_ok-at-2.ensures.2;
    }

pub returns-in-separators : goal.returns-in-separators
returns-in-separators c = (
  c.separators.invariant.from,
  c.separators.invariant.within,
  c.separators.invariant.same ∙ separators_end _ _ c.separators-test.true (sym c.is_blank.ensures ∙ c.if-is_blank.false) (sym c.pair_stands_at.ensures ∙ c.if-pair_stands_at.false) (sym c.pair_stands_at-in-separators.ensures ∙ c.if-pair_stands_at-2.false),
)

pub returns : goal.returns
returns c = (c.separators.invariant.from, c.separators.invariant.within, c.separators.invariant.same ∙ separators_done _ _ c.separators-test.false)
