use Rattle.std.proofs.Common.{◌∙◌, ◌+◌, sym, arith, refl}
use borrow.Author.Tests.{ne_eqb}
use Rattle.sql_lex.proofs.Rests.{begins_with_at, begins_escape_at, is_stray, is_unterminated}
use Rattle.sql_lex.proofs.QuotedSteps.{quoted_unterminated, quoted_stray, quoted_ends, quoted_pair, quoted_escape_stray, quoted_escape, quoted_plain}
use Rattle.sql_lex.proofs.quoted.quoted_end.Goals as goal
use Rattle.sql_lex.proofs.quoted.quoted_end.Goals.{else-escapes-via-then-escapes+else-byte-eq92, else-escapes-via-else-escapes}

pub returns-then-byte-eq0 : goal.returns-then-byte-eq0
returns-then-byte-eq0 c =
    is_stray _ _ _ _ c.stray.ensures c.quoted-test.true (c.quoted.invariant.same ∙ quoted_stray _ _ _ _ _ c.quoted-test.true c.if-byte-eq0.true)

pub returns-then-not-stands_at : goal.returns-then-not-stands_at
returns-then-not-stands_at c =
    (omega arith, omega arith, c.quoted.invariant.same ∙ quoted_ends _ _ _ _ _ c.quoted-test.true c.if-byte-eq0.false c.if-byte-quote.true (sym c.stands_at.ensures ∙ c.if-not-stands_at.true))

pub quoted-preserved-then-byte-quote : goal.quoted-preserved-then-byte-quote
quoted-preserved-then-byte-quote c =
    let again = sym c.stands_at.ensures ∙ c.if-not-stands_at.false in
    record {
      from = omega arith;
      within = omega (arith, begins_with_at c.args.quote c.args.text.now (c.quoted.at + 1) again);
      same = c.quoted.invariant.same ∙ quoted_pair _ _ _ _ _ c.quoted-test.true c.if-byte-eq0.false c.if-byte-quote.true again;
    }

pub returns-then-not-is_escape_at : goal.returns-then-not-is_escape_at
returns-then-not-is_escape_at c =
    is_stray _ _ _ _ c.stray-then-not-is_escape_at.ensures c.quoted-test.true
    (c.quoted.invariant.same ∙ quoted_escape_stray _ _ _ _ _ c.quoted-test.true c.if-byte-eq0.false c.if-byte-quote.false c.if-escapes.true c.if-byte-eq92.true (sym c.is_escape_at.ensures ∙ c.if-not-is_escape_at.true))

pub quoted-preserved-then-byte-eq92 : goal.quoted-preserved-then-byte-eq92
quoted-preserved-then-byte-eq92 c =
    let escape = sym c.is_escape_at.ensures ∙ c.if-not-is_escape_at.false in
    record {
      from = omega arith;
      within = omega (arith, begins_escape_at c.args.text.now (c.quoted.at + 1) escape);
      same = c.quoted.invariant.same ∙ quoted_escape _ _ _ _ _ c.quoted-test.true c.if-byte-eq0.false c.if-byte-quote.false c.if-escapes.true c.if-byte-eq92.true escape;
    }

pub quoted-preserved : goal.quoted-preserved
quoted-preserved c = record {
  from = omega arith;
  within = omega arith;
  same = c.quoted.invariant.same ∙ quoted_plain _ _ _ _ _ c.quoted-test.true c.if-byte-eq0.false c.if-byte-quote.false
      (elim c.else-escapes.branch [
        | else-escapes-via-then-escapes+else-byte-eq92 w ↦ rw (w.if-escapes.true, ne_eqb _ _ w.if-byte-eq92.false) refl
        | else-escapes-via-else-escapes w ↦ rw w.if-escapes.false refl
      ]);
}

pub returns : goal.returns
returns c = is_unterminated _ _ _ _ _ c.unterminated.ensures c.requires.whole (c.quoted.invariant.same ∙ quoted_unterminated _ _ _ _ _ c.quoted-test.false)
