use Rattle.std.proofs.Common.{◌≡◌, ◌∙◌, ℕ, ◌+◌, ◌<◌, ◌∷◌, ◌&&◌, ◌==◌, false, length, get_or, drop, sym, ap, arith, refl}
use borrow.Author.Tests.{ne_eqb}
use Rattle.sql_lex.specs.Value.{unquoted}
use Rattle.sql_lex.proofs.Rests.{begins_with_at}
use Rattle.sql_lex.proofs.Values.{more, whole, unquoted_done, unquoted_ends, unquoted_pair, unquoted_cut, unquoted_mark, unquoted_plain}
use Rattle.sql_lex.proofs.value.unquoted.Goals as goal
use Rattle.sql_lex.proofs.value.unquoted.Goals.{else-escapes-via-then-escapes+else-byte-eq92, else-escapes-via-else-escapes}

pub returns-then-not-stands_at : goal.returns-then-not-stands_at
returns-then-not-stands_at c =
    whole _ _ _ c.value.invariant.same (unquoted_ends _ _ _ _ c.value-test.true c.if-byte-quote.true (sym c.stands_at.ensures ∙ c.if-not-stands_at.true))

pub value-preserved-then-byte-quote : goal.value-preserved-then-byte-quote
value-preserved-then-byte-quote c =
    let again = sym c.stands_at.ensures ∙ c.if-not-stands_at.false in
    record {
      within = omega (arith, begins_with_at c.args.quote c.args.bytes.now (c.value.at + 1) again);
      same = more _ _ _ _ _ _ c.value.invariant.same (unquoted_pair _ _ _ _ c.value-test.true c.if-byte-quote.true again) c.in_ok-push.ensures.items;
    }

pub returns-then-at-bytes : goal.returns-then-at-bytes
returns-then-at-bytes c =
    whole _ _ _ c.value.invariant.same (unquoted_cut _ _ _ _ c.value-test.true c.if-byte-quote.false c.if-escapes.true c.if-byte-eq92.true (omega arith))

pub value-preserved-then-byte-eq92 : goal.value-preserved-then-byte-eq92
value-preserved-then-byte-eq92 c =
    let after : c.value.at + 1 < length c.args.bytes.now = omega arith in
    let mark = unquoted_mark _ _ _ _ c.value-test.true c.if-byte-quote.false c.if-escapes.true c.if-byte-eq92.true after in
    record {
      within = omega arith;
      same = more _ _ _ _ _ _ c.value.invariant.same (mark ∙ ap (λ (b : ℕ). b ∷ unquoted c.args.escapes c.args.quote (drop (c.value.at + 2) c.args.bytes.now)) (sym c.escaped.ensures)) c.in_ok-push-2.ensures.items;
    }

pub value-preserved : goal.value-preserved
value-preserved c =
    let plain : (c.args.escapes && (get_or c.args.bytes.now c.value.at 0 == 92)) ≡ false =
    elim c.else-escapes.branch [
      | else-escapes-via-then-escapes+else-byte-eq92 w ↦ rw (w.if-escapes.true, ne_eqb _ _ w.if-byte-eq92.false) refl
      | else-escapes-via-else-escapes w ↦ rw w.if-escapes.false refl
    ] in
    record {
      within = omega arith;
      same = more _ _ _ _ _ _ c.value.invariant.same (unquoted_plain _ _ _ _ c.value-test.true c.if-byte-quote.false plain) c.in_ok-push-3.ensures.items;
    }

pub returns : goal.returns
returns c = whole _ _ _ c.value.invariant.same (unquoted_done _ _ _ _ c.value-test.false)
