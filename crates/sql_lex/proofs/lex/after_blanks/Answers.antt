use Rattle.std.proofs.Common.{◌∙◌, get_or, refl, sym, ap, arith}
use Rattle.pg_base.specs.declared.pos.PosCounter.{PosCounter}
use Rattle.pg_base.specs.Pos.{passed}
use Rattle.sql_lex.proofs.PlainTokens.{first_token-blank, place_more}
use Rattle.sql_lex.proofs.lex.after_blanks.Goals as goal

pub blanks-init : goal.blanks-init
blanks-init c = record { from = omega arith; within = c.requires.within; place = c.requires.place; same = refl }

pub blanks-preserved : goal.blanks-preserved
blanks-preserved c = record {
  from = omega arith;
  within = omega arith;
  place = c.pass-counter.ensures ∙ ap (λ (p : PosCounter). passed p (get_or c.args.text.now c.blanks.at 0)) c.blanks.invariant.place ∙ place_more c.args.text.now c.blanks.at c.blanks-test.true;
  same = c.blanks.invariant.same ∙ first_token-blank c.args.text.now c.blanks.at c.blanks-test.true (sym c.is_blank.ensures ∙ c.if-not-is_blank.false);
}
