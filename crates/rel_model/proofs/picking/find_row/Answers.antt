use Rattle.std.proofs.Common.{◌+◌, ◌/◌, length, ap, ◌∙◌, sym, subst, rules}
use Rattle.rel_model.specs.Picked.{row_numbered, AreRising}
use Rattle.rel_model.proofs.Rising.{rising_drop, rising_take, number_here, number_after, number_before, half_below}
use Rattle.std.proofs.lemmas.List.{take_rest}
use Rattle.rel_model.proofs.picking.find_row.Goals as goal

pub returns-then-row-number : goal.returns-then-row-number
returns-then-row-number c =
    sym (number_here c.rest.rest.now _ c.args.number c.index-rest-middle.result c.rest.invariant.rising (half_below c.rest.rest.now (search rules)) c.index-rest-middle.is c.if-row-number.true) ∙ c.rest.invariant.found

pub rest-preserved-then-row-number-2 : goal.rest-preserved-then-row-number-2
rest-preserved-then-row-number-2 c =
    let e = take_rest c.rest.rest.now (length c.rest.rest.now / 2 + 1) in
    record {
      found = ap (λ l. row_numbered l c.args.number) e ∙ number_after c.rest.rest.now _ c.args.number c.index-rest-middle.result c.rest.invariant.rising (half_below c.rest.rest.now (search rules)) c.index-rest-middle.is c.if-row-number-2.true ∙ c.rest.invariant.found;
      rising = subst AreRising (sym e) (rising_drop (length c.rest.rest.now / 2 + 1) c.rest.rest.now c.rest.invariant.rising);
      within = search rules;
    }

pub rest-preserved : goal.rest-preserved
rest-preserved c =
    record {
      found = number_before c.rest.rest.now _ c.args.number c.index-rest-middle.result c.rest.invariant.rising (half_below c.rest.rest.now (search rules)) c.index-rest-middle.is c.if-row-number.false c.if-row-number-2.false ∙ c.rest.invariant.found;
      rising = rising_take (length c.rest.rest.now / 2) c.rest.rest.now c.rest.invariant.rising;
      within = search rules;
    }
