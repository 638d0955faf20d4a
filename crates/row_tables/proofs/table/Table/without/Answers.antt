use Rattle.std.proofs.Common.{◌≡◌, length, ap, sym, ◌∙◌, subst, rules}
use Rattle.rel_model.specs.Tables.{AreNumbered}
use Rattle.rel_model.proofs.Rising.{numbered_rise}
use Rattle.row_tables.proofs.Kept.{numbered_left}
use Rattle.row_tables.proofs.table.Table.without.Goals as goal

pub leave_out-requires : goal.leave_out-requires
leave_out-requires c = numbered_rise 1 c.self.inside.next_number c.self.inside.rows c.self.invariant.numbers

pub invariant_of-result : goal.invariant_of-result
invariant_of-result c = record {
  next = c.self.invariant.next;
  numbers = subst (AreNumbered 1 c.self.inside.next_number) (sym c.in_ok-rows.ensures) (numbered_left c.args.number 1 c.self.inside.next_number c.self.inside.rows c.self.invariant.numbers);
  counters =
      let same : c.in_ok-counters.counters ≡ c.self.inside.counters = search rules in
      ap length same ∙ c.self.invariant.counters ∙ ap (λ k. length k.identities) (sym c.in_ok-kept.ensures);
}
