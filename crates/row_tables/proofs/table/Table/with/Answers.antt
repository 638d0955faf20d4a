use Rattle.std.proofs.Common.{◌≡◌, ◌≤◌, length, None, ap, sym, ◌∙◌, subst, rules}
use Rattle.rel_model.specs.Tables.{AreNumbered}
use Rattle.rel_model.specs.Picked.{row_numbered}
use Rattle.rel_model.proofs.Rising.{numbered_rise}
use Rattle.row_tables.specs.Rows.{next_above, all_raised}
use Rattle.row_tables.specs.Set.{TableParts}
use Rattle.row_tables.proofs.Kept.{numbered_put, next_some, length-raised}
use Rattle.row_tables.proofs.table.Table.with.Goals as goal

pub put_row-requires : goal.put_row-requires
put_row-requires c = numbered_rise 1 c.self.inside.next_number c.self.inside.rows c.self.invariant.numbers

pub invariant_of-result : goal.invariant_of-result
invariant_of-result c =
    let rows = c.self.inside.rows in
    let next = c.self.inside.next_number in
    let row = c.args.row in
    let view : c.args.self.now ≡ record { list = record { rows = rows; next_number = next; counters = c.self.inside.counters }; kept = c.self.inside.kept } = search rules in
    let free : row_numbered rows row.number ≡ None → next ≤ row.number =
    subst (λ (t : TableParts). row_numbered t.list.rows row.number ≡ None → t.list.next_number ≤ row.number) view c.requires.place in
    let wide : length row.cells ≡ length c.self.inside.kept.identities = c.requires.cells ∙ ap (λ (t : TableParts). length t.kept.identities) view in
    let raised : c.in_ok-counters.counters ≡ all_raised c.self.inside.kept.identities c.self.inside.counters row.cells = search rules in
    record {
      next = subst (λ n. 1 ≤ n) (sym c.next_above-next_number.ensures) (next_some next row.number c.self.invariant.next);
      numbers =
          subst (λ n. AreNumbered 1 n c.in_ok-rows.rows) (sym c.next_above-next_number.ensures)
          (subst (AreNumbered 1 (next_above next row.number)) (sym c.in_ok-rows.ensures) (numbered_put row 1 next rows c.self.invariant.next c.self.invariant.numbers free));
      counters =
          ap length raised ∙ length-raised c.self.inside.kept.identities c.self.inside.counters row.cells c.self.invariant.counters wide
          ∙ ap (λ k. length k.identities) (sym c.in_ok-kept.ensures);
    }
