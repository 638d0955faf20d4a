use Rattle.std.proofs.Common.{◌≡◌, Bor, List, map, take, sym, subst, rules}
use Rattle.rel_model.specs.declared.tables.Row.{Row}
use Rattle.rel_model.specs.Ordered.{precedes, inserted}
use Rattle.rel_model.proofs.FirstRows.{first_back}
use Rattle.rel_model.proofs.selecting.first_rows.Goals as goal

pub rows-preserved-then-is_past : goal.rows-preserved-then-is_past
rows-preserved-then-is_past c =
    let past : take c.args.count (inserted (precedes c.args.order.now) c.index-rows-at.result.now (map (λ (r : Bor Row). r.now) c.rows.first.items)) ≡ map (λ (r : Bor Row). r.now) c.rows.first.items =
    subst (λ (l : List (Bor Row)). take c.args.count (inserted (precedes c.args.order.now) c.index-rows-at.result.now (map (λ (r : Bor Row). r.now) l)) ≡ map (λ (r : Bor Row). r.now) l) c.as_slice.ensures.value (c.is_past.ensures c.if-is_past.true) in
    record {
      first = first_back c.args.order.now c.args.count c.rows.at c.args.rows.now c.index-rows-at.result _ _ c.rows-test.true c.rows.invariant.within c.index-rows-at.is c.rows.invariant.first (sym past);
      within = search rules;
    }

pub rows-preserved : goal.rows-preserved
rows-preserved c =
    record {
      first = first_back c.args.order.now c.args.count c.rows.at c.args.rows.now c.index-rows-at.result _ _ c.rows-test.true c.rows.invariant.within c.index-rows-at.is c.rows.invariant.first c.in_ok-put_in.ensures;
      within = search rules;
    }
