-- The room that a batch takes as it is laid out.
use Rattle.std.proofs.Common.{◌≡◌, ℕ, ◌+◌, ◌-◌, ◌<◌, ◌≤◌, List, [], ◌∷◌, ◌++◌, length, map, get_or, take, drop, Bor, sym, ap, ◌∙◌, append_assoc, length-append, arith}
use Rattle.pg_base.proofs.ListSteps.{drop-item, drop-past}
use Rattle.pg_base.specs.declared.cell.Cell.{Cell}
use Rattle.rel_model.specs.declared.tables.Row.{Row}
use Rattle.rel_model.specs.declared.tables.Tables.{Tables}
use Rattle.rel_model.specs.Picked.{picked}
use Rattle.rel_model.specs.Ordered.{ordered}
use Rattle.stmt_tree.specs.declared.stmt.Stmt.{Stmt}
use Rattle.stmt_tree.specs.declared.stmt.Child.TheViews.{out-Stmt}
use Rattle.stmt_tree.specs.declared.found.Key.{Key}
use Rattle.stmt_tree.specs.declared.found.RunFault.{RunFault}
use Rattle.stmt_tree.specs.declared.found.RunFault.TheVariants.{Store, TooMany, Memory}
use Rattle.stmt_tree.specs.Batches.{part_in, all_parts, list_for, lists_for}
use Rattle.stmt_run.specs.declared.laid.Shape.{Shape}
use Rattle.stmt_run.specs.Laid.{shape_of, list_between}
use Rattle.stmt_run.specs.Gives.{IsCause}
use Rattle.stmt_run.proofs.Layers.{now_all, length_now}

-- a fault in laying out is one of the batch
pub cause_more : (n m room : ℕ) (fault : RunFault) → n ≤ m → IsCause n room fault → IsCause m room fault
cause_more n m room Store le h = absurd h
cause_more n m room TooMany le h = omega (arith, le, h)
cause_more n m room Memory le h = tt

pub between_is : (tables : Tables) (stmt : Stmt) (rows : List Row) (from to : ℕ) (cells key : List Cell) → cells ≡ key → take (to - from) (drop from rows) ≡ picked tables (out-Stmt stmt).table (out-Stmt stmt).by cells (out-Stmt stmt).condition → list_between stmt rows from to ≡ list_for tables stmt key
between_is tables stmt rows from to cells key same e = ap (ordered (out-Stmt stmt).order) e ∙ ap (list_for tables stmt) same

module _ (tables : Tables) (stmt : Stmt) (keys : List Key) (old all : List (Bor Row)) (start room : ℕ) (even : room + length all ≡ start + length old) (i : ℕ) (rows : now_all all ++ all_parts stmt (lists_for tables stmt (drop i keys)) ≡ now_all old ++ all_parts stmt (lists_for tables stmt keys)) where
  pub room_end : length keys ≤ i → room + length (all_parts stmt (lists_for tables stmt keys)) ≡ start
  room_end le =
      let f = ap length rows ∙ length-append (now_all old) (all_parts stmt (lists_for tables stmt keys)) in
      let g = length-append (now_all all) (all_parts stmt (lists_for tables stmt (drop i keys))) in
      let none : length (all_parts stmt (lists_for tables stmt (drop i keys))) ≡ 0 = ap (λ l. length (all_parts stmt (lists_for tables stmt l))) (drop-past keys i le) in
      let h = length_now old in let k = length_now all in omega (arith, f, g, none, h, k, even)

  module _ (key : Key) (lt : i < length keys) (is : key ≡ get_or keys i key) (shape : Shape) (shaped : shape ≡ shape_of stmt (list_for tables stmt key.cells)) where
    abbrev part : List Row
    part = part_in stmt (list_for tables stmt key.cells)

    abbrev rest : List Row
    rest = all_parts stmt (lists_for tables stmt (drop (i + 1) keys))

    counted : shape.count ≡ length part
    counted = ap (λ (s : Shape). s.count) shaped

    room_gone : room < shape.count → start < length (all_parts stmt (lists_for tables stmt keys))
    room_gone less =
        let a = ap length rows ∙ length-append (now_all old) (all_parts stmt (lists_for tables stmt keys)) in
        let b = length-append (now_all all) (all_parts stmt (lists_for tables stmt (drop i keys))) in
        let c = ap (λ l. length (all_parts stmt (lists_for tables stmt l))) (drop-item keys i key lt is) ∙ length-append part rest in
        let d = counted in let h = length_now old in let k = length_now all in omega (arith, a, b, c, d, h, k, even, less)

    pub cause_taken : (fault : RunFault) → IsCause shape.count room fault → IsCause (length (all_parts stmt (lists_for tables stmt keys))) start fault
    cause_taken Store h = absurd h
    cause_taken TooMany h = room_gone h
    cause_taken Memory h = tt

    pub shapes_turn : (shapes new due : List Shape) → shapes ++ map (shape_of stmt) (lists_for tables stmt (drop i keys)) ≡ due → new ≡ shapes ++ shape ∷ [] → new ++ map (shape_of stmt) (lists_for tables stmt (drop (i + 1) keys)) ≡ due
    shapes_turn shapes new due so_far pushed =
        let others = map (shape_of stmt) (lists_for tables stmt (drop (i + 1) keys)) in
        ap (λ l. l ++ others) pushed
        ∙ append_assoc shapes (shape ∷ []) others
        ∙ ap (λ l. shapes ++ l)
        (ap (λ s. s ∷ others) shaped ∙ sym (ap (λ l. map (shape_of stmt) (lists_for tables stmt l)) (drop-item keys i key lt is)))
        ∙ so_far

    module _ (new : List (Bor Row)) (pushed : now_all new ≡ now_all all ++ part_in stmt (list_for tables stmt key.cells)) where
      pub rows_turn : now_all new ++ all_parts stmt (lists_for tables stmt (drop (i + 1) keys)) ≡ now_all old ++ all_parts stmt (lists_for tables stmt keys)
      rows_turn =
          ap (λ l. l ++ rest) pushed
          ∙ append_assoc (now_all all) part rest
          ∙ ap (λ l. now_all all ++ l) (sym (ap (λ l. all_parts stmt (lists_for tables stmt l)) (drop-item keys i key lt is)))
          ∙ rows

      pub room_left : (left : ℕ) → left + shape.count ≡ room → left + length new ≡ start + length old
      room_left left taken =
          let a = ap length pushed ∙ length-append (now_all all) part in
          let d = counted in let h = length_now new in let k = length_now all in omega (arith, a, d, h, k, even, taken)
