use Rattle.std.proofs.Common.{◌≡◌, ℕ, pos, ◌+◌, ◌<◌, List, [], ◌∷◌, ◌++◌, length, get_or, drop, map, replicate, sym, ap, ◌∙◌, rules, append_assoc}
use Rattle.pg_base.proofs.ListSteps.{drop-item}
use Rattle.pg_base.specs.declared.cell.Cell.{Cell}
use Rattle.pg_base.specs.declared.table_def.TableDef.{TableDef}
use Rattle.rel_model.specs.declared.tables.TableRows.{TableRows}
use Rattle.rel_model.specs.Numbered.{numbered}
use Rattle.rows_reader.specs.Loaded.{no_rows}
use Rattle.rows_reader.proofs.lists.opening.Goals as goal

none_made : (t : TableDef) (cells : List (List Cell)) (n : ℕ) (list : TableRows) → cells ≡ [] → n ≡ length t.columns
    → list ≡ record { rows = numbered 1 cells; next_number = length cells + 1; counters = replicate n (pos 0) } → list ≡ no_rows t
unfolding numbered
none_made t cells n list none long is =
    is ∙ ap (λ (l : List (List Cell)). rows_of l) none ∙ ap (λ (m : ℕ). counters_of m) long
  where
    rows_of : List (List Cell) → TableRows
    rows_of l = record { rows = numbered 1 l; next_number = length l + 1; counters = replicate n (pos 0) }

    counters_of : ℕ → TableRows
    counters_of m = record { rows = []; next_number = 1; counters = replicate m (pos 0) }

turn : (tables : List TableDef) (i : ℕ) (t : TableDef) (made more due : List TableRows) (list : TableRows) → i < length tables → t ≡ get_or tables i t → list ≡ no_rows t → more ≡ made ++ list ∷ []
    → made ++ map no_rows (drop i tables) ≡ due → more ++ map no_rows (drop (i + 1) tables) ≡ due
turn tables i t made more due list lt at is pushed so_far =
    ap (λ (l : List TableRows). l ++ map no_rows (drop (i + 1) tables)) pushed
    ∙ append_assoc made (list ∷ []) (map no_rows (drop (i + 1) tables))
    ∙ ap (λ (l : List TableRows). made ++ l) (ap (λ (x : TableRows). x ∷ map no_rows (drop (i + 1) tables)) is ∙ sym (ap (map no_rows) (drop-item tables i t lt at)))
    ∙ so_far

pub loop-table-preserved : goal.loop-table-preserved
loop-table-preserved c =
    turn c.args.tables.now c.loop-table.table-index c.table-item.result c.loop-table.lists.items c.push.new.self.items _ c.in_ok-list.list c.loop-table-test.true c.table-item.is
    (none_made c.table-item.result c.new.result c.len.result c.in_ok-list.list c.new.ensures c.len.ensures c.in_ok-list.ensures) (search rules) c.loop-table.invariant
