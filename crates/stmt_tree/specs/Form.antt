-- What statements a catalog has the places for, and the form of every store's answer to them.
use Rattle.std.specs.Prelude.{◌≡◌, ℕ, ◌+◌, ◌-◌, ◌<◌, ◌≤◌, ◌^◌, min, Bool, if◌then◌else◌, List, [], ◌∷◌, length, slice_get, IfSome, IsSomeAnd, ⊤, Result, Ok, Err}
use Rattle.pg_base.specs.declared.cell.Cell.{Cell}
use Rattle.pg_base.specs.declared.cell.Cell.TheVariants as cell
use Rattle.pg_base.specs.declared.enum_def.EnumDef.{EnumDef}
use Rattle.pg_base.specs.declared.table_def.ColumnDef.{ColumnDef}
use Rattle.pg_base.specs.Lists.{Each, EachPair, AreBelow}
use Rattle.pg_base.specs.Cell.{FitsKind}
use Rattle.pg_base.specs.Limits.{most_rows}
use Rattle.pg_base.specs.Catalog.{CatalogParts}
use Rattle.stmt_tree.specs.declared.stmt.Stmt.{Stmt}
use Rattle.stmt_tree.specs.declared.stmt.Child.{Child}
use Rattle.stmt_tree.specs.declared.stmt.Child.TheOpen.{Stmt-F}
use Rattle.stmt_tree.specs.declared.stmt.Child.TheViews.{out-Stmt, out-Child}
use Rattle.stmt_tree.specs.declared.stmt.Child.TheFolds.{every-Stmt}
use Rattle.stmt_tree.specs.declared.found.RowTree.{RowTree}
use Rattle.stmt_tree.specs.declared.found.Found.{Found}
use Rattle.stmt_tree.specs.declared.found.Found.TheViews.{out-Found, out-RowTree}
use Rattle.stmt_tree.specs.declared.found.Batch.{Batch}
use Rattle.stmt_tree.specs.declared.found.RunFault.{RunFault}
use Rattle.stmt_tree.specs.declared.found.RunFault.TheVariants.{Store, TooMany, Memory}
use Rattle.stmt_tree.specs.Meaning.{trees_in_all}

-- a child's key is as long as what it is compared with, and is taken from columns that are there
abbrev pub IsChildOf : ℕ → Child → Type 0
IsChildOf width child = let c = out-Child child in
    (length c.parent_columns ≡ length (out-Stmt c.stmt).by) × AreBelow width c.parent_columns

-- a statement's own places are in range, and a mark has a value for each column of the order
pub record IsLayerOf (c : CatalogParts) (s : Stmt-F Child Stmt) : Type 0 where
  pub table : IsSomeAnd (slice_get c.tables s.table) (λ t.
      AreBelow (length t.columns) s.by
      × Each (λ e. e.column < length t.columns) s.condition
      × Each (λ o. o.column < length t.columns) s.order
      × Each (IsChildOf (length t.columns)) s.children)
  pub after : IfSome s.window.after (λ m. length m.values ≡ length s.order)
  pub before : IfSome s.window.before (λ m. length m.values ≡ length s.order)

-- the statement's places are in range in the catalog, and those of all below it
abbrev pub IsStmtOf : CatalogParts → Stmt → Type 0
IsStmtOf c = every-Stmt (λ child. ⊤) (IsLayerOf c)

-- a cell that a column's rows may hold, or a null
abbrev pub IsHeld : List EnumDef → ColumnDef → Cell → Type 0
IsHeld enums c cell.Null = ⊤
IsHeld enums c value = FitsKind enums c.kind value

-- a row number, and a cell for each column of the table
abbrev pub HasCells : CatalogParts → ℕ → RowTree → Type 0
HasCells c table tree = let t = out-RowTree tree in
    (1 ≤ t.number) × IfSome (slice_get c.tables table) (λ d. EachPair (IsHeld c.enums) d.columns t.cells)

-- the number of rows from one place up to another, where rows are asked for
abbrev pub rows_asked : Bool → ℕ → ℕ → ℕ
rows_asked rows from to = if rows then to - from else 0

-- the numbers of what was found for a key, and as many rows as they say
abbrev pub AreNumbers : Bool → Found → Type 0
AreNumbers rows found = let f = out-Found found in
    (f.from ≤ f.to) × (f.to ≤ f.total) × (f.total ≤ most_rows) × (length f.rows ≡ rows_asked rows f.from f.to)

mutual
  -- what a store may answer to a statement, for a key
  pub data HasForm (c : CatalogParts) : Stmt → Found → Type 0 where
    has_form : {s : Stmt} {f : Found} → AreNumbers (out-Stmt s).rows f → HaveForm c s (out-Found f).rows → HasForm c s f

  pub data HaveForm (c : CatalogParts) : Stmt → List RowTree → Type 0 where
    no_rows : {s : Stmt} → HaveForm c s []
    more_rows : {s : Stmt} {t : RowTree} {ts : List RowTree} →
        HasCells c (out-Stmt s).table t → HaveBelow c (out-Stmt s).children (out-RowTree t).children → HaveForm c s ts →
        HaveForm c s (t ∷ ts)

  -- one for each child of the statement
  pub data HaveBelow (c : CatalogParts) : List Child → List Found → Type 0 where
    no_children : HaveBelow c [] []
    more_children : {k : Child} {ks : List Child} {f : Found} {fs : List Found} →
        HasForm c (out-Child k).stmt f → HaveBelow c ks fs → HaveBelow c (k ∷ ks) (f ∷ fs)

-- the answer to a statement, where the tables are told: what is due, or that there was no room for it; both yield to a
-- fault of the store
abbrev pub Answers : ℕ → List Found → Result Batch RunFault → Type 0
Answers room due (Ok batch) = (batch.found ≡ due) × (trees_in_all due ≤ room)
Answers room due (Err Store) = ⊤
Answers room due (Err TooMany) = room < trees_in_all due
Answers room due (Err Memory) = ⊤

abbrev pub IsStoreFault : Result Batch RunFault → Type 0
IsStoreFault (Ok b) = ⊥
IsStoreFault (Err Store) = Unit {0}
IsStoreFault (Err TooMany) = ⊥
IsStoreFault (Err Memory) = ⊥

-- how the number of rows that were got rises: by at most those of the answer, and not where there is none
abbrev pub GotWithin : ℕ → ℕ → Result Batch RunFault → Type 0
GotWithin before now (Ok batch) = (before ≤ now) × (now ≤ before + trees_in_all batch.found)
GotWithin before now (Err fault) = now ≡ before

-- a count has risen, or stands at its end
abbrev pub Rose : ℕ → ℕ → Type 0
Rose before now = min (before + 1) (2 ^ 64 - 1) ≤ now
