-- By columns among which a key lies, one row at most is found.
use Rattle.std.proofs.Common.{◌≡◌, ◌≢◌, ℕ, zero, suc, ◌≤◌, List, [], ◌∷◌, filter, length, Bool, true, false, ◌||◌, refl, sym, ap, ◌∙◌, subst, arith, eqb-true, cond}
use Rattle.std.specs.Prelude.{slice_get, ◌==◌, IsSomeAnd}
use Rattle.std.specs.Cmp.{first_so}
use Rattle.pg_base.specs.Base.{BaseParts}
use Rattle.pg_base.specs.Lists.{Each, EachPair}
use Rattle.pg_base.specs.declared.cell.Cell.{Cell}
use Rattle.pg_base.specs.declared.cell.Cell.TheVariants as cell
use Rattle.pg_base.specs.declared.table_def.KeyDef.{KeyDef}
use Rattle.pg_base.specs.declared.table_def.TableDef.{TableDef}
use Rattle.rel_model.specs.declared.tables.Row.{Row}
use Rattle.rel_model.specs.declared.tables.TableRows.{TableRows}
use Rattle.rel_model.specs.declared.tables.Tables.{Tables}
use Rattle.rel_model.specs.declared.window.Equal.{Equal}
use Rattle.rel_model.specs.Picked.{cell_at, has_key, passes, rows_in, picked}
use Rattle.rel_model.specs.Tables.{cells_at, HoldNoNull, AgreeAt, IsUniqueIn, IsValidList, AreValidTables}
use Rattle.rel_model.proofs.Agreeing.{key_is}
use Rattle.place_tree.specs.Fields.{is_among}

-- a key of the table lies among the columns
abbrev pub HasKeyOf : BaseParts → ℕ → List ℕ → Type 0
HasKeyOf base table by = IsSomeAnd (slice_get base.catalog.tables table) (λ t. (at : ℕ) × IsSomeAnd (slice_get t.keys at) (λ k. Each (λ column. is_among by column ≡ true) k.columns))

either : {A : Type 0} (P : A → Type 0) (b : Bool) (x y : A) → (b ≡ true → P x) → (b ≡ false → P y) → P (cond b x y)
either P true x y f g = f refl
either P false x y f g = g refl

heads : (a b : Cell) (xs ys : List Cell) → a ∷ xs ≡ b ∷ ys → a ≡ b
heads a b xs ys e = cc

tails : (a b : Cell) (xs ys : List Cell) → a ∷ xs ≡ b ∷ ys → xs ≡ ys
tails a b xs ys e = cc

-- rows whose cells are the same at these columns have the same cell at each of them
same_cell_at : (cells others : List Cell) (by : List ℕ) (column : ℕ) → is_among by column ≡ true → cells_at by cells ≡ cells_at by others → HoldNoNull (cells_at by cells) → (cell_at cells column ≡ cell_at others column) × (cell_at cells column ≢ cell.Null)
same_cell_at cells others [] column among e full = cc
same_cell_at cells others (c ∷ by) column among e full = by_test (c == column) refl (λ rest. same_cell_at cells others by column rest (tails _ _ (cells_at by cells) (cells_at by others) e) full.1)
  where
    by_test : (b : Bool) → (c == column) ≡ b → (is_among by column ≡ true → (cell_at cells column ≡ cell_at others column) × (cell_at cells column ≢ cell.Null)) → (cell_at cells column ≡ cell_at others column) × (cell_at cells column ≢ cell.Null)
    by_test true t more = subst (λ n. (cell_at cells n ≡ cell_at others n) × (cell_at cells n ≢ cell.Null)) (eqb-true c column t) (heads _ _ (cells_at by cells) (cells_at by others) e, full.0)
    by_test false t more = more (sym (ap (λ b. b || is_among by column) t) ∙ among)

module _ (by : List ℕ) (key : List Cell) (long : length key ≡ length by) where
  told : (r : Row) → has_key by key r.cells ≡ true → (cells_at by r.cells ≡ key) × HoldNoNull key
  told r h = (key_is by key r.cells long).0 h

  agree : (r s : Row) (columns : List ℕ) → has_key by key r.cells ≡ true → has_key by key s.cells ≡ true → Each (λ column. is_among by column ≡ true) columns → AgreeAt columns r s
  agree r s [] h k all = (refl, tt)
  agree r s (column ∷ columns) h k all =
      let a = told r h in
      let b = told s k in
      let here = same_cell_at r.cells s.cells by column all.0 (a.0 ∙ sym b.0) (subst HoldNoNull (sym a.0) a.1) in
      let rest = agree r s columns h k all.1 in
      (ap (λ v. v ∷ cells_at columns r.cells) here.0 ∙ ap (λ vs. cell_at s.cells column ∷ vs) rest.0, (here.1, rest.1))

  none_left : (condition : List Equal) (r : Row) (columns : List ℕ) → has_key by key r.cells ≡ true → Each (λ column. is_among by column ≡ true) columns → (rows : List Row) → Each (λ s. ¬ (AgreeAt columns r s)) rows → filter (passes by key condition) rows ≡ []
  none_left condition r columns h all [] no_other = refl
  none_left condition r columns h all (s ∷ rows) no_other =
      either (λ l. l ≡ []) (passes by key condition s) (s ∷ filter (passes by key condition) rows) (filter (passes by key condition) rows)
      (λ e. absurd (no_other.0 (agree r s columns h (first_so _ _ e) all)))
      (λ e. none_left condition r columns h all rows no_other.1)

  one_left : (condition : List Equal) (columns : List ℕ) → Each (λ column. is_among by column ≡ true) columns → (rows : List Row) → IsUniqueIn rows columns → length (filter (passes by key condition) rows) ≤ 1
  one_left condition columns all [] unique = omega arith
  one_left condition columns all (r ∷ rows) unique =
      either (λ l. length l ≤ 1) (passes by key condition r) (r ∷ filter (passes by key condition) rows) (filter (passes by key condition) rows)
      (λ e. let left = ap length (none_left condition r columns (first_so _ _ e) all rows unique.0) in omega (arith, left))
      (λ e. one_left condition columns all rows unique.1)

each_key : (rows : List Row) (keys : List KeyDef) (at : ℕ) (P : KeyDef → Type 0) → Each (λ k. IsUniqueIn rows k.columns) keys → IsSomeAnd (slice_get keys at) P → (k : KeyDef) × IsUniqueIn rows k.columns × P k
each_key rows [] at P h s = absurd s
each_key rows (k ∷ keys) zero P h s = (k, h.0, s)
each_key rows (k ∷ keys) (suc at) P h s = each_key rows keys at P h.1 s

valid_at : (base : BaseParts) (tables : Tables) (ds : List TableDef) (ts : List TableRows) → EachPair (IsValidList base.catalog tables) ds ts → (at : ℕ) (P : TableDef → Type 0) → IsSomeAnd (slice_get ds at) P → (d : TableDef) × P d × Each (λ k. IsUniqueIn (rows_in (slice_get ts at)) k.columns) d.keys
valid_at base tables [] ts h at P s = absurd s
valid_at base tables (d ∷ ds) [] h at P s = absurd h
valid_at base tables (d ∷ ds) (t ∷ ts) h zero P s = (d, s, h.0.keys)
valid_at base tables (d ∷ ds) (t ∷ ts) h (suc at) P s = valid_at base tables ds ts h.1 at P s

-- the law
pub one_picked : (base : BaseParts) (tables : Tables) → AreValidTables base.catalog tables → (table : ℕ) (by : List ℕ) → HasKeyOf base table by → (key : List Cell) → length key ≡ length by → (condition : List Equal) → length (picked tables table by key condition) ≤ 1
one_picked base tables valid table by has key long condition =
    let t = valid_at base tables base.catalog.tables tables.lists valid.lists table _ has in
    let k = each_key _ t.0.keys t.1.0 _ t.2 t.1.1 in
    one_left by key long condition k.0.columns k.2 _ k.1
