-- A catalog that grows: its enums keep their places and their cases, its tables their places, the kinds of their columns
-- and the columns of their keys. What was valid before is valid after.
use Rattle.std.proofs.Common.{◌≡◌, ℕ, zero, suc, ◌<◌, ◌≤◌, List, [], ◌∷◌, ◌++◌, length, Option, None, Some, IfSome, IsSomeAnd, refl, sym, ap, subst, ◌∙◌, arith}
use Rattle.std.specs.List.{slice_get}
use Rattle.std.specs.List.Sorted.{IsPermutation}
use Rattle.pg_base.specs.Lists.{EachPair}
use Rattle.pg_base.specs.Kind.{IsKind, family}
use Rattle.pg_base.specs.Cell.{FitsKind, HoldsCase}
use Rattle.pg_base.specs.Catalog.{CatalogParts, IsValidColumn, CanCompare, RefersTo, IsValidLink, IsValidTable, AreColumns}
use Rattle.pg_base.specs.declared.cell.Cell.{Cell}
use Rattle.pg_base.specs.declared.cell.Cell.TheVariants as cell
use Rattle.pg_base.specs.declared.kind.Kind.{Kind}
use Rattle.pg_base.specs.declared.kind.Kind.TheVariants as kind
use Rattle.pg_base.specs.declared.enum_def.EnumDef.{EnumDef}
use Rattle.pg_base.specs.declared.table_def.ColumnDef.{ColumnDef}
use Rattle.pg_base.specs.declared.table_def.KeyDef.{KeyDef}
use Rattle.pg_base.specs.declared.table_def.LinkDef.{LinkDef}
use Rattle.pg_base.specs.declared.table_def.TableDef.{TableDef}
use Rattle.pg_catalog.proofs.EachFacts.{Each-map}

-- at each place of the one list where something stands, something stands in the other that the relation holds of
abbrev pub Covers : {A : Type 0} → (A → A → Type 0) → List A → List A → Type 0
Covers R xs ys = (i : ℕ) → IfSome (slice_get xs i) (λ x. IsSomeAnd (slice_get ys i) (R x))

abbrev pub same_cases : EnumDef → EnumDef → Type 0
same_cases e f = length f.cases ≡ length e.cases

abbrev pub same_kind : ColumnDef → ColumnDef → Type 0
same_kind a b = b.kind ≡ a.kind

abbrev pub same_columns : KeyDef → KeyDef → Type 0
same_columns a b = b.columns ≡ a.columns

pub record Extends (t u : TableDef) : Type 0 where
  pub columns : Covers same_kind t.columns u.columns
  pub keys : Covers same_columns t.keys u.keys

pub record Grows (c d : CatalogParts) : Type 0 where
  pub count : length c.enums ≤ length d.enums
  pub enums : Covers same_cases c.enums d.enums
  pub tables : Covers Extends c.tables d.tables

module _ (enums more : List EnumDef) (count : length enums ≤ length more) (covers : Covers same_cases enums more) where
  pub kind_grows : (k : Kind) → IsKind enums k → IsKind more k
  kind_grows kind.Text h = tt
  kind_grows (kind.Varchar n) h = h
  kind_grows kind.Int h = tt
  kind_grows kind.BigInt h = tt
  kind_grows kind.Bool h = tt
  kind_grows (kind.Enum place) h = omega arith

  case_in : (e f : EnumDef) → same_cases e f → (c : Cell) → HoldsCase (λ case. case < length e.cases) c → HoldsCase (λ case. case < length f.cases) c
  case_in e f same cell.Null h = h
  case_in e f same (cell.Int n) h = h
  case_in e f same (cell.Bool b) h = h
  case_in e f same (cell.Text t) h = h
  case_in e f same (cell.EnumCase place) h = subst (λ (n : ℕ). place < n) (sym same) h

  case_by : (c : Cell) (o p : Option EnumDef) → IfSome o (λ e. IsSomeAnd p (same_cases e)) → IsSomeAnd o (λ e. HoldsCase (λ case. case < length e.cases) c) → IsSomeAnd p (λ e. HoldsCase (λ case. case < length e.cases) c)
  case_by c None p r h = absurd h
  case_by c (Some e) None r h = absurd r
  case_by c (Some e) (Some f) r h = case_in e f r c h

  cell_grows : (k : Kind) (c : Cell) → FitsKind enums k c → FitsKind more k c
  cell_grows kind.Text c h = h
  cell_grows (kind.Varchar n) c h = h
  cell_grows kind.Int c h = h
  cell_grows kind.BigInt c h = h
  cell_grows kind.Bool c h = h
  cell_grows (kind.Enum place) c h = case_by c (slice_get enums place) (slice_get more place) (covers place) h

  default_grows : (k : Kind) (default : Option Cell) → IfSome default (FitsKind enums k) → IfSome default (FitsKind more k)
  default_grows k None h = tt
  default_grows k (Some c) h = cell_grows k c h

  pub column_grows : (c : ColumnDef) → IsValidColumn enums c → IsValidColumn more c
  column_grows c h = record {
    named = h.named;
    tags = h.tags;
    kind = kind_grows c.kind h.kind;
    default = default_grows c.kind c.default h.default;
    identity = h.identity;
  }

-- a key of the table is one of the table that extends it
key_by : (places : List ℕ) (o p : Option KeyDef) → IfSome o (λ k. IsSomeAnd p (same_columns k)) → IsSomeAnd o (λ k. IsPermutation k.columns places) → IsSomeAnd p (λ k. IsPermutation k.columns places)
key_by places None p r h = absurd h
key_by places (Some k) None r h = absurd r
key_by places (Some k) (Some l) r h = subst (λ (columns : List ℕ). IsPermutation columns places) (sym r) h

compare_by : (o : ColumnDef) (p q : Option ColumnDef) → IfSome p (λ c. IsSomeAnd q (same_kind c)) → IsSomeAnd p (λ c. family o.kind ≡ family c.kind) → IsSomeAnd q (λ c. family o.kind ≡ family c.kind)
compare_by o None q r h = absurd h
compare_by o (Some c) None r h = absurd r
compare_by o (Some c) (Some d) r h = h ∙ ap family (sym r)

-- the link's own columns and its target's may both be covered
own_by : (a b : Option ColumnDef) → IfSome a (λ c. IsSomeAnd b (same_kind c)) → (p q : Option ColumnDef) → IfSome p (λ c. IsSomeAnd q (same_kind c)) → IsSomeAnd a (λ c. IsSomeAnd p (λ o. family c.kind ≡ family o.kind)) → IsSomeAnd b (λ c. IsSomeAnd q (λ o. family c.kind ≡ family o.kind))
own_by None b r p q s h = absurd h
own_by (Some c) None r p q s h = absurd r
own_by (Some c) (Some d) r p q s h = compare_by d p q s (moved p h)
  where
    moved : (p : Option ColumnDef) → IsSomeAnd p (λ o. family c.kind ≡ family o.kind) → IsSomeAnd p (λ o. family d.kind ≡ family o.kind)
    moved None g = g
    moved (Some o) g = ap family r ∙ g

pairs_grow : (own more others most : List ColumnDef) → Covers same_kind own more → Covers same_kind others most → (xs ys : List ℕ) → EachPair (CanCompare own others) xs ys → EachPair (CanCompare more most) xs ys
pairs_grow own more others most r s [] [] h = tt
pairs_grow own more others most r s [] (y ∷ ys) h = h
pairs_grow own more others most r s (x ∷ xs) [] h = h
pairs_grow own more others most r s (x ∷ xs) (y ∷ ys) h =
    (own_by (slice_get own x) (slice_get more x) (r x) (slice_get others y) (slice_get most y) (s y) h.0, pairs_grow own more others most r s xs ys h.1)

refers_grow : (own more : List ColumnDef) (l : LinkDef) (t u : TableDef) → Covers same_kind own more → Extends t u → RefersTo own l t → RefersTo more l u
refers_grow own more l t u r s h =
    ((h.0.0, key_by l.target_columns (slice_get t.keys h.0.0) (slice_get u.keys h.0.0) (s.keys h.0.0) h.0.1), pairs_grow own more t.columns u.columns r s.columns l.columns l.target_columns h.1)

target_by : (own more : List ColumnDef) (l : LinkDef) → Covers same_kind own more → (o p : Option TableDef) → IfSome o (λ t. IsSomeAnd p (Extends t)) → IsSomeAnd o (RefersTo own l) → IsSomeAnd p (RefersTo more l)
target_by own more l r None p s h = absurd h
target_by own more l r (Some t) None s h = absurd s
target_by own more l r (Some t) (Some u) s h = refers_grow own more l t u r s h

pub link_grows : (c d : CatalogParts) (own more : List ColumnDef) → Grows c d → Covers same_kind own more → length more ≡ length own → (l : LinkDef) → IsValidLink c own l → IsValidLink d more l
link_grows c d own more g r same l h = record {
  named = h.named;
  tags = h.tags;
  columns = subst (λ (n : ℕ). AreColumns n l.columns) (sym same) h.columns;
  target = target_by own more l r (slice_get c.tables l.target) (slice_get d.tables l.target) (g.tables l.target) h.target;
}

-- each list covers itself
itself : {A : Type 0} (R : A → A → Type 0) → ((x : A) → R x x) → (o : Option A) → IfSome o (λ x. IsSomeAnd o (R x))
itself R all None = tt
itself R all (Some x) = all x

pub Covers-refl : {A : Type 0} (R : A → A → Type 0) → ((x : A) → R x x) → (xs : List A) → Covers R xs xs
Covers-refl R all xs i = itself R all (slice_get xs i)

pub Extends-refl : (t : TableDef) → Extends t t
Extends-refl t = record { columns = Covers-refl same_kind (λ x. refl) t.columns; keys = Covers-refl same_columns (λ x. refl) t.keys }

pub Grows-refl : (c : CatalogParts) → Grows c c
Grows-refl c = record { count = omega arith; enums = Covers-refl same_cases (λ x. refl) c.enums; tables = Covers-refl Extends Extends-refl c.tables }

-- a table that itself stays
pub table_grows : (c d : CatalogParts) → Grows c d → (t : TableDef) → IsValidTable c t → IsValidTable d t
table_grows c d g t h = record {
  named = h.named;
  tags = h.tags;
  column_limit = h.column_limit;
  constraint_limit = h.constraint_limit;
  column_names = h.column_names;
  constraint_names = h.constraint_names;
  columns = Each-map (IsValidColumn c.enums) (IsValidColumn d.enums) (column_grows c.enums d.enums g.count g.enums) t.columns h.columns;
  keys = h.keys;
  links = Each-map (IsValidLink c t.columns) (IsValidLink d t.columns) (link_grows c d t.columns t.columns g (Covers-refl same_kind (λ x. refl) t.columns) refl) t.links h.links;
  one_primary = h.one_primary;
}

pub Covers-append : {A : Type 0} (R : A → A → Type 0) → ((x : A) → R x x) → (xs ys : List A) → Covers R xs (xs ++ ys)
Covers-append R all [] ys i = tt
Covers-append R all (x ∷ xs) ys zero = all x
Covers-append R all (x ∷ xs) ys (suc i) = Covers-append R all xs ys i
