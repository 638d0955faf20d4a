-- A set of tables as the lists of its parts.
use Rattle.std.proofs.Common.{◌≡◌, ℕ, zero, suc, ◌<◌, List, [], ◌∷◌, map, set, length, get_or, refl, sym, ap, ◌∙◌, arith}
use Rattle.pg_base.specs.declared.table_def.TableDef.{TableDef}
use Rattle.pg_base.specs.Lists.{EachPair}
use Rattle.pg_base.specs.Catalog.{CatalogParts}
use Rattle.rel_model.specs.declared.tables.Tables.{Tables}
use Rattle.rel_model.specs.declared.tables.TableRows.{TableRows}
use Rattle.row_tables.specs.Set.{TableParts, SetParts, kept_columns, set_of, parts_of, IsListOf, AreListsOf, kept_at, tables_with}

abbrev pub seen : List TableParts → SetParts
seen ts = record { tables = record { lists = map (λ t. t.list) ts }; kept = map (λ t. t.kept) ts }

map_set : {A B : Type 0} (f : A → B) (xs : List A) (at : ℕ) (x : A) → map f (set xs at x) ≡ set (map f xs) at (f x)
map_set f [] at x = refl
map_set f (y ∷ ys) zero x = refl
map_set f (y ∷ ys) (suc at) x = ap (λ l. f y ∷ l) (map_set f ys at x)

set_same : {A : Type 0} (xs : List A) (at : ℕ) (x d : A) → at < length xs → x ≡ get_or xs at d → set xs at x ≡ xs
set_same [] at x d lt e = refl
set_same (y ∷ ys) zero x d lt e = ap (λ v. v ∷ ys) e
set_same (y ∷ ys) (suc at) x d lt e = ap (λ l. y ∷ l) (set_same ys at x d (omega arith) e)

length_map : {A B : Type 0} (f : A → B) (xs : List A) → length (map f xs) ≡ length xs
length_map f [] = refl
length_map f (x ∷ xs) = ap suc (length_map f xs)

pub get_map : {A B : Type 0} (f : A → B) (xs : List A) (at : ℕ) (d : A) (e : B) → at < length xs → get_or (map f xs) at e ≡ f (get_or xs at d)
get_map f [] at d e lt = absurd (omega arith)
get_map f (x ∷ xs) zero d e lt = refl
get_map f (x ∷ xs) (suc at) d e lt = get_map f xs at d e (omega arith)

parts_same : (a b : SetParts) → a.tables.lists ≡ b.tables.lists → a.kept ≡ b.kept → a ≡ b
parts_same a b e f = λ i. record { tables = record { lists = e i }; kept = f i }

pub with_table_is : (s : SetParts) (inside shared : List TableParts) (at : ℕ) (t given : TableParts) → s ≡ seen inside → shared ≡ inside → at < length s.tables.lists → given.kept ≡ kept_at s at → t ≡ given → seen (set shared at t) ≡ record { tables = tables_with s at given.list; kept = s.kept }
with_table_is s inside shared at t given view same lt kept is =
    let some : at < length (map (λ t. t.kept) inside) = (let e = ap (λ p. length p.tables.lists) view in let f = length_map (λ t. t.list) inside in let g = length_map (λ t. t.kept) inside in omega (arith, lt, e, f, g)) in
    let old = ap (λ p. kept_at p at) view in
    parts_same (seen (set shared at t)) (record { tables = tables_with s at given.list; kept = s.kept })
    (ap (λ l. map (λ t. t.list) (set l at t)) same ∙ ap (λ u. map (λ t. t.list) (set inside at u)) is ∙ map_set (λ t. t.list) inside at given ∙ ap (λ p. set p.tables.lists at given.list) (sym view))
    (ap (λ l. map (λ t. t.kept) (set l at t)) same ∙ ap (λ u. map (λ t. t.kept) (set inside at u)) is ∙ map_set (λ t. t.kept) inside at given
    ∙ set_same (map (λ t. t.kept) inside) at given.kept (record { keys = []; identities = [] }) some (kept ∙ old)
    ∙ ap (λ p. p.kept) (sym view))

-- ---- the parts of a catalog's tables

pub lists_of_parts : (ts : List TableDef) (lists : List TableRows) → EachPair IsListOf ts lists → map (λ t. t.list) (parts_of ts lists) ≡ lists
lists_of_parts [] [] h = refl
lists_of_parts [] (l ∷ lists) h = absurd h
lists_of_parts (t ∷ ts) [] h = absurd h
lists_of_parts (t ∷ ts) (l ∷ lists) h = ap (λ ls. l ∷ ls) (lists_of_parts ts lists h.1)

pub kept_of_parts : (ts : List TableDef) (lists : List TableRows) → EachPair IsListOf ts lists → map (λ t. t.kept) (parts_of ts lists) ≡ map kept_columns ts
kept_of_parts [] [] h = refl
kept_of_parts [] (l ∷ lists) h = absurd h
kept_of_parts (t ∷ ts) [] h = absurd h
kept_of_parts (t ∷ ts) (l ∷ lists) h = ap (λ ks. kept_columns t ∷ ks) (kept_of_parts ts lists h.1)

pub pairs_length : (ts : List TableDef) (lists : List TableRows) → EachPair IsListOf ts lists → length ts ≡ length lists
pairs_length [] [] h = refl
pairs_length [] (l ∷ lists) h = absurd h
pairs_length (t ∷ ts) [] h = absurd h
pairs_length (t ∷ ts) (l ∷ lists) h = ap suc (pairs_length ts lists h.1)

pub set_is : (c : CatalogParts) (tables : Tables) (made : List TableParts) → made ≡ parts_of c.tables tables.lists → AreListsOf c tables → seen made ≡ set_of c tables
set_is c tables made is lists =
    parts_same (seen made) (set_of c tables)
    (ap (map (λ t. t.list)) is ∙ lists_of_parts c.tables tables.lists lists)
    (ap (map (λ t. t.kept)) is ∙ kept_of_parts c.tables tables.lists lists)
