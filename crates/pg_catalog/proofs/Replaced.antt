-- A catalog in which one table is changed.
use Rattle.std.proofs.Common.{◌≡◌, ℕ, zero, suc, List, [], ◌∷◌, ◌++◌, map, length, Some, refl, sym, ap, subst, ◌∙◌, arith}
use Rattle.std.specs.List.{slice_get, slice_set}
use Rattle.pg_base.specs.Lists.{Each, AreDistinct}
use Rattle.pg_base.specs.Catalog.{CatalogParts, IsValidCatalog, IsValidTable}
use Rattle.pg_base.specs.declared.table_def.TableDef.{TableDef}
use Rattle.pg_catalog.specs.Names.{enum_names, column_names}
use Rattle.pg_catalog.specs.Indexed.{IsIndexed}
use Rattle.pg_catalog.proofs.EachFacts.{Each-map}
use Rattle.pg_catalog.proofs.Grown.{Covers, Covers-refl, Extends, Extends-refl, Grows, table_grows, same_cases}

pub Each-set : {A : Type 0} (P : A → Type 0) (xs : List A) (i : ℕ) (y : A) → Each P xs → P y → Each P (slice_set xs i y)
Each-set P [] i y h p = tt
Each-set P (x ∷ xs) zero y h p = (p, h.1)
Each-set P (x ∷ xs) (suc i) y h p = (h.0, Each-set P xs i y h.1 p)

pub length-slice_set : {A : Type 0} (xs : List A) (i : ℕ) (y : A) → length (slice_set xs i y) ≡ length xs
length-slice_set [] i y = refl
length-slice_set (x ∷ xs) zero y = refl
length-slice_set (x ∷ xs) (suc i) y = ap suc (length-slice_set xs i y)

-- a view that the change leaves as it was
pub map-slice_set : {A B : Type 0} (f : A → B) (xs : List A) (i : ℕ) (x y : A) → slice_get xs i ≡ Some x → f y ≡ f x → map f (slice_set xs i y) ≡ map f xs
map-slice_set f [] i x y e same = absurd (cc)
map-slice_set f (z ∷ zs) zero x y e same = let is : z ≡ x = cc in ap (λ b. b ∷ map f zs) (same ∙ ap f (sym is))
map-slice_set f (z ∷ zs) (suc i) x y e same = ap (λ l. f z ∷ l) (map-slice_set f zs i x y e same)

pub Covers-set : {A : Type 0} (R : A → A → Type 0) → ((x : A) → R x x) → (xs : List A) (at : ℕ) (x y : A) → slice_get xs at ≡ Some x → R x y → Covers R xs (slice_set xs at y)
Covers-set R all [] at x y e r i = tt
Covers-set R all (z ∷ zs) zero x y e r zero = let is : z ≡ x = cc in subst (λ w. R w y) (sym is) r
Covers-set R all (z ∷ zs) zero x y e r (suc i) = Covers-refl R all zs i
Covers-set R all (z ∷ zs) (suc at) x y e r zero = all z
Covers-set R all (z ∷ zs) (suc at) x y e r (suc i) = Covers-set R all zs at x y e r i

module _ (c : CatalogParts) (at : ℕ) (t u : TableDef) (stands_there : slice_get c.tables at ≡ Some t) (same_name : u.name ≡ t.name) (extends : Extends t u) where
  pub after_grows : Grows c (record c { tables = slice_set c.tables at u })
  after_grows = record {
    count = omega arith;
    enums = Covers-refl same_cases (λ x. refl) c.enums;
    tables = Covers-set Extends Extends-refl c.tables at t u stands_there extends;
  }

  pub replaced : IsValidCatalog c → IsValidTable (record c { tables = slice_set c.tables at u }) u → IsValidCatalog (record c { tables = slice_set c.tables at u })
  replaced valid table =
      let d : CatalogParts = record c { tables = slice_set c.tables at u } in
      record {
        enum_limit = valid.enum_limit;
        table_limit = omega (arith, length-slice_set c.tables at u, valid.table_limit);
        names = subst (λ (l : List (List ℕ)). AreDistinct (enum_names c ++ l)) (sym (map-slice_set (λ w. w.name) c.tables at t u stands_there same_name)) valid.names;
        enums = valid.enums;
        tables = Each-set (IsValidTable d) c.tables at u (Each-map (IsValidTable c) (IsValidTable d) (table_grows c d after_grows) c.tables valid.tables) table;
      }

  pub reindexed : (es ts : List (List ℕ)) (cs : List (List (List ℕ))) → IsIndexed c es ts cs → column_names u ≡ column_names t → IsValidTable (record c { tables = slice_set c.tables at u }) u → IsIndexed (record c { tables = slice_set c.tables at u }) es ts cs
  reindexed es ts cs h columns table = record {
    valid = replaced h.valid table;
    enums = h.enums;
    tables = h.tables ∙ sym (map-slice_set (λ w. w.name) c.tables at t u stands_there same_name);
    columns = h.columns ∙ sym (map-slice_set column_names c.tables at t u stands_there columns);
  }
