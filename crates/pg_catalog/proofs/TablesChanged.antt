-- The look-ups after a key or a link is added.
use Rattle.std.proofs.Common.{◌≡◌, ℕ, ◌<◌, List, length, get_or, Option, None, Some, refl, sym, ap, subst, ◌∙◌}
use Rattle.std.specs.List.{slice_get, slice_set}
use Rattle.std.specs.Option.{option_map, option_and_then}
use Rattle.std.specs.Str.{IsUtf8}
use Rattle.std.proofs.lemmas.Option.{slice_get-get_or}
use Rattle.pg_base.specs.Tags.{no_tags}
use Rattle.pg_base.specs.Catalog.{CatalogParts, IsValidTable, constraint_names}
use Rattle.pg_base.specs.declared.table_def.TableDef.{TableDef}
use Rattle.pg_catalog.specs.declared.part.Part.TheVariants as part
use Rattle.pg_catalog.specs.declared.part.KeyPart.{KeyPart}
use Rattle.pg_catalog.specs.Names.{table_names, column_names, place_of, places_of, table_of, stands, is_long, put}
use Rattle.pg_catalog.specs.Constraints.{key_name, key_of}
use Rattle.pg_catalog.specs.Faults.{when, fault_of, is_second, is_past_constraints}
use Rattle.pg_catalog.specs.Added.{added, changed_named, with_table, with_key, holding}
use Rattle.pg_catalog.specs.Indexed.{IsIndexed}
use Rattle.pg_catalog.proofs.EachFacts.{Each-get}
use Rattle.pg_catalog.proofs.Passed.{passed, failed}
use Rattle.pg_catalog.proofs.Replaced.{reindexed, after_grows}
use Rattle.pg_catalog.proofs.Changed.{under_kept}
use Rattle.pg_catalog.proofs.ValidKey.{in_table, holding_valid, holding_extends}

-- the table at the place that the name has
pub found : (c : CatalogParts) (name : List ℕ) (at : ℕ) (t : TableDef) → place_of (table_names c) name ≡ Some at → slice_get c.tables at ≡ Some t → table_of c name ≡ Some t
found c name at t is there = ap (λ o. option_and_then (slice_get c.tables) o) is ∙ there

-- changing the table of the name is putting the changed one at its place
pub changed_there : (c : CatalogParts) (name : List ℕ) (f : TableDef → TableDef) (at : ℕ) (t : TableDef) → place_of (table_names c) name ≡ Some at → slice_get c.tables at ≡ Some t → with_table c name f ≡ record c { tables = slice_set c.tables at (f t) }
changed_there c name f at t is there =
    ap (λ (o : Option ℕ). record c { tables = changed_named c.tables o f }) is
    ∙ ap (λ (o : Option TableDef). record c { tables = put c.tables at (option_map f o) }) there

module _ (c s : CatalogParts) (is : c ≡ s) (es ts : List (List ℕ)) (cs : List (List (List ℕ))) (h : IsIndexed c es ts cs) where
  module _ (k : KeyPart) (none : fault_of s (part.Key k) ≡ None) (text : IsUtf8 (key_name k)) (at : ℕ) (t : TableDef) (place : place_of (table_names c) k.table ≡ Some at) (there : slice_get c.tables at ≡ Some t) where
    pub key_indexed : (tables : List TableDef) → tables ≡ slice_set c.tables at (holding t (key_of t k)) → IsIndexed (record { enums = c.enums; tables = tables }) es ts cs
    key_indexed tables made =
        let u = holding t (key_of t k) in
        let p = passed c (part.Key k) (ap (λ d. fault_of d (part.Key k)) is ∙ none) in
        let stands_there = found c k.table at t place there in
        let clear = failed (stands (constraint_names t) (key_name k)) (key_name k) (in_table (λ t. when (stands (constraint_names t) (key_name k)) (key_name k)) (table_of c k.table) t p.constraint stands_there) in
        let one = failed (is_second k.primary t) k.table (in_table (λ t. when (is_second k.primary t) k.table) (table_of c k.table) t p.primary stands_there) in
        let limits = failed (is_past_constraints t k.columns) k.table (in_table (λ t. when (is_past_constraints t k.columns) k.table) (table_of c k.table) t p.limit stands_there) in
        let short = failed (is_long (key_name k)) (key_name k) p.short in
        let extends = holding_extends t (key_of t k) in
        let valid = holding_valid c (record c { tables = slice_set c.tables at u }) (after_grows c at t u there refl extends) t (Each-get (IsValidTable c) c.tables at t h.valid.tables there) k text clear one limits p.column short in
        subst (λ (l : List TableDef). IsIndexed (record { enums = c.enums; tables = l }) es ts cs) (sym made) (reindexed c at t u there refl extends es ts cs h (under_kept t.columns (key_of t k)).names valid)

    pub key_added : (tables : List TableDef) → tables ≡ slice_set c.tables at (holding t (key_of t k)) → (r : CatalogParts) → r ≡ record { enums = c.enums; tables = tables } → r ≡ added s (part.Key k)
    unfolding added
    key_added tables made r same =
        same ∙ ap (λ (l : List TableDef). record { enums = c.enums; tables = l }) made ∙ sym (changed_there c k.table (with_key k) at t place there) ∙ ap (λ (d : CatalogParts). added d (part.Key k)) is

-- where no table has the name nothing changes
pub unchanged : (c : CatalogParts) (name : List ℕ) (f : TableDef → TableDef) → place_of (table_names c) name ≡ None → c ≡ with_table c name f
unchanged c name f is = sym (ap (λ (o : Option ℕ). record c { tables = changed_named c.tables o f }) is)

pub key_unchanged : (s : CatalogParts) (k : KeyPart) → place_of (table_names s) k.table ≡ None → s ≡ added s (part.Key k)
unfolding added
key_unchanged s k is = unchanged s k.table (with_key k) is

-- an item of a list, as an index gives it
pub item_there : {A : Type 0} (xs : List A) (at : ℕ) (x : A) → at < length xs → x ≡ get_or xs at x → slice_get xs at ≡ Some x
item_there xs at x lt e = slice_get-get_or xs at x lt ∙ ap (λ y. Some y) (sym e)

pub key_made : (t : TableDef) (k : KeyPart) (name : List ℕ) (columns : List ℕ) → name ≡ key_name k → columns ≡ places_of (column_names t) k.columns → (new : TableDef) → new ≡ holding t (record { name = name; columns = columns; primary = k.primary; tags = no_tags }) → new ≡ holding t (key_of t k)
key_made t k name columns e f new made =
    made ∙ ap (λ (n : List ℕ). holding t (record { name = n; columns = columns; primary = k.primary; tags = no_tags })) e ∙ ap (λ (n : List ℕ). holding t (record { name = key_name k; columns = n; primary = k.primary; tags = no_tags })) f
