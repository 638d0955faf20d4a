-- What the fold gives is valid.
use Rattle.std.proofs.Common.{◌≡◌, ℕ, ◌<◌, List, [], ◌∷◌, map, length, Option, None, Some, Result, Ok, Err, refl, sym, ap, subst, ◌∙◌, arith}
use Rattle.std.specs.List.{slice_get, slice_set}
use Rattle.std.specs.Str.{IsUtf8, bytes_eq}
use Rattle.std.proofs.lemmas.List.{length-map}
use Rattle.std.proofs.lemmas.List.Quantifiers.{position-Some}
use Rattle.pg_base.specs.Lists.{Each}
use Rattle.pg_base.specs.Catalog.{CatalogParts, IsValidCatalog, AreTexts}
use Rattle.pg_base.specs.declared.tags.Tags.{Tags}
use Rattle.pg_base.specs.declared.enum_def.EnumDef.{EnumDef}
use Rattle.pg_base.specs.declared.table_def.ColumnDef.{ColumnDef}
use Rattle.pg_base.specs.declared.table_def.TableDef.{TableDef}
use Rattle.pg_catalog.specs.declared.fault.CatalogFault.{CatalogFault}
use Rattle.pg_catalog.specs.declared.part.Part.{Part}
use Rattle.pg_catalog.specs.declared.part.Part.TheVariants as part
use Rattle.pg_catalog.specs.declared.part.KeyPart.{KeyPart}
use Rattle.pg_catalog.specs.declared.part.LinkPart.{LinkPart}
use Rattle.pg_catalog.specs.declared.part.CommentPart.{CommentPart}
use Rattle.pg_catalog.specs.declared.part.Commented.{Commented}
use Rattle.pg_catalog.specs.declared.part.Commented.TheVariants as commented
use Rattle.pg_catalog.specs.Names.{enum_names, table_names, column_names, place_of}
use Rattle.pg_catalog.specs.Constraints.{key_name, key_of, link_name, link_of}
use Rattle.pg_catalog.specs.Faults.{fault_of}
use Rattle.pg_catalog.specs.Added.{added, holding, linked, with_table, with_column_tags, with_named_tags, with_constraint_tags, commented_on}
use Rattle.pg_catalog.specs.Built.{empty, unless_fault, catalog_after, catalog_of}
use Rattle.pg_catalog.specs.Indexed.{IsIndexed}
use Rattle.pg_catalog.specs.Texts.{HasTexts}
use Rattle.pg_catalog.proofs.Changed.{missing}
use Rattle.pg_catalog.proofs.Valid.{enum_valid, table_valid}
use Rattle.pg_catalog.proofs.TablesChanged.{key_unchanged, key_indexed, key_added, unchanged}
use Rattle.pg_catalog.proofs.LinkChanged.{link_unchanged, link_indexed, link_added, target_stands}
use Rattle.pg_catalog.proofs.CommentIndexes as tagged

plain : (c : CatalogParts) → IsValidCatalog c → IsIndexed c (enum_names c) (table_names c) (map column_names c.tables)
plain c valid = record { valid = valid; enums = refl; tables = refl; columns = refl }

-- the table at the place of a name
table_at : (c : CatalogParts) (name : List ℕ) (at : ℕ) → place_of (table_names c) name ≡ Some at → (t : TableDef) × (slice_get c.tables at ≡ Some t)
table_at c name at e = go (slice_get c.tables at) refl
  where
    lt : at < length c.tables
    lt = let within = (position-Some (bytes_eq name) (table_names c) at [] e).0 in subst (λ (n : ℕ). at < n) (length-map c.tables (λ t. t.name)) within

    go : (o : Option TableDef) → slice_get c.tables at ≡ o → (t : TableDef) × (slice_get c.tables at ≡ Some t)
    go None f = absurd (missing c.tables at lt f)
    go (Some t) f = (t, f)

enum_at : (c : CatalogParts) (name : List ℕ) (at : ℕ) → place_of (enum_names c) name ≡ Some at → (e : EnumDef) × (slice_get c.enums at ≡ Some e)
enum_at c name at e = go (slice_get c.enums at) refl
  where
    lt : at < length c.enums
    lt = let within = (position-Some (bytes_eq name) (enum_names c) at [] e).0 in subst (λ (n : ℕ). at < n) (length-map c.enums (λ t. t.name)) within

    go : (o : Option EnumDef) → slice_get c.enums at ≡ o → (t : EnumDef) × (slice_get c.enums at ≡ Some t)
    go None f = absurd (missing c.enums at lt f)
    go (Some t) f = (t, f)

module _ (c : CatalogParts) (valid : IsValidCatalog c) where
  key_law : (k : KeyPart) → IsUtf8 (key_name k) → fault_of c (part.Key k) ≡ None → IsValidCatalog (added c (part.Key k))
  key_law k text none = go (place_of (table_names c) k.table) refl
    where
      go : (o : Option ℕ) → place_of (table_names c) k.table ≡ o → IsValidCatalog (added c (part.Key k))
      go None e = subst IsValidCatalog (key_unchanged c k e) valid
      go (Some at) e =
          let found = table_at c k.table at e in
          subst IsValidCatalog (key_added c c refl _ _ _ (plain c valid) k none text at found.0 e found.1 _ refl _ refl)
          (key_indexed c c refl _ _ _ (plain c valid) k none text at found.0 e found.1 (slice_set c.tables at (holding found.0 (key_of found.0 k))) refl).valid

  link_law : (l : LinkPart) → IsUtf8 (link_name l) → fault_of c (part.Link l) ≡ None → IsValidCatalog (added c (part.Link l))
  link_law l text none = go (place_of (table_names c) l.table) refl (place_of (table_names c) l.target) refl
    where
      go : (o : Option ℕ) → place_of (table_names c) l.table ≡ o → (p : Option ℕ) → place_of (table_names c) l.target ≡ p → IsValidCatalog (added c (part.Link l))
      go None e p f = subst IsValidCatalog (link_unchanged c l e) valid
      go (Some at) e None f = absurd (target_stands c l none f)
      go (Some at) e (Some to) f =
          let own = table_at c l.table at e in
          let aim = table_at c l.target to f in
          subst IsValidCatalog (link_added c c refl _ _ _ (plain c valid) l none text at own.0 e own.1 to aim.0 f aim.1 _ refl _ refl)
          (link_indexed c c refl _ _ _ (plain c valid) l none text at own.0 e own.1 to aim.0 f aim.1 (slice_set c.tables at (linked own.0 (link_of c own.0 aim.0 l))) refl).valid

  module _ (tags : Tags) (texts : AreTexts tags) where
    enum_law : (name : List ℕ) → IsValidCatalog (commented_on c (commented.Enum name) tags)
    enum_law name = go (place_of (enum_names c) name) refl
      where
        go : (o : Option ℕ) → place_of (enum_names c) name ≡ o → IsValidCatalog (commented_on c (commented.Enum name) tags)
        go None e = subst IsValidCatalog (tagged.enum_uncommented c name tags e) valid
        go (Some at) e =
            let found = enum_at c name at e in
            subst IsValidCatalog (tagged.enum_commented c c refl name tags at found.0 e found.1 _ refl _ refl)
            (tagged.with_enum_tags c _ _ _ (plain c valid) tags texts at found.0 found.1 (slice_set c.enums at (record found.0 { tags = tags })) refl).valid

    -- a table of the name changed, where the change keeps the catalog indexed
    table_law : (name : List ℕ) (f : TableDef → TableDef) → ((at : ℕ) (t : TableDef) → slice_get c.tables at ≡ Some t → IsIndexed (record { enums = c.enums; tables = slice_set c.tables at (f t) }) (enum_names c) (table_names c) (map column_names c.tables)) → IsValidCatalog (with_table c name f)
    table_law name f keeps = go (place_of (table_names c) name) refl
      where
        go : (o : Option ℕ) → place_of (table_names c) name ≡ o → IsValidCatalog (with_table c name f)
        go None e = subst IsValidCatalog (unchanged c name f e) valid
        go (Some at) e =
            let found = table_at c name at e in
            subst IsValidCatalog (tagged.table_commented c c refl tags at found.0 name e found.1 f _ refl _ refl) (keeps at found.0 found.1).valid

    comment_law : (on : Commented) → IsValidCatalog (commented_on c on tags)
    comment_law (commented.Enum name) = enum_law name
    comment_law (commented.Table name) = table_law name (λ t. record t { tags = tags }) (λ at t there. tagged.with_table_tags c _ _ _ (plain c valid) tags texts at t there _ refl)
    comment_law (commented.Column table name) = table_law table (with_column_tags tags name) (λ at t there. tagged.with_column_tags c _ _ _ (plain c valid) tags texts at t there (place_of (column_names t) name) _ refl)
    comment_law (commented.Constraint table name) = table_law table (with_named_tags tags name) (λ at t there. tagged.with_constraint c _ _ _ (plain c valid) tags texts at t there (place_of (map (λ k. k.name) t.keys) name) (place_of (map (λ l. l.name) t.links) name) _ refl)

  comment_valid : (m : CommentPart) → AreTexts m.tags → IsValidCatalog (added c (part.Comment m))
  unfolding added
  comment_valid m texts = comment_law m.tags texts m.on

pub added_valid : (c : CatalogParts) (p : Part) → IsValidCatalog c → HasTexts p → fault_of c p ≡ None → IsValidCatalog (added c p)
added_valid c (part.Enum e) valid text none = enum_valid c e valid text none
added_valid c (part.Table t) valid text none = table_valid c t valid text none
added_valid c (part.Key k) valid text none = key_law c valid k text none
added_valid c (part.Link l) valid text none = link_law c valid l text none
added_valid c (part.Comment m) valid text none = comment_valid c valid m text

after_valid : (parts : List Part) (c d : CatalogParts) → IsValidCatalog c → Each HasTexts parts → catalog_after c parts ≡ Ok d → IsValidCatalog d
unfolding catalog_after
after_valid [] c d valid texts e = let same : c ≡ d = cc in subst IsValidCatalog same valid
after_valid (p ∷ parts) c d valid texts e = go (fault_of c p) refl (λ (v : IsValidCatalog (added c p)) (f : catalog_after (added c p) parts ≡ Ok d). after_valid parts (added c p) d v texts.1 f) e
  where
    go : (o : Option CatalogFault) → fault_of c p ≡ o → (IsValidCatalog (added c p) → catalog_after (added c p) parts ≡ Ok d → IsValidCatalog d) → unless_fault o (catalog_after (added c p) parts) ≡ Ok d → IsValidCatalog d
    go None none later e = later (added_valid c p valid texts.0 none) e
    go (Some f) some later e = absurd (cc)

empty_valid : IsValidCatalog empty
empty_valid = record { enum_limit = omega arith; table_limit = omega arith; names = tt; enums = tt; tables = tt }

pub catalog_valid : (parts : List Part) (c : CatalogParts) → Each HasTexts parts → catalog_of parts ≡ Ok c → IsValidCatalog c
catalog_valid parts c texts e = after_valid parts empty c empty_valid texts e
