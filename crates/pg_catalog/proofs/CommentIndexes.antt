-- The look-ups after a comment.
use Rattle.std.proofs.Common.{◌≡◌, ℕ, ◌+◌, Bool, not, cond, List, [], ◌∷◌, map, length, Option, None, Some, refl, sym, ap, subst, ◌∙◌}
use Rattle.std.specs.Prelude.{nat_lt}
use Rattle.std.specs.List.{slice_get, slice_set, position, position_or_len, prefix_len}
use Rattle.std.specs.Option.{option_map}
use Rattle.std.specs.Str.{bytes_eq}
use Rattle.std.proofs.lemmas.List.{length-map}
use Rattle.pg_base.specs.Catalog.{CatalogParts, IsValidTable, AreTexts}
use Rattle.pg_base.specs.declared.tags.Tags.{Tags}
use Rattle.pg_base.specs.declared.enum_def.EnumDef.{EnumDef}
use Rattle.pg_base.specs.declared.table_def.ColumnDef.{ColumnDef}
use Rattle.pg_base.specs.declared.table_def.KeyDef.{KeyDef}
use Rattle.pg_base.specs.declared.table_def.LinkDef.{LinkDef}
use Rattle.pg_base.specs.declared.table_def.TableDef.{TableDef}
use Rattle.pg_catalog.specs.Names.{enum_names, table_names, place_of, put, changed}
use Rattle.pg_catalog.specs.Added.{changed_named, with_table, with_tags_of_key, with_tags_of_link, with_constraint_tags, commented_on}
use Rattle.pg_catalog.specs.declared.part.Commented.TheVariants as commented
use Rattle.pg_catalog.specs.Indexed.{IsIndexed}
use Rattle.pg_catalog.proofs.EachFacts.{Each-get}
use Rattle.pg_catalog.proofs.Grown.{Covers-refl, Extends, Extends-refl, table_grows, same_kind, same_columns}
use Rattle.pg_catalog.proofs.Replaced.{reindexed, after_grows}
use Rattle.pg_catalog.proofs.Changed.{Kept, Covers-changed}
use Rattle.pg_catalog.proofs.TablesChanged.{changed_there}
use Rattle.pg_catalog.proofs.CommentedFacts.{enum_indexed, tagged_table, tagged_column, tagged_key, tagged_link, column_tags_kept}

prefix_len-map : {A B : Type 0} (p : B → Bool) (f : A → B) (xs : List A) → prefix_len p (map f xs) ≡ prefix_len (λ x. p (f x)) xs
prefix_len-map p f [] = refl
prefix_len-map p f (x ∷ xs) = ap (λ n. cond (p (f x)) (1 + n) 0) (prefix_len-map p f xs)

-- the place of an item by a view of it
pub position-map : {A B : Type 0} (p : B → Bool) (f : A → B) (xs : List A) → position p (map f xs) ≡ position (λ x. p (f x)) xs
position-map p f xs =
    ap (λ n. cond (nat_lt n (length (map f xs))) (Some n) None) (prefix_len-map (λ y. not (p y)) f xs)
    ∙ ap (λ m. cond (nat_lt (position_or_len (λ x. p (f x)) xs) m) (Some (position_or_len (λ x. p (f x)) xs)) None) (length-map xs f)

pub key_position : (name : List ℕ) (keys : List KeyDef) (o : Option ℕ) → o ≡ position (λ k. bytes_eq name k.name) keys → o ≡ place_of (map (λ k. k.name) keys) name
key_position name keys o e = e ∙ sym (position-map (bytes_eq name) (λ (k : KeyDef). k.name) keys)

pub link_position : (name : List ℕ) (links : List LinkDef) (o : Option ℕ) → o ≡ position (λ k. bytes_eq name k.name) links → o ≡ place_of (map (λ k. k.name) links) name
link_position name links o e = e ∙ sym (position-map (bytes_eq name) (λ (k : LinkDef). k.name) links)

key_extends : (tags : Tags) (t : TableDef) (at : ℕ) → Extends t (with_tags_of_key tags at t)
key_extends tags t at = record {
  columns = Covers-refl same_kind (λ x. refl) t.columns;
  keys = Covers-changed (λ k. record k { tags = tags }) same_columns (λ x. refl) (λ x. refl) t.keys at;
}

column_extends : (t : TableDef) (more : List ColumnDef) → Kept t.columns more → Extends t (record t { columns = more })
column_extends t more kept = record { columns = kept.kinds; keys = Covers-refl same_columns (λ x. refl) t.keys }

module _ (c : CatalogParts) (es ts : List (List ℕ)) (cs : List (List (List ℕ))) (h : IsIndexed c es ts cs) (tags : Tags) (texts : AreTexts tags) (at : ℕ) (t : TableDef) (there : slice_get c.tables at ≡ Some t) where
  pub with_table_tags : (tables : List TableDef) → tables ≡ slice_set c.tables at (record t { tags = tags }) → IsIndexed (record { enums = c.enums; tables = tables }) es ts cs
  with_table_tags tables made =
      let u : TableDef = record t { tags = tags } in
      let extends : Extends t u = record { columns = Covers-refl same_kind (λ x. refl) t.columns; keys = Covers-refl same_columns (λ x. refl) t.keys } in
      let valid = tagged_table tags texts c (record c { tables = slice_set c.tables at u }) (after_grows c at t u there refl extends) t (Each-get (IsValidTable c) c.tables at t h.valid.tables there) in
      subst (λ (l : List TableDef). IsIndexed (record { enums = c.enums; tables = l }) es ts cs) (sym made) (reindexed c at t u there refl extends es ts cs h refl valid)

  pub with_column_tags : (o : Option ℕ) (tables : List TableDef) → tables ≡ slice_set c.tables at (record t { columns = changed_named t.columns o (λ column. record column { tags = tags }) }) → IsIndexed (record { enums = c.enums; tables = tables }) es ts cs
  with_column_tags None tables made =
      let valid = table_grows c (record c { tables = slice_set c.tables at t }) (after_grows c at t t there refl (Extends-refl t)) t (Each-get (IsValidTable c) c.tables at t h.valid.tables there) in
      subst (λ (l : List TableDef). IsIndexed (record { enums = c.enums; tables = l }) es ts cs) (sym made) (reindexed c at t t there refl (Extends-refl t) es ts cs h refl valid)
  with_column_tags (Some place) tables made =
      let kept = column_tags_kept tags texts t.columns place in
      let more : List ColumnDef = changed t.columns place (λ column. record column { tags = tags }) in
      let u : TableDef = record t { columns = more } in
      let extends = column_extends t more kept in
      let valid = tagged_column tags texts c (record c { tables = slice_set c.tables at u }) (after_grows c at t u there refl extends) t (Each-get (IsValidTable c) c.tables at t h.valid.tables there) place kept in
      subst (λ (l : List TableDef). IsIndexed (record { enums = c.enums; tables = l }) es ts cs) (sym made) (reindexed c at t u there refl extends es ts cs h kept.names valid)

  pub with_constraint : (o p : Option ℕ) (tables : List TableDef) → tables ≡ slice_set c.tables at (with_constraint_tags tags o p t) → IsIndexed (record { enums = c.enums; tables = tables }) es ts cs
  with_constraint None None tables made =
      let valid = table_grows c (record c { tables = slice_set c.tables at t }) (after_grows c at t t there refl (Extends-refl t)) t (Each-get (IsValidTable c) c.tables at t h.valid.tables there) in
      subst (λ (l : List TableDef). IsIndexed (record { enums = c.enums; tables = l }) es ts cs) (sym made) (reindexed c at t t there refl (Extends-refl t) es ts cs h refl valid)
  with_constraint None (Some place) tables made =
      let u : TableDef = with_tags_of_link tags place t in
      let extends : Extends t u = record { columns = Covers-refl same_kind (λ x. refl) t.columns; keys = Covers-refl same_columns (λ x. refl) t.keys } in
      let valid = tagged_link tags texts c (record c { tables = slice_set c.tables at u }) (after_grows c at t u there refl extends) t (Each-get (IsValidTable c) c.tables at t h.valid.tables there) place in
      subst (λ (l : List TableDef). IsIndexed (record { enums = c.enums; tables = l }) es ts cs) (sym made) (reindexed c at t u there refl extends es ts cs h refl valid)
  with_constraint (Some place) p tables made =
      let u : TableDef = with_tags_of_key tags place t in
      let extends = key_extends tags t place in
      let valid = tagged_key tags texts c (record c { tables = slice_set c.tables at u }) (after_grows c at t u there refl extends) t (Each-get (IsValidTable c) c.tables at t h.valid.tables there) place in
      subst (λ (l : List TableDef). IsIndexed (record { enums = c.enums; tables = l }) es ts cs) (sym made) (reindexed c at t u there refl extends es ts cs h refl valid)

abbrev retagged : Tags → EnumDef → EnumDef
retagged tags e = record e { tags = tags }

pub with_enum_tags : (c : CatalogParts) (es ts : List (List ℕ)) (cs : List (List (List ℕ))) → IsIndexed c es ts cs → (tags : Tags) → AreTexts tags → (at : ℕ) (e : EnumDef) → slice_get c.enums at ≡ Some e → (enums : List EnumDef) → enums ≡ slice_set c.enums at (record e { tags = tags }) → IsIndexed (record { enums = enums; tables = c.tables }) es ts cs
with_enum_tags c es ts cs h tags texts at e there enums made =
    subst (λ (l : List EnumDef). IsIndexed (record { enums = l; tables = c.tables }) es ts cs)
    (ap (λ (o : Option EnumDef). put c.enums at (option_map (λ (e : EnumDef). retagged tags e) o)) there ∙ sym made)
    (enum_indexed tags texts c es ts cs h at)

pub enum_commented : (c s : CatalogParts) → c ≡ s → (name : List ℕ) (tags : Tags) (at : ℕ) (e : EnumDef) → place_of (enum_names c) name ≡ Some at → slice_get c.enums at ≡ Some e → (enums : List EnumDef) → enums ≡ slice_set c.enums at (record e { tags = tags }) → (r : CatalogParts) → r ≡ record { enums = enums; tables = c.tables } → r ≡ commented_on s (commented.Enum name) tags
enum_commented c s is name tags at e place there enums made r same =
    same ∙ ap (λ (l : List EnumDef). record { enums = l; tables = c.tables }) made
    ∙ sym (ap (λ (o : Option EnumDef). record c { enums = put c.enums at (option_map (λ (e : EnumDef). retagged tags e) o) }) there)
    ∙ sym (ap (λ (o : Option ℕ). record c { enums = changed_named c.enums o (λ e. record e { tags = tags }) }) place)
    ∙ ap (λ (d : CatalogParts). commented_on d (commented.Enum name) tags) is

pub enum_uncommented : (s : CatalogParts) (name : List ℕ) (tags : Tags) → place_of (enum_names s) name ≡ None → s ≡ commented_on s (commented.Enum name) tags
enum_uncommented s name tags is = sym (ap (λ (o : Option ℕ). record s { enums = changed_named s.enums o (λ e. record e { tags = tags }) }) is)

module _ (c s : CatalogParts) (is : c ≡ s) (tags : Tags) (at : ℕ) (t : TableDef) (name : List ℕ) (place : place_of (table_names c) name ≡ Some at) (there : slice_get c.tables at ≡ Some t) (f : TableDef → TableDef) where
  -- the table of the name changed
  pub table_commented : (tables : List TableDef) → tables ≡ slice_set c.tables at (f t) → (r : CatalogParts) → r ≡ record { enums = c.enums; tables = tables } → r ≡ with_table s name f
  table_commented tables made r same =
      same ∙ ap (λ (l : List TableDef). record { enums = c.enums; tables = l }) made ∙ sym (changed_there c name f at t place there) ∙ ap (λ (d : CatalogParts). with_table d name f) is
