-- The look-ups after a part is added.
use Rattle.std.proofs.Common.{◌≡◌, ℕ, false, List, [], ◌∷◌, ◌++◌, map, None, sym, ap, subst, ◌∙◌}
use Rattle.std.specs.Str.{bytes_eq}
use Rattle.std.proofs.lemmas.List.{map-append}
use Rattle.std.proofs.lemmas.List.Folds.{list_any-append}
use Rattle.pg_base.specs.Catalog.{CatalogParts, names}
use Rattle.pg_base.specs.declared.enum_def.EnumDef.{EnumDef}
use Rattle.pg_base.specs.declared.table_def.TableDef.{TableDef}
use Rattle.pg_catalog.specs.declared.part.Part.TheVariants as part
use Rattle.pg_catalog.specs.declared.part.EnumPart.{EnumPart}
use Rattle.pg_catalog.specs.declared.part.TablePart.{TablePart}
use Rattle.pg_catalog.specs.Names.{enum_names, table_names, column_names, stands, first_double}
use Rattle.pg_catalog.specs.Faults.{fault_of}
use Rattle.pg_catalog.specs.Added.{added, enum_of, new_table}
use Rattle.pg_catalog.specs.Indexed.{IsIndexed}
use Rattle.pg_catalog.specs.Texts.{IsTextEnum, IsTextTable}
use Rattle.pg_catalog.proofs.Passed.{passed, failed, or_false}
use Rattle.pg_catalog.proofs.Valid.{enum_valid, table_valid, names_kept}

-- a name that neither an enum nor a table has
free : (c : CatalogParts) (name : List ℕ) → stands (names c) name ≡ false → (stands (enum_names c) name ≡ false) × (stands (table_names c) name ≡ false)
free c name e = or_false (stands (enum_names c) name) (stands (table_names c) name) (sym (list_any-append (bytes_eq name) (enum_names c) (table_names c)) ∙ e)

module _ (c s : CatalogParts) (is : c ≡ s) (es ts : List (List ℕ)) (cs : List (List (List ℕ))) (h : IsIndexed c es ts cs) where
  pub enum_free : (e : EnumPart) → fault_of s (part.Enum e) ≡ None → stands es e.name ≡ false
  enum_free e none =
      let p = passed c (part.Enum e) (ap (λ d. fault_of d (part.Enum e)) is ∙ none) in
      ap (λ (l : List (List ℕ)). stands l e.name) h.enums ∙ (free c e.name (failed (stands (names c) e.name) e.name p.name)).0

  pub table_free : (t : TablePart) → fault_of s (part.Table t) ≡ None → stands ts t.name ≡ false
  table_free t none =
      let p = passed c (part.Table t) (ap (λ d. fault_of d (part.Table t)) is ∙ none) in
      ap (λ (l : List (List ℕ)). stands l t.name) h.tables ∙ (free c t.name (failed (stands (names c) t.name) t.name p.name)).1

  pub columns_differ : (t : TablePart) → fault_of s (part.Table t) ≡ None → (named : List (List ℕ)) → named ≡ map (λ column. column.name) t.columns → first_double named ≡ None
  columns_differ t none named e =
      let p = passed c (part.Table t) (ap (λ d. fault_of d (part.Table t)) is ∙ none) in
      ap first_double e ∙ p.column

  pub with_enum : (e : EnumPart) → IsTextEnum e → fault_of s (part.Enum e) ≡ None → (enums : List EnumDef) → enums ≡ c.enums ++ enum_of e ∷ [] → (more : List (List ℕ)) → more ≡ es ++ e.name ∷ [] → IsIndexed (record { enums = enums; tables = c.tables }) more ts cs
  unfolding added
  with_enum e text none enums made more named =
      let d : CatalogParts = record c { enums = c.enums ++ enum_of e ∷ [] } in
      let there : IsIndexed d more ts cs = record {
        valid = enum_valid c e h.valid text (ap (λ d. fault_of d (part.Enum e)) is ∙ none);
        enums = named ∙ ap (λ (l : List (List ℕ)). l ++ e.name ∷ []) h.enums ∙ sym (map-append (λ f. f.name) c.enums (enum_of e ∷ []));
        tables = h.tables;
        columns = h.columns;
      } in
      subst (λ (l : List EnumDef). IsIndexed (record { enums = l; tables = c.tables }) more ts cs) (sym made) there

  pub enum_added : (e : EnumPart) (enums : List EnumDef) → enums ≡ c.enums ++ enum_of e ∷ [] → (r : CatalogParts) → r ≡ record { enums = enums; tables = c.tables } → r ≡ added s (part.Enum e)
  unfolding added
  enum_added e enums made r same =
      same ∙ ap (λ (l : List EnumDef). record { enums = l; tables = c.tables }) made ∙ ap (λ (d : CatalogParts). added d (part.Enum e)) is

  pub with_table : (t : TablePart) → IsTextTable t → fault_of s (part.Table t) ≡ None → (tables : List TableDef) → tables ≡ c.tables ++ new_table c.enums t ∷ [] → (more : List (List ℕ)) → more ≡ ts ++ t.name ∷ [] → (known : List (List (List ℕ))) → known ≡ cs ++ map (λ column. column.name) t.columns ∷ [] → IsIndexed (record { enums = c.enums; tables = tables }) es more known
  unfolding added
  with_table t text none tables made more named known listed =
      let d : CatalogParts = record c { tables = c.tables ++ new_table c.enums t ∷ [] } in
      let there : IsIndexed d es more known = record {
        valid = table_valid c t h.valid text (ap (λ d. fault_of d (part.Table t)) is ∙ none);
        enums = h.enums;
        tables = named ∙ ap (λ (l : List (List ℕ)). l ++ t.name ∷ []) h.tables ∙ sym (map-append (λ f. f.name) c.tables (new_table c.enums t ∷ []));
        columns = listed ∙ ap (λ (l : List (List (List ℕ))). l ++ map (λ column. column.name) t.columns ∷ []) h.columns ∙ ap (λ (n : List (List ℕ)). map column_names c.tables ++ n ∷ []) (sym (names_kept c.enums t.columns)) ∙ sym (map-append column_names c.tables (new_table c.enums t ∷ []));
      } in
      subst (λ (l : List TableDef). IsIndexed (record { enums = c.enums; tables = l }) es more known) (sym made) there

  pub table_added : (t : TablePart) (tables : List TableDef) → tables ≡ c.tables ++ new_table c.enums t ∷ [] → (r : CatalogParts) → r ≡ record { enums = c.enums; tables = tables } → r ≡ added s (part.Table t)
  unfolding added
  table_added t tables made r same =
      same ∙ ap (λ (l : List TableDef). record { enums = c.enums; tables = l }) made ∙ ap (λ (d : CatalogParts). added d (part.Table t)) is
