-- What a part without a fault adds leaves the catalog valid.
use Rattle.std.proofs.Common.{◌≡◌, ℕ, ◌+◌, ◌≤◌, Bool, true, false, not, cond, List, [], ◌∷◌, ◌++◌, map, length, Option, None, Some, refl, sym, ap, subst, ◌∙◌, arith, append_assoc, length-append, find}
use Rattle.std.specs.Prelude.{nat_le, nat_lt}
use Rattle.std.specs.Option.{option_map}
use Rattle.std.proofs.lemmas.Bool.Decides.{nat_tests}
use Rattle.std.proofs.lemmas.List.{map-append, length-map}
use Rattle.pg_base.specs.Lists.{Each, AreDistinct}
use Rattle.pg_base.specs.Limits.{most_tables, most_enums, most_columns, most_cases}
use Rattle.pg_base.specs.Catalog.{CatalogParts, IsValidCatalog, IsValidEnum, IsValidTable, IsValidColumn, names}
use Rattle.pg_base.specs.declared.enum_def.EnumDef.{EnumDef}
use Rattle.pg_base.specs.declared.table_def.ColumnDef.{ColumnDef}
use Rattle.pg_base.specs.declared.table_def.TableDef.{TableDef}
use Rattle.pg_catalog.specs.declared.part.Part.TheVariants as part
use Rattle.pg_catalog.specs.declared.part.EnumPart.{EnumPart}
use Rattle.pg_catalog.specs.declared.part.ColumnPart.{ColumnPart}
use Rattle.pg_catalog.specs.declared.part.TablePart.{TablePart}
use Rattle.pg_catalog.specs.Names.{enum_names, table_names, stands, is_long}
use Rattle.pg_catalog.specs.Columns.{is_sound, column_of}
use Rattle.pg_catalog.specs.Faults.{fault_of, is_past_enums, is_past_tables}
use Rattle.pg_catalog.specs.Added.{added, enum_of, new_table}
use Rattle.pg_catalog.specs.Texts.{IsTextEnum, IsTextTable, IsTextColumn}
use Rattle.pg_catalog.proofs.EachFacts.{Each-pushed, Each-map}
use Rattle.pg_catalog.proofs.Passed.{Passed, passed, failed, or_false, not_false}
use Rattle.pg_catalog.proofs.NameFacts.{fresh, AreDistinct-pushed, AreDistinct-amid, distinct}
use Rattle.pg_catalog.proofs.Grown.{Covers-refl, Covers-append, Extends, Extends-refl, Grows, table_grows, same_cases}
use Rattle.pg_catalog.proofs.ValidParts.{no_texts, short_name, column_valid}

grows_enums : (c : CatalogParts) (e : EnumDef) → Grows c (record c { enums = c.enums ++ e ∷ [] })
grows_enums c e = record {
  count = omega (arith, length-append c.enums (e ∷ []));
  enums = Covers-append same_cases (λ x. refl) c.enums (e ∷ []);
  tables = Covers-refl Extends Extends-refl c.tables;
}

grows_tables : (c : CatalogParts) (t : TableDef) → Grows c (record c { tables = c.tables ++ t ∷ [] })
grows_tables c t = record {
  count = omega arith;
  enums = Covers-refl same_cases (λ x. refl) c.enums;
  tables = Covers-append Extends Extends-refl c.tables (t ∷ []);
}

-- one more, under the limit
under : {A : Type 0} (xs : List A) (x : A) (most : ℕ) → nat_le most (length xs) ≡ false → length (xs ++ x ∷ []) ≤ most
under xs x most e = let n : length (xs ++ x ∷ []) ≡ length xs + 1 = length-append xs (x ∷ []) in grind (arith, nat_tests)

up_to : (n most : ℕ) → nat_lt most n ≡ false → n ≤ most
up_to n most e = grind (arith, nat_tests)

pub enum_valid : (c : CatalogParts) (e : EnumPart) → IsValidCatalog c → IsTextEnum e → fault_of c (part.Enum e) ≡ None → IsValidCatalog (added c (part.Enum e))
unfolding added
enum_valid c e valid text none =
    let p = passed c (part.Enum e) none in
    let taken : stands (names c) e.name ≡ false = failed (stands (names c) e.name) e.name p.name in
    let short : is_long e.name ≡ false = failed (is_long e.name) e.name p.short in
    let limit = or_false (nat_le most_enums (length c.enums)) (nat_lt most_cases (length e.cases)) (failed (is_past_enums c e) e.name p.limit) in
    record {
      enum_limit = under c.enums (enum_of e) most_enums limit.0;
      table_limit = valid.table_limit;
      names = subst (λ (l : List (List ℕ)). AreDistinct (l ++ table_names c)) (sym (map-append (λ d. d.name) c.enums (enum_of e ∷ []))) (AreDistinct-amid (enum_names c) (table_names c) e.name valid.names (fresh (names c) e.name taken));
      enums = Each-pushed IsValidEnum c.enums (enum_of e) valid.enums (record { named = short_name e.name text.name short; tags = no_texts; cases = text.cases; limit = up_to (length e.cases) most_cases limit.1 });
      tables = Each-map (IsValidTable c) (IsValidTable (record c { enums = c.enums ++ enum_of e ∷ [] })) (table_grows c (record c { enums = c.enums ++ enum_of e ∷ [] }) (grows_enums c (enum_of e))) c.tables valid.tables;
    }

-- where nothing is found, every item fails the test
pub none_found : {A : Type 0} (test : A → Bool) (xs : List A) → find test xs ≡ None → Each (λ x. test x ≡ false) xs
none_found test [] e = tt
none_found test (x ∷ xs) e = go (none_found test xs) (test x) refl
  where
    go : (find test xs ≡ None → Each (λ x. test x ≡ false) xs) → (v : Bool) → test x ≡ v → Each (λ x. test x ≡ false) (x ∷ xs)
    go later true hit = absurd (let bad : Some x ≡ None = sym (ap (λ b. cond b (Some x) (find test xs)) hit) ∙ e in cc)
    go later false miss = (miss, later (sym (ap (λ b. cond b (Some x) (find test xs)) miss) ∙ e))

map_none : {A B : Type 0} (f : A → B) (o : Option A) → option_map f o ≡ None → o ≡ None
map_none f None e = refl
map_none f (Some x) e = absurd (cc)

Each-under : {A B : Type 0} (P : B → Type 0) (f : A → B) (xs : List A) → Each P (map f xs) → Each (λ x. P (f x)) xs
Each-under P f [] h = tt
Each-under P f (x ∷ xs) h = (h.0, Each-under P f xs h.1)

columns_valid : (enums : List EnumDef) (columns : List ColumnPart) → Each IsTextColumn columns → Each (λ column. not (is_sound enums column) ≡ false) columns → Each (λ column. is_long column.name ≡ false) columns → Each (IsValidColumn enums) (map (column_of enums) columns)
columns_valid enums [] h s l = tt
columns_valid enums (c ∷ cs) h s l = (column_valid enums c h.0 (not_false (is_sound enums c) s.0) l.0, columns_valid enums cs h.1 s.1 l.1)

pub names_kept : (enums : List EnumDef) (columns : List ColumnPart) → map (λ (d : ColumnDef). d.name) (map (column_of enums) columns) ≡ map (λ column. column.name) columns
names_kept enums [] = refl
names_kept enums (c ∷ cs) = ap (λ l. c.name ∷ l) (names_kept enums cs)

table_new : (c d : CatalogParts) (t : TablePart) → d.enums ≡ c.enums → IsTextTable t → Passed c (part.Table t) → IsValidTable d (new_table c.enums t)
table_new c d t same text p =
    let longs = none_found is_long (t.name ∷ map (λ column. column.name) t.columns) p.short in
    let sound = none_found (λ column. not (is_sound c.enums column)) t.columns (map_none (λ column. column.name) (find (λ column. not (is_sound c.enums column)) t.columns) p.types) in
    let limit = or_false (nat_le most_tables (length c.tables)) (nat_lt most_columns (length t.columns)) (failed (is_past_tables c t) t.name p.limit) in
    record {
      named = short_name t.name text.name longs.0;
      tags = no_texts;
      column_limit = subst (λ (n : ℕ). n ≤ most_columns) (sym (length-map t.columns (column_of c.enums))) (up_to (length t.columns) most_columns limit.1);
      constraint_limit = omega arith;
      column_names = subst (λ (l : List (List ℕ)). AreDistinct l) (sym (names_kept c.enums t.columns)) (distinct (map (λ column. column.name) t.columns) p.column);
      constraint_names = tt;
      columns = subst (λ (enums : List EnumDef). Each (IsValidColumn enums) (map (column_of c.enums) t.columns)) (sym same) (columns_valid c.enums t.columns text.columns sound (Each-under (λ name. is_long name ≡ false) (λ column. column.name) t.columns longs.1));
      keys = tt;
      links = tt;
      one_primary = omega arith;
    }

pub table_valid : (c : CatalogParts) (t : TablePart) → IsValidCatalog c → IsTextTable t → fault_of c (part.Table t) ≡ None → IsValidCatalog (added c (part.Table t))
unfolding added
table_valid c t valid text none =
    let p = passed c (part.Table t) none in
    let d : CatalogParts = record c { tables = c.tables ++ new_table c.enums t ∷ [] } in
    let taken : stands (names c) t.name ≡ false = failed (stands (names c) t.name) t.name p.name in
    let limit = or_false (nat_le most_tables (length c.tables)) (nat_lt most_columns (length t.columns)) (failed (is_past_tables c t) t.name p.limit) in
    record {
      enum_limit = valid.enum_limit;
      table_limit = under c.tables (new_table c.enums t) most_tables limit.0;
      names = subst (λ (l : List (List ℕ)). AreDistinct l) (append_assoc (enum_names c) (table_names c) (t.name ∷ []) ∙ ap (λ (l : List (List ℕ)). enum_names c ++ l) (sym (map-append (λ u. u.name) c.tables (new_table c.enums t ∷ [])))) (AreDistinct-pushed (names c) t.name valid.names (fresh (names c) t.name taken));
      enums = valid.enums;
      tables = Each-pushed (IsValidTable d) c.tables (new_table c.enums t) (Each-map (IsValidTable c) (IsValidTable d) (table_grows c d (grows_tables c (new_table c.enums t))) c.tables valid.tables) (table_new c d t refl text p);
    }
