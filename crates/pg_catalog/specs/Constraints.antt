-- Keys and links as they stand in the catalog.
use Rattle.std.specs.Prelude.{ℕ, Bool, true, false, ◌==◌, ◌&&◌, List, [], ◌++◌, length, Option, None, Some, unwrap_or, slice_get, option_map, find, codes}
use Rattle.std.specs.List.{list_any, list_all, zip}
use Rattle.pg_base.specs.Catalog.{CatalogParts}
use Rattle.pg_base.specs.Kind.{Family, texts, integers, truths, cases_of, family}
use Rattle.pg_base.specs.Tags.{no_tags}
use Rattle.pg_base.specs.declared.table_def.ColumnDef.{ColumnDef}
use Rattle.pg_base.specs.declared.table_def.KeyDef.{KeyDef}
use Rattle.pg_base.specs.declared.table_def.LinkDef.{LinkDef}
use Rattle.pg_base.specs.declared.table_def.TableDef.{TableDef}
use Rattle.pg_catalog.specs.declared.part.KeyPart.{KeyPart}
use Rattle.pg_catalog.specs.declared.part.LinkPart.{LinkPart}
use Rattle.pg_catalog.specs.Names.{table_names, column_names, place_of, places_of, joined}

-- the name of a constraint that has none: t_pkey, t_c_key, t_c_fkey, with c the columns joined by `_`
abbrev pub default_key_name : Bool → List ℕ → List (List ℕ) → List ℕ
default_key_name true table columns = table ++ codes "_pkey"
default_key_name false table columns = (table ++ joined columns) ++ codes "_key"

abbrev pub key_name : KeyPart → List ℕ
key_name k = unwrap_or k.name (default_key_name k.primary k.table k.columns)

abbrev pub link_name : LinkPart → List ℕ
link_name l = unwrap_or l.name ((l.table ++ joined l.columns) ++ codes "_fkey")

-- the key of the table
abbrev pub key_of : TableDef → KeyPart → KeyDef
key_of t k = record {
  name = key_name k;
  columns = places_of (column_names t) k.columns;
  primary = k.primary;
  tags = no_tags;
}

-- the columns that a link to the table names, or those of its primary key; none where it names none and has none
abbrev pub target_places : TableDef → Option (List (List ℕ)) → Option (List ℕ)
target_places t None = option_map (λ k. k.columns) (find (λ k. k.primary) t.keys)
target_places t (Some columns) = Some (places_of (column_names t) columns)

-- the link of the table
abbrev pub link_of : CatalogParts → TableDef → TableDef → LinkPart → LinkDef
link_of c t target l = record {
  name = link_name l;
  columns = places_of (column_names t) l.columns;
  target = unwrap_or (place_of (table_names c) l.target) 0;
  target_columns = unwrap_or (target_places target l.target_columns) [];
  tags = no_tags;
}

-- each of the one list is in the other
abbrev pub are_among : List ℕ → List ℕ → Bool
are_among xs ys = list_all (λ x. list_any (λ y. y == x) ys) xs

-- as many places, and each of the one list in the other
abbrev pub are_reordered : List ℕ → List ℕ → Bool
are_reordered xs ys = (length xs == length ys) && are_among xs ys

-- the columns are those of one key of the table, in any order
abbrev pub are_key : TableDef → List ℕ → Bool
are_key t places = list_any (λ k. are_reordered k.columns places) t.keys

-- the families are one
abbrev pub same_family : Family → Family → Bool
same_family texts texts = true
same_family texts integers = false
same_family texts truths = false
same_family texts (cases_of e) = false
same_family integers texts = false
same_family integers integers = true
same_family integers truths = false
same_family integers (cases_of e) = false
same_family truths texts = false
same_family truths integers = false
same_family truths truths = true
same_family truths (cases_of e) = false
same_family (cases_of d) texts = false
same_family (cases_of d) integers = false
same_family (cases_of d) truths = false
same_family (cases_of d) (cases_of e) = d == e

-- both stand, and their kinds count as one
abbrev pub comparable : Option ColumnDef → Option ColumnDef → Bool
comparable None d = false
comparable (Some c) None = false
comparable (Some c) (Some d) = same_family (family c.kind) (family d.kind)

-- each column's kind is that of its target
abbrev pub are_comparable : TableDef → TableDef → List ℕ → List ℕ → Bool
are_comparable t target xs ys =
    list_all (λ pair. comparable (slice_get t.columns pair.0) (slice_get target.columns pair.1)) (zip xs ys)
