-- Catalogs without a schema, each with the first fault that is found.
use Rattle.std.specs.Prelude.{List, [], ◌∷◌, Some, None, codes}
use Rattle.pg_base.specs.Catalog.{CatalogParts}
use Rattle.pg_base.specs.Tags.{no_tags}
use Rattle.pg_base.specs.Behaviors.{selecting, connecting, inserting, updating, ordering, filtering}
use Rattle.pg_base.specs.declared.kind.Kind.TheVariants as kind
use Rattle.schema_laws.specs.Examples.{column, not_null, primary, table, enum}
use Rattle.schema_laws.specs.Examples.{catalog, without}
use Rattle.pg_base.specs.declared.build_fault.Origin.TheVariants as origin
use Rattle.pg_base.specs.declared.build_fault.BuildFault.{BuildFault}
use Rattle.pg_base.specs.declared.build_fault.BuildFault.TheVariants as fault

pub record Faulty : Type 0 where
  pub catalog : CatalogParts
  pub fault : BuildFault

abbrev pub faulty : CatalogParts → BuildFault → Faulty
faulty c f = record { catalog = c; fault = f }

-- CREATE TABLE t (a_b integer, "aB" integer);
abbrev pub fields_meet : CatalogParts
fields_meet = catalog
    []
    ((table (codes "t")
    (column (codes "a_b") kind.Int
    ∷ column (codes "aB") kind.Int ∷ [])
    []
    []) ∷ [])

-- CREATE TABLE users (id integer); CREATE TABLE "user" (id integer);
abbrev pub types_meet : CatalogParts
types_meet = catalog
    []
    ((table (codes "users")
    (column (codes "id") kind.Int ∷ [])
    []
    [])
    ∷ (table (codes "user")
    (column (codes "id") kind.Int ∷ [])
    []
    []) ∷ [])

-- CREATE TABLE ints (id integer);
abbrev pub meets_int : CatalogParts
meets_int = catalog
    []
    ((table (codes "ints")
    (column (codes "id") kind.Int ∷ [])
    []
    []) ∷ [])

-- CREATE TABLE page_infos (id integer);
abbrev pub meets_page : CatalogParts
meets_page = catalog
    []
    ((table (codes "page_infos")
    (column (codes "id") kind.Int ∷ [])
    []
    []) ∷ [])

-- CREATE TABLE t (a integer, "b c" integer);
abbrev pub no_name : CatalogParts
no_name = catalog
    []
    ((table (codes "t")
    (column (codes "a") kind.Int
    ∷ column (codes "b c") kind.Int ∷ [])
    []
    []) ∷ [])

-- CREATE TABLE t (a integer PRIMARY KEY);
-- COMMENT ON CONSTRAINT t_pkey ON t IS '@fieldName __t';
abbrev pub kept_name : CatalogParts
kept_name = catalog
    []
    ((table (codes "t")
    (not_null (codes "a") kind.Int ∷ [])
    (record (primary (codes "t_pkey") (0 ∷ [])) { tags = record no_tags { field_name = Some (codes "__t") } } ∷ [])
    []) ∷ [])

-- CREATE TABLE "2s" ("_" integer);
abbrev pub empty_type : CatalogParts
empty_type = catalog
    []
    ((table (codes "2s")
    (column (codes "_") kind.Int ∷ [])
    []
    []) ∷ [])

-- CREATE TABLE t (a integer);
-- COMMENT ON COLUMN t.a IS '@behavior -select';
abbrev pub no_fields : CatalogParts
no_fields = catalog
    []
    ((table (codes "t")
    (record (column (codes "a") kind.Int) { tags = record no_tags { behavior = without (selecting ∷ []) } } ∷ [])
    []
    []) ∷ [])

-- CREATE TABLE t (a integer);
-- COMMENT ON TABLE t IS '@behavior -connection';
abbrev pub empty_query : CatalogParts
empty_query = catalog
    []
    ((record (table (codes "t")
    (column (codes "a") kind.Int ∷ [])
    []
    [])
    { tags = record no_tags { behavior = without (connecting ∷ []) } }) ∷ [])

-- CREATE TABLE t (a_b integer, "aB" integer, c integer, PRIMARY KEY (a_b, "aB"));
-- COMMENT ON COLUMN t.a_b IS '@behavior -select -filter -insert -update -order';
abbrev pub arguments_meet : CatalogParts
arguments_meet = catalog
    []
    ((table (codes "t")
    (record (not_null (codes "a_b") kind.Int) {
      tags = record no_tags {
        behavior = without (selecting ∷ inserting ∷ updating ∷ ordering ∷ filtering
            ∷ []);
      };
    }
    ∷ not_null (codes "aB") kind.Int
    ∷ column (codes "c") kind.Int ∷ [])
    (primary (codes "t_pkey") (0 ∷ 1 ∷ []) ∷ [])
    []) ∷ [])

-- CREATE TYPE e AS ENUM ('a', 'A'); CREATE TABLE t (m e);
abbrev pub cases_meet : CatalogParts
cases_meet = catalog
    (enum (codes "e") (codes "a" ∷ codes "A" ∷ []) ∷ [])
    ((table (codes "t")
    (column (codes "m") (kind.Enum 0) ∷ [])
    []
    []) ∷ [])

abbrev pub all_faulty : List Faulty
all_faulty =
    faulty fields_meet (fault.NamesMeet (Some (codes "T")) (codes "aB") (origin.Field 3 0) (origin.Field 3 1))
    ∷ faulty types_meet (fault.NamesMeet None (codes "User") (origin.Type 3) (origin.Type 9))
    ∷ faulty meets_int (fault.NamesMeet None (codes "Int") origin.BuiltIn (origin.Type 3))
    ∷ faulty meets_page (fault.NamesMeet None (codes "PageInfo") (origin.Type 2) (origin.Type 3))
    ∷ faulty no_name (fault.NotAName (codes "b c"))
    ∷ faulty kept_name (fault.NotAName (codes "__t"))
    ∷ faulty empty_type (fault.NotAName (codes "2"))
    ∷ faulty no_fields (fault.NoFields (codes "T"))
    ∷ faulty empty_query (fault.NoFields (codes "Query"))
    ∷ faulty arguments_meet (fault.NamesMeet (Some (codes "Query")) (codes "aB") (origin.Argument 10 1 0)
    (origin.Argument 10 1 1))
    ∷ faulty cases_meet (fault.NamesMeet (Some (codes "E")) (codes "A") (origin.Field 3 0) (origin.Field 3 1)) ∷ []
