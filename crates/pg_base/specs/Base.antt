-- A catalog with its schema.
use Rattle.std.specs.Prelude.{◌≡◌}
use Rattle.pg_base.specs.Catalog.{CatalogParts}
use Rattle.pg_base.specs.Schema.{SchemaParts}
use Rattle.pg_base.specs.SchemaOf.{schema_of}

pub record BaseParts : Type 0 where
  pub catalog : CatalogParts
  pub schema : SchemaParts

abbrev pub IsBase : BaseParts → Type 0
IsBase base = base.schema ≡ schema_of base.catalog
