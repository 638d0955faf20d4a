-- Connections: lists of a table's rows, their edges and pages, and their arguments.
use Rattle.std.specs.Prelude.{ℕ, true, false, List, [], ◌∷◌, ◌++◌, codes}
use Rattle.pg_base.specs.declared.table_def.TableDef.{TableDef}
use Rattle.pg_base.specs.Schema.{int, boolean}
use Rattle.pg_base.specs.declared.schema.ArgDef.{ArgDef}
use Rattle.pg_base.specs.declared.schema.FieldDef.{FieldDef}
use Rattle.pg_base.specs.declared.does.Does.TheVariants as does
use Rattle.pg_base.specs.declared.role.Role.{Role}
use Rattle.pg_base.specs.declared.role.Role.TheVariants as role
use Rattle.pg_base.specs.Listing.{when}
use Rattle.pg_base.specs.Behaviors.{is_on, listing}
use Rattle.pg_base.specs.Roles.{has_condition, place_of}
use Rattle.pg_base.specs.TypeRefs.{one, many, argument, field}

abbrev pub page_fields : List Role → List FieldDef
page_fields types =
    field (codes "hasNextPage") (one boolean true) does.HasNext
    ∷ field (codes "hasPreviousPage") (one boolean true) does.HasPrevious
    ∷ field (codes "startCursor") (one (place_of types role.Cursor) false) does.Start
    ∷ field (codes "endCursor") (one (place_of types role.Cursor) false) does.End ∷ []

abbrev pub connection_fields : List Role → ℕ → TableDef → List FieldDef
connection_fields types table t =
    when (is_on listing t.tags) (field (codes "nodes") (many (place_of types (role.Row table)) true) does.Nodes)
    ++ field (codes "edges") (many (place_of types (role.Edge table)) true) does.Edges
    ∷ field (codes "pageInfo") (one (place_of types role.PageInfo) true) does.PageInfo
    ∷ field (codes "totalCount") (one int true) does.Total ∷ []

abbrev pub edge_fields : List Role → ℕ → List FieldDef
edge_fields types table =
    field (codes "cursor") (one (place_of types role.Cursor) true) does.Cursor
    ∷ field (codes "node") (one (place_of types (role.Row table)) true) does.Node ∷ []

-- the arguments of each field that gives a connection of the table
abbrev pub connection_arguments : List Role → ℕ → TableDef → List ArgDef
connection_arguments types table t =
    argument (codes "first") (one int false)
    ∷ argument (codes "last") (one int false)
    ∷ argument (codes "offset") (one int false)
    ∷ argument (codes "before") (one (place_of types role.Cursor) false)
    ∷ argument (codes "after") (one (place_of types role.Cursor) false)
    ∷ argument (codes "orderBy") (many (place_of types (role.Order table)) false)
    ∷ when (has_condition t) (argument (codes "condition") (one (place_of types (role.Condition table)) false))
