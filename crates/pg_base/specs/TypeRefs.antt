-- Types where they are used, and what is made of them.
use Rattle.std.specs.Prelude.{ℕ, Bool, true, false, List, [], None}
use Rattle.pg_base.specs.declared.kind.Kind.{Kind}
use Rattle.pg_base.specs.declared.kind.Kind.TheVariants as kind
use Rattle.pg_base.specs.Schema.{int, string, boolean}
use Rattle.pg_base.specs.declared.schema.TypeRef.{TypeRef}
use Rattle.pg_base.specs.declared.schema.ArgDef.{ArgDef}
use Rattle.pg_base.specs.declared.schema.FieldDef.{FieldDef}
use Rattle.pg_base.specs.declared.does.Does.{Does}
use Rattle.pg_base.specs.declared.role.Role.{Role}
use Rattle.pg_base.specs.declared.role.Role.TheVariants as role
use Rattle.pg_base.specs.Roles.{place_of}

-- the type by its number, `!` where it takes no null
abbrev pub one : ℕ → Bool → TypeRef
one name not_null = record { name = name; list = false; item_not_null = false; not_null = not_null }

-- `[T!]`, and `[T!]!` where it takes no null
abbrev pub many : ℕ → Bool → TypeRef
many name not_null = record { name = name; list = true; item_not_null = true; not_null = not_null }

-- the type of a column of the kind: integer is Int, bigint BigInt, a text String, boolean Boolean, an enum its own
abbrev pub type_of_kind : List Role → Kind → ℕ
type_of_kind types kind.Int = int
type_of_kind types kind.BigInt = place_of types role.BigInt
type_of_kind types kind.Text = string
type_of_kind types (kind.Varchar n) = string
type_of_kind types kind.Bool = boolean
type_of_kind types (kind.Enum place) = place_of types (role.Enum place)

abbrev pub argument : List ℕ → TypeRef → ArgDef
argument name ty = record { name = name; ty = ty }

-- a field that takes no arguments
abbrev pub field : List ℕ → TypeRef → Does → FieldDef
field name ty does = record { name = name; args = []; ty = ty; does = does; deprecated = None }
