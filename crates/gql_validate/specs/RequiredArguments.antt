-- Required arguments (5.4.2.1).
use Rattle.std.specs.Prelude.{ℕ, Bool, true, false, ◌&&◌, ◌||◌, not, List, Option, Some, None}
use Rattle.std.specs.Str.{bytes_eq}
use Rattle.std.specs.List.{list_any}
use Rattle.pg_base.specs.declared.schema.ArgDef.{ArgDef}
use Rattle.gql_reader.specs.declared.tree.Argument.{Argument}
use Rattle.gql_reader.specs.declared.tree.ValueKind.{ValueKind, Variable, Int, Float, String, Boolean, Null, Enum}
use Rattle.gql_reader.specs.declared.tree.ValueKind.{List', Object'}
use Rattle.gql_nodes.specs.Fields.{args_of}
use Rattle.gql_nodes.specs.Nodes.{Node}
use Rattle.gql_nodes.specs.Sorts.{on_field, on_directive}

abbrev pub is_null : ValueKind → Bool
is_null (Variable name) = false
is_null (Int text) = false
is_null (Float text) = false
is_null (String text) = false
is_null (Boolean b) = false
is_null Null = true
is_null (Enum name) = false
is_null (List' n items) = false
is_null (Object' n fields) = false

-- the argument has the name, and isn't the literal null
abbrev pub gives : List ℕ → Argument → Bool
gives name a = bytes_eq a.name name && not (is_null a.value.kind)

abbrev pub is_lacking : List Argument → ArgDef → Bool
is_lacking arguments d = d.ty.not_null && not (list_any (gives d.name) arguments)

abbrev pub lacks : List Argument → Option (List ArgDef) → Bool
lacks arguments None = false
lacks arguments (Some defs) = list_any (is_lacking arguments) defs

-- each argument of a non-null type is given, and isn't the literal null
abbrev pub breaks : Node → Bool
breaks x =
    on_field (λ parent known f. lacks f.arguments (args_of known)) x
    || on_directive (λ repeated location defs d. lacks d.arguments defs) x
