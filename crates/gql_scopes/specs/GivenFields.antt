-- The fields of an object as a list.
use Rattle.std.specs.Prelude.{ℕ, Bool, ◌&&◌, not, List}
use Rattle.std.specs.Str.{bytes_eq}
use Rattle.std.specs.List.{list_any}
use Rattle.pg_base.specs.declared.schema.ArgDef.{ArgDef}
use Rattle.gql_reader.specs.declared.tree.ObjectField.{ObjectField}
use Rattle.gql_scopes.specs.InputObjectRequiredFields.{is_null}

-- the field has the name, and isn't the literal null
abbrev pub is_given_as : List ℕ → ObjectField → Bool
is_given_as name f = bytes_eq f.name name && not (is_null f.value.kind)

-- none of the fields gives a non-null one
abbrev pub is_lacking : List ObjectField → ArgDef → Bool
is_lacking fields d = d.ty.not_null && not (list_any (is_given_as d.name) fields)
