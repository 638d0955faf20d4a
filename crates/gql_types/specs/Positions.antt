-- Types where they are used, as the code holds them.
use Rattle.std.specs.Prelude.{Option, option_map}
use Rattle.gql_types.specs.declared.position.Position.{Position}
use Rattle.gql_types.specs.declared.position.Position.TheVariants as position
use Rattle.gql_types.specs.Types.{Ty, ty_of, ty_as}

abbrev pub ty_at : Position → Ty
ty_at (position.Of ty) = ty_of ty
ty_at (position.Written name ty) = ty_as name ty.now

-- the same, where it is known
abbrev pub ty_if : Option Position → Option Ty
ty_if at = option_map ty_at at
