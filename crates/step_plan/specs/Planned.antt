-- Of which trees and variables a plan is made.
use Rattle.std.specs.Prelude.{◌≡◌, ◌<◌, ◌⊎◌, ℕ, List, [], ◌∷◌, length, Some, IfSome, ⊤}
use Rattle.gql_collect.specs.CollectLaws.{IsWellFormed}
use Rattle.gql_collect.specs.Growing.{args_in}
use Rattle.gql_input.specs.declared.argument.ArgValue.{ArgValue, Variable, Null, Int, Bool as BoolOf, Text, Case, List', Object'}
use Rattle.gql_input.specs.declared.argument.ArgValue.{Row_of-ArgMember, end_of-ArgMember, more_of-ArgMember}
use Rattle.pg_base.specs.Base.{BaseParts}
use Rattle.pg_base.specs.Lists.{Each, AreDistinct}
use Rattle.pg_base.specs.Schema.{SchemaParts}
use Rattle.pg_base.specs.declared.vars.Vars.{Vars}
use Rattle.place_tree.specs.Arguments.{written}
use Rattle.place_tree.specs.Fields.{field_of}
use Rattle.place_tree.specs.declared.place.Place.{Place}
use Rattle.place_tree.specs.declared.place.Tree.{Tree}
use Rattle.plan_steps.specs.Fitting.{FitTree}

-- the type of the root fields of a query, or of a mutation
abbrev pub IsRootType : SchemaParts → ℕ → Type 0
IsRootType schema ty = (ty ≡ schema.query) ⊎ (schema.mutation ≡ Some ty)

abbrev pub names_in : {n : _} → Row_of-ArgMember n → List (List ℕ)
names_in end_of-ArgMember = []
names_in (more_of-ArgMember name a rest) = name ∷ names_in rest

-- no field of an object is written twice
abbrev pub HasFieldsOnce : ArgValue → Type 0
HasFieldsOnce (Variable name) = ⊤
HasFieldsOnce Null = ⊤
HasFieldsOnce (Int n) = ⊤
HasFieldsOnce (BoolOf b) = ⊤
HasFieldsOnce (Text t) = ⊤
HasFieldsOnce (Case name) = ⊤
HasFieldsOnce (List' _ items) = ⊤
HasFieldsOnce (Object' _ members) = AreDistinct (names_in members)

-- each argument that is written is one of the field's
abbrev pub HasOwnArgs : SchemaParts → Place → Type 0
HasOwnArgs schema p = Each (λ a. a.arg < length (args_in (field_of schema p))) p.args

-- A tree of places of the schema, whose arguments are those of their fields, and none of whose first arguments has a
-- field twice, with variables that fit it. Such is the tree that is collected from an operation of a valid document.
pub record IsPlannable (base : BaseParts) (tree : Tree) (vars : Vars) : Type 0 where
  pub root : ℕ
  pub of_root : IsRootType base.schema root
  pub formed : IsWellFormed base.schema root tree.places
  pub own : Each (HasOwnArgs base.schema) tree.places
  pub once : Each (λ p. IfSome (written p.args 0) HasFieldsOnce) tree.places
  pub fit : FitTree base vars tree
