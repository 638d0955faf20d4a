-- The places that selection sets ask for, in preorder: one for each response key (GraphQL October 2021,
-- sections 6.3.2 and 6.4.3).
use Rattle.std.specs.Prelude.{ℕ, zero, suc, ◌+◌, if◌then◌else◌, List, [], ◌∷◌, ◌++◌, length, map, filter, Option, Some, None, Ok, Err, codes}
use Rattle.std.specs.Str.{bytes_eq}
use Rattle.gql_reader.specs.declared.tree.Selection.{Selection}
use Rattle.gql_reader.specs.declared.tree.Argument.{Argument}
use Rattle.gql_reader.specs.declared.tree.Field.{Field}
use Rattle.gql_reader.specs.declared.tree.Value as written
use Rattle.pg_base.specs.declared.schema.ArgDef.{ArgDef}
use Rattle.pg_base.specs.declared.schema.FieldDef.{FieldDef}
use Rattle.pg_base.specs.Schema.{SchemaParts}
use Rattle.pg_base.specs.Schema.{field_at, fields_of, kind_at}
use Rattle.place_tree.specs.Fields.{typename}
use Rattle.place_tree.specs.declared.place.Place.{Place}
use Rattle.place_tree.specs.declared.place.PlaceArg.{PlaceArg}
use Rattle.place_tree.specs.declared.place.Tree.{Tree}
use Rattle.gql_collect.specs.Asking.{argument_in, with_names}
use Rattle.gql_types.specs.Types.{ty_of}
use Rattle.gql_input.specs.declared.argument.ArgValue.{ArgValue}
use Rattle.gql_input.specs.Coercions.{Coercion}
use Rattle.gql_input.specs.Literals.{literal_at}
use Rattle.gql_collect.specs.Collected.{Request, Met, collected}

-- ---- fields by response key

abbrev pub key_by : Option (List ℕ) → List ℕ → List ℕ
key_by None name = name
key_by (Some alias) name = alias

-- the alias, or the name
abbrev pub response_key : Field → List ℕ
response_key f = key_by f.alias f.name

-- the response keys, in the order of their first appearance
abbrev pub keys_of : List Field → List (List ℕ)
keys_of fields = with_names [] (map response_key fields)

-- the fields of a response key
abbrev pub fields_with : List ℕ → List Field → List Field
fields_with key fields = filter (λ f. bytes_eq key (response_key f)) fields

-- their selection sets as one (6.4.3)
abbrev pub merged : List Field → List Selection
merged [] = []
merged (f ∷ fields) = f.selections ++ merged fields

-- ---- a field in the schema

-- the place of the first field with the name, where the list has the fields from a number on
abbrev pub place_from : ℕ → List FieldDef → List ℕ → Option ℕ
place_from i [] name = None
place_from i (f ∷ fields) name = if bytes_eq f.name name then Some i else place_from (i + 1) fields name

abbrev pub place_in : List FieldDef → List ℕ → Option ℕ
place_in fields name = place_from 0 fields name

abbrev pub fields_at : SchemaParts → ℕ → List FieldDef
fields_at schema ty = fields_of (kind_at schema ty)

-- the number of a field in a type that has it
abbrev pub number_of : SchemaParts → ℕ → List ℕ → Option ℕ
number_of schema ty name =
    if bytes_eq name (codes "__typename") then Some typename else place_in (fields_at schema ty) name

abbrev pub args_in : Option FieldDef → List ArgDef
args_in None = []
args_in (Some f) = f.args

-- a literal at its position's type; one that isn't of the type, which no valid document has, is left out
abbrev pub with_literal : ℕ → Coercion ArgValue → List PlaceArg → List PlaceArg
with_literal k (Ok v) args = record { arg = k; value = v } ∷ args
with_literal k (Err fault) args = args

abbrev pub with_arg : SchemaParts → ℕ → ArgDef → Option written.Value → List PlaceArg → List PlaceArg
with_arg schema k d None args = args
with_arg schema k d (Some v) args = with_literal k (literal_at schema v.kind (ty_of d.ty)) args

-- the arguments that are written, in the order of the schema, from a number on
abbrev pub args_from : SchemaParts → List Argument → ℕ → List ArgDef → List PlaceArg
args_from schema arguments k [] = []
args_from schema arguments k (d ∷ defs) =
    with_arg schema k d (argument_in arguments d.name) (args_from schema arguments (k + 1) defs)

-- ---- places

abbrev pub with_place : Place → Tree → Tree
with_place p tree = record { places = tree.places ++ p ∷ []; asked = tree.asked }

abbrev pub place_of : SchemaParts → Option ℕ → ℕ → List ℕ → Field → ℕ → Place
place_of schema parent ty key f number = record {
  parent = parent;
  key = key;
  ty = ty;
  field = number;
  args = args_from schema f.arguments 0 (args_in (field_at schema ty number));
  pos = f.pos;
}

-- what a selection set of an object type adds below a parent
abbrev pub Adds : Type 0
Adds = Option ℕ → ℕ → List Selection → Tree → Tree

-- what the selection set below a place adds; `__typename` has none
abbrev pub below_place : Adds → Option FieldDef → ℕ → List Selection → Tree → Tree
below_place next None i selections tree = tree
below_place next (Some d) i selections tree = next (Some i) d.ty.name selections tree

-- a field of the type has a place; one that the type doesn't have has none
abbrev pub by_number
    : Adds → SchemaParts → Option ℕ → ℕ → List ℕ → Field → List Selection → Option ℕ → Tree → Tree
by_number next schema parent ty key f selections None tree = tree
by_number next schema parent ty key f selections (Some number) tree =
    below_place next (field_at schema ty number) (length tree.places) selections
    (with_place (place_of schema parent ty key f number) tree)

-- the fields of one response key
abbrev pub with_group : Adds → SchemaParts → Option ℕ → ℕ → List ℕ → List Field → Tree → Tree
with_group next schema parent ty key [] tree = tree
with_group next schema parent ty key (f ∷ fields) tree =
    by_number next schema parent ty key f (merged (f ∷ fields)) (number_of schema ty f.name) tree

abbrev pub with_keys : Adds → SchemaParts → Option ℕ → ℕ → List Field → List (List ℕ) → Tree → Tree
with_keys next schema parent ty fields [] tree = tree
with_keys next schema parent ty fields (key ∷ keys) tree =
    with_keys next schema parent ty fields keys (with_group next schema parent ty key (fields_with key fields) tree)

abbrev pub with_asked : List (List ℕ) → Tree → Tree
with_asked asked tree = record { places = tree.places; asked = asked }

abbrev pub with_fields : Adds → SchemaParts → Option ℕ → ℕ → Met → Tree → Tree
with_fields next schema parent ty met tree =
    with_keys next schema parent ty met.fields (keys_of met.fields) (with_asked met.asked tree)

-- what a selection set adds, so many levels deep
unfoldable pub with_set : ℕ → Request → Option ℕ → ℕ → List Selection → Tree → Tree
with_set zero r parent ty selections tree = tree
with_set (suc n) r parent ty selections tree =
    with_fields (with_set n r) r.schema parent ty (collected r ty selections tree.asked) tree
