-- Which variables fit a tree of places: with them each argument is of its type, but for nulls.
use Rattle.std.specs.Prelude.{ℕ, Bool, true, false, List, map, slice_get, is_ok, IfSome, IsTrue, IsFalse, IsSome, ⊤}
use Rattle.pg_base.specs.Base.{BaseParts}
use Rattle.pg_base.specs.Lists.{Each, AreDistinct}
use Rattle.pg_base.specs.Schema.{SchemaParts, kind_at, inputs_of}
use Rattle.pg_base.specs.Value.{member_list}
use Rattle.pg_base.specs.declared.schema.ArgDef.{ArgDef}
use Rattle.pg_base.specs.declared.schema.TypeRef.{TypeRef}
use Rattle.pg_base.specs.declared.value.Value.{Value, List', Object', Row_of-Value, end_of-Value, more_of-Value}
use Rattle.pg_base.specs.declared.value.Value.{Row_of-Member, end_of-Member, more_of-Member}
use Rattle.pg_base.specs.declared.value.Value.TheVariants as value
use Rattle.pg_base.specs.declared.vars.Vars.{Vars}
use Rattle.gql_input.specs.Inputs.{Reads, int, big_int, text, boolean, cases, fields, nothing, reads_at, has_fields}
use Rattle.gql_input.specs.Leaves.{integer_at, boolean_at, case_at}
use Rattle.place_tree.specs.declared.place.Place.{Place}
use Rattle.place_tree.specs.declared.place.Tree.{Tree}
use Rattle.place_tree.specs.Arguments.{argument, item_type, type_in}
use Rattle.place_tree.specs.Fields.{field_of}

-- a BigInt that is given as a text is an integer by now
abbrev pub reads_texts : Reads → Bool
reads_texts int = false
reads_texts big_int = false
reads_texts text = true
reads_texts boolean = false
reads_texts (cases names) = false
reads_texts (fields args) = false
reads_texts nothing = false

-- ---- a value of a type, where a null may stand anywhere

abbrev mutual
  pub IsOf : SchemaParts → TypeRef → Value → Type 0
  IsOf schema ty value.Null = ⊤
  IsOf schema ty (value.Int n) = IsFalse ty.list × IsTrue (is_ok (integer_at (reads_at schema ty.name) n))
  IsOf schema ty (value.Bool b) = IsFalse ty.list × IsTrue (is_ok (boolean_at (reads_at schema ty.name) b))
  IsOf schema ty (value.Text t) = IsFalse ty.list × IsTrue (reads_texts (reads_at schema ty.name))
  IsOf schema ty (value.Case name) = IsFalse ty.list × IsTrue (is_ok (case_at (reads_at schema ty.name) name))
  IsOf schema ty (List' _ items) = IsTrue ty.list × AreOf schema (item_type ty) items
  IsOf schema ty (Object' _ members) =
      IsFalse ty.list × AreFields schema (inputs_of (kind_at schema ty.name)) members
      × AreDistinct (map (λ m. m.name) (member_list members)) × IsTrue (has_fields (reads_at schema ty.name))

  pub AreOf : {n : _} → SchemaParts → TypeRef → Row_of-Value n → Type 0
  AreOf schema ty end_of-Value = ⊤
  AreOf schema ty (more_of-Value v rest) = IsOf schema ty v × AreOf schema ty rest

  pub AreFields : {n : _} → SchemaParts → List ArgDef → Row_of-Member n → Type 0
  AreFields schema inputs end_of-Member = ⊤
  AreFields schema inputs (more_of-Member name v rest) =
      IsOf schema (type_in inputs name) v × AreFields schema inputs rest

-- ---- a tree

-- an argument is of its type, and given where its type takes no null
abbrev pub FitsArg : SchemaParts → Vars → Place → ℕ → ArgDef → Type 0
FitsArg schema vars p arg a =
    IfSome (argument vars p arg) (IsOf schema a.ty) × (IsTrue a.ty.not_null → IsSome (argument vars p arg))

abbrev pub FitsPlace : BaseParts → Vars → Place → Type 0
FitsPlace base vars p =
    IfSome (field_of base.schema p) (λ f. (arg : ℕ) → IfSome (slice_get f.args arg) (FitsArg base.schema vars p arg))

abbrev pub FitTree : BaseParts → Vars → Tree → Type 0
FitTree base vars tree = Each (FitsPlace base vars) tree.places
