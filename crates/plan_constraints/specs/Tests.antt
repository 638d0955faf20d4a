-- The tests of constraints, as code makes them.
use Rattle.std.specs.Prelude.{ℕ, Bool, true, false, ◌&&◌, List, [], ◌∷◌, Option, Some, None, is_some}
use Rattle.std.specs.Bool.{beq}
use Rattle.std.specs.Str.{bytes_eq}
use Rattle.std.specs.Cmp.Lexicographic.{pointwise}
use Rattle.pg_base.specs.declared.value.Value.{Value}
use Rattle.pg_base.specs.declared.value.Member.{Member}
use Rattle.pg_base.specs.declared.vars.Vars.{Vars}
use Rattle.pg_base.specs.SameValue.{same_value}
use Rattle.pg_base.specs.Value.{is_null, is_object, members_of}
use Rattle.plan_constraints.specs.declared.constraint.Constraint.{Constraint}
use Rattle.plan_constraints.specs.declared.constraint.Constraint.TheVariants as constraint
use Rattle.plan_constraints.specs.Path.{value_at}

abbrev pub is_value : Option Value → Value → Bool
is_value None v = false
is_value (Some w) v = same_value w v

abbrev pub is_null_as : Option Value → Bool → Bool
is_null_as None null = false
is_null_as (Some w) null = beq (is_null w) null

abbrev pub has_name : Member → List ℕ → Bool
has_name m name = bytes_eq m.name name

abbrev pub are_named : List Member → List (List ℕ) → Bool
are_named members names = pointwise has_name members names

-- an object with these fields
abbrev pub has_fields : Value → List (List ℕ) → Bool
has_fields v names = is_object v && are_named (members_of v) names

abbrev pub has_keys : Option Value → List (List ℕ) → Bool
has_keys None names = false
has_keys (Some v) names = has_fields v names

abbrev pub meets : Vars → Constraint → Bool
meets vars (constraint.Value path v) = is_value (value_at vars path) v
meets vars (constraint.Exists path present) = beq (is_some (value_at vars path)) present
meets vars (constraint.Null path null) = is_null_as (value_at vars path) null
meets vars (constraint.Keys path names) = has_keys (value_at vars path) names

abbrev pub all_met : List Constraint → Vars → Bool
all_met [] vars = true
all_met (c ∷ constraints) vars = meets vars c && all_met constraints vars
