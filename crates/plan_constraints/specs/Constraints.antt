-- Which constraints hold of variables, and what is noted of the value at a path.
use Rattle.std.specs.Prelude.{◌≡◌, ◌≢◌, ◌⊎◌, ℕ, true, false, List, [], ◌∷◌, ◌++◌, map, All, Contains, Option, Some, None, is_some, IsSomeAnd, IsTrue}
use Rattle.pg_base.specs.Lists.{Each}
use Rattle.pg_base.specs.declared.value.Value.{Value, Null, Int, Bool as BoolOf, Text, Case, List', Object'}
use Rattle.pg_base.specs.declared.vars.Vars.{Vars}
use Rattle.pg_base.specs.Value.{is_null, is_object, members_of}
use Rattle.plan_constraints.specs.declared.part.Part.{Part}
use Rattle.plan_constraints.specs.declared.constraint.Constraint.{Constraint}
use Rattle.plan_constraints.specs.declared.constraint.Constraint.TheVariants as constraint
use Rattle.plan_constraints.specs.Path.{value_at}

-- the names of an object's fields, in their order; none of another value
abbrev pub field_names : Value → List (List ℕ)
field_names v = map (λ m. m.name) (members_of v)

abbrev pub Meets : Vars → Constraint → Type 0
Meets vars (constraint.Value path v) = value_at vars path ≡ Some v
Meets vars (constraint.Exists path present) = is_some (value_at vars path) ≡ present
Meets vars (constraint.Null path null) = IsSomeAnd (value_at vars path) (λ v. is_null v ≡ null)
Meets vars (constraint.Keys path names) =
    IsSomeAnd (value_at vars path) (λ v. IsTrue (is_object v) × (field_names v ≡ names))

-- all of them hold
abbrev pub Hold : List Constraint → Vars → Type 0
Hold constraints vars = Each (Meets vars) constraints

-- ---- what is noted of the value at a path

-- that it is absent, null, or there and not null
abbrev pub shape : List Part → Option Value → Constraint
shape path None = constraint.Exists path false
shape path (Some v) = constraint.Null path (is_null v)

abbrev pub whole_of_value : List Part → Value → Constraint
whole_of_value path Null = constraint.Null path true
whole_of_value path (Int n) = constraint.Value path (Int n)
whole_of_value path (BoolOf b) = constraint.Value path (BoolOf b)
whole_of_value path (Text t) = constraint.Value path (Text t)
whole_of_value path (Case c) = constraint.Value path (Case c)
whole_of_value path (List' s items) = constraint.Value path (List' s items)
whole_of_value path (Object' s members) = constraint.Value path (Object' s members)

-- that it is absent, null, or this value
abbrev pub whole : List Part → Option Value → Constraint
whole path None = constraint.Exists path false
whole path (Some v) = whole_of_value path v

-- ---- lists without repeats

-- a list as it was where it has the constraint already, and else with it at its end
abbrev pub IsNoted : List Constraint → Constraint → List Constraint → Type 0
IsNoted before c now =
    (Contains before c × (now ≡ before)) ⊎ (All (λ d. d ≢ c) before × (now ≡ before ++ c ∷ []))
