-- What stands at a path into the variables.
use Rattle.std.specs.Prelude.{ℕ, List, [], ◌∷◌, Option, Some, None, slice_get}
use Rattle.pg_base.specs.declared.value.Value.{Value}
use Rattle.pg_base.specs.declared.vars.Vars.{Vars}
use Rattle.pg_base.specs.Value.{members_of, items_of, member_in}
use Rattle.pg_base.specs.Vars.{variable}
use Rattle.plan_constraints.specs.declared.part.Part.{Part}
use Rattle.plan_constraints.specs.declared.part.Part.TheVariants as part

-- the field of an object, or the item of a list
abbrev pub part_of : Value → Part → Option Value
part_of v (part.Name name) = member_in (members_of v) name
part_of v (part.Index i) = slice_get (items_of v) i

-- what stands at the rest of a path, where something stands so far
abbrev pub below : Option Value → List Part → Option Value
below found [] = found
below None (p ∷ path) = None
below (Some v) (p ∷ path) = below (part_of v p) path

-- the value at the path, or none where there is nothing; a path begins with the name of a variable
abbrev pub value_at : Vars → List Part → Option Value
value_at vars [] = None
value_at vars (part.Name name ∷ path) = below (variable vars name) path
value_at vars (part.Index i ∷ path) = None

-- the path to a variable
abbrev pub to_variable : List ℕ → List Part
to_variable name = part.Name name ∷ []

-- the path to a field of a variable
abbrev pub to_field : List ℕ → List ℕ → List Part
to_field name field = part.Name name ∷ part.Name field ∷ []
