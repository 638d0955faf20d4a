-- Whether two constraints are the same, and lists of them without repeats.
use Rattle.std.specs.Prelude.{Bool, false, ◌&&◌, ◌||◌, ◌==◌, if◌then◌else◌, List, [], ◌∷◌, ◌++◌}
use Rattle.std.specs.Bool.{beq}
use Rattle.std.specs.Str.{bytes_eq}
use Rattle.std.specs.Cmp.Lexicographic.{pointwise}
use Rattle.pg_base.specs.SameValue.{same_value}
use Rattle.plan_constraints.specs.declared.part.Part.{Part}
use Rattle.plan_constraints.specs.declared.part.Part.TheVariants as part
use Rattle.plan_constraints.specs.declared.constraint.Constraint.{Constraint}
use Rattle.plan_constraints.specs.declared.constraint.Constraint.TheVariants as constraint

abbrev pub same_part : Part → Part → Bool
same_part (part.Name a) (part.Name b) = bytes_eq a b
same_part (part.Name a) (part.Index j) = false
same_part (part.Index i) (part.Name b) = false
same_part (part.Index i) (part.Index j) = i == j

abbrev pub same_path : List Part → List Part → Bool
same_path p q = pointwise same_part p q

-- by cases; the last line needs none, since constraints that are the same are equal
abbrev pub same_constraint : Constraint → Constraint → Bool
same_constraint (constraint.Value p v) (constraint.Value q w) = same_path p q && same_value v w
same_constraint (constraint.Exists p a) (constraint.Exists q b) = same_path p q && beq a b
same_constraint (constraint.Null p a) (constraint.Null q b) = same_path p q && beq a b
same_constraint (constraint.Keys p l) (constraint.Keys q m) = same_path p q && pointwise bytes_eq l m
same_constraint _ _ = false

abbrev pub is_among : Constraint → List Constraint → Bool
is_among c [] = false
is_among c (d ∷ list) = same_constraint c d || is_among c list

-- a list with one constraint more, where it doesn't have it yet
abbrev pub with_constraint : List Constraint → Constraint → List Constraint
with_constraint list c = if is_among c list then list else list ++ c ∷ []

-- the same with several, one after the other
abbrev pub with_constraints : List Constraint → List Constraint → List Constraint
with_constraints list [] = list
with_constraints list (c ∷ more) = with_constraints (with_constraint list c) more
