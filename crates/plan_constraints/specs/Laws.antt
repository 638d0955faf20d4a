-- What noted constraints keep of the variables that they are noted of.
use Rattle.std.specs.Prelude.{◌≡◌, ◌↔◌, ◌||◌, ℕ, true, List, map, Option, Some, is_some, IfSome, slice_get}
use Rattle.pg_base.specs.Base.{BaseParts}
use Rattle.pg_base.specs.Lists.{Each}
use Rattle.pg_base.specs.declared.value.Value.{Value}
use Rattle.pg_base.specs.declared.vars.Vars.{Vars}
use Rattle.pg_base.specs.Vars.{variable}
use Rattle.pg_base.specs.Value.{is_null, is_object}
use Rattle.place_tree.specs.declared.place.Place.{Place}
use Rattle.place_tree.specs.declared.place.Tree.{Tree}
use Rattle.place_tree.specs.Arguments as a
use Rattle.place_tree.specs.Arguments.{is_given, members_or_none, argument}
use Rattle.place_tree.specs.Fields.{is_list}
use Rattle.place_tree.specs.Needs.{needed_statements}
use Rattle.plan_constraints.specs.declared.part.Part.{Part}
use Rattle.plan_constraints.specs.Path.{value_at}
use Rattle.plan_constraints.specs.Constraints.{Meets, Hold, shape, whole}
use Rattle.plan_constraints.specs.Noted.{noted, noted_all}

-- ---- one constraint

-- whatever meets the whole of a value has the value
abbrev pub WholesKeepValues : Type 0
WholesKeepValues = (vars : Vars) (path : List Part) (v : Option Value)
    → Meets vars (whole path v) → value_at vars path ≡ v

-- present in both or in neither, and null in both or in neither
pub record IsShapedAs (a b : Option Value) : Type 0 where
  pub present : is_some a ≡ is_some b
  pub null : (v w : Value) → a ≡ Some v → b ≡ Some w → is_null v ≡ is_null w

-- whatever meets the shape of a value has its shape
abbrev pub ShapesKeepShapes : Type 0
ShapesKeepShapes = (vars : Vars) (path : List Part) (v : Option Value)
    → Meets vars (shape path v) → IsShapedAs (value_at vars path) v

-- ---- what is noted for a tree

-- the noted constraints hold of the variables that they are noted of
abbrev pub NotedHoldAtHome : Type 0
NotedHoldAtHome = (base : BaseParts) (vars : Vars) (tree : Tree) → Hold (noted base vars tree) vars

-- what is left out as a repeat is no constraint less
abbrev pub RepeatsAddNothing : Type 0
RepeatsAddNothing = (base : BaseParts) (vars other : Vars) (tree : Tree)
    → Hold (noted base vars tree) other ↔ Hold (noted_all base vars tree) other

-- where the noted constraints hold of other variables, those that collection asked have the same values
abbrev pub NotedKeepAsked : Type 0
NotedKeepAsked = (base : BaseParts) (vars other : Vars) (tree : Tree) → Hold (noted base vars tree) other
    → Each (λ name. variable other name ≡ variable vars name) tree.asked

-- the names of the fields of an argument
abbrev pub names_given : Option Value → List (List ℕ)
names_given given = map (λ m. m.name) (members_or_none given)

-- a condition that is of its type: null or an object
abbrev pub IsCondition : Option Value → Type 0
IsCondition given = IfSome given (λ v. (is_null v || is_object v) ≡ true)

-- With the other variables the same parts of a window are given, the order is the same, and the condition has the same
-- fields.
pub record IsSteady (vars other : Vars) (p : Place) : Type 0 where
  pub first : is_given (argument other p a.first) ≡ is_given (argument vars p a.first)
  pub last : is_given (argument other p a.last) ≡ is_given (argument vars p a.last)
  pub offset : is_given (argument other p a.offset) ≡ is_given (argument vars p a.offset)
  pub before : is_given (argument other p a.before) ≡ is_given (argument vars p a.before)
  pub after : is_given (argument other p a.after) ≡ is_given (argument vars p a.after)
  pub order : argument other p a.order_by ≡ argument vars p a.order_by
  pub condition : names_given (argument other p a.condition) ≡ names_given (argument vars p a.condition)

-- where the noted constraints hold of other variables, the arguments of each list are steady
abbrev pub NotedKeepLists : Type 0
NotedKeepLists = (base : BaseParts) (vars other : Vars) (tree : Tree) (i : ℕ) (p : Place)
    → Hold (noted base vars tree) other → slice_get tree.places i ≡ Some p → is_list base p ≡ true
    → IsCondition (argument vars p a.condition) → IsSteady vars other p

-- and the needed statements are the same
abbrev pub NotedKeepNeeds : Type 0
NotedKeepNeeds = (base : BaseParts) (vars other : Vars) (tree : Tree) → Hold (noted base vars tree) other
    → needed_statements base other tree ≡ needed_statements base vars tree
