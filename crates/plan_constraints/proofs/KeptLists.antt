-- What is noted for a tree keeps its lists, and what it needs.
use Rattle.std.proofs.Common.{◌≡◌, ℕ, Some, true}
use Rattle.std.specs.Prelude.{slice_get}
use Rattle.pg_base.specs.Base.{BaseParts}
use Rattle.pg_base.specs.declared.vars.Vars.{Vars}
use Rattle.place_tree.specs.declared.place.Place.{Place}
use Rattle.place_tree.specs.declared.place.Tree.{Tree}
use Rattle.place_tree.specs.Arguments as a
use Rattle.place_tree.specs.Arguments.{argument}
use Rattle.place_tree.specs.Fields.{is_list}
use Rattle.place_tree.specs.Needs.{needed_statements}
use Rattle.plan_constraints.specs.Constraints.{Hold}
use Rattle.plan_constraints.specs.Laws.{IsCondition, IsSteady}
use Rattle.plan_constraints.specs.Noted.{noted}
use Rattle.plan_constraints.proofs.Needed.{needed_steady}
use Rattle.plan_constraints.proofs.Repeats.{all_noted}
use Rattle.plan_constraints.proofs.Steady.{noted_steady}

pub lists_steady : (base : BaseParts) (vars other : Vars) (tree : Tree) (i : ℕ) (p : Place) → Hold (noted base vars tree) other → slice_get tree.places i ≡ Some p → is_list base p ≡ true → IsCondition (argument vars p a.condition) → IsSteady vars other p
lists_steady base vars other tree i p h at l c = noted_steady base vars other tree (all_noted base vars other tree h) i p at l c

pub needs_steady : (base : BaseParts) (vars other : Vars) (tree : Tree) → Hold (noted base vars tree) other → needed_statements base other tree ≡ needed_statements base vars tree
needs_steady base vars other tree h = needed_steady base vars other tree (all_noted base vars other tree h)
