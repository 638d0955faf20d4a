-- What is noted keeps the variables that collection asked.
use Rattle.std.proofs.Common.{◌≡◌, map}
use Rattle.std.specs.Prelude.{flat_map}
use Rattle.pg_base.specs.Base.{BaseParts}
use Rattle.pg_base.specs.Lists.{Each}
use Rattle.pg_base.specs.Vars.{variable}
use Rattle.pg_base.specs.declared.vars.Vars.{Vars}
use Rattle.place_tree.specs.declared.place.Tree.{Tree}
use Rattle.plan_constraints.specs.Path.{to_variable}
use Rattle.plan_constraints.specs.Constraints.{Meets, Hold}
use Rattle.plan_constraints.specs.Noted.{whole_of, noted_at, noted}
use Rattle.plan_constraints.proofs.Kept.{whole_keeps}
use Rattle.plan_constraints.proofs.Repeats.{all_noted}
use Rattle.plan_constraints.proofs.Steady.{Each-left, Each-of_map}

pub asked_steady : (base : BaseParts) (vars other : Vars) (tree : Tree) → Hold (noted base vars tree) other → Each (λ name. variable other name ≡ variable vars name) tree.asked
asked_steady base vars other tree h =
    Each-of_map (Meets other) (λ name. variable other name ≡ variable vars name) (whole_of vars) (λ name m. whole_keeps other (to_variable name) (variable vars name) m) tree.asked
    (Each-left (Meets other) (map (whole_of vars) tree.asked) (flat_map (noted_at base vars) tree.places) (all_noted base vars other tree h))
