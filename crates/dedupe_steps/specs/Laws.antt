-- What holds of merged plans.
use Rattle.std.specs.Prelude.{◌≡◌, List, IsTrue}
use Rattle.pg_base.specs.Base.{BaseParts}
use Rattle.place_tree.specs.declared.place.Tree.{Tree}
use Rattle.plan_constraints.specs.declared.constraint.Constraint.{Constraint}
use Rattle.plan_steps.specs.declared.plan.Plan.{Plan}
use Rattle.plan_steps.specs.Check.{is_checked}
use Rattle.plan_steps.specs.Fetches.{IsTreeOver, IsPlain, IsMerged}
use Rattle.plan_steps.specs.Sound.{IsSound}
use Rattle.dedupe_steps.specs.Quotient.{IsQuotient}

-- a plan that is well formed and plain, over a tree over its base, and its quotient
pub record IsMergeOf (base : BaseParts) (tree : Tree) (constraints : List Constraint) (plan merged : Plan) : Type 0
  where
    pub tree_ : IsTreeOver base tree
    pub checked : IsTrue (is_checked base tree plan)
    pub plain : IsPlain base tree constraints plan
    pub quotient : IsQuotient base tree constraints plan merged

-- a plan that is well formed has one quotient at most
abbrev pub QuotientsAreOne : Type 0
QuotientsAreOne = (base : BaseParts) (tree : Tree) (constraints : List Constraint) (plan merged other : Plan)
    → IsTrue (is_checked base tree plan) → IsQuotient base tree constraints plan merged
    → IsQuotient base tree constraints plan other → merged ≡ other

-- the quotient is well formed
abbrev pub QuotientsAreWellFormed : Type 0
QuotientsAreWellFormed = (base : BaseParts) (tree : Tree) (constraints : List Constraint) (plan merged : Plan)
    → IsMergeOf base tree constraints plan merged → IsTrue (is_checked base tree merged)

-- row fields of one signature share their fetch in it
abbrev pub QuotientsAreMerged : Type 0
QuotientsAreMerged = (base : BaseParts) (tree : Tree) (constraints : List Constraint) (plan merged : Plan)
    → IsMergeOf base tree constraints plan merged → IsMerged base tree constraints merged

-- and it is sound
abbrev pub QuotientsAreSound : Type 0
QuotientsAreSound = (base : BaseParts) (tree : Tree) (constraints : List Constraint) (plan merged : Plan)
    → IsMergeOf base tree constraints plan merged → IsSound base merged tree constraints
