-- What is noted keeps the tree.
use Rattle.std.specs.Prelude.{◌≡◌, ℕ}
use Rattle.pg_base.specs.Base.{BaseParts}
use Rattle.pg_base.specs.declared.vars.Vars.{Vars}
use Rattle.gql_reader.specs.declared.tree.Document.{Document}
use Rattle.gql_collect.specs.Trees.{tree_of}
use Rattle.plan_constraints.specs.Constraints.{Hold}
use Rattle.plan_constraints.specs.Noted.{noted}

-- variables that meet what is noted for an operation's tree collect the same tree
abbrev pub NotedKeepTrees : Type 0
NotedKeepTrees = (base : BaseParts) (document : Document) (operation : ℕ) (vars other : Vars)
    → Hold (noted base vars (tree_of base.schema document operation vars)) other
    → tree_of base.schema document operation other ≡ tree_of base.schema document operation vars
