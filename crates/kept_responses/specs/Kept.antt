-- Plans that are kept, and which of them fit what they are kept under.
use Rattle.std.specs.Prelude.{◌≡◌, ◌≤◌, ℕ, List, length, Option, Some}
use Rattle.pg_base.specs.Base.{BaseParts}
use Rattle.pg_base.specs.Limits.{most_places}
use Rattle.pg_base.specs.declared.vars.Vars.{Vars}
use Rattle.gql_reader.specs.Document.{ReadsDocument}
use Rattle.gql_reader.specs.declared.tree.Document.{Document}
use Rattle.gql_input.specs.Chosen.{chosen}
use Rattle.gql_collect.specs.Trees.{tree_of}
use Rattle.place_tree.specs.declared.place.Tree.{Tree}
use Rattle.plan_cache.specs.Shelf.{Key, Asked, key_of}
use Rattle.plan_constraints.specs.Constraints.{Hold}
use Rattle.plan_steps.specs.declared.plan.Root.TheVariants as root
use Rattle.plan_steps.specs.Sound.{IsRootOf}
use Rattle.plan_steps.specs.View.{Planned}
use Rattle.planned_response.specs.Plans.{IsLeanFor}

-- a plan, with the text of the document and the name of the operation, as it was given, for which it is kept
pub record KeptParts : Type 0 where
  pub text : List ℕ
  pub operation : Option (List ℕ)
  pub planned : Planned

abbrev pub kept_parts : List ℕ → Option (List ℕ) → Planned → KeptParts
kept_parts text operation planned = record { text = text; operation = operation; planned = planned }

-- what it is kept under
abbrev pub key_for : KeptParts → Key
key_for kept = key_of kept.text kept.operation kept.planned.constraints

-- ---- what fits

-- the operation that the name chooses in the document that the text reads as asks, with the variables, for the tree
pub record AsksFor (base : BaseParts) (asked : Asked) (tree : Tree) : Type 0 where
  pub read : Document
  pub reads : ReadsDocument asked.text read
  pub place : ℕ
  pub chosen_ : chosen read asked.operation ≡ Some place
  pub collected : tree_of base.schema read place asked.vars ≡ tree

-- A kept plan fits its key. Its plan is sound and ready by its type.
pub record Fits (kept : KeptParts) : Type 0 where
  -- for whatever the text reads as, the chosen operation asks for the plan's tree with all variables that meet the
  -- constraints
  pub keeps : (read : Document) (place : ℕ) (vars : Vars) → ReadsDocument kept.text read
      → chosen read kept.operation ≡ Some place → Hold kept.planned.constraints vars
      → tree_of kept.planned.base.schema read place vars ≡ kept.planned.tree
  -- the tree is a query's, and has few enough places
  pub root_ : IsRootOf kept.planned.base kept.planned.tree root.Query
  pub few : length kept.planned.tree.places ≤ most_places
  -- the plan sends no more statements than its tree needs
  pub lean : IsLeanFor kept.planned
