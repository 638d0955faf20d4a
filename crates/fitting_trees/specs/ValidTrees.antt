-- What holds of the tree that is collected from an operation of a valid document.
use Rattle.std.specs.Prelude.{◌≡◌, ◌≤◌, ℕ, None, Some, Ok, length, slice_get}
use Rattle.serde_json.specs.Data.{Data}
use Rattle.gql_collect.specs.Trees.{tree_of}
use Rattle.gql_input.specs.Coerced.{coerced}
use Rattle.gql_reader.specs.declared.tree.Definition.TheVariants as definition
use Rattle.gql_reader.specs.declared.tree.Document.{Document}
use Rattle.gql_reader.specs.declared.tree.OperationDefinition.{OperationDefinition}
use Rattle.gql_reader.specs.declared.tree.OperationKind.TheVariants as operation_kind
use Rattle.gql_rules.specs.Rules.{IsValidDocument}
use Rattle.pg_base.specs.Base.{BaseParts, IsBase}
use Rattle.pg_base.specs.Catalog.{IsValidCatalog}
use Rattle.pg_base.specs.SchemaFaults.{build_fault}
use Rattle.pg_base.specs.declared.vars.Vars.{Vars}
use Rattle.plan_steps.specs.Sound.{IsRootOf}
use Rattle.plan_steps.specs.declared.plan.Root.TheVariants as root
use Rattle.step_plan.specs.Planned.{IsPlannable}

-- an operation of a valid document, with its coerced variables, over a base whose schema has no fault
pub record IsServed (base : BaseParts) (document : Document) (place : ℕ) (o : OperationDefinition) (given : Data)
    (vars : Vars) : Type 0 where
  pub base_ : IsBase base
  pub catalog : IsValidCatalog base.catalog
  pub faultless : build_fault base.catalog ≡ None
  pub valid : IsValidDocument base.schema document
  pub stands : slice_get document.definitions place ≡ Some (definition.Operation o)
  pub variables : coerced base.schema o given ≡ Ok vars
  pub few : length (tree_of base.schema document place vars).places ≤ 2000

-- a plan can be made of its tree
abbrev pub ValidTreesArePlannable : Type 0
ValidTreesArePlannable = (base : BaseParts) (document : Document) (place : ℕ) (o : OperationDefinition) (given : Data)
    (vars : Vars) → IsServed base document place o given vars
    → IsPlannable base (tree_of base.schema document place vars) vars

-- no place of a query's tree is a mutation field
abbrev pub QueryTreesHaveNoMutations : Type 0
QueryTreesHaveNoMutations = (base : BaseParts) (document : Document) (place : ℕ) (o : OperationDefinition)
    (given : Data) (vars : Vars) → IsServed base document place o given vars → o.kind ≡ operation_kind.Query
    → IsRootOf base (tree_of base.schema document place vars) root.Query
