-- The laws, from what is proved of the form of collected trees.
use Rattle.std.proofs.Common.{◌≡◌, ℕ, false, sym, subst}
use Rattle.std.specs.Prelude.{IfSome}
use Rattle.serde_json.specs.Data.{Data}
use Rattle.gql_collect.specs.CollectLaws.{IsWellFormed}
use Rattle.gql_collect.specs.Trees.{root_of, tree_of}
use Rattle.gql_reader.specs.declared.tree.Document.{Document}
use Rattle.gql_reader.specs.declared.tree.OperationDefinition.{OperationDefinition}
use Rattle.gql_reader.specs.declared.tree.OperationKind.{OperationKind}
use Rattle.gql_reader.specs.declared.tree.OperationKind.TheVariants as operation_kind
use Rattle.pg_base.specs.Base.{BaseParts}
use Rattle.pg_base.specs.Lists.{Each}
use Rattle.pg_base.specs.Schema.{SchemaParts}
use Rattle.pg_base.specs.declared.vars.Vars.{Vars}
use Rattle.place_tree.specs.Fields.{does_of}
use Rattle.place_tree.specs.Needs.{is_mutation}
use Rattle.place_tree.specs.Typed.{IsTree}
use Rattle.place_tree.specs.declared.place.Place.{Place}
use Rattle.place_tree.specs.Arguments.{written}
use Rattle.plan_steps.specs.Fitting.{FitsPlace}
use Rattle.plan_steps.specs.Sound.{IsRootOf}
use Rattle.plan_steps.specs.declared.plan.Root.TheVariants as root
use Rattle.step_plan.specs.Planned.{HasFieldsOnce, HasOwnArgs, IsPlannable}
use Rattle.schema_laws.proofs.Eaches.{Each-weaker}
use Rattle.fitting_trees.specs.ValidTrees.{IsServed}
use Rattle.fitting_trees.proofs.Placed.{IsNamedSchema}
use Rattle.fitting_trees.proofs.Grown.{IsGood}
use Rattle.fitting_trees.proofs.Schemas.{named_schema}
use Rattle.fitting_trees.proofs.Whole.{is_root, tree_good}
use Rattle.fitting_trees.proofs.Queries.{no_mutations}

module _ (base : BaseParts) (document : Document) (place : ℕ) (o : OperationDefinition) (given : Data) (vars : Vars) (served : IsServed base document place o given vars)
    (formed : IsWellFormed base.schema (root_of base.schema o.kind) (tree_of base.schema document place vars).places) where
  pub plannable : IsPlannable base (tree_of base.schema document place vars) vars
  plannable =
      let named = subst IsNamedSchema (sym served.base_) (named_schema base.catalog served.catalog served.faultless) in
      let good = tree_good base named document served.valid place o served.stands given vars served.variables in
      record {
        root = root_of base.schema o.kind;
        of_root = is_root base.schema o.kind;
        formed = formed;
        own = Each-weaker (IsGood base vars) (HasOwnArgs base.schema) (tree_of base.schema document place vars).places (λ p h. h.2) good;
        once = Each-weaker (IsGood base vars) (λ (p : Place). IfSome (written p.args 0) HasFieldsOnce) (tree_of base.schema document place vars).places (λ p h. h.1) good;
        fit = Each-weaker (IsGood base vars) (FitsPlace base vars) (tree_of base.schema document place vars).places (λ p h. h.0) good;
      }

  pub without_mutations : o.kind ≡ operation_kind.Query → IsRootOf base (tree_of base.schema document place vars) root.Query
  without_mutations is =
      let places = (tree_of base.schema document place vars).places in
      let tree : IsTree base.schema base.schema.query places = subst (λ (k : OperationKind). IsTree base.schema (root_of base.schema k) places) is formed.tree in
      subst (λ (s : SchemaParts). Each (λ (p : Place). is_mutation (does_of s p) ≡ false) places) (sym served.base_)
      (no_mutations base.catalog served.catalog places (subst (λ (s : SchemaParts). IsTree s s.query places) served.base_ tree))
