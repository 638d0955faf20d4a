-- The tree of an operation of a valid document.
use Rattle.std.proofs.Common.{◌≡◌, ℕ, false, List, [], length, Option, Some, None, Ok, inl, inr, refl, sym, subst, ◌⊎◌}
use Rattle.std.specs.Prelude.{slice_get, is_none, unwrap_or}
use Rattle.serde_json.specs.Data.{Data}
use Rattle.pg_base.specs.Base.{BaseParts}
use Rattle.pg_base.specs.Schema.{SchemaParts}
use Rattle.pg_base.specs.declared.vars.Vars.{Vars}
use Rattle.gql_reader.specs.declared.tree.Definition.{Definition}
use Rattle.gql_reader.specs.declared.tree.Definition.TheVariants as definition
use Rattle.gql_reader.specs.declared.tree.Document.{Document}
use Rattle.gql_reader.specs.declared.tree.OperationDefinition.{OperationDefinition}
use Rattle.gql_reader.specs.declared.tree.OperationKind.{OperationKind}
use Rattle.gql_reader.specs.declared.tree.OperationKind.TheVariants as operation_kind
use Rattle.gql_nodes.specs.declared.node.Location.TheVariants as location
use Rattle.gql_nodes.specs.Fields as on_nodes
use Rattle.gql_nodes.specs.Nodes.{Node, at_definition, At, put, put_variables, put_directives, nodes}
use Rattle.gql_nodes.specs.Reached.{starts}
use Rattle.gql_rules.specs.Rules.{IsValidDocument, on_shapes}
use Rattle.gql_validate.specs.declared.rule.ShapeRule.TheVariants as shape
use Rattle.gql_input.specs.Coerced.{coerced}
use Rattle.gql_collect.specs.Trees.{root_of, request, levels, empty, by_definition, operation_tree, tree_of}
use Rattle.step_plan.specs.Planned.{IsRootType}
use Rattle.fitting_trees.proofs.Suited.{false_true}
use Rattle.fitting_trees.proofs.Growth.{front_before, stands_there, variables_grow, directives_grow, selections_grow}
use Rattle.fitting_trees.proofs.SoundLiterals.{never}
use Rattle.fitting_trees.proofs.Definitions.{defined_at}
use Rattle.fitting_trees.proofs.Uses.{is_used}
use Rattle.fitting_trees.proofs.Collecting.{IsOwner, list_below, to_standing, within_all}
use Rattle.fitting_trees.proofs.Merging.{Meets, meets_itself}
use Rattle.fitting_trees.proofs.Placed.{IsNamedSchema}
use Rattle.fitting_trees.proofs.Grown.{AllGood, set_good}

root_type : (schema : SchemaParts) (k : OperationKind) → is_none (on_nodes.root_of schema k) ≡ false → on_nodes.root_of schema k ≡ Some (root_of schema k)
root_type schema operation_kind.Query e = refl
root_type schema operation_kind.Mutation e = by schema.mutation e
  where
    by : (o : Option ℕ) → is_none o ≡ false → o ≡ Some (unwrap_or o schema.query)
    by None e = false_true (sym e)
    by (Some ty) e = refl
root_type schema operation_kind.Subscription e = false_true (sym e)

pub is_root : (schema : SchemaParts) (k : OperationKind) → IsRootType schema (root_of schema k)
is_root schema operation_kind.Query = inl refl
is_root schema operation_kind.Mutation = by schema.mutation refl
  where
    by : (o : Option ℕ) → schema.mutation ≡ o → (unwrap_or o schema.query ≡ schema.query) ⊎ (schema.mutation ≡ Some (unwrap_or o schema.query))
    by None e = inl refl
    by (Some ty) e = inr e
is_root schema operation_kind.Subscription = inl refl

module _ (base : BaseParts) (named : IsNamedSchema base.schema) (document : Document) (valid : IsValidDocument base.schema document) (place : ℕ) (o : OperationDefinition)
    (stands : slice_get document.definitions place ≡ Some (definition.Operation o)) (given : Data) (vars : Vars) (made : coerced base.schema o given ≡ Ok vars) where
  operation_good : AllGood base vars (operation_tree (request base.schema document.definitions vars) o)
  operation_good =
      let all : List At = nodes base.schema document in
      let d = defined_at base.schema document place (definition.Operation o) stands in
      let at : ℕ = length d.list in
      let x : Node = at_definition d.repeated (definition.Operation o) in
      let start : List At = put place x d.list in
      let first : List At = put_variables base.schema place [] o.variables start in
      let second : List At = put_directives base.schema place [] location.Other o.directives first in
      let before_selections = front_before all second _ (selections_grow base.schema place at (on_nodes.root_of base.schema o.kind) o.selections second) d.front in
      let before_directives = front_before all first second (directives_grow base.schema place [] location.Other o.directives first) before_selections in
      let node = stands_there all place x d.list (front_before all start first (variables_grow base.schema place [] o.variables start) before_directives) in
      let root = root_type base.schema o.kind (never (is_none (on_nodes.root_of base.schema o.kind)) (λ h. valid (on_shapes shape.SingleRootField) at (record { within = place; node = x }) node h)) in
      let there = within_all all at _ node in
      let own : IsOwner base.schema document place at place at = record { reach = starts (inl refl); enters = λ joined h. starts h; owned = there } in
      set_good base named document valid place vars
      (λ within i r name pos reach e. is_used base.schema document valid named.inputs place o stands given vars made within i r name pos reach e)
      levels (λ a. a ≡ at) None (root_of base.schema o.kind) o.selections empty
      (λ a b e h. let same : Meets base.schema document place valid at at = meets_itself base.schema document place valid at there in
      subst (λ n. Meets base.schema document place valid n b) (sym e) (subst (λ n. Meets base.schema document place valid at n) (sym h) same))
      (to_standing base.schema document place (λ a. a ≡ at) at place at (root_of base.schema o.kind) (on_nodes.root_of base.schema o.kind) o.selections refl own root
      (list_below base.schema document place place at (on_nodes.root_of base.schema o.kind) o.selections second d.front)) tt

  by_operation : (d : Option Definition) → d ≡ Some (definition.Operation o) → AllGood base vars (by_definition (request base.schema document.definitions vars) d)
  by_operation d is = subst (λ (x : Option Definition). AllGood base vars (by_definition (request base.schema document.definitions vars) x)) (sym is) operation_good

  pub tree_good : AllGood base vars (tree_of base.schema document place vars)
  unfolding tree_of
  tree_good = by_operation (slice_get document.definitions place) stands
