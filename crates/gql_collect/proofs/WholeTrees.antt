-- Laws of collection.
use Rattle.std.proofs.Common.{◌≡◌, ◌≤◌, List, [], length, Option, Some, None, refl, sym, subst}
use Rattle.std.specs.Prelude.{slice_get}
use Rattle.pg_base.specs.Lists.{Each}
use Rattle.gql_reader.specs.declared.tree.Definition.{Definition}
use Rattle.gql_reader.specs.declared.tree.Definition.TheVariants as definition
use Rattle.pg_base.specs.Schema.{SchemaParts}
use Rattle.pg_base.specs.declared.vars.Vars.{Vars}
use Rattle.gql_reader.specs.declared.tree.OperationDefinition.{OperationDefinition}
use Rattle.place_tree.specs.declared.place.Place.{Place}
use Rattle.place_tree.specs.declared.answer.Answer.{Answer}
use Rattle.place_tree.specs.Response.{members_of}
use Rattle.gql_collect.specs.CollectLaws.{AgreeingVariablesCollectTheSame, IsWellFormed, CollectedTreesAreWellFormed, bare, set_members, ExecutionByPlaces}
use Rattle.gql_collect.proofs.Executes.{set_executes}
use Rattle.gql_collect.proofs.WellFormed.{well_formed}
use Rattle.gql_collect.specs.Trees.{request, by_definition, tree_of, levels, root_of, empty}
use Rattle.gql_collect.proofs.Steady.{Agree, same_set}

same_definition : (schema : SchemaParts) (definitions : List Definition) (vars other : Vars) (d : Option Definition) → Each (Agree vars other) (by_definition (request schema definitions vars) d).asked → by_definition (request schema definitions other) d ≡ by_definition (request schema definitions vars) d
same_definition schema definitions vars other (Some (definition.Operation o)) h = (same_set vars other schema definitions levels None (root_of schema o.kind) o.selections empty h).0
same_definition schema definitions vars other (Some (definition.Fragment f)) h = refl
same_definition schema definitions vars other (Some (definition.Foreign p)) h = refl
same_definition schema definitions vars other None h = refl

pub same_tree : AgreeingVariablesCollectTheSame
unfolding tree_of
same_tree schema document operation vars other h = same_definition schema document.definitions vars other (slice_get document.definitions operation) h

by_operation : (schema : SchemaParts) (definitions : List Definition) (vars : Vars) (o : OperationDefinition) (d : Option Definition) → d ≡ Some (definition.Operation o) → length (by_definition (request schema definitions vars) d).places ≤ 2000
    → IsWellFormed schema (root_of schema o.kind) (by_definition (request schema definitions vars) d).places
by_operation schema definitions vars o d is few =
    subst (λ (d : Option Definition). length (by_definition (request schema definitions vars) d).places ≤ 2000 → IsWellFormed schema (root_of schema o.kind) (by_definition (request schema definitions vars) d).places) (sym is)
    (λ h. well_formed (request schema definitions vars) (root_of schema o.kind) levels o.selections h) few

pub tree_well_formed : CollectedTreesAreWellFormed
unfolding tree_of
tree_well_formed schema document operation vars o is few = by_operation schema document.definitions vars o (slice_get document.definitions operation) is few

module _ {S : Type 0} (give : Place → S → Answer S) where
  by_execution : (schema : SchemaParts) (definitions : List Definition) (vars : Vars) (o : OperationDefinition) (d : Option Definition) (s : S) → d ≡ Some (definition.Operation o)
      → members_of (λ i p s. give (bare p) s) (by_definition (request schema definitions vars) d).places 0 None s ≡ set_members give schema levels (request schema definitions vars) (root_of schema o.kind) o.selections s
  by_execution schema definitions vars o d s is =
      subst (λ (d : Option Definition). members_of (λ i p s. give (bare p) s) (by_definition (request schema definitions vars) d).places 0 None s ≡ set_members give schema levels (request schema definitions vars) (root_of schema o.kind) o.selections s) (sym is)
      (set_executes give (request schema definitions vars) levels (root_of schema o.kind) o.selections [] s)

  pub executes : ExecutionByPlaces give
  unfolding tree_of
  executes schema document operation vars o s is = by_execution schema document.definitions vars o (slice_get document.definitions operation) s is
