-- Laws of collection.
use Rattle.std.specs.Prelude.{◌≡◌, ◌≤◌, ◌⊎◌, ℕ, ◌+◌, zero, suc, List, [], ◌∷◌, length, Option, Some, None, slice_get}
use Rattle.pg_base.specs.Lists.{Each}
use Rattle.gql_reader.specs.declared.tree.Definition.TheVariants as definition
use Rattle.gql_reader.specs.declared.tree.Document.{Document}
use Rattle.gql_reader.specs.declared.tree.Field.{Field}
use Rattle.gql_reader.specs.declared.tree.OperationDefinition.{OperationDefinition}
use Rattle.gql_reader.specs.declared.tree.Selection.{Selection}
use Rattle.pg_base.specs.declared.schema.FieldDef.{FieldDef}
use Rattle.pg_base.specs.Schema.{SchemaParts}
use Rattle.pg_base.specs.declared.vars.Vars.{Vars}
use Rattle.pg_base.specs.Schema.{field_at}
use Rattle.place_tree.specs.Fields.{typename}
use Rattle.pg_base.specs.Vars.{variable}
use Rattle.place_tree.specs.declared.place.Place.{Place}
use Rattle.place_tree.specs.declared.answer.Answer.{Answer}
use Rattle.place_tree.specs.Fold.{below}
use Rattle.place_tree.specs.Response.{Members, no_members, member, value_of, members_of}
use Rattle.place_tree.specs.Typed.{IsTree}
use Rattle.rel_model.specs.declared.tables.Tables.{Tables}
use Rattle.pg_base.specs.Base.{BaseParts}
use Rattle.place_tree.specs.declared.stand.Stand.{Stand}
use Rattle.place_tree.specs.declared.stand.Stand.TheVariants.{Root}
use Rattle.place_tree.specs.Exec.{resolved, executed}
use Rattle.gql_collect.specs.Collected.{Request, collected}
use Rattle.gql_collect.specs.Growing.{merged, keys_of, fields_with, number_of, place_of, with_set}
use Rattle.gql_collect.specs.Trees.{request, tree_of, root_of, levels, empty}

-- ---- variables

abbrev pub AgreeingVariablesCollectTheSame : Type 0
AgreeingVariablesCollectTheSame = (schema : SchemaParts) (document : Document) (operation : ℕ) (vars other : Vars)
    → Each (λ name. variable other name ≡ variable vars name) (tree_of schema document operation vars).asked
    → tree_of schema document operation other ≡ tree_of schema document operation vars

-- ---- form

-- the place's field is one of its type, or `__typename`
abbrev pub HasField : SchemaParts → Place → Type 0
HasField schema p = (p.field ≡ typename) ⊎ ((f : FieldDef) × (field_at schema p.ty p.field ≡ Some f))

pub record IsWellFormed (schema : SchemaParts) (root : ℕ) (places : List Place) : Type 0 where
  pub tree : IsTree schema root places
  pub fields : Each (HasField schema) places

abbrev pub CollectedTreesAreWellFormed : Type 0
CollectedTreesAreWellFormed = (schema : SchemaParts) (document : Document) (operation : ℕ) (vars : Vars)
    (o : OperationDefinition)
    → slice_get document.definitions operation ≡ Some (definition.Operation o)
    → length (tree_of schema document operation vars).places ≤ 2000
    → IsWellFormed schema (root_of schema o.kind) (tree_of schema document operation vars).places

-- ---- execution

-- ExecuteSelectionSet (section 6.3) at a state, so many levels deep. `give` is what a field gives at a state; it sees
-- the field's type, number, arguments and position, as a place at the root.
module _ {S : Type 0} (give : Place → S → Answer S) (schema : SchemaParts) where
  abbrev pub below_members : (ℕ → List Selection → S → Members) → Option FieldDef → List Selection → S → Members
  below_members next None selections s = no_members
  below_members next (Some d) selections s = next d.ty.name selections s

  abbrev pub number_members
      : (ℕ → List Selection → S → Members) → ℕ → List ℕ → Field → List Selection → Option ℕ → Members → S → Members
  number_members next ty key f selections None rest s = rest
  number_members next ty key f selections (Some n) rest s =
      let p : Place = place_of schema None ty key f n in
      member key (value_of p (below (below_members next (field_at schema ty n) selections) (give p s))) rest

  abbrev pub group_members : (ℕ → List Selection → S → Members) → ℕ → List ℕ → List Field → Members → S → Members
  group_members next ty key [] rest s = rest
  group_members next ty key (f ∷ fields) rest s =
      number_members next ty key f (merged (f ∷ fields)) (number_of schema ty f.name) rest s

  abbrev pub key_members : (ℕ → List Selection → S → Members) → ℕ → List Field → List (List ℕ) → S → Members
  key_members next ty fields [] s = no_members
  key_members next ty fields (key ∷ keys) s =
      group_members next ty key (fields_with key fields) (key_members next ty fields keys s) s

  unfoldable pub set_members : ℕ → Request → ℕ → List Selection → S → Members
  set_members zero r ty selections s = no_members
  set_members (suc n) r ty selections s =
      let fields : List Field = (collected r ty selections []).fields in
      key_members (set_members n r) ty fields (keys_of fields) s

-- a place as the root would have it
abbrev pub bare : Place → Place
bare p = record { parent = None; key = p.key; ty = p.ty; field = p.field; args = p.args; pos = p.pos }

-- execution by places is execution by selection sets
abbrev pub ExecutionByPlaces : {S : Type 0} → (Place → S → Answer S) → Type 0
ExecutionByPlaces give = (schema : SchemaParts) (document : Document) (operation : ℕ) (vars : Vars)
    (o : OperationDefinition) (s : _)
    → slice_get document.definitions operation ≡ Some (definition.Operation o)
    → members_of (λ i p s. give (bare p) s) (tree_of schema document operation vars).places 0 None s
    ≡ set_members give schema levels (request schema document.definitions vars) (root_of schema o.kind) o.selections s

-- ---- execution of an operation on tables

-- where a field is executed: below which field's place, and at which stand
pub record Where : Type 0 where
  pub above : Option Place
  pub stand : Stand

abbrev pub alone : Option Place → List Place
alone None = []
alone (Some a) = a ∷ []

-- a place below another one that is the only one
abbrev pub placed_under : Option Place → Place → Place
placed_under None p = bare p
placed_under (Some a) p =
    record { parent = Some 0; key = p.key; ty = p.ty; field = p.field; args = p.args; pos = p.pos }

abbrev pub stand_below : Place → Stand → Where
stand_below p s = record { above = Some p; stand = s }

-- what a field gives
abbrev pub field_gives : BaseParts → Tables → Vars → Place → Where → Answer Where
field_gives base tables vars p w =
    below (stand_below p) (resolved base tables vars (alone w.above) (placed_under w.above p) w.stand)

-- the data of a query is what its selection sets give
abbrev pub QueriesExecuteBySelectionSets : Type 0
QueriesExecuteBySelectionSets = (base : BaseParts) (tables : Tables) (document : Document) (operation : ℕ) (vars : Vars)
    (o : OperationDefinition)
    → slice_get document.definitions operation ≡ Some (definition.Operation o)
    → executed base tables vars (tree_of base.schema document operation vars)
    ≡ set_members (field_gives base tables vars) base.schema levels (request base.schema document.definitions vars)
    (root_of base.schema o.kind) o.selections (record { above = None; stand = Root })

-- ---- levels

-- the levels of a tree with at most so many places are all of its levels
abbrev pub LevelsCutNothing : Type 0
LevelsCutNothing = (r : Request) (ty : ℕ) (selections : List Selection) (more : ℕ)
    → length (with_set levels r None ty selections empty).places ≤ 2000
    → with_set (levels + more) r None ty selections empty ≡ with_set levels r None ty selections empty
