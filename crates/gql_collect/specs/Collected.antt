-- CollectFields (GraphQL October 2021, section 6.3.2), up to the grouping.
use Rattle.std.specs.Prelude.{ℕ, zero, suc, Bool, false, not, if◌then◌else◌, List, [], ◌∷◌, ◌++◌, length, Option, Some, None, slice_get}
use Rattle.std.specs.List.{list_any}
use Rattle.std.specs.Str.{bytes_eq}
use Rattle.indexmap.specs.IndexSet.{insert_key}
use Rattle.gql_reader.specs.declared.tree.Selection.{Selection, Field', FragmentSpread, InlineFragment', Row_of-Selection, end_of-Selection, more_of-Selection}
use Rattle.gql_reader.specs.declared.tree.Field.{Field}
use Rattle.gql_reader.specs.declared.tree.FragmentDefinition.{FragmentDefinition}
use Rattle.gql_reader.specs.declared.tree.Definition.{Definition}
use Rattle.gql_reader.specs.declared.tree.Definition.TheVariants as definition
use Rattle.pg_base.specs.declared.schema.TypeDef.{TypeDef}
use Rattle.pg_base.specs.Schema.{SchemaParts}
use Rattle.pg_base.specs.declared.vars.Vars.{Vars}
use Rattle.place_tree.specs.Fold.{when}
use Rattle.gql_collect.specs.Asking.{Choice, chosen, with_names}

-- what a selection set is collected from
pub record Request : Type 0 where
  pub schema : SchemaParts
  pub definitions : List Definition
  pub vars : Vars

-- the fields that were collected, the fragments that were entered, and the variables that were asked, each once
pub record Met : Type 0 where
  pub fields : List Field
  pub entered : List (List ℕ)
  pub asked : List (List ℕ)

abbrev pub after_asking : List (List ℕ) → Met → Met
after_asking names met = record { fields = met.fields; entered = met.entered; asked = with_names met.asked names }

abbrev pub with_field : Field → Met → Met
with_field f met = record { fields = met.fields ++ f ∷ []; entered = met.entered; asked = met.asked }

abbrev pub with_entered : List ℕ → Met → Met
with_entered name met =
    record { fields = met.fields; entered = insert_key bytes_eq met.entered name; asked = met.asked }

-- where the choice leaves a selection in, what it adds
abbrev pub by_choice : Choice → (Met → Met) → Met → Met
by_choice choice add met = when choice.kept (λ _. add (after_asking choice.asked met)) (after_asking choice.asked met)

-- where a condition on the type, if any, holds, what it adds
abbrev pub on_type : (List ℕ → Bool) → Option (List ℕ) → (Met → Met) → Met → Met
on_type applies None add met = add met
on_type applies (Some name) add met = when (applies name) (λ _. add met) met

abbrev pub selection_list : {n : _} → Row_of-Selection n → List Selection
selection_list end_of-Selection = []
selection_list (more_of-Selection s rest) = s ∷ selection_list rest

-- A selection, in the fields that were met before. `applies` says whether a condition on the type holds, `enter` adds
-- what the fragment of a name selects.
abbrev mutual
  pub in_selection : Vars → (List ℕ → Bool) → (List ℕ → Met → Met) → Selection → Met → Met
  in_selection vars applies enter (Field' alias name arguments directives _ rows place) =
      by_choice (chosen vars directives) (with_field (record {
        alias = alias;
        name = name;
        arguments = arguments;
        directives = directives;
        selections = selection_list rows;
        pos = place;
      }))
  in_selection vars applies enter (FragmentSpread s) = by_choice (chosen vars s.directives) (enter s.name)
  in_selection vars applies enter (InlineFragment' on directives _ rows place) =
      by_choice (chosen vars directives) (on_type applies on (in_rows vars applies enter rows))

  pub in_rows : {n : _} → Vars → (List ℕ → Bool) → (List ℕ → Met → Met) → Row_of-Selection n → Met → Met
  in_rows vars applies enter end_of-Selection met = met
  in_rows vars applies enter (more_of-Selection s rest) met =
      in_rows vars applies enter rest (in_selection vars applies enter s met)

-- the same of a list
abbrev pub in_each : Vars → (List ℕ → Bool) → (List ℕ → Met → Met) → List Selection → Met → Met
in_each vars applies enter [] met = met
in_each vars applies enter (s ∷ selections) met =
    in_each vars applies enter selections (in_selection vars applies enter s met)

-- ---- fragments

-- the first fragment with the name
abbrev pub fragment_in : List Definition → List ℕ → Option FragmentDefinition
fragment_in [] name = None
fragment_in (definition.Fragment f ∷ definitions) name =
    if bytes_eq f.name name then Some f else fragment_in definitions name
fragment_in (definition.Operation o ∷ definitions) name = fragment_in definitions name
fragment_in (definition.Foreign pos ∷ definitions) name = fragment_in definitions name

abbrev pub in_fragment : (List ℕ → Bool) → (List Selection → Met → Met) → Option FragmentDefinition → Met → Met
in_fragment applies collect None met = met
in_fragment applies collect (Some f) met = on_type applies (Some f.type_condition) (collect f.selections) met

-- a fragment is entered once for each selection set
abbrev pub enter_by : (List ℕ → Bool) → List Definition → (List Selection → Met → Met) → List ℕ → Met → Met
enter_by applies definitions collect name met =
    when (not (list_any (bytes_eq name) met.entered))
    (λ _. in_fragment applies collect (fragment_in definitions name) (with_entered name met)) met

-- ---- a selection set

abbrev pub is_named : Option TypeDef → List ℕ → Bool
is_named None name = false
is_named (Some t) name = bytes_eq t.name name

-- without interfaces and unions, a condition on the type holds for the type itself alone
abbrev pub applies_to : SchemaParts → ℕ → List ℕ → Bool
applies_to schema ty name = is_named (slice_get schema.types ty) name

-- what a fragment of a name adds to an object type's fields, where so many fragments may be entered within one another
unfoldable pub enter_at : ℕ → Request → ℕ → List ℕ → Met → Met
enter_at zero r ty name met = met
enter_at (suc n) r ty name met =
    enter_by (applies_to r.schema ty) r.definitions (in_each r.vars (applies_to r.schema ty) (enter_at n r ty)) name met

-- what a selection set of an object type adds
abbrev pub collect_within : ℕ → Request → ℕ → List Selection → Met → Met
collect_within n r ty selections met = in_each r.vars (applies_to r.schema ty) (enter_at n r ty) selections met

abbrev pub nothing_met : List (List ℕ) → Met
nothing_met asked = record { fields = []; entered = []; asked = asked }

-- The fields of a selection set, where these variables were asked before. No more fragments are ever within one another
-- than the document has, since none is entered twice.
abbrev pub collected : Request → ℕ → List Selection → List (List ℕ) → Met
collected r ty selections asked = collect_within (length r.definitions) r ty selections (nothing_met asked)
