-- The fields that are collected don't depend on what was asked before.
use Rattle.std.proofs.Common.{◌≡◌, ℕ, zero, suc, List, [], ◌∷◌, ◌++◌, length, Option, Some, None, Bool, true, false, not, refl, ap}
use Rattle.std.specs.List.{list_any}
use Rattle.std.specs.Str.{bytes_eq}
use Rattle.indexmap.specs.IndexSet.{insert_key}
use Rattle.gql_reader.specs.declared.tree.Selection.{Selection, Field', FragmentSpread, InlineFragment', Row_of-Selection, end_of-Selection, more_of-Selection}
use Rattle.gql_reader.specs.declared.tree.Field.{Field}
use Rattle.gql_reader.specs.declared.tree.FragmentDefinition.{FragmentDefinition}
use Rattle.pg_base.specs.declared.vars.Vars.{Vars}
use Rattle.place_tree.specs.Fold.{when}
use Rattle.gql_collect.specs.Asking.{Choice, chosen}
use Rattle.gql_collect.specs.Collected.{Request, Met, after_asking, with_field, with_entered, by_choice, on_type, selection_list, in_selection, in_rows, in_each, fragment_in, in_fragment, applies_to, enter_at, nothing_met, collected}

pub record Like (a b : Met) : Type 0 where
  pub fields : a.fields ≡ b.fields
  pub entered : a.entered ≡ b.entered

abbrev Keeps : (Met → Met) → Type 0
Keeps f = (a b : Met) → Like a b → Like (f a) (f b)

like_when : (t u : Bool) (f : Met → Met) (a b : Met) → t ≡ u → Keeps f → Like a b → Like (when t (λ _. f a) a) (when u (λ _. f b) b)
like_when true true f a b e keeps h = keeps a b h
like_when false false f a b e keeps h = h
like_when true false f a b e keeps h = absurd (cc)
like_when false true f a b e keeps h = absurd (cc)

like_choice : (choice : Choice) (f : Met → Met) → Keeps f → Keeps (by_choice choice f)
like_choice choice f keeps a b h =
    like_when choice.kept choice.kept f (after_asking choice.asked a) (after_asking choice.asked b) refl keeps (record { fields = h.fields; entered = h.entered })

like_type : (applies : List ℕ → Bool) (on : Option (List ℕ)) (f : Met → Met) → Keeps f → Keeps (on_type applies on f)
like_type applies None f keeps a b h = keeps a b h
like_type applies (Some name) f keeps a b h = like_when (applies name) (applies name) f a b refl keeps h

like_field : (f : Field) → Keeps (with_field f)
like_field f a b h = record { fields = ap (λ (l : List Field). l ++ f ∷ []) h.fields; entered = h.entered }

module _ (vars : Vars) (applies : List ℕ → Bool) (enter : List ℕ → Met → Met) (keeps : (name : List ℕ) → Keeps (enter name)) where
  mutual
    like_selection : (s : Selection) → Keeps (in_selection vars applies enter s)
    like_selection (Field' alias name arguments directives _ rows place) a b h =
        let f : Field = record { alias = alias; name = name; arguments = arguments; directives = directives; selections = selection_list rows; pos = place } in
        like_choice (chosen vars directives) (with_field f) (like_field f) a b h
    like_selection (FragmentSpread s) a b h = like_choice (chosen vars s.directives) (enter s.name) (keeps s.name) a b h
    like_selection (InlineFragment' on directives _ rows place) a b h =
        like_choice (chosen vars directives) (on_type applies on (in_rows vars applies enter rows)) (like_type applies on (in_rows vars applies enter rows) (like_rows rows)) a b h

    like_rows : {n : _} (rows : Row_of-Selection n) → Keeps (in_rows vars applies enter rows)
    like_rows end_of-Selection a b h = h
    like_rows (more_of-Selection s rest) a b h = like_rows rest (in_selection vars applies enter s a) (in_selection vars applies enter s b) (like_selection s a b h)

  like_each : (selections : List Selection) → Keeps (in_each vars applies enter selections)
  like_each [] a b h = h
  like_each (s ∷ selections) a b h = like_each selections (in_selection vars applies enter s a) (in_selection vars applies enter s b) (like_selection s a b h)

like_fragment : (applies : List ℕ → Bool) (collect : List Selection → Met → Met) → ((selections : List Selection) → Keeps (collect selections)) → (found : Option FragmentDefinition) → Keeps (in_fragment applies collect found)
like_fragment applies collect keeps None a b h = h
like_fragment applies collect keeps (Some f) a b h = like_type applies (Some f.type_condition) (collect f.selections) (keeps f.selections) a b h

like_enter : (n : ℕ) (r : Request) (ty : ℕ) (name : List ℕ) → Keeps (enter_at n r ty name)
unfolding enter_at
like_enter zero r ty name a b h = h
like_enter (suc n) r ty name a b h =
    let applies : List ℕ → Bool = applies_to r.schema ty in
    let collect : List Selection → Met → Met = in_each r.vars applies (enter_at n r ty) in
    like_when (not (list_any (bytes_eq name) a.entered)) (not (list_any (bytes_eq name) b.entered)) (λ m. in_fragment applies collect (fragment_in r.definitions name) (with_entered name m)) a b
    (ap (λ (l : List (List ℕ)). not (list_any (bytes_eq name) l)) h.entered)
    (λ x y k. like_fragment applies collect (like_each r.vars applies (enter_at n r ty) (like_enter n r ty)) (fragment_in r.definitions name) (with_entered name x) (with_entered name y)
    (record { fields = k.fields; entered = ap (λ (l : List (List ℕ)). insert_key bytes_eq l name) k.entered }))
    h

pub same_fields : (r : Request) (ty : ℕ) (selections : List Selection) (asked : List (List ℕ)) → (collected r ty selections asked).fields ≡ (collected r ty selections []).fields
same_fields r ty selections asked =
    (like_each r.vars (applies_to r.schema ty) (enter_at (length r.definitions) r ty) (like_enter (length r.definitions) r ty) selections (nothing_met asked) (nothing_met []) (record { fields = refl; entered = refl })).fields
