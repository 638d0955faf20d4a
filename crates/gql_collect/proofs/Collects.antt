-- What code meets, step by step.
use Rattle.std.proofs.Common.{◌≡◌, ◌<◌, ℕ, zero, suc, ◌-◌, List, [], ◌∷◌, ◌++◌, Option, Some, None, Bool, true, false, not, refl, sym, ap, ◌∙◌, arith}
use Rattle.std.specs.Prelude.{⊤}
use Rattle.std.specs.Borrow.{Bor}
use Rattle.std.specs.List.{list_any}
use Rattle.std.specs.Str.{bytes_eq}
use Rattle.std.proofs.lemmas.List.{map-append}
use Rattle.indexmap.specs.IndexSet.{insert_key}
use Rattle.gql_reader.specs.declared.tree.Selection.{Selection}
use Rattle.gql_reader.specs.declared.tree.Selection.TheVariants as selection
use Rattle.gql_reader.specs.declared.tree.Selection.TheBlock.{hidden-the_row-Selection-0}
use Rattle.gql_reader.specs.declared.tree.Field.{Field}
use Rattle.gql_reader.specs.declared.tree.InlineFragment.{InlineFragment}
use Rattle.gql_reader.specs.declared.tree.Directive.{Directive}
use Rattle.gql_reader.specs.declared.tree.FragmentDefinition.{FragmentDefinition}
use Rattle.pg_base.specs.declared.vars.Vars.{Vars}
use Rattle.place_tree.specs.Fold.{when}
use Rattle.gql_collect.specs.Asking.{Choice, chosen, with_names}
use Rattle.gql_collect.specs.Collected.{Request, Met, after_asking, with_field, with_entered, by_choice, on_type, selection_list, in_selection, in_rows, in_each, fragment_in, in_fragment, enter_by, applies_to, enter_at, collect_within}
use Rattle.gql_collect.specs.Kept.{fields_of, met_by, is_for}

pub when_true : {M : Type 0} (b : Bool) (f : ⊤ → M) (m : M) → b ≡ true → when b f m ≡ f tt
when_true true f m h = refl
when_true false f m h = cc

pub when_false : {M : Type 0} (b : Bool) (f : ⊤ → M) (m : M) → b ≡ false → when b f m ≡ m
when_false true f m h = cc
when_false false f m h = refl

pub selection_row : (xs : List Selection) → selection_list (hidden-the_row-Selection-0 xs) ≡ xs
unfolding hidden-the_row-Selection-0 denote.Hole.Carrier.hidden
selection_row [] = refl
selection_row (x ∷ xs) = ap (λ l. x ∷ l) (selection_row xs)

-- ---- a selection

module _ (vars : Vars) (applies : List ℕ → Bool) (enter : List ℕ → Met → Met) where
  pub rows_row : (xs : List Selection) (met : Met) → in_rows vars applies enter (hidden-the_row-Selection-0 xs) met ≡ in_each vars applies enter xs met
  unfolding hidden-the_row-Selection-0 denote.Hole.Carrier.hidden
  rows_row [] met = refl
  rows_row (x ∷ xs) met = rows_row xs (in_selection vars applies enter x met)

  pub in_field : (f : Field) (met : Met) → in_selection vars applies enter (selection.Field f) met ≡ by_choice (chosen vars f.directives) (with_field f) met
  in_field f met =
      ap (λ (l : List Selection). by_choice (chosen vars f.directives) (with_field (record { alias = f.alias; name = f.name; arguments = f.arguments; directives = f.directives; selections = l; pos = f.pos })) met) (selection_row f.selections)

  pub each-append : (xs ys : List Selection) (met : Met) → in_each vars applies enter (xs ++ ys) met ≡ in_each vars applies enter ys (in_each vars applies enter xs met)
  each-append [] ys met = refl
  each-append (x ∷ xs) ys met = each-append xs ys (in_selection vars applies enter x met)

  field_kept : (f : Field) (met : Met) → (chosen vars f.directives).kept ≡ true → in_selection vars applies enter (selection.Field f) met ≡ with_field f (after_asking (chosen vars f.directives).asked met)
  field_kept f met kept = in_field f met ∙ when_true (chosen vars f.directives).kept (λ _. with_field f (after_asking (chosen vars f.directives).asked met)) _ kept

  pub field_added : (s : Selection) (f : Field) (slice : List Directive) (items items' : List (Bor Field)) (b : Bor Field) (entered asked asked' : List (List ℕ))
      → s ≡ selection.Field f → slice ≡ f.directives → b.now ≡ f → items' ≡ items ++ b ∷ [] → (chosen vars slice).kept ≡ true → asked' ≡ with_names asked (chosen vars slice).asked
      → met_by items' entered asked' ≡ in_selection vars applies enter s (met_by items entered asked)
  field_added s f slice items items' b entered asked asked' is same at pushed kept asks =
      ap (λ (l : List (Bor Field)). met_by l entered asked') pushed
      ∙ ap (λ (l : List Field). record { fields = l; entered = entered; asked = asked' }) (map-append (λ (x : Bor Field). x.now) items (b ∷ []) ∙ ap (λ (x : Field). fields_of items ++ x ∷ []) at)
      ∙ ap (λ (l : List (List ℕ)). with_field f (record { fields = fields_of items; entered = entered; asked = l })) (asks ∙ ap (λ (l : List Directive). with_names asked (chosen vars l).asked) same)
      ∙ sym (field_kept f (met_by items entered asked) (sym (ap (λ (l : List Directive). (chosen vars l).kept) same) ∙ kept))
      ∙ ap (λ (x : Selection). in_selection vars applies enter x (met_by items entered asked)) (sym is)

  on_type_true : (on : Option (List ℕ)) (add : Met → Met) (met : Met) → is_for applies on ≡ true → on_type applies on add met ≡ add met
  on_type_true None add met h = refl
  on_type_true (Some name) add met h = when_true (applies name) (λ _. add met) met h

  pub inline_added : (s : Selection) (n : InlineFragment) (slice : List Directive) (sels : List Selection) (items : List (Bor Field)) (entered asked asked' : List (List ℕ)) (after : Met)
      → s ≡ selection.InlineFragment n → slice ≡ n.directives → (chosen vars slice).kept ≡ true → asked' ≡ with_names asked (chosen vars slice).asked → is_for applies n.type_condition ≡ true → sels ≡ n.selections
      → after ≡ in_each vars applies enter sels (met_by items entered asked')
      → after ≡ in_selection vars applies enter s (met_by items entered asked)
  inline_added s n slice sels items entered asked asked' after is same kept asks meant set made =
      let met : Met = met_by items entered asked in
      let choice : Choice = chosen vars n.directives in
      let add : Met → Met = in_rows vars applies enter (hidden-the_row-Selection-0 n.selections) in
      made
      ∙ ap (λ (l : List Selection). in_each vars applies enter l (met_by items entered asked')) set
      ∙ sym (rows_row n.selections (met_by items entered asked'))
      ∙ ap (λ (l : List (List ℕ)). add (met_by items entered l)) (asks ∙ ap (λ (l : List Directive). with_names asked (chosen vars l).asked) same)
      ∙ sym (on_type_true n.type_condition add (after_asking choice.asked met) meant)
      ∙ sym (when_true choice.kept (λ _. on_type applies n.type_condition add (after_asking choice.asked met)) (after_asking choice.asked met) (sym (ap (λ (l : List Directive). (chosen vars l).kept) same) ∙ kept))
      ∙ ap (λ (x : Selection). in_selection vars applies enter x met) (sym is)

-- ---- a fragment

module _ (r : Request) (ty left : ℕ) (name : List ℕ) where
  pub enter_none : (met : Met) → left ≡ 0 → met ≡ enter_at left r ty name met
  unfolding enter_at
  enter_none met e = sym (ap (λ n. enter_at n r ty name met) e)

  enter_some : (n : ℕ) (met : Met) → 0 < n → enter_at n r ty name met ≡ enter_by (applies_to r.schema ty) r.definitions (collect_within (n - 1) r ty) name met
  unfolding enter_at
  enter_some zero met lt = absurd (omega arith)
  enter_some (suc n) met lt =
      let e : suc n - 1 ≡ n = omega arith in
      ap (λ k. enter_by (applies_to r.schema ty) r.definitions (collect_within k r ty) name met) (sym e)

  pub enter_known : (met : Met) → 0 < left → list_any (bytes_eq name) met.entered ≡ true → met ≡ enter_at left r ty name met
  enter_known met lt hit = sym (enter_some left met lt ∙ when_false (not (list_any (bytes_eq name) met.entered)) _ met (ap not hit))

  pub enter_new : (items : List (Bor Field)) (entered keys asked : List (List ℕ)) (copy : List ℕ) (found : Option FragmentDefinition) → 0 < left → list_any (bytes_eq name) entered ≡ false
      → copy ≡ name → keys ≡ insert_key bytes_eq entered copy → found ≡ fragment_in r.definitions name
      → in_fragment (applies_to r.schema ty) (collect_within (left - 1) r ty) found (met_by items keys asked) ≡ enter_at left r ty name (met_by items entered asked)
  enter_new items entered keys asked copy found lt miss same put is =
      let met : Met = met_by items entered asked in
      ap (λ (l : List (List ℕ)). in_fragment (applies_to r.schema ty) (collect_within (left - 1) r ty) found (met_by items l asked)) (put ∙ ap (insert_key bytes_eq entered) same)
      ∙ ap (λ (o : Option FragmentDefinition). in_fragment (applies_to r.schema ty) (collect_within (left - 1) r ty) o (with_entered name met)) is
      ∙ sym (when_true (not (list_any (bytes_eq name) entered)) (λ _. in_fragment (applies_to r.schema ty) (collect_within (left - 1) r ty) (fragment_in r.definitions name) (with_entered name met)) met (ap not miss))
      ∙ sym (enter_some left met lt)

  pub enter_other : (f : FragmentDefinition) (met : Met) → applies_to r.schema ty f.type_condition ≡ false → met ≡ in_fragment (applies_to r.schema ty) (collect_within (left - 1) r ty) (Some f) met
  enter_other f met no_type = sym (when_false (applies_to r.schema ty f.type_condition) (λ _. collect_within (left - 1) r ty f.selections met) met no_type)

  pub enter_meant : (f : FragmentDefinition) (sels : List Selection) (met after : Met) → applies_to r.schema ty f.type_condition ≡ true → sels ≡ f.selections → after ≡ collect_within (left - 1) r ty sels met
      → after ≡ in_fragment (applies_to r.schema ty) (collect_within (left - 1) r ty) (Some f) met
  enter_meant f sels met after meant set made =
      made ∙ ap (λ (l : List Selection). collect_within (left - 1) r ty l met) set
      ∙ sym (when_true (applies_to r.schema ty f.type_condition) (λ _. collect_within (left - 1) r ty f.selections met) met meant)
