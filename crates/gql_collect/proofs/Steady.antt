-- Variables that agree on what collection asked collect the same.
use Rattle.std.proofs.Common.{◌≡◌, ℕ, zero, suc, List, [], ◌∷◌, ◌++◌, length, Option, Some, None, Bool, true, false, not, cond, ◌||◌, refl, sym, ap, ◌∙◌, subst}
use Rattle.std.specs.Prelude.{codes}
use Rattle.std.specs.List.{list_any}
use Rattle.std.specs.Str.{bytes_eq}
use Rattle.std.proofs.lemmas.Slice.Eq.{bytes_eq-Decides}
use Rattle.indexmap.specs.IndexSet.{insert_key}
use Rattle.pg_base.specs.Lists.{Each}
use Rattle.gql_reader.specs.declared.tree.Selection.{Selection, Field', FragmentSpread, InlineFragment', Row_of-Selection, end_of-Selection, more_of-Selection}
use Rattle.gql_reader.specs.declared.tree.ValueKind.{ValueKind, Variable, Int, Float, String, Boolean, Null, Enum, List', Object'}
use Rattle.gql_reader.specs.declared.tree.Value as doc
use Rattle.gql_reader.specs.declared.tree.Field.{Field}
use Rattle.gql_reader.specs.declared.tree.Directive.{Directive}
use Rattle.gql_reader.specs.declared.tree.FragmentDefinition.{FragmentDefinition}
use Rattle.gql_reader.specs.declared.tree.Definition.{Definition}
use Rattle.pg_base.specs.declared.schema.FieldDef.{FieldDef}
use Rattle.pg_base.specs.Schema.{SchemaParts}
use Rattle.pg_base.specs.declared.vars.Vars.{Vars}
use Rattle.pg_base.specs.Vars.{variable}
use Rattle.pg_base.specs.Schema.{field_at}
use Rattle.place_tree.specs.declared.place.Tree.{Tree}
use Rattle.place_tree.specs.Fold.{when}
use Rattle.gql_collect.specs.Asking.{Choice, directive_in, if_of, is_true, kind_holds, kind_asks, holds, asks, by_include, by_skip, after_skip, chosen, with_names}
use Rattle.gql_collect.specs.Collected.{Request, Met, after_asking, with_field, with_entered, by_choice, on_type, selection_list, in_selection, in_rows, in_each, fragment_in, in_fragment, applies_to, enter_at, nothing_met, collected}
use Rattle.gql_collect.specs.Growing.{merged, keys_of, fields_with, number_of, place_of, with_place, below_place, by_number, with_group, with_keys, with_asked, with_fields, with_set}

-- ---- names that are added to a list

Each-append : {A : Type 0} (P : A → Type 0) (xs ys : List A) → Each P (xs ++ ys) → Each P xs × Each P ys
Each-append P [] ys h = (tt, h)
Each-append P (x ∷ xs) ys h = let more = Each-append P xs ys h.1 in ((h.0, more.0), more.1)

Each-any : (P : List ℕ → Type 0) (names : List (List ℕ)) (name : List ℕ) → list_any (bytes_eq name) names ≡ true → Each P names → P name
Each-any P [] name h each = absurd (cc)
Each-any P (n ∷ names) name h each = by (bytes_eq name n) refl (Each-any P names name)
  where
    by : (b : Bool) → bytes_eq name n ≡ b → (list_any (bytes_eq name) names ≡ true → Each P names → P name) → P name
    by true e later = subst P (sym ((bytes_eq-Decides name n).0 e)) each.0
    by false e later = later (ap (λ b. b || list_any (bytes_eq name) names) (sym e) ∙ h) each.1

Each-insert : (P : List ℕ → Type 0) (known : List (List ℕ)) (name : List ℕ) → Each P (insert_key bytes_eq known name) → Each P known × P name
Each-insert P known name each = by (list_any (bytes_eq name) known) refl each
  where
    by : (b : Bool) → list_any (bytes_eq name) known ≡ b → Each P (cond b known (known ++ name ∷ [])) → Each P known × P name
    by true e h = (h, Each-any P known name e h)
    by false e h = let parts = Each-append P known (name ∷ []) h in (parts.0, parts.1.0)

Each-names : (P : List ℕ → Type 0) (known names : List (List ℕ)) → Each P (with_names known names) → Each P known × Each P names
Each-names P known [] h = (h, tt)
Each-names P known (name ∷ names) h =
    let later = Each-names P (insert_key bytes_eq known name) names h in
    let here = Each-insert P known name later.0 in
    (here.0, (here.1, later.1))

module _ (vars other : Vars) where
  -- the variables have the same value, or both none
  abbrev pub Agree : List ℕ → Type 0
  Agree name = variable other name ≡ variable vars name

  -- ---- what is asked

  kind_same : (s : ValueKind) → Each Agree (kind_asks s) → kind_holds other s ≡ kind_holds vars s
  kind_same (Variable name) h = ap is_true h.0
  kind_same (Int t) h = refl
  kind_same (Float t) h = refl
  kind_same (String t) h = refl
  kind_same (Boolean b) h = refl
  kind_same Null h = refl
  kind_same (Enum t) h = refl
  kind_same (List' _ items) h = refl
  kind_same (Object' _ fields) h = refl

  holds_same : (v : Option doc.Value) → Each Agree (asks v) → holds other v ≡ holds vars v
  holds_same None h = refl
  holds_same (Some v) h = kind_same v.kind h

  include_same : (d : Option Directive) → Each Agree (by_include vars d).asked → by_include other d ≡ by_include vars d
  include_same None h = refl
  include_same (Some d) h = ap (λ (b : Bool). let c : Choice = record { kept = b; asked = asks (if_of d) } in c) (holds_same (if_of d) h)

  skip_asked : (b : Bool) (names : List (List ℕ)) (c : Choice) → Each Agree (after_skip b names c).asked → Each Agree names
  skip_asked true names c h = h
  skip_asked false names c h = (Each-append Agree names c.asked h).0

  after_same : (b : Bool) (names : List (List ℕ)) (d : Option Directive) → Each Agree (after_skip b names (by_include vars d)).asked → after_skip b names (by_include other d) ≡ after_skip b names (by_include vars d)
  after_same true names d h = refl
  after_same false names d h = ap (after_skip false names) (include_same d (Each-append Agree names (by_include vars d).asked h).1)

  skip_same : (d e : Option Directive) → Each Agree (by_skip vars d (by_include vars e)).asked → by_skip other d (by_include other e) ≡ by_skip vars d (by_include vars e)
  skip_same None e h = include_same e h
  skip_same (Some d) e h =
      let asked = skip_asked (holds vars (if_of d)) (asks (if_of d)) (by_include vars e) h in
      ap (λ b. after_skip b (asks (if_of d)) (by_include other e)) (holds_same (if_of d) asked)
      ∙ after_same (holds vars (if_of d)) (asks (if_of d)) e h

  chosen_same : (directives : List Directive) → Each Agree (chosen vars directives).asked → chosen other directives ≡ chosen vars directives
  chosen_same directives h = skip_same (directive_in directives (codes "skip")) (directive_in directives (codes "include")) h

  -- ---- steps of collection

  -- a step under the other variables does the same as this one, where they agree on what this one asked; and it forgets nothing
  abbrev Same : (Met → Met) → (Met → Met) → Type 0
  Same f g = (met : Met) → Each Agree (g met).asked → (f met ≡ g met) × Each Agree met.asked

  same_then : (f g after done : Met → Met) → Same f g → Same after done → Same (λ met. after (f met)) (λ met. done (g met))
  same_then f g after done first second met h =
      let later = second (g met) h in
      let here = first met later.1 in
      (ap after here.0 ∙ later.0, here.1)

  same_when : (b : Bool) (f g : Met → Met) → Same f g → (start : Met) → Each Agree (when b (λ _. g start) start).asked → (when b (λ _. f start) start ≡ when b (λ _. g start) start) × Each Agree start.asked
  same_when true f g same start h = same start h
  same_when false f g same start h = (refl, h)

  same_choice : (directives : List Directive) (f g : Met → Met) → Same f g → Same (by_choice (chosen other directives) f) (by_choice (chosen vars directives) g)
  same_choice directives f g same met h =
      let choice : Choice = chosen vars directives in
      let here = same_when choice.kept f g same (after_asking choice.asked met) h in
      let names = Each-names Agree met.asked choice.asked here.1 in
      (ap (λ (c : Choice). by_choice c f met) (chosen_same directives names.1) ∙ here.0, names.0)

  same_type : (applies : List ℕ → Bool) (on : Option (List ℕ)) (f g : Met → Met) → Same f g → Same (on_type applies on f) (on_type applies on g)
  same_type applies None f g same met h = same met h
  same_type applies (Some name) f g same met h = same_when (applies name) f g same met h

  same_field : (f : Field) → Same (with_field f) (with_field f)
  same_field f met h = (refl, h)

  module _ (applies : List ℕ → Bool) (enter enters : List ℕ → Met → Met) (entered : (name : List ℕ) → Same (enter name) (enters name)) where
    mutual
      same_selection : (s : Selection) → Same (in_selection other applies enter s) (in_selection vars applies enters s)
      same_selection (Field' alias name arguments directives _ rows place) met h =
          let f : Field = record { alias = alias; name = name; arguments = arguments; directives = directives; selections = selection_list rows; pos = place } in
          same_choice directives (with_field f) (with_field f) (same_field f) met h
      same_selection (FragmentSpread s) met h = same_choice s.directives (enter s.name) (enters s.name) (entered s.name) met h
      same_selection (InlineFragment' on directives _ rows place) met h =
          same_choice directives (on_type applies on (in_rows other applies enter rows)) (on_type applies on (in_rows vars applies enters rows)) (same_type applies on (in_rows other applies enter rows) (in_rows vars applies enters rows) (same_rows rows)) met h

      same_rows : {n : _} (rows : Row_of-Selection n) → Same (in_rows other applies enter rows) (in_rows vars applies enters rows)
      same_rows end_of-Selection met h = (refl, h)
      same_rows (more_of-Selection s rest) met h =
          let later = same_rows rest (in_selection vars applies enters s met) h in
          let here = same_selection s met later.1 in
          (ap (in_rows other applies enter rest) here.0 ∙ later.0, here.1)

    same_each : (selections : List Selection) → Same (in_each other applies enter selections) (in_each vars applies enters selections)
    same_each [] met h = (refl, h)
    same_each (s ∷ selections) met h =
        let later = same_each selections (in_selection vars applies enters s met) h in
        let here = same_selection s met later.1 in
        (ap (in_each other applies enter selections) here.0 ∙ later.0, here.1)

  -- ---- fragments and selection sets

  same_fragment : (applies : List ℕ → Bool) (f g : List Selection → Met → Met) → ((selections : List Selection) → Same (f selections) (g selections)) → (found : Option FragmentDefinition) → Same (in_fragment applies f found) (in_fragment applies g found)
  same_fragment applies f g same None met h = (refl, h)
  same_fragment applies f g same (Some fragment) met h = same_type applies (Some fragment.type_condition) (f fragment.selections) (g fragment.selections) (same fragment.selections) met h

  abbrev request : SchemaParts → List Definition → Vars → Request
  request schema definitions vars = record { schema = schema; definitions = definitions; vars = vars }

  module _ (schema : SchemaParts) (definitions : List Definition) where
    same_enter : (n : ℕ) (ty : ℕ) (name : List ℕ) → Same (enter_at n (request schema definitions other) ty name) (enter_at n (request schema definitions vars) ty name)
    unfolding enter_at
    same_enter zero ty name met h = (refl, h)
    same_enter (suc n) ty name met h =
        let applies : List ℕ → Bool = applies_to schema ty in
        let f : List Selection → Met → Met = in_each other applies (enter_at n (request schema definitions other) ty) in
        let g : List Selection → Met → Met = in_each vars applies (enter_at n (request schema definitions vars) ty) in
        same_when (not (list_any (bytes_eq name) met.entered)) (λ m. in_fragment applies f (fragment_in definitions name) (with_entered name m)) (λ m. in_fragment applies g (fragment_in definitions name) (with_entered name m))
        (λ m k. same_fragment applies f g (same_each applies (enter_at n (request schema definitions other) ty) (enter_at n (request schema definitions vars) ty) (same_enter n ty)) (fragment_in definitions name) (with_entered name m) k) met h

    same_collected : (ty : ℕ) (selections : List Selection) (asked : List (List ℕ)) → Each Agree (collected (request schema definitions vars) ty selections asked).asked
        → (collected (request schema definitions other) ty selections asked ≡ collected (request schema definitions vars) ty selections asked) × Each Agree asked
    same_collected ty selections asked h =
        same_each (applies_to schema ty) (enter_at (length definitions) (request schema definitions other) ty) (enter_at (length definitions) (request schema definitions vars) ty) (same_enter (length definitions) ty) selections (nothing_met asked) h

    -- ---- places

    abbrev SameTree : (Tree → Tree) → (Tree → Tree) → Type 0
    SameTree f g = (tree : Tree) → Each Agree (g tree).asked → (f tree ≡ g tree) × Each Agree tree.asked

    module _ (next nexts : Option ℕ → ℕ → List Selection → Tree → Tree) (same : (parent : Option ℕ) (ty : ℕ) (selections : List Selection) → SameTree (next parent ty selections) (nexts parent ty selections)) (parent : Option ℕ) (ty : ℕ) where
      same_below : (d : Option FieldDef) (i : ℕ) (selections : List Selection) → SameTree (below_place next d i selections) (below_place nexts d i selections)
      same_below None i selections tree h = (refl, h)
      same_below (Some d) i selections tree h = same (Some i) d.ty.name selections tree h

      same_number : (key : List ℕ) (f : Field) (selections : List Selection) (number : Option ℕ) → SameTree (by_number next schema parent ty key f selections number) (by_number nexts schema parent ty key f selections number)
      same_number key f selections None tree h = (refl, h)
      same_number key f selections (Some n) tree h = same_below (field_at schema ty n) (length tree.places) selections (with_place (place_of schema parent ty key f n) tree) h

      same_group : (key : List ℕ) (fields : List Field) → SameTree (with_group next schema parent ty key fields) (with_group nexts schema parent ty key fields)
      same_group key [] tree h = (refl, h)
      same_group key (f ∷ fields) tree h = same_number key f (merged (f ∷ fields)) (number_of schema ty f.name) tree h

      same_keys : (fields : List Field) (keys : List (List ℕ)) → SameTree (with_keys next schema parent ty fields keys) (with_keys nexts schema parent ty fields keys)
      same_keys fields [] tree h = (refl, h)
      same_keys fields (key ∷ keys) tree h =
          let later = same_keys fields keys (with_group nexts schema parent ty key (fields_with key fields) tree) h in
          let here = same_group key (fields_with key fields) tree later.1 in
          (ap (with_keys next schema parent ty fields keys) here.0 ∙ later.0, here.1)

    pub same_set : (n : ℕ) (parent : Option ℕ) (ty : ℕ) (selections : List Selection) → SameTree (with_set n (request schema definitions other) parent ty selections) (with_set n (request schema definitions vars) parent ty selections)
    unfolding with_set
    same_set zero parent ty selections tree h = (refl, h)
    same_set (suc n) parent ty selections tree h =
        let next : Option ℕ → ℕ → List Selection → Tree → Tree = with_set n (request schema definitions other) in
        let nexts : Option ℕ → ℕ → List Selection → Tree → Tree = with_set n (request schema definitions vars) in
        let met : Met = collected (request schema definitions vars) ty selections tree.asked in
        let later = same_keys next nexts (same_set n) parent ty met.fields (keys_of met.fields) (with_asked met.asked tree) h in
        let here = same_collected ty selections tree.asked later.1 in
        (ap (λ (m : Met). with_fields next schema parent ty m tree) here.0 ∙ later.0, here.1)
