-- Each field that is collected from a selection set of a valid document is a node on that set's type.
use Rattle.std.proofs.Common.{◌≡◌, ◌<◌, ℕ, zero, suc, ◌+◌, Bool, true, false, not, ◌&&◌, ◌||◌, cond, List, [], ◌∷◌, ◌++◌, length, Option, Some, None, is_none, is_some, inl, inr, refl, sym, ap, ◌∙◌, subst, arith, eq-eqb, lt-ltb}
use Rattle.std.specs.Prelude.{slice_get, option_and_then, if◌then◌else◌, ◌==◌, nat_lt, filter, filter_map, map, ⊤}
use Rattle.std.specs.List.{list_any, cons_option}
use Rattle.std.specs.Str.{bytes_eq}
use Rattle.pg_base.specs.Lists.{Each}
use Rattle.pg_base.specs.Schema.{SchemaParts}
use Rattle.pg_base.specs.declared.vars.Vars.{Vars}
use Rattle.gql_reader.specs.declared.tree.Definition.TheVariants as definition
use Rattle.gql_reader.specs.declared.tree.Document.{Document}
use Rattle.gql_reader.specs.declared.tree.Field.{Field}
use Rattle.gql_reader.specs.declared.tree.FragmentDefinition.{FragmentDefinition}
use Rattle.gql_reader.specs.declared.tree.FragmentSpread as tree_spread
use Rattle.gql_reader.specs.declared.tree.InlineFragment as tree_inline
use Rattle.gql_reader.specs.declared.tree.Selection.{Selection, Field', FragmentSpread, InlineFragment'}
use Rattle.gql_reader.specs.declared.tree.Selection.{Row_of-Selection, end_of-Selection, more_of-Selection}
use Rattle.gql_types.specs.Types.{type_named, object_named}
use Rattle.gql_nodes.specs.declared.node.Location.TheVariants as location
use Rattle.gql_nodes.specs.Fields.{Known, field_of, below, within_condition, args_of}
use Rattle.gql_nodes.specs.Nodes.{Node, at_definition, at_field, at_spread, at_inline, At, put, put_arguments, put_directives, put_field_head, put_inline_head, put_selection, put_rows, put_selections, nodes}
use Rattle.gql_nodes.specs.Nodes.{selection_list as node_list}
use Rattle.gql_nodes.specs.Reached.{IsIn, goes_on, ReachedBy}
use Rattle.gql_nodes.specs.Uses.{as_fragment, fragment_at, fragment_place, fragment_named, spread_name, nodes_within, targets, Reaches}
use Rattle.gql_rules.specs.Rules.{IsValidDocument, on_scopes}
use Rattle.gql_scopes.specs.declared.rule.ScopeRule.TheVariants as scope
use Rattle.gql_scopes.specs.Conditions.{if_some}
use Rattle.gql_scopes.specs.FragmentSpreadIsPossible.{differ}
use Rattle.gql_validate.specs.FieldSelectionMerging.{these, fragment_node, set_in, sets_from, sets_of, field_in, fields_from, fields_of}
use Rattle.place_tree.specs.Fold.{when}
use Rattle.gql_collect.specs.Asking.{Choice, chosen}
use Rattle.gql_collect.specs.Collected.{Request, Met, after_asking, with_field, with_entered, by_choice, on_type, selection_list, in_selection, in_rows, in_each, fragment_in, in_fragment, applies_to, enter_at, collected, nothing_met}
use Rattle.schema_laws.proofs.Eaches.{Each-append}
use Rattle.fitting_trees.proofs.Named.{some_is, no_some}
use Rattle.fitting_trees.proofs.Suited.{number_is}
use Rattle.fitting_trees.proofs.SoundLiterals.{must, never, is_there}
use Rattle.fitting_trees.proofs.Growth.{IsFront, front_before, stands_there, arguments_grow, directives_grow, rows_grow, selections_grow}
use Rattle.fitting_trees.proofs.Definitions.{fragment_found}

-- ---- items by their places

in_right : (xs ys : List ℕ) (n : ℕ) → IsIn ys n → IsIn (xs ++ ys) n
in_right [] ys n h = h
in_right (x ∷ xs) ys n h = inr (in_right xs ys n h)

in_left : (xs ys : List ℕ) (n : ℕ) → IsIn xs n → IsIn (xs ++ ys) n
in_left [] ys n h = absurd h
in_left (x ∷ xs) ys n h = elim h [ inl e ↦ inl e | inr k ↦ inr (in_left xs ys n k) ]

-- what a node gives at its place is among what all nodes give
from_fields : (xs : List At) (start k set n : ℕ) (x : At) → slice_get xs k ≡ Some x → IsIn (field_in set (start + k) x.node) n → IsIn (fields_from start xs set) n
from_fields [] start k set n x e h = absurd (no_some x e)
from_fields (y ∷ xs) start zero set n x e h =
    let at : start + 0 ≡ start = omega arith in
    in_left (field_in set start y.node) (fields_from (start + 1) xs set) n (subst (λ (z : At). IsIn (field_in set start z.node) n) (sym (some_is y x e)) (subst (λ p. IsIn (field_in set p x.node) n) at h))
from_fields (y ∷ xs) start (suc k) set n x e h =
    let at : start + suc k ≡ start + 1 + k = omega arith in
    in_right (field_in set start y.node) (fields_from (start + 1) xs set) n (from_fields xs (start + 1) k set n x e (subst (λ p. IsIn (field_in set p x.node) n) at h))

from_sets : (all xs : List At) (start k set n : ℕ) (x : At) → slice_get xs k ≡ Some x → IsIn (set_in all set (start + k) x.node) n → IsIn (sets_from all start xs set) n
from_sets all [] start k set n x e h = absurd (no_some x e)
from_sets all (y ∷ xs) start zero set n x e h =
    let at : start + 0 ≡ start = omega arith in
    in_left (set_in all set start y.node) (sets_from all (start + 1) xs set) n (subst (λ (z : At). IsIn (set_in all set start z.node) n) (sym (some_is y x e)) (subst (λ p. IsIn (set_in all set p x.node) n) at h))
from_sets all (y ∷ xs) start (suc k) set n x e h =
    let at : start + suc k ≡ start + 1 + k = omega arith in
    in_right (set_in all set start y.node) (sets_from all (start + 1) xs set) n (from_sets all xs (start + 1) k set n x e (subst (λ p. IsIn (set_in all set p x.node) n) at h))

pub within_all : {A : Type 0} (xs : List A) (k : ℕ) (x : A) → slice_get xs k ≡ Some x → k < length xs
within_all [] k x e = absurd (no_some x e)
within_all (a ∷ xs) zero x e = omega arith
within_all (a ∷ xs) (suc k) x e = let h = within_all xs k x e in omega (arith, h)

pub is_below : (m n : ℕ) → m < n → nat_lt m n ≡ true
is_below m n h = lt-ltb m n h

same_number : (n : ℕ) → (n == n) ≡ true
same_number n = eq-eqb n n refl

pub is_field_of : (all : List At) (set k within : ℕ) (parent : Option ℕ) (known : Option Known) (f : Field) → set < length all → slice_get all k ≡ Some (record { within = within; node = at_field set parent known f }) → IsIn (fields_of all set) k
is_field_of all set k within parent known f lt e =
    let zero_is : 0 + k ≡ k = omega arith in
    let one : IsIn (field_in set (0 + k) (at_field set parent known f)) k = subst (λ b. IsIn (if b then (0 + k) ∷ [] else []) k) (sym (same_number set)) (inl zero_is) in
    subst (λ b. IsIn (if b then fields_from 0 all set else []) k) (sym (is_below set (length all) lt)) (from_fields all 0 k set k (record { within = within; node = at_field set parent known f }) e one)

inline_set : (all : List At) (set k within : ℕ) (parent : Option ℕ) (i : tree_inline.InlineFragment) → set < length all → slice_get all k ≡ Some (record { within = within; node = at_inline set parent i }) → IsIn (sets_of all set) k
inline_set all set k within parent i lt e =
    let zero_is : 0 + k ≡ k = omega arith in
    let one : IsIn (set_in all set (0 + k) (at_inline set parent i)) k = subst (λ b. IsIn (if b then (0 + k) ∷ [] else []) k) (sym (same_number set)) (inl zero_is) in
    subst (λ b. IsIn (if b then sets_from all 0 all set else []) k) (sym (is_below set (length all) lt)) (from_sets all all 0 k set k (record { within = within; node = at_inline set parent i }) e one)

spread_set : (all : List At) (set k within target : ℕ) (parent : Option ℕ) (s : tree_spread.FragmentSpread) → set < length all → slice_get all k ≡ Some (record { within = within; node = at_spread set parent s }) → fragment_node all s.name ≡ Some target → IsIn (sets_of all set) target
spread_set all set k within target parent s lt e found =
    let here : IsIn (these (fragment_node all s.name)) target = subst (λ o. IsIn (these o) target) (sym found) (inl refl) in
    let one : IsIn (set_in all set (0 + k) (at_spread set parent s)) target = subst (λ b. IsIn (if b then these (fragment_node all s.name) else []) target) (sym (same_number set)) here in
    subst (λ b. IsIn (if b then sets_from all 0 all set else []) target) (sym (is_below set (length all) lt)) (from_sets all all 0 k set target (record { within = within; node = at_spread set parent s }) e one)

-- ---- fragments that are spread

abbrev targets_in : Document → List Node → List ℕ
targets_in document xs = filter_map (fragment_place document) (filter_map spread_name xs)

target_kept : (document : Document) (within target : ℕ) (x : At) (xs : List At) (s : List ℕ) → x.within ≡ within → spread_name x.node ≡ Some s → fragment_place document s ≡ Some target
    → IsIn (targets_in document (nodes_within (x ∷ xs) within)) target
target_kept document within target x xs s here named found =
    subst (λ b. IsIn (targets_in document (map (λ (y : At). y.node) (cond b (x ∷ filter (λ y. y.within == within) xs) (filter (λ y. y.within == within) xs)))) target) (sym (eq-eqb x.within within here))
    (subst (λ o. IsIn (filter_map (fragment_place document) (cons_option o (filter_map spread_name (nodes_within xs within)))) target) (sym named)
    (subst (λ o. IsIn (cons_option o (targets_in document (nodes_within xs within))) target) (sym found) (inl refl)))

target_passed : (document : Document) (within target : ℕ) (x : At) (rest : List At) → IsIn (targets_in document (nodes_within rest within)) target → IsIn (targets_in document (nodes_within (x ∷ rest) within)) target
target_passed document within target x rest h = by (x.within == within)
  where
    with_place : (o : Option ℕ) → IsIn (cons_option o (targets_in document (nodes_within rest within))) target
    with_place None = h
    with_place (Some p) = inr h

    with_name : (o : Option (List ℕ)) → IsIn (filter_map (fragment_place document) (cons_option o (filter_map spread_name (nodes_within rest within)))) target
    with_name None = h
    with_name (Some s) = with_place (fragment_place document s)

    by : (b : Bool) → IsIn (targets_in document (map (λ (y : At). y.node) (cond b (x ∷ filter (λ y. y.within == within) rest) (filter (λ y. y.within == within) rest)))) target
    by true = with_name (spread_name x.node)
    by false = h

spread_target : (document : Document) (xs : List At) (k within target owner : ℕ) (parent : Option ℕ) (s : tree_spread.FragmentSpread) → slice_get xs k ≡ Some (record { within = within; node = at_spread owner parent s }) → fragment_place document s.name ≡ Some target
    → IsIn (targets xs document within) target
spread_target document [] k within target owner parent s e found = absurd (no_some _ e)
spread_target document (x ∷ xs) zero within target owner parent s e found =
    subst (λ (y : At). IsIn (targets_in document (nodes_within (y ∷ xs) within)) target) (sym (some_is x _ e)) (target_kept document within target (record { within = within; node = at_spread owner parent s }) xs s.name refl refl found)
spread_target document (x ∷ xs) (suc k) within target owner parent s e found = target_passed document within target x xs (spread_target document xs k within target owner parent s e found)

-- ---- rows as lists

pub rows_same : {n : _} (rows : Row_of-Selection n) → node_list rows ≡ selection_list rows
rows_same end_of-Selection = refl
rows_same (more_of-Selection s rest) = ap (λ l. s ∷ l) (rows_same rest)

when_good : {M : Type 0} (P : M → Type 0) (b : Bool) (f : ⊤ → M) (m : M) → P (f tt) → P m → P (when b f m)
when_good P true f m h k = h
when_good P false f m h k = k

-- ---- what stands where

module _ (schema : SchemaParts) (document : Document) (place : ℕ) where
  -- A selection set, of the node at the owner's place, in a definition: the operation reaches the definition, and the set
  -- is entered from that of the base.
  pub record IsOwner (base within owner : ℕ) : Type 0 where
    pub reach : Reaches (nodes schema document) document place within
    pub enters : (joined : List ℕ) → IsIn joined base → ReachedBy joined (sets_of (nodes schema document)) owner
    pub owned : owner < length (nodes schema document)

  pub record Standing (Base : ℕ → Type 0) (ty : ℕ) (s : Selection) : Type 0 where
    pub base : ℕ
    pub of_base : Base base
    pub within : ℕ
    pub owner : ℕ
    pub own : IsOwner base within owner
    pub list : List At
    pub front : IsFront (nodes schema document) (put_selection schema within owner (Some ty) s list)

  -- the selections of a field's node
  pub record StandsBelow (within owner : ℕ) (parent : Option ℕ) (s : Selection) : Type 0 where
    pub list : List At
    pub front : IsFront (nodes schema document) (put_selection schema within owner parent s list)

  -- a field that is collected is a node on the type
  pub record Comes (Base : ℕ → Type 0) (ty : ℕ) (f : Field) (at : ℕ) : Type 0 where
    pub base : ℕ
    pub of_base : Base base
    pub within : ℕ
    pub owner : ℕ
    pub own : IsOwner base within owner
    pub stands : slice_get (nodes schema document) at ≡ Some (record { within = within; node = at_field owner (Some ty) (field_of schema (Some ty) f.name) f })
    pub list : List At
    pub arguments : IsFront (nodes schema document) (put_arguments schema within [] (args_of (field_of schema (Some ty) f.name)) f.arguments list)
    pub selections : Each (StandsBelow within at (below schema (field_of schema (Some ty) f.name))) f.selections

  abbrev pub ComesSomewhere : (ℕ → Type 0) → ℕ → Field → Type 0
  ComesSomewhere Base ty f = (at : ℕ) × Comes Base ty f at

  rows_below : {n : _} (within owner : ℕ) (parent : Option ℕ) (rows : Row_of-Selection n) (list : List At) → IsFront (nodes schema document) (put_rows schema within owner parent rows list) → Each (StandsBelow within owner parent) (selection_list rows)
  rows_below within owner parent end_of-Selection list p = tt
  rows_below within owner parent (more_of-Selection s rest) list p =
      let next : List At = put_selection schema within owner parent s list in
      (record { list = list; front = front_before (nodes schema document) next _ (rows_grow schema within owner parent rest next) p }, rows_below within owner parent rest next p)

  pub list_below : (within owner : ℕ) (parent : Option ℕ) (selections : List Selection) (list : List At) → IsFront (nodes schema document) (put_selections schema within owner parent selections list) → Each (StandsBelow within owner parent) selections
  list_below within owner parent [] list p = tt
  list_below within owner parent (s ∷ selections) list p =
      let next : List At = put_selection schema within owner parent s list in
      (record { list = list; front = front_before (nodes schema document) next _ (selections_grow schema within owner parent selections next) p }, list_below within owner parent selections next p)

  pub to_standing : (Base : ℕ → Type 0) (base within owner ty : ℕ) (parent : Option ℕ) (selections : List Selection) → Base base → IsOwner base within owner → parent ≡ Some ty → Each (StandsBelow within owner parent) selections → Each (Standing Base ty) selections
  to_standing Base base within owner ty parent [] b own e h = tt
  to_standing Base base within owner ty parent (s ∷ selections) b own e h = (
    record { base = base; of_base = b; within = within; owner = owner; own = own; list = h.0.list; front = subst (λ o. IsFront (nodes schema document) (put_selection schema within owner o s h.0.list)) e h.0.front },
    to_standing Base base within owner ty parent selections b own e h.1,
  )

  field_comes : {n : _} (Base : ℕ → Type 0) (ty base within owner : ℕ) (f g : Field) (rows : Row_of-Selection n) (list : List At)
      → Base base → IsOwner base within owner → f ≡ g → g.selections ≡ selection_list rows
      → IsFront (nodes schema document) (put_rows schema within (length list) (below schema (field_of schema (Some ty) f.name)) rows (put_field_head schema within owner (Some ty) (field_of schema (Some ty) f.name) f list))
      → Comes Base ty g (length list)
  field_comes Base ty base within owner f g rows list b own same rows_are p =
      let all : List At = nodes schema document in
      let known : Option Known = field_of schema (Some ty) f.name in
      let first : List At = put within (at_field owner (Some ty) known f) list in
      let second : List At = put_arguments schema within [] (args_of known) f.arguments first in
      let head = front_before all (put_field_head schema within owner (Some ty) known f list) _ (rows_grow schema within (length list) (below schema known) rows _) p in
      let args = front_before all second _ (directives_grow schema within [] location.Field f.directives second) head in
      let node = front_before all first second (arguments_grow schema within [] (args_of known) f.arguments first) args in
      let here : Comes Base ty f (length list) = record {
        base = base;
        of_base = b;
        within = within;
        owner = owner;
        own = own;
        stands = stands_there all within (at_field owner (Some ty) known f) list node;
        list = first;
        arguments = args;
        selections = subst (Each (StandsBelow within (length list) (below schema known))) (sym (ap (λ (x : Field). x.selections) same ∙ rows_are)) (rows_below within (length list) (below schema known) rows _ p);
      } in
      subst (λ (x : Field). Comes Base ty x (length list)) same here

  module _ (valid : IsValidDocument schema document) where
    same_type : (ty : ℕ) (o : Option ℕ) (other : ℕ) → o ≡ Some other → (differ (Some ty) o ≡ true → ⊥) → o ≡ Some ty
    same_type ty o other e h =
        let same : (ty == other) ≡ true = must (ty == other) (λ n. h (ap (differ (Some ty)) e ∙ n)) in
        e ∙ ap (λ n. Some n) (sym (number_is ty other same))

    -- the type of an inline fragment's condition is the parent type
    inline_type : (i ty within owner : ℕ) (name : List ℕ) (x : tree_inline.InlineFragment) → x.type_condition ≡ Some name → slice_get (nodes schema document) i ≡ Some (record { within = within; node = at_inline owner (Some ty) x }) → object_named schema name ≡ Some ty
    inline_type i ty within owner name x on e =
        let at : At = record { within = within; node = at_inline owner (Some ty) x } in
        let known = is_there (type_named schema name) (never (is_none (type_named schema name)) (λ h. valid (on_scopes scope.FragmentSpreadTypeExistence) i at e (ap (if_some (λ n. is_none (type_named schema n))) on ∙ h))) in
        let object = is_there (object_named schema name) (never (is_none (object_named schema name)) (λ h. valid (on_scopes scope.FragmentsOnCompositeTypes) i at e
        (ap (if_some (λ n. is_some (type_named schema n) && is_none (object_named schema n))) on ∙ ap (λ o. is_some o && is_none (object_named schema name)) known.1 ∙ h))) in
        same_type ty (object_named schema name) object.0 object.1 (λ h. valid (on_scopes scope.FragmentSpreadIsPossible) i at e (ap (λ o. differ (Some ty) (option_and_then (object_named schema) o)) on ∙ h))

    -- and so is that of a fragment that is spread
    spread_type : (i k ty within owner : ℕ) (s : tree_spread.FragmentSpread) (f : FragmentDefinition) (j : ℕ) (repeated : Bool) → slice_get (nodes schema document) i ≡ Some (record { within = within; node = at_spread owner (Some ty) s })
        → slice_get (nodes schema document) k ≡ Some (record { within = j; node = at_definition repeated (definition.Fragment f) }) → fragment_named document s.name ≡ Some f → object_named schema f.type_condition ≡ Some ty
    spread_type i k ty within owner s f j repeated e d found =
        let at : At = record { within = j; node = at_definition repeated (definition.Fragment f) } in
        let name : List ℕ = f.type_condition in
        let known = is_there (type_named schema name) (never (is_none (type_named schema name)) (λ h. valid (on_scopes scope.FragmentSpreadTypeExistence) k at d (ap (λ b. b || false) h))) in
        let object = is_there (object_named schema name) (never (is_none (object_named schema name)) (λ h. valid (on_scopes scope.FragmentsOnCompositeTypes) k at d
        (ap (λ o. (is_some o && is_none (object_named schema name)) || false) known.1 ∙ ap (λ b. b || false) h))) in
        same_type ty (object_named schema name) object.0 object.1 (λ h. valid (on_scopes scope.FragmentSpreadIsPossible) i (record { within = within; node = at_spread owner (Some ty) s }) e
        (ap (λ o. differ (Some ty) (option_and_then (λ (x : FragmentDefinition). object_named schema x.type_condition) o) || false) found ∙ ap (λ b. b || false) h))

    condition_type : (i ty within owner : ℕ) (x : tree_inline.InlineFragment) (on : Option (List ℕ)) → x.type_condition ≡ on → slice_get (nodes schema document) i ≡ Some (record { within = within; node = at_inline owner (Some ty) x }) → within_condition schema (Some ty) on ≡ Some ty
    condition_type i ty within owner x None on e = refl
    condition_type i ty within owner x (Some name) on e = inline_type i ty within owner name x on e

    module _ (Base : ℕ → Type 0) (ty : ℕ) where
      abbrev Good : Met → Type 0
      Good met = Each (ComesSomewhere Base ty) met.fields

      -- a spread that stands there
      pub record StandsSpread (name : List ℕ) : Type 0 where
        pub base : ℕ
        pub of_base : Base base
        pub within : ℕ
        pub owner : ℕ
        pub own : IsOwner base within owner
        pub spread : tree_spread.FragmentSpread
        pub at : ℕ
        pub stands : slice_get (nodes schema document) at ≡ Some (record { within = within; node = at_spread owner (Some ty) spread })
        pub named : spread.name ≡ name

      abbrev EnterGood : (List ℕ → Met → Met) → Type 0
      EnterGood enter = (name : List ℕ) (met : Met) → StandsSpread name → Good met → Good (enter name met)

      choice_good : (choice : Choice) (add : Met → Met) (met : Met) → ((m : Met) → Good m → Good (add m)) → Good met → Good (by_choice choice add met)
      choice_good choice add met h good = when_good Good choice.kept (λ _. add (after_asking choice.asked met)) (after_asking choice.asked met) (h (after_asking choice.asked met) good) good

      type_good : (applies : List ℕ → Bool) (on : Option (List ℕ)) (add : Met → Met) (met : Met) → (Good met → Good (add met)) → Good met → Good (on_type applies on add met)
      type_good applies None add met h good = h good
      type_good applies (Some name) add met h good = when_good Good (applies name) (λ _. add met) met (h good) good

      module _ (vars : Vars) (applies : List ℕ → Bool) (enter : List ℕ → Met → Met) (enters : EnterGood enter) where
        mutual
          selection_good : (s : Selection) (base within owner : ℕ) (list : List At) (met : Met) → Base base → IsOwner base within owner → IsFront (nodes schema document) (put_selection schema within owner (Some ty) s list) → Good met
              → Good (in_selection vars applies enter s met)
          selection_good (Field' alias name arguments directives n rows at) base within owner list met b own p good =
              let f : Field = record { alias = alias; name = name; arguments = arguments; directives = directives; selections = node_list rows; pos = at } in
              let g : Field = record { alias = alias; name = name; arguments = arguments; directives = directives; selections = selection_list rows; pos = at } in
              let same : f ≡ g = ap (λ (l : List Selection). let x : Field = record { alias = alias; name = name; arguments = arguments; directives = directives; selections = l; pos = at } in x) (rows_same rows) in
              let comes = field_comes Base ty base within owner f g rows list b own same refl p in
              choice_good (chosen vars directives) (with_field g) met (λ m h. Each-append (ComesSomewhere Base ty) m.fields (g ∷ []) h ((length list, comes), tt)) good
          selection_good (FragmentSpread s) base within owner list met b own p good =
              let x : Node = at_spread owner (Some ty) s in
              let node = front_before (nodes schema document) (put within x list) _ (directives_grow schema within [] location.FragmentSpread s.directives (put within x list)) p in
              let stands : StandsSpread s.name = record { base = base; of_base = b; within = within; owner = owner; own = own; spread = s; at = length list; stands = stands_there (nodes schema document) within x list node; named = refl } in
              choice_good (chosen vars s.directives) (enter s.name) met (λ m h. enters s.name m stands h) good
          selection_good (InlineFragment' on directives n rows at) base within owner list met b own p good =
              let all : List At = nodes schema document in
              let i : tree_inline.InlineFragment = record { type_condition = on; directives = directives; selections = node_list rows; pos = at } in
              let x : Node = at_inline owner (Some ty) i in
              let next : List At = put_inline_head schema within owner (Some ty) i list in
              let head = front_before all next _ (rows_grow schema within (length list) (within_condition schema (Some ty) on) rows next) p in
              let node = stands_there all within x list (front_before all (put within x list) next (directives_grow schema within [] location.InlineFragment directives (put within x list)) head) in
              let inner : IsOwner base within (length list) = record {
                reach = own.reach;
                enters = λ joined h. goes_on (own.enters joined h) (inline_set all owner (length list) within (Some ty) i own.owned node);
                owned = within_all all (length list) _ node;
              } in
              let front : IsFront all (put_rows schema within (length list) (Some ty) rows next) = subst (λ o. IsFront all (put_rows schema within (length list) o rows next)) (condition_type (length list) ty within owner i on refl node) p in
              choice_good (chosen vars directives) (on_type applies on (in_rows vars applies enter rows)) met
              (λ m h. type_good applies on (in_rows vars applies enter rows) m (λ k. rows_good rows base within (length list) next m b inner front k) h) good

          rows_good : {n : _} (rows : Row_of-Selection n) (base within owner : ℕ) (list : List At) (met : Met) → Base base → IsOwner base within owner → IsFront (nodes schema document) (put_rows schema within owner (Some ty) rows list) → Good met
              → Good (in_rows vars applies enter rows met)
          rows_good end_of-Selection base within owner list met b own p good = good
          rows_good (more_of-Selection s rest) base within owner list met b own p good =
              let next : List At = put_selection schema within owner (Some ty) s list in
              rows_good rest base within owner next (in_selection vars applies enter s met) b own p
              (selection_good s base within owner list met b own (front_before (nodes schema document) next _ (rows_grow schema within owner (Some ty) rest next) p) good)

        pub each_good : (selections : List Selection) (met : Met) → Each (Standing Base ty) selections → Good met → Good (in_each vars applies enter selections met)
        each_good [] met h good = good
        each_good (s ∷ selections) met h good = each_good selections (in_selection vars applies enter s met) h.1 (selection_good s h.0.base h.0.within h.0.owner h.0.list met h.0.of_base h.0.own h.0.front good)

      -- ---- fragments

      fragment_stands : (name : List ℕ) (f : FragmentDefinition) → StandsSpread name → fragment_in document.definitions name ≡ Some f → Each (Standing Base ty) f.selections
      fragment_stands name f s e =
          let all : List At = nodes schema document in
          let at = fragment_found schema document s.spread.name f (ap (fragment_in document.definitions) s.named ∙ e) in
          let j : ℕ = 0 + at.k in
          let k_is : at.k ≡ j = omega arith in
          let d : Node = at_definition at.repeated (definition.Fragment f) in
          let first : List At = put j d at.list in
          let second : List At = put_directives schema j [] location.Other f.directives first in
          let spread_directives = front_before all second _ (selections_grow schema j (length at.list) (object_named schema f.type_condition) f.selections second) at.front in
          let node = stands_there all j d at.list (front_before all first second (directives_grow schema j [] location.Other f.directives first) spread_directives) in
          let fragment_is : fragment_at document j ≡ Some f = ap (λ n. option_and_then as_fragment (slice_get document.definitions n)) (sym k_is) ∙ ap (option_and_then as_fragment) at.stands in
          let found : fragment_named document s.spread.name ≡ Some f = ap (option_and_then (fragment_at document)) at.placed ∙ fragment_is in
          let own : IsOwner s.base j (length at.list) = record {
            reach = goes_on s.own.reach (spread_target document all s.at s.within j s.owner (Some ty) s.spread s.stands at.placed);
            enters = λ joined h. goes_on (s.own.enters joined h) (spread_set all s.owner s.at s.within (length at.list) (Some ty) s.spread s.own.owned s.stands at.node);
            owned = within_all all (length at.list) _ node;
          } in
          to_standing Base s.base j (length at.list) ty (object_named schema f.type_condition) f.selections s.of_base own
          (spread_type s.at (length at.list) ty s.within s.owner s.spread f j at.repeated s.stands node found)
          (list_below j (length at.list) (object_named schema f.type_condition) f.selections second at.front)

      fragment_good : (vars : Vars) (applies : List ℕ → Bool) (enter : List ℕ → Met → Met) → EnterGood enter → (name : List ℕ) (o : Option FragmentDefinition) → fragment_in document.definitions name ≡ o → StandsSpread name → (met : Met) → Good met
          → Good (in_fragment applies (in_each vars applies enter) o met)
      fragment_good vars applies enter enters name None e s met good = good
      fragment_good vars applies enter enters name (Some f) e s met good =
          type_good applies (Some f.type_condition) (in_each vars applies enter f.selections) met (λ h. each_good vars applies enter enters f.selections met (fragment_stands name f s e) h) good

      enter_good : (n : ℕ) (r : Request) → r.definitions ≡ document.definitions → EnterGood (enter_at n r ty)
      unfolding enter_at
      enter_good zero r e name met s good = good
      enter_good (suc n) r e name met s good =
          when_good Good (not (list_any (bytes_eq name) met.entered)) (λ _. in_fragment (applies_to r.schema ty) (in_each r.vars (applies_to r.schema ty) (enter_at n r ty)) (fragment_in r.definitions name) (with_entered name met)) met
          (fragment_good r.vars (applies_to r.schema ty) (enter_at n r ty) (enter_good n r e) name (fragment_in r.definitions name) (ap (λ l. fragment_in l name) (sym e)) s (with_entered name met) good) good

      -- the fields that are collected from selections that stand there
      pub collected_come : (r : Request) (selections : List Selection) (asked : List (List ℕ)) → r.definitions ≡ document.definitions → Each (Standing Base ty) selections → Each (ComesSomewhere Base ty) (collected r ty selections asked).fields
      collected_come r selections asked e h =
          each_good r.vars (applies_to r.schema ty) (enter_at (length r.definitions) r ty) (enter_good (length r.definitions) r e) selections (nothing_met asked) h tt
