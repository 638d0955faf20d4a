-- A variable that is used in a valid document fits where it stands.
use Rattle.std.proofs.Common.{◌≡◌, ◌≢◌, ◌⊎◌, ℕ, Bool, true, false, not, ◌&&◌, ◌||◌, cond, List, [], ◌∷◌, ◌++◌, map, length, Option, Some, None, Ok, is_some, inl, inr, refl, sym, ap, ◌∙◌, subst}
use Rattle.std.specs.Prelude.{slice_get, option_and_then, if◌then◌else◌, IfSome, find}
use Rattle.std.specs.List.{list_any}
use Rattle.std.specs.Str.{bytes_eq}
use Rattle.std.proofs.lemmas.Bool.{and_parts}
use Rattle.serde_json.specs.Data.{Data}
use Rattle.pg_base.specs.Lists.{Each, AreDistinct}
use Rattle.pg_base.specs.Schema.{SchemaParts}
use Rattle.pg_base.specs.Vars.{variable}
use Rattle.pg_base.specs.declared.pos.Pos.{Pos}
use Rattle.pg_base.specs.declared.schema.TypeRef.{TypeRef}
use Rattle.pg_base.specs.declared.vars.Vars.{Vars}
use Rattle.gql_reader.specs.declared.tree.Definition.TheVariants as definition
use Rattle.gql_reader.specs.declared.tree.Document.{Document}
use Rattle.gql_reader.specs.declared.tree.OperationDefinition.{OperationDefinition}
use Rattle.gql_reader.specs.declared.tree.Value as tree
use Rattle.gql_reader.specs.declared.tree.ValueKind.{Variable}
use Rattle.gql_reader.specs.declared.tree.VariableDefinition.{VariableDefinition}
use Rattle.gql_types.specs.Types.{Ty, is_not_null, ty_of, ty_written}
use Rattle.gql_nodes.specs.declared.node.Location.TheVariants as location
use Rattle.gql_nodes.specs.Fields.{root_of}
use Rattle.gql_nodes.specs.Names.{is_among, with_name}
use Rattle.gql_nodes.specs.Nodes.{Node, at_definition, at_variable, at_value, At, put, put_directives, put_variable, put_variables, nodes}
use Rattle.gql_nodes.specs.Uses.{as_operation, variable_in, ReachingOperation, Reaches}
use Rattle.gql_input.specs.Coerced.{coerced}
use Rattle.gql_rules.specs.Rules.{IsValidDocument, on_scopes}
use Rattle.gql_scopes.specs.declared.rule.ScopeRule.TheVariants as scope
use Rattle.gql_scopes.specs.Conditions.{if_some}
use Rattle.gql_scopes.specs.AllVariableUsagesAreAllowed.{are_compatible_but_null, are_compatible, null_fits, has_default, is_allowed, is_refused}
use Rattle.gql_scopes.specs.VariablesAreInputTypes.{is_input_ty}
use Rattle.plan_steps.specs.Fitting.{IsOf}
use Rattle.fitting_trees.proofs.Named.{equal_bytes, some_is, no_some, not_both}
use Rattle.fitting_trees.proofs.Suited.{null_is, suits_compatible, false_true}
use Rattle.fitting_trees.proofs.SoundLiterals.{must, never}
use Rattle.fitting_trees.proofs.GivenValues.{HasDistinctInputs}
use Rattle.fitting_trees.proofs.Entries.{IsSure, AreHeld, variables_held}
use Rattle.fitting_trees.proofs.Growth.{IsFront, front_before, stands_there, variable_rest, variables_grow, directives_grow, selections_grow}
use Rattle.fitting_trees.proofs.Definitions.{defined_at}

-- ---- names that are met

any_both : (test : List ℕ → Bool) (xs : List (List ℕ)) (y : List ℕ) → list_any test (xs ++ y ∷ []) ≡ false → (list_any test xs ≡ false) × (test y ≡ false)
any_both test [] y e = (refl, first (test y) e)
  where
    first : (b : Bool) → (b || false) ≡ false → b ≡ false
    first true e = e
    first false e = refl
any_both test (x ∷ xs) y e = by (test x) refl (any_both test xs y)
  where
    by : (b : Bool) → test x ≡ b → (list_any test (xs ++ y ∷ []) ≡ false → (list_any test xs ≡ false) × (test y ≡ false)) → ((test x || list_any test xs) ≡ false) × (test y ≡ false)
    by true t later = false_true (sym (ap (λ b. b || list_any test (xs ++ y ∷ [])) (sym t) ∙ e))
    by false t later =
        let h = later (ap (λ b. b || list_any test (xs ++ y ∷ [])) (sym t) ∙ e) in
        (ap (λ b. b || list_any test xs) t ∙ h.0, h.1)

-- none of the names is among those before
abbrev AreNew : List (List ℕ) → List (List ℕ) → Type 0
AreNew before names = Each (λ n. is_among n before ≡ false) names

older : (before : List (List ℕ)) (x : List ℕ) (names : List (List ℕ)) → AreNew (before ++ x ∷ []) names → AreNew before names × Each (λ n. x ≢ n) names
older before x [] h = (tt, tt)
older before x (n ∷ names) h =
    let here = any_both (bytes_eq n) before x h.0 in
    let later = older before x names h.1 in
    ((here.0, later.0), (λ e. not_both (bytes_eq n x) (equal_bytes n x (sym e)) here.1, later.1))

-- ---- where variables stand

-- the variable has a node
abbrev IsNodeOf : SchemaParts → Document → ℕ → VariableDefinition → Type 0
IsNodeOf schema document within v = (i : ℕ) × (repeated : Bool) × (slice_get (nodes schema document) i ≡ Some (record { within = within; node = at_variable repeated v }))

record AreNodesOf (schema : SchemaParts) (document : Document) (within : ℕ) (before : List (List ℕ)) (variables : List VariableDefinition) : Type 0 where
  pub stand : Each (IsNodeOf schema document within) variables
  pub new : AreNew before (map (λ v. v.name) variables)
  pub distinct : AreDistinct (map (λ v. v.name) variables)

module _ (schema : SchemaParts) (document : Document) (valid : IsValidDocument schema document) where
  are_nodes : (within : ℕ) (before : List (List ℕ)) (variables : List VariableDefinition) (list : List At) → IsFront (nodes schema document) (put_variables schema within before variables list) → AreNodesOf schema document within before variables
  are_nodes within before [] list p = record { stand = tt; new = tt; distinct = tt }
  are_nodes within before (v ∷ variables) list p =
      let all : List At = nodes schema document in
      let x : Node = at_variable (is_among v.name before) v in
      let next : List At = put_variable schema within (is_among v.name before) v list in
      let front = front_before all next _ (variables_grow schema within (with_name before v.name) variables next) p in
      let at = stands_there all within x list (front_before all (put within x list) next (variable_rest schema within (is_among v.name before) v list) front) in
      let fresh : is_among v.name before ≡ false = never (is_among v.name before) (λ h. valid (on_scopes scope.VariableUniqueness) (length list) (record { within = within; node = x }) at h) in
      let later = are_nodes within (with_name before v.name) variables next p in
      let grown : with_name before v.name ≡ before ++ v.name ∷ [] = ap (λ b. if b then before else before ++ v.name ∷ []) fresh in
      let apart = older before v.name (map (λ w. w.name) variables) (subst (λ l. AreNew l (map (λ w. w.name) variables)) grown later.new) in
      record { stand = ((length list, is_among v.name before, at), later.stand); new = (fresh, apart.0); distinct = (apart.1, later.distinct) }

  found_node : (within : ℕ) (variables : List VariableDefinition) (name : List ℕ) (v : VariableDefinition) → Each (IsNodeOf schema document within) variables → find (λ w. bytes_eq w.name name) variables ≡ Some v → IsNodeOf schema document within v
  found_node within [] name v h e = absurd (no_some v e)
  found_node within (w ∷ variables) name v h e = by (bytes_eq w.name name) e (found_node within variables name v h.1)
    where
      by : (b : Bool) → cond b (Some w) (find (λ w. bytes_eq w.name name) variables) ≡ Some v → (find (λ w. bytes_eq w.name name) variables ≡ Some v → IsNodeOf schema document within v) → IsNodeOf schema document within v
      by true f later = subst (IsNodeOf schema document within) (some_is w v f) h.0
      by false f later = later f

  operation_nodes : (place : ℕ) (o : OperationDefinition) → slice_get document.definitions place ≡ Some (definition.Operation o) → AreNodesOf schema document place [] o.variables
  operation_nodes place o e =
      let all : List At = nodes schema document in
      let d = defined_at schema document place (definition.Operation o) e in
      let start : List At = put place (at_definition d.repeated (definition.Operation o)) d.list in
      let first : List At = put_variables schema place [] o.variables start in
      let second : List At = put_directives schema place [] location.Other o.directives first in
      are_nodes place [] o.variables start
      (front_before all first second (directives_grow schema place [] location.Other o.directives first)
      (front_before all second _ (selections_grow schema place (length d.list) (root_of schema o.kind) o.selections second) d.front))

  -- ---- uses

  -- the variable fits the type, and is there where the type takes no null
  pub record IsUsed (vars : Vars) (r : TypeRef) (name : List ℕ) : Type 0 where
    pub fits : IfSome (variable vars name) (IsOf schema r)
    pub sure : r.not_null ≡ true → is_some (variable vars name) ≡ true

  written_ty : (within i : ℕ) (repeated : Bool) (v : VariableDefinition) → slice_get (nodes schema document) i ≡ Some (record { within = within; node = at_variable repeated v }) → (t : Ty) × (ty_written schema v.ty ≡ Some t)
  written_ty within i repeated v e = by (ty_written schema v.ty) refl (must (is_input_ty schema (ty_written schema v.ty)) (λ h. valid (on_scopes scope.VariablesAreInputTypes) i (record { within = within; node = at_variable repeated v }) e h))
    where
      by : (o : Option Ty) → ty_written schema v.ty ≡ o → is_input_ty schema o ≡ true → (t : Ty) × (ty_written schema v.ty ≡ Some t)
      by None e h = false_true h
      by (Some t) e h = (t, e)

  or_parts : (a b : Bool) → (a || b) ≡ true → (a ≡ true) ⊎ (b ≡ true)
  or_parts true b e = inl refl
  or_parts false b e = inr e

  allowed_but_null : (default : Option tree.Value) (t p : Ty) → is_allowed default t p ≡ true → are_compatible_but_null t p ≡ true
  allowed_but_null default t p e = elim (or_parts (are_compatible t p) (has_default default && are_compatible_but_null t p) e) [
    | inl h ↦ (and_parts (are_compatible_but_null t p) (null_fits (is_not_null t) (is_not_null p)) h).0
    | inr h ↦ (and_parts (has_default default) (are_compatible_but_null t p) h).1
  ]

  null_fits_is : (a b : Bool) → null_fits a b ≡ true → b ≡ true → a ≡ true
  null_fits_is true b e h = refl
  null_fits_is false true e h = e
  null_fits_is false false e h = h

  default_there : (default : Option tree.Value) → has_default default ≡ true → is_some default ≡ true
  default_there None e = e
  default_there (Some v) e = refl

  allowed_sure : (default : Option tree.Value) (t p : Ty) → is_allowed default t p ≡ true → is_not_null p ≡ true → IsSure t default
  allowed_sure default t p e h = elim (or_parts (are_compatible t p) (has_default default && are_compatible_but_null t p) e) [
    | inl k ↦ inl (null_fits_is (is_not_null t) (is_not_null p) (and_parts (are_compatible_but_null t p) (null_fits (is_not_null t) (is_not_null p)) k).1 h)
    | inr k ↦ inr (default_there default (and_parts (has_default default) (are_compatible_but_null t p) k).0)
  ]

  module _ (distinct : HasDistinctInputs schema) (place : ℕ) (o : OperationDefinition) (stands : slice_get document.definitions place ≡ Some (definition.Operation o)) (given : Data) (vars : Vars) (made : coerced schema o given ≡ Ok vars) where
    reaching : (Fact : OperationDefinition → Type 0) (within : ℕ) → Reaches (nodes schema document) document place within → Fact o → ReachingOperation (nodes schema document) document Fact within
    reaching Fact within reach fact = record { place = place; operation = o; stands = ap (option_and_then as_operation) stands; reaches = reach; fact = fact }

    pub is_used : (within i : ℕ) (r : TypeRef) (name : List ℕ) (at : Pos) → Reaches (nodes schema document) document place within
        → slice_get (nodes schema document) i ≡ Some (record { within = within; node = at_value (Some (ty_of r)) (Variable name) at }) → IsUsed vars r name
    is_used within i r name at reach e =
        by (variable_in o name) refl (operation_nodes place o stands)
      where
        with_type : (v : VariableDefinition) (t : Ty) → variable_in o name ≡ Some v → ty_written schema v.ty ≡ Some t → AreHeld schema distinct o.variables vars.entries → IsUsed vars r name
        with_type v t found written held =
            let x : At = record { within = within; node = at_value (Some (ty_of r)) (Variable name) at } in
            let allowed : is_allowed v.default t (ty_of r) ≡ true = must (is_allowed v.default t (ty_of r)) (λ h.
            valid (on_scopes scope.AllVariableUsagesAreAllowed) i x e (reaching (λ p. if_some (is_refused schema (ty_of r)) (variable_in p name) ≡ true) within reach
            (ap (if_some (is_refused schema (ty_of r))) found ∙ ap (if_some (λ ty. not (is_allowed v.default ty (ty_of r)))) written ∙ h))) in
            let h = held.held name v t found written in
            record {
              fits = h.fits r (suits_compatible t r (allowed_but_null v.default t (ty_of r) allowed));
              sure = λ n. h.sure (allowed_sure v.default t (ty_of r) allowed (null_is r ∙ n));
            }

        by : (found : Option VariableDefinition) → variable_in o name ≡ found → AreNodesOf schema document place [] o.variables → IsUsed vars r name
        by None found known = absurd (valid (on_scopes scope.AllVariableUsesDefined) i (record { within = within; node = at_value (Some (ty_of r)) (Variable name) at }) e (reaching (λ p. variable_in p name ≡ None) within reach found))
        by (Some v) found known =
            let n = found_node place o.variables name v known.stand found in
            let t = written_ty place n.0 n.1 v n.2 in
            with_type v t.0 found t.1 (variables_held schema distinct o given vars known.distinct made)
