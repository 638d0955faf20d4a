-- The rules that look beyond a node, beside the tests by what is gathered.
use Rattle.std.proofs.Common.{◌≡◌, ℕ, zero, suc, ◌+◌, ◌<◌, Bool, true, false, ◌&&◌, ◌||◌, ◌==◌, not, List, [], ◌∷◌, Option, Some, None, length, refl, sym, ap, subst, ◌∙◌, arith, true≢false}
use Rattle.std.specs.Prelude.{slice_get, option_and_then, if◌then◌else◌, is_none, is_some, IsSomeAnd, IsTrue}
use Rattle.std.specs.Cmp.{first_so, second_so}
use Rattle.std.specs.List.{list_any}
use Rattle.pg_base.specs.Schema.{SchemaParts}
use Rattle.gql_reader.specs.declared.tree.Definition.{Definition}
use Rattle.gql_reader.specs.declared.tree.Document.{Document}
use Rattle.gql_reader.specs.declared.tree.FragmentDefinition.{FragmentDefinition}
use Rattle.gql_reader.specs.declared.tree.OperationDefinition.{OperationDefinition}
use Rattle.gql_reader.specs.declared.tree.VariableDefinition.{VariableDefinition}
use Rattle.gql_types.specs.Types.{Ty, object_named}
use Rattle.gql_nodes.specs.Names.{is_among, place_in}
use Rattle.gql_nodes.specs.Nodes.{At, Node}
use Rattle.gql_nodes.specs.Reached.{IsIn}
use Rattle.gql_nodes.specs.Uses.{as_fragment, is_named, place_from, fragment_place, spread_name, spread_names, Reaches, ReachingOperation, variable_in, variable_name, as_operation, operation_at, fragment_at, fragment_named}
use Rattle.gql_scopes.specs.Conditions.{if_some}
use Rattle.gql_scopes.specs.Tables.{TablesParts, AreTables, row, has, found_variable, any_operation, is_variable, declares, is_asked, is_wanted}
use Rattle.gql_scopes.specs.SortFacts.{OfVariable}
use Rattle.gql_scopes.specs.Tests.{is_unused_fragment, comes_back, is_on_cycle, spreads_undefined, is_impossible, target_type, is_undefined, uses_undefined, is_unused_variable, is_misused, misuses}
use Rattle.gql_scopes.specs.FragmentsMustBeUsed as fragments_must_be_used
use Rattle.gql_scopes.specs.FragmentSpreadTargetDefined as target_defined
use Rattle.gql_scopes.specs.FragmentSpreadsMustNotFormCycles as cycles
use Rattle.gql_scopes.specs.FragmentSpreadIsPossible as possible
use Rattle.gql_scopes.specs.Sorts.{on_inline}
use Rattle.gql_scopes.specs.AllVariableUsesDefined as defined
use Rattle.gql_scopes.specs.AllVariablesUsed as used
use Rattle.gql_scopes.specs.AllVariableUsagesAreAllowed as allowed
use Rattle.gql_scopes.proofs.Membership.{has_in, in_has, left_so, right_so, any_in, here_is, each_in, none_passes, all_fail, passed}
use Rattle.gql_scopes.proofs.Operations.{some_passes, any_passes}
use Rattle.gql_scopes.proofs.SortsTold.{some_told, some_tells, same_definitions, same_spreads, variable_told, variable_tells, spread_told, spread_tells, spread_of, value_told, value_tells}
use Rattle.gql_scopes.proofs.Targets.{in_targets}

-- ---- places of fragments

place_by : (b : Bool) (n t : ℕ) (rest : Option ℕ) (len : ℕ) → (rest ≡ Some t → t < n + 1 + len) → (if b then Some n else rest) ≡ Some t → t < n + suc len
place_by true n t rest len later e = let same : n ≡ t = cc in omega arith
place_by false n t rest len later e = let lt = later e in omega arith

place_within : (n t : ℕ) (definitions : List Definition) (name : List ℕ) → place_from n definitions name ≡ Some t → t < n + length definitions
place_within n t [] name e = absurd (cc)
place_within n t (d ∷ definitions) name e =
    place_by (is_named name (as_fragment d)) n t (place_from (n + 1) definitions name) (length definitions) (place_within (n + 1) t definitions name) e

both_so : (a b : Bool) → a ≡ true → b ≡ true → (a && b) ≡ true
both_so a b h k = ap (λ c. c && b) h ∙ k

none_is : {A : Type 0} (o : Option A) → is_none o ≡ true → o ≡ None
none_is None h = refl
none_is (Some x) h = absurd (true≢false (sym h))

not_false : (b : Bool) → not b ≡ true → b ≡ false
not_false true h = absurd (true≢false (sym h))
not_false false h = refl

module _ (document : Document) (nodes : List At) (tables : TablesParts) (t : AreTables document nodes tables) where
  -- ---- what is asked

  each_asked : (p : ℕ) → tables.ordered ≡ false → is_wanted document nodes tables.ordered p ≡ true
  each_asked p e = ap (λ b. is_wanted document nodes b p) e

  operation_asked : (p : ℕ) (o : OperationDefinition) → operation_at document p ≡ Some o → is_wanted document nodes tables.ordered p ≡ true
  operation_asked p o at =
      left_so (is_asked document tables.ordered p) (declares nodes p) (right_so (not tables.ordered) (is_some (operation_at document p)) (ap is_some at))

  variable_asked : (x : At) → IsIn nodes x → is_variable x.node ≡ true → is_wanted document nodes tables.ordered x.within ≡ true
  variable_asked x at h =
      right_so (is_asked document tables.ordered x.within) (declares nodes x.within)
      (any_in (λ y. (y.within == x.within) && is_variable y.node) nodes x at (both_so (x.within == x.within) (is_variable x.node) (here_is x.within) h))

  reaches_told : (p w : ℕ) → p < length tables.reached → is_wanted document nodes tables.ordered p ≡ true → has (row tables.reached p) w ≡ true → Reaches nodes document p w
  reaches_told p w lt asked h = (t.reached p lt asked).reached w (has_in (row tables.reached p) w h)

  reaches_tells : (p w : ℕ) → p < length tables.reached → is_wanted document nodes tables.ordered p ≡ true → Reaches nodes document p w → has (row tables.reached p) w ≡ true
  reaches_tells p w lt asked h = in_has (row tables.reached p) w ((t.reached p lt asked).complete w h)

  definition_within : (p : ℕ) → p < length document.definitions → p < length tables.reached
  definition_within p lt = let le = t.rows in omega arith

  target_within : (p : ℕ) (name : List ℕ) → fragment_place document name ≡ Some p → p < length tables.reached
  target_within p name e = let lt = place_within 0 p document.definitions name e in definition_within p (omega arith)

  -- ---- 5.5.1.4

  unused_fragment : (o : Option FragmentDefinition)
      → if_some (λ f. not (is_among f.name tables.spreads)) o ≡ if_some (λ f. not (is_among f.name (spread_names nodes))) o
  unused_fragment None = refl
  unused_fragment (Some f) = ap not (t.spreads f.name)

  pub unused_same : (x : Node) → is_unused_fragment tables x ≡ fragments_must_be_used.breaks nodes x
  unused_same x = same_definitions (λ repeated d. if_some (λ f. not (is_among f.name tables.spreads)) (as_fragment d))
      (λ repeated d. if_some (λ f. not (is_among f.name (spread_names nodes))) (as_fragment d)) (λ repeated d. unused_fragment (as_fragment d)) x

  -- ---- 5.5.2.2

  leads_told : (w : ℕ) (name : List ℕ) → if_some (comes_back tables w) (place_in tables.fragments name) ≡ true
      → IsSomeAnd (fragment_place document name) (λ target. Reaches nodes document target w)
  leads_told w name h =
      let p = passed (comes_back tables w) (fragment_place document name) (sym (ap (if_some (comes_back tables w)) (t.fragments name)) ∙ h) in
      let unordered = not_false tables.ordered (first_so (not tables.ordered) (has (row tables.reached p.item) w) p.passes) in
      let reached = second_so (not tables.ordered) (has (row tables.reached p.item) w) p.passes in
      subst (λ o. IsSomeAnd o (λ target. Reaches nodes document target w)) (sym p.is)
      (reaches_told p.item w (target_within p.item name p.is) (each_asked p.item unordered) reached)

  leads_tells_by : (w : ℕ) (name : List ℕ) (o : Option ℕ) → tables.ordered ≡ false → fragment_place document name ≡ o → IsSomeAnd o (λ target. Reaches nodes document target w)
      → if_some (comes_back tables w) o ≡ true
  leads_tells_by w name None unordered e h = absurd h
  leads_tells_by w name (Some p) unordered e h =
      both_so (not tables.ordered) (has (row tables.reached p) w) (ap not unordered) (reaches_tells p w (target_within p name e) (each_asked p unordered) h)

  leads_tells : (w : ℕ) (name : List ℕ) → tables.ordered ≡ false → IsSomeAnd (fragment_place document name) (λ target. Reaches nodes document target w)
      → if_some (comes_back tables w) (place_in tables.fragments name) ≡ true
  leads_tells w name unordered h =
      ap (if_some (comes_back tables w)) (t.fragments name) ∙ leads_tells_by w name (fragment_place document name) unordered refl h

  -- where definitions are ordered, no spread comes back
  none_leads : (x : At) (name : List ℕ) (o : Option ℕ) → tables.ordered ≡ true → IsIn nodes x → spread_name x.node ≡ Some name → fragment_place document name ≡ o
      → IsSomeAnd o (λ target. Reaches nodes document target x.within) → ⊥
  none_leads x name None e at is place h = absurd h
  none_leads x name (Some p) e at is place h = t.ordered e x.within p (in_targets document nodes x p at (ap (option_and_then (fragment_place document)) is ∙ place)) h

  no_cycle : (x : At) → tables.ordered ≡ true → IsIn nodes x → cycles.Breaks document nodes x → ⊥
  no_cycle x e at h =
      let s = spread_of (λ s. IsSomeAnd (fragment_place document s.name) (λ target. Reaches nodes document target x.within)) x.node h in
      none_leads x s.spread.name (fragment_place document s.spread.name) e at s.name refl s.fact

  pub cycle_told : (x : At) → IsIn nodes x → is_on_cycle tables x.within x.node ≡ true → cycles.Breaks document nodes x
  cycle_told x at h = spread_told (λ parent s. if_some (comes_back tables x.within) (place_in tables.fragments s.name))
      (λ s. IsSomeAnd (fragment_place document s.name) (λ target. Reaches nodes document target x.within)) (λ parent s k. leads_told x.within s.name k) x.node h

  cycle_tells_by : (x : At) (b : Bool) → tables.ordered ≡ b → IsIn nodes x → cycles.Breaks document nodes x → is_on_cycle tables x.within x.node ≡ true
  cycle_tells_by x true e at h = absurd (no_cycle x e at h)
  cycle_tells_by x false e at h = spread_tells (λ parent s. if_some (comes_back tables x.within) (place_in tables.fragments s.name))
      (λ s. IsSomeAnd (fragment_place document s.name) (λ target. Reaches nodes document target x.within)) (λ parent s k. leads_tells x.within s.name e k) x.node h

  pub cycle_tells : (x : At) → IsIn nodes x → cycles.Breaks document nodes x → is_on_cycle tables x.within x.node ≡ true
  cycle_tells x at h = cycle_tells_by x tables.ordered refl at h

  -- ---- 5.5.2.1 and 5.5.2.3

  pub spreads_same : (x : Node) → spreads_undefined tables x ≡ target_defined.breaks document x
  spreads_same x = same_spreads (λ parent s. is_none (place_in tables.fragments s.name)) (λ parent s. is_none (fragment_place document s.name))
      (λ parent s. ap is_none (t.fragments s.name)) x

  pub impossible_same : (schema : SchemaParts) (x : Node) → is_impossible schema document tables x ≡ possible.breaks schema document x
  impossible_same schema x = ap (λ b. b || on_inline (λ parent i. possible.differ parent (option_and_then (object_named schema) i.type_condition)) x)
      (same_spreads (λ parent s. possible.differ parent (target_type schema document tables s.name))
      (λ parent s. possible.differ parent (option_and_then (λ f. object_named schema f.type_condition) (fragment_named document s.name)))
      (λ parent s. ap (λ o. possible.differ parent (option_and_then (λ f. object_named schema f.type_condition) (option_and_then (fragment_at document) o))) (t.fragments s.name)) x)

  -- ---- operations that reach a place

  some_reaching : (w : ℕ) (test : ℕ → OperationDefinition → Bool) (F : OperationDefinition → Type 0)
      → ((p : ℕ) (o : OperationDefinition) → operation_at document p ≡ Some o → test p o ≡ true → F o)
      → any_operation 0 (λ place o. has (row tables.reached place) w && test place o) document.definitions ≡ true → ReachingOperation nodes document F w
  some_reaching w test F go h =
      let p = some_passes 0 (λ place o. has (row tables.reached place) w && test place o) document.definitions h in
      let same : 0 + p.place ≡ p.place = omega arith in
      let at : (has (row tables.reached p.place) w && test p.place p.operation) ≡ true = subst (λ k. (has (row tables.reached k) w && test k p.operation) ≡ true) same p.passes in
      record {
        place = p.place;
        operation = p.operation;
        stands = p.stands;
        reaches = reaches_told p.place w (definition_within p.place p.within) (operation_asked p.place p.operation p.stands) (first_so (has (row tables.reached p.place) w) (test p.place p.operation) at);
        fact = go p.place p.operation p.stands (second_so (has (row tables.reached p.place) w) (test p.place p.operation) at);
      }

  stands_within : (p : ℕ) (definitions : List Definition) (o : OperationDefinition) → option_and_then as_operation (slice_get definitions p) ≡ Some o → p < length definitions
  stands_within p [] o e = absurd (cc)
  stands_within zero (d ∷ definitions) o e = omega arith
  stands_within (suc p) (d ∷ definitions) o e = let lt = stands_within p definitions o e in omega arith

  reaching_some : (w : ℕ) (test : ℕ → OperationDefinition → Bool) (F : OperationDefinition → Type 0)
      → ((p : ℕ) (o : OperationDefinition) → operation_at document p ≡ Some o → F o → test p o ≡ true)
      → ReachingOperation nodes document F w → any_operation 0 (λ place o. has (row tables.reached place) w && test place o) document.definitions ≡ true
  reaching_some w test F go r =
      let lt = definition_within r.place (stands_within r.place document.definitions r.operation r.stands) in
      let same : r.place ≡ 0 + r.place = omega arith in
      let both = both_so (has (row tables.reached r.place) w) (test r.place r.operation) (reaches_tells r.place w lt (operation_asked r.place r.operation r.stands) r.reaches) (go r.place r.operation r.stands r.fact) in
      any_passes 0 (λ place o. has (row tables.reached place) w && test place o) document.definitions r.place r.operation r.stands
      (subst (λ k. (has (row tables.reached k) w && test k r.operation) ≡ true) same both)

  -- ---- 5.8.3

  undefined_told : (w : ℕ) (name : List ℕ) → is_undefined document tables w name ≡ true → defined.IsUndefined document nodes w name
  undefined_told w name h = some_reaching w (λ p o. is_none (found_variable tables p o name)) (λ o. variable_in o name ≡ None)
      (λ p o at k. sym (t.variables p o at name) ∙ none_is (found_variable tables p o name) k) h

  undefined_tells : (w : ℕ) (name : List ℕ) → defined.IsUndefined document nodes w name → is_undefined document tables w name ≡ true
  undefined_tells w name r = reaching_some w (λ p o. is_none (found_variable tables p o name)) (λ o. variable_in o name ≡ None)
      (λ p o at k. ap is_none (t.variables p o at name ∙ k)) r

  pub uses_told : (x : At) → uses_undefined document tables x.within x.node ≡ true → defined.Breaks document nodes x
  uses_told x h = value_told (λ ty kind. if_some (is_undefined document tables x.within) (variable_name kind))
      (λ ty kind. IsSomeAnd (variable_name kind) (defined.IsUndefined document nodes x.within))
      (λ ty kind k. some_told (is_undefined document tables x.within) (defined.IsUndefined document nodes x.within) (undefined_told x.within) (variable_name kind) k) x.node h

  pub uses_tells : (x : At) → defined.Breaks document nodes x → uses_undefined document tables x.within x.node ≡ true
  uses_tells x h = value_tells (λ ty kind. if_some (is_undefined document tables x.within) (variable_name kind))
      (λ ty kind. IsSomeAnd (variable_name kind) (defined.IsUndefined document nodes x.within))
      (λ ty kind k. some_tells (is_undefined document tables x.within) (defined.IsUndefined document nodes x.within) (undefined_tells x.within) (variable_name kind) k) x.node h

  -- ---- 5.8.5

  misused_told : (schema : SchemaParts) (w : ℕ) (position : Ty) (name : List ℕ) → is_misused schema document tables w position name ≡ true → allowed.IsMisused schema document nodes w position name
  misused_told schema w position name h =
      some_reaching w (λ p o. if_some (allowed.is_refused schema position) (found_variable tables p o name)) (λ o. IsTrue (if_some (allowed.is_refused schema position) (variable_in o name)))
      (λ p o at k. sym (ap (if_some (allowed.is_refused schema position)) (t.variables p o at name)) ∙ k) h

  misused_tells : (schema : SchemaParts) (w : ℕ) (position : Ty) (name : List ℕ) → allowed.IsMisused schema document nodes w position name → is_misused schema document tables w position name ≡ true
  misused_tells schema w position name r =
      reaching_some w (λ p o. if_some (allowed.is_refused schema position) (found_variable tables p o name)) (λ o. IsTrue (if_some (allowed.is_refused schema position) (variable_in o name)))
      (λ p o at k. ap (if_some (allowed.is_refused schema position)) (t.variables p o at name) ∙ k) r

  pub misuses_told : (schema : SchemaParts) (x : At) → misuses schema document tables x.within x.node ≡ true → allowed.Breaks schema document nodes x
  misuses_told schema x h =
      value_told (λ ty kind. if_some (λ position. if_some (is_misused schema document tables x.within position) (variable_name kind)) ty)
      (λ ty kind. IsSomeAnd ty (λ position. IsSomeAnd (variable_name kind) (allowed.IsMisused schema document nodes x.within position)))
      (λ ty kind k. some_told (λ position. if_some (is_misused schema document tables x.within position) (variable_name kind))
      (λ position. IsSomeAnd (variable_name kind) (allowed.IsMisused schema document nodes x.within position))
      (λ position j. some_told (is_misused schema document tables x.within position) (allowed.IsMisused schema document nodes x.within position) (misused_told schema x.within position) (variable_name kind) j) ty k)
      x.node h

  pub misuses_tells : (schema : SchemaParts) (x : At) → allowed.Breaks schema document nodes x → misuses schema document tables x.within x.node ≡ true
  misuses_tells schema x h =
      value_tells (λ ty kind. if_some (λ position. if_some (is_misused schema document tables x.within position) (variable_name kind)) ty)
      (λ ty kind. IsSomeAnd ty (λ position. IsSomeAnd (variable_name kind) (allowed.IsMisused schema document nodes x.within position)))
      (λ ty kind k. some_tells (λ position. if_some (is_misused schema document tables x.within position) (variable_name kind))
      (λ position. IsSomeAnd (variable_name kind) (allowed.IsMisused schema document nodes x.within position))
      (λ position j. some_tells (is_misused schema document tables x.within position) (allowed.IsMisused schema document nodes x.within position) (misused_tells schema x.within position) (variable_name kind) j) ty k)
      x.node h

  -- ---- 5.8.4

  variable_unused_told : (w : ℕ) (name : List ℕ) → w < length tables.reached → is_wanted document nodes tables.ordered w ≡ true
      → not (list_any (λ place. is_among name (row tables.used place)) (row tables.reached w)) ≡ true → used.IsUnused document nodes w name
  variable_unused_told w name lt asked h = λ j r.
      sym (t.used j name) ∙ none_passes (λ place. is_among name (row tables.used place)) (row tables.reached w) j (not_false _ h) ((t.reached w lt asked).complete j r)

  variable_unused_tells : (w : ℕ) (name : List ℕ) → w < length tables.reached → is_wanted document nodes tables.ordered w ≡ true → used.IsUnused document nodes w name
      → not (list_any (λ place. is_among name (row tables.used place)) (row tables.reached w)) ≡ true
  variable_unused_tells w name lt asked h =
      ap not (all_fail (λ place. is_among name (row tables.used place)) (row tables.reached w) (λ j at. t.used j name ∙ h j ((t.reached w lt asked).reached j at)))

  of_variable : (F : VariableDefinition → Type 0) (n : Node) → OfVariable F n → is_variable n ≡ true
  of_variable F n h = variable_tells (λ repeated v. true) F (λ repeated v f. refl) n h

  pub unused_told : (x : At) → IsIn nodes x → is_unused_variable tables x.within x.node ≡ true → used.Breaks document nodes x
  unused_told x at h =
      let test : Bool → VariableDefinition → Bool = λ repeated v. not (list_any (λ place. is_among v.name (row tables.used place)) (row tables.reached x.within)) in
      let asked = variable_asked x at (of_variable (λ v. Unit {0}) x.node (variable_told test (λ v. Unit {0}) (λ repeated v k. tt) x.node h)) in
      variable_told test (λ v. used.IsUnused document nodes x.within v.name)
      (λ repeated v k. variable_unused_told x.within v.name (each_in (λ y. y.within < length tables.reached) nodes x t.placed at) asked k) x.node h

  pub unused_tells : (x : At) → IsIn nodes x → used.Breaks document nodes x → is_unused_variable tables x.within x.node ≡ true
  unused_tells x at h =
      let asked = variable_asked x at (of_variable (λ v. used.IsUnused document nodes x.within v.name) x.node h) in
      variable_tells (λ repeated v. not (list_any (λ place. is_among v.name (row tables.used place)) (row tables.reached x.within)))
      (λ v. used.IsUnused document nodes x.within v.name)
      (λ repeated v k. variable_unused_tells x.within v.name (each_in (λ y. y.within < length tables.reached) nodes x t.placed at) asked k) x.node h
