-- What the search for each rule finds.
use Rattle.std.proofs.Common.{◌≡◌, inl, inr, ℕ, zero, suc, ◌+◌, ◌<◌, ◌≤◌, Bool, true, List, [], ◌∷◌, Option, Some, None, length, get_or, take, refl, sym, ap, ◌∙◌, arith}
use Rattle.std.specs.Prelude.{find, option_map, IsTrue}
use Rattle.pg_base.specs.declared.pos.Pos.{Pos}
use Rattle.pg_base.specs.Schema.{SchemaParts}
use Rattle.gql_reader.specs.declared.tree.Document.{Document}
use Rattle.gql_nodes.specs.Nodes.{At, nodes, pos_of}
use Rattle.gql_nodes.specs.Reached.{IsIn}
use Rattle.gql_nodes.specs.Rules.{IsFound}
use Rattle.gql_nodes.proofs.Firsts.{found}
use Rattle.gql_scopes.specs.declared.rule.ScopeRule.{ScopeRule}
use Rattle.gql_scopes.specs.declared.rule.ScopeRule.TheVariants as rule
use Rattle.gql_scopes.specs.Tables.{TablesParts, AreTables}
use Rattle.gql_scopes.specs.Tests.{test_of}
use Rattle.gql_scopes.specs.Scopes.{Breaks, number, all_rules}
use Rattle.gql_scopes.specs.FragmentsMustBeUsed as fragments_must_be_used
use Rattle.gql_scopes.specs.FragmentSpreadsMustNotFormCycles as cycles
use Rattle.gql_scopes.specs.AllVariableUsesDefined as defined
use Rattle.gql_scopes.specs.AllVariablesUsed as used
use Rattle.gql_scopes.specs.AllVariableUsagesAreAllowed as allowed
use Rattle.gql_scopes.specs.UniqueFragmentNames as unique_fragment_names
use Rattle.gql_scopes.specs.FragmentSpreadTypeExistence as fragment_spread_type_existence
use Rattle.gql_scopes.specs.FragmentsOnCompositeTypes as fragments_on_composite_types
use Rattle.gql_scopes.specs.FragmentSpreadTargetDefined as fragment_spread_target_defined
use Rattle.gql_scopes.specs.FragmentSpreadIsPossible as fragment_spread_is_possible
use Rattle.gql_scopes.specs.ValuesOfCorrectType as values_of_correct_type
use Rattle.gql_scopes.specs.InputObjectFieldNames as input_object_field_names
use Rattle.gql_scopes.specs.InputObjectFieldUniqueness as input_object_field_uniqueness
use Rattle.gql_scopes.specs.InputObjectRequiredFields as input_object_required_fields
use Rattle.gql_scopes.specs.DirectivesAreDefined as directives_are_defined
use Rattle.gql_scopes.specs.DirectivesAreInValidLocations as directives_are_in_valid_locations
use Rattle.gql_scopes.specs.DirectivesAreUniquePerLocation as directives_are_unique_per_location
use Rattle.gql_scopes.specs.VariableUniqueness as variable_uniqueness
use Rattle.gql_scopes.specs.VariablesAreInputTypes as variables_are_input_types
use Rattle.gql_nodes.proofs.Closures.{at_in}
use Rattle.gql_scopes.proofs.Relations.{unused_same, spreads_same, impossible_same, cycle_told, cycle_tells, uses_told, uses_tells, misuses_told, misuses_tells, unused_told, unused_tells}

-- ---- a test that tells of the nodes of the list alone

module _ (test : At → Bool) (list : List At) (B : At → Type 0) (told : (x : At) → IsIn list x → test x ≡ true → B x) (tells : (x : At) → IsIn list x → B x → test x ≡ true) where
  turned : (r : Option Pos) → IsFound (λ i x. test x ≡ true) list r → IsFound (λ i x. B x) list r
  turned None held = λ i x at b. held i x at (tells x (at_in list i x at) b)
  turned (Some pos) f = record {
    place = f.place;
    node = f.node;
    first = record {
      stands = f.first.stands;
      before = λ i x lt at b. f.first.before i x lt at (tells x (at_in list i x at) b);
      broken = told f.node (at_in list f.place f.node f.first.stands) f.first.broken;
    };
    stands = f.stands;
  }

  pub found_here : (r : Option Pos) → r ≡ option_map (λ x. pos_of x.node) (find test list) → IsFound (λ i x. B x) list r
  found_here r e = turned r (found test (λ x. test x ≡ true) (λ x h. h) (λ x h. h) list r e)

module _ (schema : SchemaParts) (document : Document) (tables : TablesParts) (t : AreTables document (nodes schema document) tables) where
  pub found_rule : (which : ScopeRule) (r : Option Pos) → r ≡ option_map (λ x. pos_of x.node) (find (test_of schema document tables which) (nodes schema document))
      → IsFound (Breaks schema document which) (nodes schema document) r
  found_rule rule.UniqueFragmentNames r e = found (test_of schema document tables rule.UniqueFragmentNames) (λ x. IsTrue (unique_fragment_names.breaks x.node)) (λ x h. h) (λ x h. h) (nodes schema document) r e
  found_rule rule.FragmentSpreadTypeExistence r e = found (test_of schema document tables rule.FragmentSpreadTypeExistence) (λ x. IsTrue (fragment_spread_type_existence.breaks schema x.node)) (λ x h. h) (λ x h. h) (nodes schema document) r e
  found_rule rule.FragmentsOnCompositeTypes r e = found (test_of schema document tables rule.FragmentsOnCompositeTypes) (λ x. IsTrue (fragments_on_composite_types.breaks schema x.node)) (λ x h. h) (λ x h. h) (nodes schema document) r e
  found_rule rule.FragmentsMustBeUsed r e = found (test_of schema document tables rule.FragmentsMustBeUsed) (λ x. IsTrue (fragments_must_be_used.breaks (nodes schema document) x.node))
      (λ x h. sym (unused_same document (nodes schema document) tables t x.node) ∙ h) (λ x h. unused_same document (nodes schema document) tables t x.node ∙ h) (nodes schema document) r e
  found_rule rule.FragmentSpreadTargetDefined r e = found (test_of schema document tables rule.FragmentSpreadTargetDefined) (λ x. IsTrue (fragment_spread_target_defined.breaks document x.node))
      (λ x h. sym (spreads_same document (nodes schema document) tables t x.node) ∙ h) (λ x h. spreads_same document (nodes schema document) tables t x.node ∙ h) (nodes schema document) r e
  found_rule rule.FragmentSpreadsMustNotFormCycles r e = found_here (test_of schema document tables rule.FragmentSpreadsMustNotFormCycles) (nodes schema document) (λ x. cycles.Breaks document (nodes schema document) x)
      (λ x at h. cycle_told document (nodes schema document) tables t x at h) (λ x at h. cycle_tells document (nodes schema document) tables t x at h) r e
  found_rule rule.FragmentSpreadIsPossible r e = found (test_of schema document tables rule.FragmentSpreadIsPossible) (λ x. IsTrue (fragment_spread_is_possible.breaks schema document x.node))
      (λ x h. sym (impossible_same document (nodes schema document) tables t schema x.node) ∙ h) (λ x h. impossible_same document (nodes schema document) tables t schema x.node ∙ h) (nodes schema document) r e
  found_rule rule.ValuesOfCorrectType r e = found (test_of schema document tables rule.ValuesOfCorrectType) (λ x. IsTrue (values_of_correct_type.breaks schema x.node)) (λ x h. h) (λ x h. h) (nodes schema document) r e
  found_rule rule.InputObjectFieldNames r e = found (test_of schema document tables rule.InputObjectFieldNames) (λ x. IsTrue (input_object_field_names.breaks x.node)) (λ x h. h) (λ x h. h) (nodes schema document) r e
  found_rule rule.InputObjectFieldUniqueness r e = found (test_of schema document tables rule.InputObjectFieldUniqueness) (λ x. IsTrue (input_object_field_uniqueness.breaks x.node)) (λ x h. h) (λ x h. h) (nodes schema document) r e
  found_rule rule.InputObjectRequiredFields r e = found (test_of schema document tables rule.InputObjectRequiredFields) (λ x. IsTrue (input_object_required_fields.breaks schema x.node)) (λ x h. h) (λ x h. h) (nodes schema document) r e
  found_rule rule.DirectivesAreDefined r e = found (test_of schema document tables rule.DirectivesAreDefined) (λ x. IsTrue (directives_are_defined.breaks x.node)) (λ x h. h) (λ x h. h) (nodes schema document) r e
  found_rule rule.DirectivesAreInValidLocations r e = found (test_of schema document tables rule.DirectivesAreInValidLocations) (λ x. IsTrue (directives_are_in_valid_locations.breaks x.node)) (λ x h. h) (λ x h. h) (nodes schema document) r e
  found_rule rule.DirectivesAreUniquePerLocation r e = found (test_of schema document tables rule.DirectivesAreUniquePerLocation) (λ x. IsTrue (directives_are_unique_per_location.breaks x.node)) (λ x h. h) (λ x h. h) (nodes schema document) r e
  found_rule rule.VariableUniqueness r e = found (test_of schema document tables rule.VariableUniqueness) (λ x. IsTrue (variable_uniqueness.breaks x.node)) (λ x h. h) (λ x h. h) (nodes schema document) r e
  found_rule rule.VariablesAreInputTypes r e = found (test_of schema document tables rule.VariablesAreInputTypes) (λ x. IsTrue (variables_are_input_types.breaks schema x.node)) (λ x h. h) (λ x h. h) (nodes schema document) r e
  found_rule rule.AllVariableUsesDefined r e = found (test_of schema document tables rule.AllVariableUsesDefined) (λ x. defined.Breaks document (nodes schema document) x)
      (λ x h. uses_told document (nodes schema document) tables t x h) (λ x h. uses_tells document (nodes schema document) tables t x h) (nodes schema document) r e
  found_rule rule.AllVariablesUsed r e = found_here (test_of schema document tables rule.AllVariablesUsed) (nodes schema document) (λ x. used.Breaks document (nodes schema document) x)
      (λ x at h. unused_told document (nodes schema document) tables t x at h) (λ x at h. unused_tells document (nodes schema document) tables t x at h) r e
  found_rule rule.AllVariableUsagesAreAllowed r e = found (test_of schema document tables rule.AllVariableUsagesAreAllowed) (λ x. allowed.Breaks schema document (nodes schema document) x)
      (λ x h. misuses_told document (nodes schema document) tables t schema x h) (λ x h. misuses_tells document (nodes schema document) tables t schema x h) (nodes schema document) r e

-- ---- the rules in their order

-- the rules are numbered one after the other
abbrev pub NumberedFrom : ℕ → List ScopeRule → Type 0
NumberedFrom n [] = Unit {0}
NumberedFrom n (r ∷ rules) = (number r ≡ n) × NumberedFrom (n + 1) rules

pub in_order : NumberedFrom 11 all_rules
in_order = (refl, (refl, (refl, (refl, (refl, (refl, (refl, (refl, (refl, (refl, (refl, (refl, (refl, (refl, (refl, (refl, (refl, (refl, (refl, tt)))))))))))))))))))

pub each_rule : (r : ScopeRule) → IsIn all_rules r
each_rule rule.UniqueFragmentNames = inl refl
each_rule rule.FragmentSpreadTypeExistence = inr (inl refl)
each_rule rule.FragmentsOnCompositeTypes = inr (inr (inl refl))
each_rule rule.FragmentsMustBeUsed = inr (inr (inr (inl refl)))
each_rule rule.FragmentSpreadTargetDefined = inr (inr (inr (inr (inl refl))))
each_rule rule.FragmentSpreadsMustNotFormCycles = inr (inr (inr (inr (inr (inl refl)))))
each_rule rule.FragmentSpreadIsPossible = inr (inr (inr (inr (inr (inr (inl refl))))))
each_rule rule.ValuesOfCorrectType = inr (inr (inr (inr (inr (inr (inr (inl refl)))))))
each_rule rule.InputObjectFieldNames = inr (inr (inr (inr (inr (inr (inr (inr (inl refl))))))))
each_rule rule.InputObjectFieldUniqueness = inr (inr (inr (inr (inr (inr (inr (inr (inr (inl refl)))))))))
each_rule rule.InputObjectRequiredFields = inr (inr (inr (inr (inr (inr (inr (inr (inr (inr (inl refl))))))))))
each_rule rule.DirectivesAreDefined = inr (inr (inr (inr (inr (inr (inr (inr (inr (inr (inr (inl refl)))))))))))
each_rule rule.DirectivesAreInValidLocations = inr (inr (inr (inr (inr (inr (inr (inr (inr (inr (inr (inr (inl refl))))))))))))
each_rule rule.DirectivesAreUniquePerLocation = inr (inr (inr (inr (inr (inr (inr (inr (inr (inr (inr (inr (inr (inl refl)))))))))))))
each_rule rule.VariableUniqueness = inr (inr (inr (inr (inr (inr (inr (inr (inr (inr (inr (inr (inr (inr (inl refl))))))))))))))
each_rule rule.VariablesAreInputTypes = inr (inr (inr (inr (inr (inr (inr (inr (inr (inr (inr (inr (inr (inr (inr (inl refl)))))))))))))))
each_rule rule.AllVariableUsesDefined = inr (inr (inr (inr (inr (inr (inr (inr (inr (inr (inr (inr (inr (inr (inr (inr (inl refl))))))))))))))))
each_rule rule.AllVariablesUsed = inr (inr (inr (inr (inr (inr (inr (inr (inr (inr (inr (inr (inr (inr (inr (inr (inr (inl refl)))))))))))))))))
each_rule rule.AllVariableUsagesAreAllowed = inr (inr (inr (inr (inr (inr (inr (inr (inr (inr (inr (inr (inr (inr (inr (inr (inr (inr (inl refl))))))))))))))))))

at_least : (n : ℕ) (rules : List ScopeRule) (r : ScopeRule) → NumberedFrom n rules → IsIn rules r → n ≤ number r
at_least n [] r h at = absurd at
at_least n (y ∷ rules) r h (inl e) = let same : number r ≡ n = sym (ap number e) ∙ h.0 in omega arith
at_least n (y ∷ rules) r h (inr at) = let le = at_least (n + 1) rules r h.1 at in omega arith

-- a rule with a smaller number stands earlier
pub earlier : (n i : ℕ) (rules : List ScopeRule) (r other : ScopeRule) → NumberedFrom n rules → i < length rules → r ≡ get_or rules i r → IsIn rules other → number other < number r → IsIn (take i rules) other
earlier n i [] r other h lt is at less = absurd at
earlier n zero (y ∷ rules) r other h lt is at less =
    let same : number r ≡ n = ap number is ∙ h.0 in
    let le : n ≤ number other = at_least n (y ∷ rules) other h at in absurd (omega arith)
earlier n (suc i) (y ∷ rules) r other h lt is (inl e) less = inl e
earlier n (suc i) (y ∷ rules) r other h lt is (inr at) less = inr (earlier (n + 1) i rules r other h.1 (omega arith) is at less)
