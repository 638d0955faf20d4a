-- A document is valid or has one first fault, and never both.
use Rattle.std.proofs.Common.{◌≡◌, ◌⊎◌, inl, inr, ℕ, ◌<◌, ◌-◌, List, Option, Some, slice_get, sym, ap, subst, ◌∙◌, refl, arith}
use Rattle.std.proofs.lemmas.Bool.{cases_order}
use Rattle.pg_base.specs.Schema.{SchemaParts}
use Rattle.pg_base.specs.declared.pos.Pos.{Pos}
use Rattle.gql_reader.specs.declared.tree.Document.{Document}
use Rattle.gql_nodes.specs.declared.fault.RuleFault.{RuleFault}
use Rattle.gql_nodes.specs.Nodes.{At, nodes, pos_of}
use Rattle.gql_nodes.specs.Rules.{StandsFirst}
use Rattle.gql_validate.specs.declared.rule.ShapeRule.{ShapeRule}
use Rattle.gql_validate.specs.declared.rule.ShapeRule.TheVariants as shape
use Rattle.gql_validate.specs.Shapes as shapes
use Rattle.gql_scopes.specs.declared.rule.ScopeRule.{ScopeRule}
use Rattle.gql_scopes.specs.declared.rule.ScopeRule.TheVariants as scope
use Rattle.gql_scopes.specs.Scopes as scopes
use Rattle.gql_rules.specs.Rules.{Rule, on_shapes, on_scopes, number, Breaks, IsValidDocument, FirstRuleFault}
use Rattle.gql_rules.proofs.Together.{at_most, at_least}

-- ---- a rule by its number

shape_by : (r : ShapeRule) → shapes.rule_at (shapes.number r) ≡ r
shape_by shape.ExecutableDefinitions = refl
shape_by shape.UniqueOperationNames = refl
shape_by shape.LoneAnonymousOperation = refl
shape_by shape.SingleRootField = refl
shape_by shape.FieldSelections = refl
shape_by shape.FieldSelectionMerging = refl
shape_by shape.LeafFieldSelections = refl
shape_by shape.ArgumentNames = refl
shape_by shape.ArgumentUniqueness = refl
shape_by shape.RequiredArguments = refl

abbrev scope_at : ℕ → Option ScopeRule
scope_at n = slice_get scopes.all_rules (n - 11)

scope_by : (r : ScopeRule) → scope_at (scopes.number r) ≡ Some r
scope_by scope.UniqueFragmentNames = refl
scope_by scope.FragmentSpreadTypeExistence = refl
scope_by scope.FragmentsOnCompositeTypes = refl
scope_by scope.FragmentsMustBeUsed = refl
scope_by scope.FragmentSpreadTargetDefined = refl
scope_by scope.FragmentSpreadsMustNotFormCycles = refl
scope_by scope.FragmentSpreadIsPossible = refl
scope_by scope.ValuesOfCorrectType = refl
scope_by scope.InputObjectFieldNames = refl
scope_by scope.InputObjectFieldUniqueness = refl
scope_by scope.InputObjectRequiredFields = refl
scope_by scope.DirectivesAreDefined = refl
scope_by scope.DirectivesAreInValidLocations = refl
scope_by scope.DirectivesAreUniquePerLocation = refl
scope_by scope.VariableUniqueness = refl
scope_by scope.VariablesAreInputTypes = refl
scope_by scope.AllVariableUsesDefined = refl
scope_by scope.AllVariablesUsed = refl
scope_by scope.AllVariableUsagesAreAllowed = refl

some_rule : (r s : ScopeRule) → Some r ≡ Some s → r ≡ s
some_rule r s e = cc

one_rule : (r s : Rule) → number r ≡ number s → r ≡ s
one_rule (on_shapes r) (on_shapes s) e = ap (λ x. on_shapes x) (sym (shape_by r) ∙ ap shapes.rule_at e ∙ shape_by s)
one_rule (on_shapes r) (on_scopes s) e = let most = at_most r in let least = at_least s in absurd (omega arith)
one_rule (on_scopes r) (on_shapes s) e = let most = at_most s in let least = at_least r in absurd (omega arith)
one_rule (on_scopes r) (on_scopes s) e = ap (λ x. on_scopes x) (some_rule r s (sym (scope_by r) ∙ ap scope_at e ∙ scope_by s))

-- ---- the first node

some_at : (x y : At) → Some x ≡ Some y → x ≡ y
some_at x y e = cc

module _ (B : ℕ → At → Type 0) (all : List At) where
  first_once : (a b : Pos) (f : StandsFirst B all a) (g : StandsFirst B all b) → (f.place ≡ g.place) ⊎ ((f.place < g.place) ⊎ (g.place < f.place)) → a ≡ b
  first_once a b f g (inr (inl less)) = absurd (g.first.before f.place f.node less f.first.stands f.first.broken)
  first_once a b f g (inr (inr less)) = absurd (f.first.before g.place g.node less g.first.stands g.first.broken)
  first_once a b f g (inl e) =
      let same = some_at f.node g.node (sym f.first.stands ∙ ap (λ (i : ℕ). slice_get all i) e ∙ g.first.stands) in
      f.stands ∙ ap (λ (x : At). pos_of x.node) same ∙ sym g.stands

  one_first : (a b : Pos) → StandsFirst B all a → StandsFirst B all b → a ≡ b
  one_first a b f g = first_once a b f g (cases_order f.place g.place)

-- ---- documents

pub never_valid_and_fault : (schema : SchemaParts) (document : Document) (fault : RuleFault) → IsValidDocument schema document → FirstRuleFault schema document fault → ⊥
never_valid_and_fault schema document fault v f = v f.rule f.first.place f.first.node f.first.first.stands f.first.first.broken

abbrev at_fault : ℕ → Pos → RuleFault
at_fault rule pos = record { rule = rule; pos = pos }

one_by : (schema : SchemaParts) (document : Document) (fault other : RuleFault) (f : FirstRuleFault schema document fault) (g : FirstRuleFault schema document other)
    → (number f.rule ≡ number g.rule) ⊎ ((number f.rule < number g.rule) ⊎ (number g.rule < number f.rule)) → fault ≡ other
one_by schema document fault other f g (inr (inl less)) = absurd (g.before f.rule less f.first.place f.first.node f.first.first.stands f.first.first.broken)
one_by schema document fault other f g (inr (inr less)) = absurd (f.before g.rule less g.first.place g.first.node g.first.first.stands g.first.first.broken)
one_by schema document fault other f g (inl e) =
    let same = one_rule f.rule g.rule e in
    let stands = subst (λ (r : Rule). StandsFirst (Breaks schema document r) (nodes schema document) f.pos) same f.first in
    let here = one_first (Breaks schema document g.rule) (nodes schema document) f.pos g.pos stands g.first in
    f.made ∙ ap (λ (n : ℕ). at_fault n f.pos) e ∙ ap (λ (p : Pos). at_fault (number g.rule) p) here ∙ sym g.made

pub one_fault : (schema : SchemaParts) (document : Document) (fault other : RuleFault) → FirstRuleFault schema document fault → FirstRuleFault schema document other → fault ≡ other
one_fault schema document fault other f g = one_by schema document fault other f g (cases_order (number f.rule) (number g.rule))
