-- The rules one after the other.
use Rattle.std.proofs.Common.{◌≡◌, ◌≢◌, ◌⊎◌, inl, inr, ℕ, zero, suc, ◌+◌, ◌<◌, ◌≤◌, Bool, true, false, Option, List, refl, sym, ap, subst, ◌∙◌, arith}
use Rattle.std.specs.Prelude.{IsTrue, find, option_map}
use Rattle.std.proofs.lemmas.Bool.Decides.{eqb_tells}
use Rattle.pg_base.specs.declared.pos.Pos.{Pos}
use Rattle.pg_base.specs.Schema.{SchemaParts}
use Rattle.gql_reader.specs.declared.tree.Document.{Document}
use Rattle.gql_nodes.specs.declared.fault.RuleFault.{RuleFault}
use Rattle.gql_nodes.specs.Nodes.{Node, At, nodes}
use Rattle.gql_nodes.specs.Rules.{Holds, IsFound}
use Rattle.gql_nodes.proofs.Firsts.{found, stands_at}
use Rattle.gql_validate.specs.declared.rule.ShapeRule.{ShapeRule}
use Rattle.gql_validate.specs.declared.rule.ShapeRule.TheVariants as rule
use Rattle.gql_validate.specs.FieldSelectionMerging as merging
use Rattle.gql_nodes.specs.declared.fault.RuleError.{RuleError}
use Rattle.gql_nodes.specs.declared.fault.RuleError.TheVariants as error
use Rattle.gql_validate.specs.Shapes.{IsFaultOf, IsShapeError, number, rule_at, test_of, Breaks, HasValidShape, FirstShapeFault, is_merging, IsFaultAt}

by_test : (test : Node → Bool) (xs : List At) (r : Option Pos) → r ≡ option_map stands_at (find (λ x. test x.node) xs) → IsFound (λ i x. IsTrue (test x.node)) xs r
by_test test xs r e = found (λ x. test x.node) (λ x. IsTrue (test x.node)) (λ x h. h) (λ x h. h) xs r e

pub searched : (schema : SchemaParts) (document : Document) (s : ShapeRule) (xs : List At) (r : Option Pos) → is_merging s ≡ false
    → r ≡ option_map stands_at (find (λ x. test_of schema document s x.node) xs) → IsFound (Breaks schema document s) xs r
searched schema document rule.ExecutableDefinitions xs r m e = by_test (test_of schema document rule.ExecutableDefinitions) xs r e
searched schema document rule.UniqueOperationNames xs r m e = by_test (test_of schema document rule.UniqueOperationNames) xs r e
searched schema document rule.LoneAnonymousOperation xs r m e = by_test (test_of schema document rule.LoneAnonymousOperation) xs r e
searched schema document rule.SingleRootField xs r m e = by_test (test_of schema document rule.SingleRootField) xs r e
searched schema document rule.FieldSelections xs r m e = by_test (test_of schema document rule.FieldSelections) xs r e
searched schema document rule.FieldSelectionMerging xs r m e = absurd (cc)
searched schema document rule.LeafFieldSelections xs r m e = by_test (test_of schema document rule.LeafFieldSelections) xs r e
searched schema document rule.ArgumentNames xs r m e = by_test (test_of schema document rule.ArgumentNames) xs r e
searched schema document rule.ArgumentUniqueness xs r m e = by_test (test_of schema document rule.ArgumentUniqueness) xs r e
searched schema document rule.RequiredArguments xs r m e = by_test (test_of schema document rule.RequiredArguments) xs r e

pub merged : (schema : SchemaParts) (document : Document) (s : ShapeRule) (xs : List At) (r : Option Pos) → is_merging s ≡ true → xs ≡ nodes schema document
    → IsFound (λ i x. merging.Breaks xs i) xs r → IsFound (Breaks schema document s) (nodes schema document) r
merged schema document rule.ExecutableDefinitions xs r m e h = absurd (cc)
merged schema document rule.UniqueOperationNames xs r m e h = absurd (cc)
merged schema document rule.LoneAnonymousOperation xs r m e h = absurd (cc)
merged schema document rule.SingleRootField xs r m e h = absurd (cc)
merged schema document rule.FieldSelections xs r m e h = absurd (cc)
merged schema document rule.FieldSelectionMerging xs r m e h = subst (λ l. IsFound (λ i x. merging.Breaks l i) l r) e h
merged schema document rule.LeafFieldSelections xs r m e h = absurd (cc)
merged schema document rule.ArgumentNames xs r m e h = absurd (cc)
merged schema document rule.ArgumentUniqueness xs r m e h = absurd (cc)
merged schema document rule.RequiredArguments xs r m e h = absurd (cc)

-- a rule by its number, and the number of a rule
pub rule_of : (s : ShapeRule) → rule_at (number s) ≡ s
rule_of rule.ExecutableDefinitions = refl
rule_of rule.UniqueOperationNames = refl
rule_of rule.LoneAnonymousOperation = refl
rule_of rule.SingleRootField = refl
rule_of rule.FieldSelections = refl
rule_of rule.FieldSelectionMerging = refl
rule_of rule.LeafFieldSelections = refl
rule_of rule.ArgumentNames = refl
rule_of rule.ArgumentUniqueness = refl
rule_of rule.RequiredArguments = refl

numbered : (s : ShapeRule) → (1 ≤ number s) × (number s < 11)
numbered rule.ExecutableDefinitions = (omega arith, omega arith)
numbered rule.UniqueOperationNames = (omega arith, omega arith)
numbered rule.LoneAnonymousOperation = (omega arith, omega arith)
numbered rule.SingleRootField = (omega arith, omega arith)
numbered rule.FieldSelections = (omega arith, omega arith)
numbered rule.FieldSelectionMerging = (omega arith, omega arith)
numbered rule.LeafFieldSelections = (omega arith, omega arith)
numbered rule.ArgumentNames = (omega arith, omega arith)
numbered rule.ArgumentUniqueness = (omega arith, omega arith)
numbered rule.RequiredArguments = (omega arith, omega arith)

small : (n : ℕ) → n < 11 → (n < 10) ⊎ (n ≡ 10)
small n lt = elim (eqb_tells n 10) [ inl e ↦ inr e.1 | inr d ↦ inl (let apart : n ≢ 10 = d.1 in omega arith) ]

-- the number of the rule with a number
pub number_of : (n : ℕ) → 1 ≤ n → n < 11 → number (rule_at n) ≡ n
number_of zero le lt = absurd (omega arith)
number_of (suc zero) le lt = refl
number_of (suc (suc zero)) le lt = refl
number_of (suc (suc (suc zero))) le lt = refl
number_of (suc (suc (suc (suc zero)))) le lt = refl
number_of (suc (suc (suc (suc (suc zero))))) le lt = refl
number_of (suc (suc (suc (suc (suc (suc zero)))))) le lt = refl
number_of (suc (suc (suc (suc (suc (suc (suc zero))))))) le lt = refl
number_of (suc (suc (suc (suc (suc (suc (suc (suc zero)))))))) le lt = refl
number_of (suc (suc (suc (suc (suc (suc (suc (suc (suc zero))))))))) le lt = refl
number_of (suc (suc (suc (suc (suc (suc (suc (suc (suc (suc zero)))))))))) le lt = refl
number_of (suc (suc (suc (suc (suc (suc (suc (suc (suc (suc (suc n))))))))))) le lt = absurd (omega arith)

module _ (schema : SchemaParts) (document : Document) where
  -- the rules before the number hold
  pub record HoldBefore (n : ℕ) : Type 0 where
    pub hold : (m : ℕ) → 1 ≤ m → m < n → Holds (Breaks schema document (rule_at m)) (nodes schema document)

  pub none_before : HoldBefore 1
  none_before = record { hold = λ m le lt. absurd (omega arith) }

  one_more_by : (n m : ℕ) → HoldBefore n → Holds (Breaks schema document (rule_at n)) (nodes schema document) → 1 ≤ m → (m < n) ⊎ (m ≡ n) → Holds (Breaks schema document (rule_at m)) (nodes schema document)
  one_more_by n m h k le (inl lt) = h.hold m le lt
  one_more_by n m h k le (inr e) = subst (λ j. Holds (Breaks schema document (rule_at j)) (nodes schema document)) (sym e) k

  cases : (n m : ℕ) → m < n + 1 → (m < n) ⊎ (m ≡ n)
  cases n m lt = elim (eqb_tells m n) [ inl e ↦ inr e.1 | inr d ↦ inl (let apart : m ≢ n = d.1 in omega arith) ]

  pub one_more : (n : ℕ) → HoldBefore n → Holds (Breaks schema document (rule_at n)) (nodes schema document) → HoldBefore (n + 1)
  one_more n h k = record { hold = λ m le lt. one_more_by n m h k le (cases n m lt) }

  rule_holds : (n : ℕ) → HoldBefore n → (s : ShapeRule) → number s < n → Holds (Breaks schema document s) (nodes schema document)
  rule_holds n h s lt = subst (λ r. Holds (Breaks schema document r) (nodes schema document)) (rule_of s) (h.hold (number s) (numbered s).0 lt)

  pub all_hold : (n : ℕ) → 11 ≤ n → HoldBefore n → HasValidShape schema document
  all_hold n le h s = let lt : number s < 11 = (numbered s).1 in rule_holds n h s (omega arith)

  pub least : (n : ℕ) (fault : RuleFault) → number (rule_at n) ≡ n → HoldBefore n → IsFaultAt schema document n fault → FirstShapeFault schema document fault
  least n fault is h f = record {
    rule = rule_at n;
    before = λ other lt. rule_holds n h other (subst (λ k. number other < k) is lt);
    pos = f.pos;
    first = f.first;
    made = f.made ∙ ap (λ k. record { rule = k; pos = f.pos }) (sym is);
  }

  pub refused : (n : ℕ) (e : RuleError) → number (rule_at n) ≡ n → HoldBefore n → IsFaultOf schema document n e → IsShapeError schema document e
  refused n (error.Fault fault) is h f = least n fault is h f
  refused n error.Memory is h f = tt
