-- Some operation passes a test.
use Rattle.std.proofs.Common.{◌≡◌, inl, inr, ℕ, zero, suc, ◌+◌, ◌<◌, Bool, true, List, [], ◌∷◌, Some, length, sym, subst, arith, true≢false}
use Rattle.std.specs.Prelude.{slice_get, option_and_then}
use Rattle.gql_reader.specs.declared.tree.Definition.{Definition}
use Rattle.gql_reader.specs.declared.tree.OperationDefinition.{OperationDefinition}
use Rattle.gql_nodes.specs.Uses.{as_operation}
use Rattle.gql_scopes.specs.Conditions.{if_some}
use Rattle.gql_scopes.specs.Tables.{any_operation}
use Rattle.gql_scopes.proofs.Membership.{either, left_so, right_so, passed, passes}

pub record Passing (n : ℕ) (test : ℕ → OperationDefinition → Bool) (definitions : List Definition) : Type 0 where
  pub place : ℕ
  pub within : place < length definitions
  pub operation : OperationDefinition
  pub stands : option_and_then as_operation (slice_get definitions place) ≡ Some operation
  pub passes : test (n + place) operation ≡ true

here : (n : ℕ) (test : ℕ → OperationDefinition → Bool) (d : Definition) (definitions : List Definition) → if_some (test n) (as_operation d) ≡ true → Passing n test (d ∷ definitions)
here n test d definitions h =
    let p = passed (test n) (as_operation d) h in
    let same : n ≡ n + 0 = omega arith in
    record { place = 0; within = omega arith; operation = p.item; stands = p.is; passes = subst (λ k. test k p.item ≡ true) same p.passes }

later : (n : ℕ) (test : ℕ → OperationDefinition → Bool) (d : Definition) (definitions : List Definition) → Passing (n + 1) test definitions → Passing n test (d ∷ definitions)
later n test d definitions p =
    let same : (n + 1) + p.place ≡ n + suc p.place = omega arith in
    let lt : p.place < length definitions = p.within in
    record { place = suc p.place; within = omega arith; operation = p.operation; stands = p.stands; passes = subst (λ k. test k p.operation ≡ true) same p.passes }

pub some_passes : (n : ℕ) (test : ℕ → OperationDefinition → Bool) (definitions : List Definition) → any_operation n test definitions ≡ true → Passing n test definitions
some_passes n test [] h = absurd (true≢false (sym h))
some_passes n test (d ∷ definitions) h =
    elim (either (if_some (test n) (as_operation d)) (any_operation (n + 1) test definitions) h) [
      | inl a ↦ here n test d definitions a
      | inr b ↦ later n test d definitions (some_passes (n + 1) test definitions b)
    ]

pub any_passes : (n : ℕ) (test : ℕ → OperationDefinition → Bool) (definitions : List Definition) (place : ℕ) (o : OperationDefinition)
    → option_and_then as_operation (slice_get definitions place) ≡ Some o → test (n + place) o ≡ true → any_operation n test definitions ≡ true
any_passes n test [] place o stands h = absurd (cc)
any_passes n test (d ∷ definitions) zero o stands h =
    let same : n + 0 ≡ n = omega arith in
    left_so (if_some (test n) (as_operation d)) (any_operation (n + 1) test definitions) (passes (test n) (as_operation d) o stands (subst (λ k. test k o ≡ true) same h))
any_passes n test (d ∷ definitions) (suc place) o stands h =
    let same : n + suc place ≡ (n + 1) + place = omega arith in
    right_so (if_some (test n) (as_operation d)) (any_operation (n + 1) test definitions) (any_passes (n + 1) test definitions place o stands (subst (λ k. test k o ≡ true) same h))
