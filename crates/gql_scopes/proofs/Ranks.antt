-- Ranks that rise along each step leave no cycle.
use Rattle.std.proofs.Common.{◌≡◌, inl, inr, ℕ, zero, suc, ◌+◌, ◌<◌, ◌≤◌, true, nat_lt, List, [], ◌∷◌, ap, subst, arith}
use Rattle.std.specs.Cmp.{first_so, second_so}
use Rattle.std.proofs.lemmas.Bool.Decides.{nat_tests}
use Rattle.gql_nodes.specs.Reached.{IsIn, ReachedBy, starts, goes_on}
use Rattle.gql_scopes.specs.Ranks.{rank, rises, rises_from, HasNoCycle}
use Rattle.gql_scopes.specs.Tables.{row}

module _ (next : ℕ → List ℕ) (ranks : List ℕ) (rise : (m n : ℕ) → IsIn (next m) n → rank ranks m < rank ranks n) where
  -- what is reached has no lesser rank
  at_least : (first n : ℕ) → ReachedBy (first ∷ []) next n → rank ranks first ≤ rank ranks n
  at_least first n (starts (inl e)) = let same : rank ranks first ≡ rank ranks n = ap (rank ranks) e in omega arith
  at_least first n (starts (inr h)) = absurd h
  at_least first n (goes_on {m = m} r h) =
      let le : rank ranks first ≤ rank ranks m = at_least first m r in
      let lt : rank ranks m < rank ranks n = rise m n h in omega arith

  pub never_back : HasNoCycle next
  never_back m n h r =
      let lt : rank ranks m < rank ranks n = rise m n h in
      let le : rank ranks n ≤ rank ranks m = at_least n m r in absurd (omega arith)

less : (m n : ℕ) → nat_lt m n ≡ true → m < n
less m n e = grind (arith, nat_tests, e)

rises_at : (ranks : List ℕ) (place : ℕ) (targets : List ℕ) (target : ℕ) → rises ranks place targets ≡ true → IsIn targets target → rank ranks place < rank ranks target
rises_at ranks place [] target h at = absurd at
rises_at ranks place (y ∷ ys) target h (inl e) =
    subst (λ n. rank ranks place < rank ranks n) e (less (rank ranks place) (rank ranks y) (first_so (nat_lt (rank ranks place) (rank ranks y)) (rises ranks place ys) h))
rises_at ranks place (y ∷ ys) target h (inr at) = rises_at ranks place ys target (second_so (nat_lt (rank ranks place) (rank ranks y)) (rises ranks place ys) h) at

row_rises : (ranks : List ℕ) (n : ℕ) (rows : List (List ℕ)) (m target : ℕ) → rises_from ranks n rows ≡ true → IsIn (row rows m) target → rank ranks (n + m) < rank ranks target
row_rises ranks n [] m target h at = absurd at
row_rises ranks n (targets ∷ rows) zero target h at =
    let same : n ≡ n + 0 = omega arith in
    subst (λ k. rank ranks k < rank ranks target) same (rises_at ranks n targets target (first_so (rises ranks n targets) (rises_from ranks (n + 1) rows) h) at)
row_rises ranks n (targets ∷ rows) (suc m) target h at =
    let same : (n + 1) + m ≡ n + suc m = omega arith in
    subst (λ k. rank ranks k < rank ranks target) same (row_rises ranks (n + 1) rows m target (second_so (rises ranks n targets) (rises_from ranks (n + 1) rows) h) at)

-- rows of which the ranks rise have no cycle
pub ranked : (ranks : List ℕ) (rows : List (List ℕ)) → rises_from ranks 0 rows ≡ true → HasNoCycle (λ n. row rows n)
ranked ranks rows h = never_back (λ n. row rows n) ranks (λ m n at.
    let same : 0 + m ≡ m = omega arith in subst (λ k. rank ranks k < rank ranks n) same (row_rises ranks 0 rows m n h at))
