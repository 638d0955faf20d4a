-- What the jobs of the tests answer and do, and that their bodies tell the last entry.
use Rattle.std.specs.Prelude.{◌≡◌, ℕ, ◌<◌, List, [], ◌∷◌, ◌++◌, length, Result, MatchResult, Some, ⊤}
use Rattle.atomic_table.specs.Seated.{TableId}
use Rattle.turn_cell.specs.Seats.{SeatFacts}
use Rattle.std.specs.List.{sum}
use Rattle.std.proofs.Common.{sym, ◌∙◌, ap, refl, arith}
use Rattle.std.proofs.lemmas.List.Sums.{sum_by-append}

-- an append answers the number's place, or there is no room
abbrev pub appends : {X : Type 0} → ℕ → ℕ → List ℕ → Result ℕ X → List ℕ → Type 0
appends value limit before out after = MatchResult out
    (λ k. (k ≡ length before) × (length before < limit) × (after ≡ before ++ value ∷ []))
    (λ _. after ≡ before)

-- an addition answers the new sum, or it doesn't fit
abbrev pub adds_up : {X : Type 0} → ℕ → List ℕ → Result ℕ X → List ℕ → Type 0
adds_up amount before out after = MatchResult out
    (λ n. (n ≡ sum after) × (after ≡ before ++ amount ∷ []))
    (λ _. after ≡ before)

pub last_of : List ℕ → ℕ → ℕ
last_of [] d = d
last_of (x ∷ xs) d = last_of xs x

pub last_snoc : (l : List ℕ) (x d : ℕ) → last_of (l ++ x ∷ []) d ≡ x
unfolding last_of
last_snoc [] x d = refl
last_snoc (y ∷ l) x d = last_snoc l x y

pub last_same : (b l : List ℕ) (x y : ℕ) → b ≡ l ++ x ∷ [] → b ≡ l ++ y ∷ [] → x ≡ y
unfolding last_of
last_same b l x y p q = sym (last_snoc l x 0) ∙ (ap (λ (m : List ℕ). last_of m 0) (sym p ∙ q) ∙ last_snoc l y 0)

pub last_added : (n : ℕ) (l : List ℕ) (x y : ℕ) → n ≡ sum (l ++ x ∷ []) → n ≡ sum (l ++ y ∷ []) → x ≡ y
last_added n l x y p q =
    let a = sum_by-append (λ (k : ℕ). k) l (x ∷ []) in
    let b = sum_by-append (λ (k : ℕ). k) l (y ∷ []) in omega arith

-- a seat of this cell into which none was joined
abbrev pub IsAt : TableId → SeatFacts ℕ ⊤ → Type 0
IsAt cell s = (s.cell ≡ cell) × (s.fixed ≡ Some tt) × (s.joined ≡ [])

-- the same of a seat at a list with this limit
abbrev pub IsIn : TableId → ℕ → SeatFacts ℕ ℕ → Type 0
IsIn cell limit s = (s.cell ≡ cell) × (s.fixed ≡ Some limit) × (s.joined ≡ [])
