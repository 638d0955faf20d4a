-- The longest run of bytes that pass a test, and what stands after it.
use Rattle.std.proofs.Common.{◌≡◌, ℕ, zero, suc, Bool, true, false, cond, List, [], ◌∷◌, ◌++◌, length, take, drop, take_while, refl, sym, ap, subst, ◌∙◌}
use Rattle.std.proofs.lemmas.List.Sums.{take_while-cons}
use Rattle.std.specs.Prelude.{⊤}
use Rattle.pg_base.specs.Lists.{Each}
use Rattle.cursor_text.specs.Reader.{past}

abbrev pub Pass : (ℕ → Bool) → List ℕ → Type 0
Pass test bytes = Each (λ b. test b ≡ true) bytes

-- the first byte doesn't pass
abbrev pub StopsAt : (ℕ → Bool) → List ℕ → Type 0
StopsAt test [] = ⊤
StopsAt test (b ∷ bytes) = test b ≡ false

take-own : {A : Type 0} (n : ℕ) (xs : List A) → take (length (take n xs)) xs ≡ take n xs
take-own zero xs = refl
take-own (suc n) [] = refl
take-own (suc n) (x ∷ xs) = ap (λ l. x ∷ l) (take-own n xs)

-- the run is what `split_at` gives at its length
pub take_prefix : (test : ℕ → Bool) (bytes : List ℕ) → take (length (take_while test bytes)) bytes ≡ take_while test bytes
take_prefix test bytes = take-own _ bytes

module _ (test : ℕ → Bool) where
  pub run-true : (b : ℕ) (z : List ℕ) → test b ≡ true → take_while test (b ∷ z) ≡ b ∷ take_while test z
  run-true b z e = take_while-cons test b z ∙ ap (λ (v : Bool). cond v (b ∷ take_while test z) []) e

  pub run-false : (b : ℕ) (z : List ℕ) → test b ≡ false → take_while test (b ∷ z) ≡ []
  run-false b z e = take_while-cons test b z ∙ ap (λ (v : Bool). cond v (b ∷ take_while test z) []) e

  pub past-true : (b : ℕ) (z : List ℕ) → test b ≡ true → past test (b ∷ z) ≡ past test z
  past-true b z e = ap (λ (l : List ℕ). drop (length l) (b ∷ z)) (run-true b z e)

  pub past-false : (b : ℕ) (z : List ℕ) → test b ≡ false → past test (b ∷ z) ≡ b ∷ z
  past-false b z e = ap (λ (l : List ℕ). drop (length l) (b ∷ z)) (run-false b z e)

  pub run-passes : (z : List ℕ) → Pass test (take_while test z)
  run-passes [] = tt
  run-passes (b ∷ z) = go (run-passes z) (test b) refl
    where
      go : Pass test (take_while test z) → (v : Bool) → test b ≡ v → Pass test (take_while test (b ∷ z))
      go later true e = subst (λ (l : List ℕ). Pass test l) (sym (run-true b z e)) (e, later)
      go later false e = subst (λ (l : List ℕ). Pass test l) (sym (run-false b z e)) tt

  pub run-stops : (z : List ℕ) → StopsAt test (past test z)
  run-stops [] = tt
  run-stops (b ∷ z) = go (run-stops z) (test b) refl
    where
      go : StopsAt test (past test z) → (v : Bool) → test b ≡ v → StopsAt test (past test (b ∷ z))
      go later true e = subst (λ (l : List ℕ). StopsAt test l) (sym (past-true b z e)) later
      go later false e = subst (λ (l : List ℕ). StopsAt test l) (sym (past-false b z e)) e

  pub run-whole : (z : List ℕ) → z ≡ take_while test z ++ past test z
  run-whole [] = refl
  run-whole (b ∷ z) = go (run-whole z) (test b) refl
    where
      go : z ≡ take_while test z ++ past test z → (v : Bool) → test b ≡ v → b ∷ z ≡ take_while test (b ∷ z) ++ past test (b ∷ z)
      go later true e = ap (λ (l : List ℕ). b ∷ l) later ∙ ap (λ (l : List ℕ). l ++ past test z) (sym (run-true b z e)) ∙ ap (λ (l : List ℕ). take_while test (b ∷ z) ++ l) (sym (past-true b z e))
      go later false e = ap (λ (l : List ℕ). l ++ (b ∷ z)) (sym (run-false b z e)) ∙ ap (λ (l : List ℕ). take_while test (b ∷ z) ++ l) (sym (past-false b z e))

  -- a run that is stopped is the longest one
  pub run-is : (w rest : List ℕ) → Pass test w → StopsAt test rest → take_while test (w ++ rest) ≡ w
  run-is [] [] p s = refl
  run-is [] (b ∷ rest) p s = run-false b rest s
  run-is (b ∷ w) rest p s = run-true b (w ++ rest) p.0 ∙ ap (λ (l : List ℕ). b ∷ l) (run-is w rest p.1 s)

  pub past-is : (w rest : List ℕ) → Pass test w → StopsAt test rest → past test (w ++ rest) ≡ rest
  past-is [] [] p s = refl
  past-is [] (b ∷ rest) p s = past-false b rest s
  past-is (b ∷ w) rest p s = past-true b (w ++ rest) p.0 ∙ past-is w rest p.1 s
