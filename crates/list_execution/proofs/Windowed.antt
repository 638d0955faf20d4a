-- The rows between two places, one after the other.
use Rattle.std.proofs.Common.{◌≡◌, ℕ, ◌+◌, ◌-◌, ◌<◌, suc, List, [], ◌∷◌, ◌++◌, length, drop, take, get_or, map, sym, ap, ◌∙◌, append_assoc, arith}
use Rattle.std.specs.Prelude.{Some, slice_get, option_map}
use Rattle.std.proofs.lemmas.Option.{slice_get_within, get_or_from_slice_get, slice_get-map}
use Rattle.pg_base.proofs.ListSteps.{drop-item}

take_front : {A : Type 0} (n m : ℕ) (x : A) (xs : List A) → n ≡ suc m → take n (x ∷ xs) ≡ x ∷ take m xs
take_front n m x xs e = ap (λ k. take k (x ∷ xs)) e

module _ {A : Type 0} (done_ xs all : List A) (i upto : ℕ) (so : done_ ++ take (upto - i) (drop i xs) ≡ all) where
  between_goes : (x : A) → i < upto → i < length xs → x ≡ get_or xs i x → (done_ ++ x ∷ []) ++ take (upto - (i + 1)) (drop (i + 1) xs) ≡ all
  between_goes x below within is =
      append_assoc done_ (x ∷ []) (take (upto - (i + 1)) (drop (i + 1) xs))
      ∙ ap (λ l. done_ ++ l) (sym (ap (take (upto - i)) (drop-item xs i x within is) ∙ take_front (upto - i) (upto - (i + 1)) x (drop (i + 1) xs) (omega (arith, below))))
      ∙ so

-- ---- the same of rows that are borrowed

module _ {X A : Type 0} (rows : List X) (v : X → A) (made all : List A) (i upto : ℕ) (so : made ++ take (upto - i) (drop i (map v rows)) ≡ all) where
  pub copied_goes : (r : X) (copy : A) (new : List A) → i < upto → slice_get rows i ≡ Some r → copy ≡ v r → new ≡ made ++ copy ∷ []
      → new ++ take (upto - (i + 1)) (drop (i + 1) (map v rows)) ≡ all
  copied_goes r copy new below e same push =
      let at : slice_get (map v rows) i ≡ Some (v r) = slice_get-map v rows i ∙ ap (option_map v) e in
      ap (λ l. l ++ take (upto - (i + 1)) (drop (i + 1) (map v rows))) (push ∙ ap (λ x. made ++ x ∷ []) same)
      ∙ between_goes made (map v rows) all i upto so (v r) below (slice_get_within (map v rows) i (v r) at) (sym (get_or_from_slice_get (map v rows) i (v r) (v r) at))
