-- The items that stand before a place that is looked for.
use Rattle.std.proofs.Common.{◌≡◌, ◌∙◌, ap, sym, refl, subst, ℕ, ◌+◌, ◌-◌, ◌<◌, ◌≤◌, Bool, true, false, List, [], ◌∷◌, ◌++◌, length, get_or, take, drop, inl, inr, arith}
use Rattle.std.specs.List.{prefix_len}
use Rattle.std.proofs.lemmas.List.Sums.{prefix_len_passes, prefix_len_stops, prefix_len-le-length}
use Rattle.std.proofs.lemmas.List.Folds.{prefix_len-append}
use Rattle.std.proofs.lemmas.List.{get_or-append-add, get_or_append_left, length-append}
use Rattle.std.proofs.lemmas.Bool.{false≢true, cases_lt}
use Rattle.std.proofs.lemmas.Bool.Decides.{nat_tests}
use Rattle.shared_list.specs.Lists.{Splits}

-- an item that passes stands before the place
pub passes_before : {X : Type 0} (p : X → Bool) (xs : List X) (j : ℕ) (d : X) → Splits p xs → j < length xs → p (get_or xs j d) ≡ true → j < prefix_len p xs
passes_before p xs j d splits within passes =
    elim (cases_lt j (prefix_len p xs)) [ inl h ↦ h | inr h ↦ absurd (false≢true (sym (prefix_len_stops p xs d (omega arith)) ∙ splits.lower (prefix_len p xs) j d h within passes)) ]

-- one that doesn't stands at it or after
pub fails_after : {X : Type 0} (p : X → Bool) (xs : List X) (j : ℕ) (d : X) → p (get_or xs j d) ≡ false → prefix_len p xs ≤ j
fails_after p xs j d fails =
    elim (cases_lt j (prefix_len p xs)) [ inl h ↦ absurd (false≢true (sym fails ∙ prefix_len_passes p xs j d h)) | inr h ↦ h ]

-- an item of the middle piece
pub get_middle : {X : Type 0} (a x b : List X) (j : ℕ) (d : X) → j < length x → get_or (a ++ (x ++ b)) (length a + j) d ≡ get_or x j d
get_middle a x b j d within = get_or-append-add a (x ++ b) j d ∙ get_or_append_left x b d j within

pub splits_middle : {X : Type 0} (p : X → Bool) (a x b : List X) → Splits p (a ++ (x ++ b)) → Splits p x
splits_middle p a x b splits = record {
  lower = λ i j d le within passes.
      let all : length (a ++ (x ++ b)) ≡ length a + (length x + length b) = length-append a (x ++ b) ∙ ap (λ n. length a + n) (length-append x b) in
      sym (ap p (get_middle a x b i d (omega arith))) ∙ splits.lower (length a + i) (length a + j) d (omega arith) (omega arith) (ap p (get_middle a x b j d within) ∙ passes);
}

-- where the front reaches the second piece
front_second : {X : Type 0} (p : X → Bool) (a b : List X) → length a ≤ prefix_len p (a ++ b) → prefix_len p (a ++ b) ≡ length a + prefix_len p b
front_second p a b more =
    let e = prefix_len-append p a b in
    let l = prefix_len-le-length p a in
    grind (arith, nat_tests)

-- where it doesn't go beyond the first piece
front_first : {X : Type 0} (p : X → Bool) (a b : List X) → prefix_len p (a ++ b) ≤ length a → prefix_len p (a ++ b) ≡ prefix_len p a
front_first p a b less =
    let e = prefix_len-append p a b in
    grind (arith, nat_tests)

pub front_middle : {X : Type 0} (p : X → Bool) (a x b : List X) → length a ≤ prefix_len p (a ++ (x ++ b)) → prefix_len p (a ++ (x ++ b)) ≤ length a + length x → prefix_len p (a ++ (x ++ b)) ≡ length a + prefix_len p x
front_middle p a x b more less =
    let e = front_second p a (x ++ b) more in
    e ∙ ap (λ n. length a + n) (front_first p x b (omega arith))

-- the same as a search meets it
pub passes_at : {X : Type 0} (p : X → Bool) (xs : List X) (j : ℕ) (item x : X) → Splits p xs → j < length xs → item ≡ get_or xs j item → x ≡ item → p x ≡ true → j < prefix_len p xs
passes_at p xs j item x splits within is same passes = passes_before p xs j item splits within (ap p (sym is ∙ sym same) ∙ passes)

pub fails_at : {X : Type 0} (p : X → Bool) (xs : List X) (j : ℕ) (item x : X) → item ≡ get_or xs j item → x ≡ item → p x ≡ false → prefix_len p xs ≤ j
fails_at p xs j item x is same fails = fails_after p xs j item (ap p (sym is ∙ sym same) ∙ fails)
