-- The numbers below n: how many they are, and where one stands among them.
use Rattle.std.proofs.Common.{◌≡◌, ℕ, zero, suc, ◌+◌, ◌<◌, ◌≤◌, Bool, true, false, cond, [], ◌∷◌, length, Some, None, refl, sym, ap, ◌∙◌, arith, length-append}
use Rattle.std.specs.Prelude.{◌==◌, nat_lt, position}
use Rattle.std.specs.List.{position_or_len}
use Rattle.std.proofs.lemmas.Bool.Decides.{nat_tests}
use Rattle.std.proofs.lemmas.List.Folds.{position_or_len_push}
use Rattle.ddl_reader.specs.Compact.{below}

pub length-below : (n : ℕ) → length (below n) ≡ n
length-below zero = refl
length-below (suc n) = let before = length-below n in let more = length-append (below n) (n ∷ []) in omega (arith, before, more)

step : (n long at place : ℕ) → long ≡ n → at ≡ cond (nat_lt place n) place n → cond (at == long) (long + cond (n == place) 0 1) at ≡ cond (nat_lt place (suc n)) place (suc n)
step n long at place same is = by (nat_lt place n) refl (n == place) refl is
  where
    by : (b : Bool) → nat_lt place n ≡ b → (s : Bool) → (n == place) ≡ s → at ≡ cond b place n → cond (at == long) (long + cond s 0 1) at ≡ cond (nat_lt place (suc n)) place (suc n)
    by true t s e i =
        let miss : (at == long) ≡ false = grind (arith, nat_tests) in
        let hit : nat_lt place (suc n) ≡ true = grind (arith, nat_tests) in
        ap (λ (c : Bool). cond c (long + cond s 0 1) at) miss ∙ i ∙ sym (ap (λ (c : Bool). cond c place (suc n)) hit)
    by false t true e i =
        let end : (at == long) ≡ true = grind (arith, nat_tests) in
        let hit : nat_lt place (suc n) ≡ true = grind (arith, nat_tests) in
        let here : long + 0 ≡ place = grind (arith, nat_tests) in
        ap (λ (c : Bool). cond c (long + 0) at) end ∙ here ∙ sym (ap (λ (c : Bool). cond c place (suc n)) hit)
    by false t false e i =
        let end : (at == long) ≡ true = grind (arith, nat_tests) in
        let miss : nat_lt place (suc n) ≡ false = grind (arith, nat_tests) in
        let past : long + 1 ≡ suc n = omega (arith, same) in
        ap (λ (c : Bool). cond c (long + 1) at) end ∙ past ∙ sym (ap (λ (c : Bool). cond c place (suc n)) miss)

place_or_len : (place n : ℕ) → position_or_len (λ column. column == place) (below n) ≡ cond (nat_lt place n) place n
place_or_len place zero = grind (arith, nat_tests)
place_or_len place (suc n) =
    position_or_len_push (λ column. column == place) (below n) n
    ∙ step n (length (below n)) (position_or_len (λ column. column == place) (below n)) place (length-below n) (place_or_len place n)

module _ (place n : ℕ) where
  abbrev at : ℕ
  at = position_or_len (λ column. column == place) (below n)

  pub place_stands : place < n → Some place ≡ position (λ column. column == place) (below n)
  place_stands lt =
      let hit : nat_lt place n ≡ true = grind (arith, nat_tests) in
      let here : at ≡ place = place_or_len place n ∙ ap (λ (c : Bool). cond c place n) hit in
      let long = length-below n in
      let within : nat_lt at (length (below n)) ≡ true = grind (arith, nat_tests) in
      ap (λ (i : ℕ). Some i) (sym here) ∙ sym (ap (λ (c : Bool). cond c (Some at) None) within)

  pub place_misses : n ≤ place → None ≡ position (λ column. column == place) (below n)
  place_misses le =
      let miss : nat_lt place n ≡ false = grind (arith, nat_tests) in
      let here : at ≡ n = place_or_len place n ∙ ap (λ (c : Bool). cond c place n) miss in
      let long = length-below n in
      let within : nat_lt at (length (below n)) ≡ false = grind (arith, nat_tests) in
      sym (ap (λ (c : Bool). cond c (Some at) None) within)
