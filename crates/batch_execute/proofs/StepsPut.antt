-- The steps that places show, entry by entry.
use Rattle.std.proofs.Common.{◌≡◌, ℕ, zero, suc, ◌+◌, ◌-◌, ◌<◌, ◌≤◌, List, [], ◌∷◌, drop, length, Option, Some, Bool, true, false, cond, refl, sym, ap, ◌∙◌, arith, eqb-true, eq-eqb}
use Rattle.std.specs.Prelude.{◌==◌, slice_set, slice_index_or}
use Rattle.pg_base.proofs.ListSteps.{drop-item}
use Rattle.place_tree.specs.declared.place.Place.{Place}
use Rattle.plan_steps.specs.declared.plan.OutPlace.{OutPlace}
use Rattle.plan_steps.specs.Named.{step_for}
use Rattle.batch_execute.specs.Roles.{steps_from, steps_of}

not_less : (o i : ℕ) → o < i → (o == i) ≡ false
not_less o i lt = by (o == i) refl where
  by : (b : Bool) → (o == i) ≡ b → b ≡ false
  by true e = absurd (let same = eqb-true o i e in omega (arith, lt, same))
  by false e = refl

-- an entry for an earlier place changes nothing
kept_from : (o : OutPlace) (out : List OutPlace) (n : ℕ) (places : List Place) → o.place < n → steps_from (o ∷ out) n places ≡ steps_from out n places
kept_from o out n [] lt = refl
kept_from o out n (p ∷ places) lt =
    ap (λ b. cond b (Some o.step) (step_for out n) ∷ steps_from (o ∷ out) (n + 1) places) (not_less o.place n lt)
    ∙ ap (λ l. step_for out n ∷ l) (kept_from o out (n + 1) places (omega (arith, lt)))

put_from : (o : OutPlace) (out : List OutPlace) (n k : ℕ) (places : List Place) → o.place ≡ n + k → slice_set (steps_from out n places) k (Some o.step) ≡ steps_from (o ∷ out) n places
put_from o out n k [] e = refl
put_from o out n zero (p ∷ places) e =
    let here : o.place ≡ n = omega (arith, e) in
    ap (λ l. Some o.step ∷ l) (sym (kept_from o out (n + 1) places (omega (arith, here))))
    ∙ ap (λ b. cond b (Some o.step) (step_for out n) ∷ steps_from (o ∷ out) (n + 1) places) (sym (eq-eqb o.place n here))
put_from o out n (suc k) (p ∷ places) e =
    ap (λ l. step_for out n ∷ l) (put_from o out (n + 1) k places (omega (arith, e)))
    ∙ ap (λ b. cond b (Some o.step) (step_for out n) ∷ steps_from (o ∷ out) (n + 1) places) (sym (not_equal (omega (arith, e)))) where
      not_equal : n < o.place → (o.place == n) ≡ false
      not_equal lt = by (o.place == n) refl where
        by : (b : Bool) → (o.place == n) ≡ b → b ≡ false
        by true q = absurd (let same = eqb-true o.place n q in omega (arith, lt, same))
        by false q = refl

pub put : (o : OutPlace) (out : List OutPlace) (places : List Place) → slice_set (steps_of out places) o.place (Some o.step) ≡ steps_of (o ∷ out) places
put o out places = put_from o out 0 o.place places (omega arith)

pub drop_all : {A : Type 0} (xs : List A) → drop (length xs) xs ≡ []
drop_all [] = refl
drop_all (x ∷ xs) = drop_all xs

pub item_any : {A : Type 0} (xs : List A) (i : ℕ) (d e : A) → i < length xs → slice_index_or xs i d ≡ slice_index_or xs i e
item_any [] i d e lt = absurd (omega (arith, lt))
item_any (x ∷ xs) zero d e lt = refl
item_any (x ∷ xs) (suc i) d e lt = item_any xs i d e (omega (arith, lt))

-- one entry before those that are put
pub put_on : (outs : List OutPlace) (places : List Place) (left : ℕ) (d : OutPlace) → 0 < left → left ≤ length outs → (steps next : List (Option ℕ)) → steps ≡ steps_of (drop left outs) places →
    next ≡ slice_set steps (slice_index_or outs (left - 1) d).place (Some (slice_index_or outs (left - 1) d).step) → next ≡ steps_of (drop (left - 1) outs) places
put_on outs places left d some le steps next so made =
    let o = slice_index_or outs (left - 1) d in
    let lt : left - 1 < length outs = omega (arith, some, le) in
    let e : left - 1 + 1 ≡ left = omega (arith, some) in
    let here : drop (left - 1) outs ≡ o ∷ drop left outs = drop-item outs (left - 1) o lt (item_any outs (left - 1) d o lt) ∙ ap (λ k. o ∷ drop k outs) e in
    made ∙ ap (λ l. slice_set l o.place (Some o.step)) so ∙ put o (drop left outs) places ∙ ap (λ l. steps_of l places) (sym here)
