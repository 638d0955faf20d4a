-- The first items of a sorted list, kept while the list is gone through from its end.
use Rattle.std.proofs.Common.{◌≡◌, ℕ, zero, suc, ◌+◌, ◌-◌, ◌<◌, ◌≤◌, List, [], ◌∷◌, ◌++◌, map, length, get_or, take, drop, Bor, Bool, true, false, cond, refl, sym, ap, ◌∙◌, subst, arith, length-take}
use Rattle.std.specs.Prelude.{if◌then◌else◌}
use Rattle.std.specs.List.{prefix_len, insert}
use Rattle.std.specs.Cmp.{IsStrictWeakOrder}
use Rattle.std.proofs.Math.Seq.{take-append_seam}
use Rattle.std.proofs.lemmas.List.Sorted.{ranks_by}
use Rattle.pg_base.proofs.ListSteps.{drop-item}
use Rattle.rel_model.specs.declared.tables.Row.{Row}
use Rattle.rel_model.specs.declared.window.By.{By}
use Rattle.rel_model.specs.Ordered.{mark_of, precedes, inserted, ordered}
use Rattle.rel_model.proofs.Orders.{mark_order_total}
use Rattle.rel_model.proofs.Sorting.{NoneLess, Rises, rises_sorted, when_true, when_false, not_both}
use Rattle.rel_model.proofs.OneOrder.{none_less_at}

take_front : {X : Type 0} (k : ℕ) (y : X) (ys : List X) → take k (y ∷ ys) ≡ take k (y ∷ take k ys)
take_front zero y ys = refl
take_front (suc k) y ys = ap (λ l. y ∷ l) (shorter k ys)
  where
    shorter : {X : Type 0} (k : ℕ) (ys : List X) → take k ys ≡ take k (take (suc k) ys)
    shorter zero ys = refl
    shorter (suc k) [] = refl
    shorter (suc k) (y ∷ ys) = ap (λ l. y ∷ l) (shorter k ys)

module _ {X : Type 0} (lt : X → X → Bool) where
  -- only the first matter where the first are asked for
  pub take_inserted : (k : ℕ) (x : X) (ys : List X) → take k (inserted lt x ys) ≡ take k (inserted lt x (take k ys))
  take_inserted zero x ys = refl
  take_inserted (suc k) x [] = refl
  take_inserted (suc k) x (y ∷ ys) = by (lt y x) refl (take_inserted k x ys)
    where
      by : (b : Bool) → lt y x ≡ b → take k (inserted lt x ys) ≡ take k (inserted lt x (take k ys)) → take (suc k) (if lt y x then y ∷ inserted lt x ys else x ∷ y ∷ ys) ≡ take (suc k) (if lt y x then y ∷ inserted lt x (take k ys) else x ∷ y ∷ take k ys)
      by true t below =
          ap (take (suc k)) (when_true (lt y x) (y ∷ inserted lt x ys) (x ∷ y ∷ ys) t)
          ∙ ap (λ l. y ∷ l) below
          ∙ ap (take (suc k)) (sym (when_true (lt y x) (y ∷ inserted lt x (take k ys)) (x ∷ y ∷ take k ys) t))
      by false t below =
          ap (take (suc k)) (when_false (lt y x) (y ∷ inserted lt x ys) (x ∷ y ∷ ys) t)
          ∙ ap (λ l. x ∷ l) (take_front k y ys)
          ∙ ap (take (suc k)) (sym (when_false (lt y x) (y ∷ inserted lt x (take k ys)) (x ∷ y ∷ take k ys) t))

  -- an item is put after those that are less
  pub inserted_at : (x : X) (ys : List X) → insert ys (prefix_len (λ y. lt y x) ys) x ≡ inserted lt x ys
  inserted_at x [] = refl
  inserted_at x (y ∷ ys) = by (lt y x) refl (inserted_at x ys)
    where
      by : (b : Bool) → lt y x ≡ b → insert ys (prefix_len (λ y. lt y x) ys) x ≡ inserted lt x ys → insert (y ∷ ys) (cond (lt y x) (1 + prefix_len (λ y. lt y x) ys) 0) x ≡ (if lt y x then y ∷ inserted lt x ys else x ∷ y ∷ ys)
      by true t below =
          let n = prefix_len (λ z. lt z x) ys in
          let e : 1 + n ≡ suc n = omega arith in
          ap (λ m. insert (y ∷ ys) m x) (ap (λ b. cond b (1 + n) 0) t ∙ e)
          ∙ ap (λ l. y ∷ l) below
          ∙ sym (when_true (lt y x) (y ∷ inserted lt x ys) (x ∷ y ∷ ys) t)
      by false t below =
          ap (λ b. insert (y ∷ ys) (cond b (1 + prefix_len (λ z. lt z x) ys) 0) x) t
          ∙ sym (when_false (lt y x) (y ∷ inserted lt x ys) (x ∷ y ∷ ys) t)

  module _ (order : IsStrictWeakOrder lt) where
    less_too : (y z x : X) → lt z y ≡ false → lt z x ≡ true → lt y x ≡ true
    less_too y z x h k = by (lt y x) refl
      where
        by : (b : Bool) → lt y x ≡ b → b ≡ true
        by true t = refl
        by false t = absurd (not_both (lt z x) k (order.chain z y x h t))

    last_inserted : (x : X) (ys : List X) (m : ℕ) (d : X) → suc m ≡ length ys → Rises lt ys → lt (get_or ys m d) x ≡ true → inserted lt x ys ≡ ys ++ x ∷ []
    last_inserted x [] m d e up h = absurd (omega (arith, e))
    last_inserted x (y ∷ []) zero d e up h = when_true (lt y x) (y ∷ x ∷ []) (x ∷ y ∷ []) h
    last_inserted x (y ∷ z ∷ ys) zero d e up h = absurd (omega (arith, e))
    last_inserted x (y ∷ ys) (suc m) d e up h =
        let first : lt y x ≡ true = less_too y (get_or ys m d) x (none_less_at lt y ys m d (let k : m < length ys = omega (arith, e) in k) up.0) h in
        when_true (lt y x) (y ∷ inserted lt x ys) (x ∷ y ∷ ys) first
        ∙ ap (λ l. y ∷ l) (last_inserted x ys m d (let k : suc m ≡ length ys = omega (arith, e) in k) up.1 h)

    rises_take : (k : ℕ) (ys : List X) → Rises lt ys → Rises lt (take k ys)
    rises_take zero ys up = tt
    rises_take (suc k) [] up = tt
    rises_take (suc k) (y ∷ ys) up = (none_take k ys up.0, rises_take k ys up.1)
      where
        none_take : (k : ℕ) (ys : List X) → NoneLess lt y ys → NoneLess lt y (take k ys)
        none_take zero ys n = tt
        none_take (suc k) [] n = tt
        none_take (suc k) (z ∷ ys) n = (n.0, none_take k ys n.1)

    pub past_last : (x : X) (ys : List X) (m : ℕ) (d : X) → suc m ≡ length ys → Rises lt ys → lt (get_or ys m d) x ≡ true → take (suc m) (inserted lt x ys) ≡ ys
    past_last x ys m d e up h =
        ap (take (suc m)) (last_inserted x ys m d e up h)
        ∙ ap (λ n. take n (ys ++ x ∷ [])) e
        ∙ take-append_seam ys (x ∷ [])

get_now : (rows : List (Bor Row)) (m : ℕ) (x : Bor Row) → m < length rows → x ≡ get_or rows m x → get_or (map (λ (r : Bor Row). r.now) rows) m x.now ≡ x.now
get_now rows m x lt is = at rows m x lt ∙ ap (λ (r : Bor Row). r.now) (sym is)
  where
    at : (rows : List (Bor Row)) (m : ℕ) (x : Bor Row) → m < length rows → get_or (map (λ (r : Bor Row). r.now) rows) m x.now ≡ (get_or rows m x).now
    at [] m x lt = absurd (omega arith)
    at (r ∷ rows) zero x lt = refl
    at (r ∷ rows) (suc m) x lt = at rows m x (omega arith)

length_now : (rows : List (Bor Row)) → length (map (λ (r : Bor Row). r.now) rows) ≡ length rows
length_now [] = refl
length_now (r ∷ rows) = ap suc (length_now rows)

map_take : {A B : Type 0} (f : A → B) (n : ℕ) (xs : List A) → map f (take n xs) ≡ take n (map f xs)
map_take f zero xs = refl
map_take f (suc n) [] = refl
map_take f (suc n) (x ∷ xs) = ap (λ l. f x ∷ l) (map_take f n xs)

map_insert : {A B : Type 0} (f : A → B) (xs : List A) (n : ℕ) (x : A) → n ≤ length xs → map f (insert xs n x) ≡ insert (map f xs) n (f x)
map_insert f [] zero x le = refl
map_insert f [] (suc n) x le = absurd (omega arith)
map_insert f (y ∷ xs) zero x le = refl
map_insert f (y ∷ xs) (suc n) x le = ap (λ l. f y ∷ l) (map_insert f xs n x (omega arith))

module _ (order : List By) (count : ℕ) (row : Row) (first : List (Bor Row)) where
  -- the row comes after all that are kept
  pub row_past : (xs : List Row) → map (λ (r : Bor Row). r.now) first ≡ take count (ordered order xs) → (last : Bor Row) → 0 < count → count ≤ length first → last ≡ get_or first (count - 1) last → precedes order last.now row ≡ true → take count (inserted (precedes order) row (map (λ (r : Bor Row). r.now) first)) ≡ map (λ (r : Bor Row). r.now) first
  row_past xs is last some full at before =
      let ranks = ranks_by (mark_order_total order) (mark_of order) in
      let up : Rises (precedes order) (map (λ (r : Bor Row). r.now) first) =
      subst (Rises (precedes order)) (sym is) (rises_take (precedes order) ranks count (ordered order xs) (rises_sorted (precedes order) ranks xs)) in
      let short : length (map (λ (r : Bor Row). r.now) first) ≤ count = (let e = ap length is in let l = length-take count (ordered order xs) in omega (arith, e, l)) in
      let n = length_now first in
      let m : suc (count - 1) ≡ length (map (λ (r : Bor Row). r.now) first) = omega (arith, short, n, some, full) in
      let c : suc (count - 1) ≡ count = omega (arith, some) in
      let here : precedes order (get_or (map (λ (r : Bor Row). r.now) first) (count - 1) last.now) row ≡ true =
      ap (λ r. precedes order r row) (get_now first (count - 1) last (let k : count - 1 < length first = omega (arith, some, full) in k) at) ∙ before in
      ap (λ k. take k (inserted (precedes order) row (map (λ (r : Bor Row). r.now) first))) (sym c)
      ∙ past_last (precedes order) ranks row (map (λ (r : Bor Row). r.now) first) (count - 1) last.now m up here

  pub put_is : (x : Bor Row) (more cut : List (Bor Row)) (at : ℕ) → x.now ≡ row → at ≡ prefix_len (λ r. precedes order r row) (map (λ (r : Bor Row). r.now) first) → at ≤ length first → more ≡ insert first at x → cut ≡ take count more → map (λ (r : Bor Row). r.now) cut ≡ take count (inserted (precedes order) row (map (λ (r : Bor Row). r.now) first))
  put_is x more cut at e p le i c =
      ap (map (λ (r : Bor Row). r.now)) c
      ∙ map_take (λ (r : Bor Row). r.now) count more
      ∙ ap (λ l. take count (map (λ (r : Bor Row). r.now) l)) i
      ∙ ap (take count) (map_insert (λ (r : Bor Row). r.now) first at x le)
      ∙ ap (λ r. take count (insert (map (λ (r : Bor Row). r.now) first) at r)) e
      ∙ ap (λ n. take count (insert (map (λ (r : Bor Row). r.now) first) n row)) p
      ∙ ap (take count) (inserted_at (precedes order) row (map (λ (r : Bor Row). r.now) first))

-- a turn: the item before those that were gone through
pub first_turn : (order : List By) (count at : ℕ) (rows : List (Bor Row)) (x : Bor Row) (kept new : List Row) → at < length rows → x ≡ get_or rows at x → kept ≡ take count (ordered order (map (λ (r : Bor Row). r.now) (drop (at + 1) rows))) → new ≡ take count (inserted (precedes order) x.now kept) → new ≡ take count (ordered order (map (λ (r : Bor Row). r.now) (drop at rows)))
first_turn order count at rows x kept new lt is so_far put =
    put
    ∙ ap (λ l. take count (inserted (precedes order) x.now l)) so_far
    ∙ sym (take_inserted (precedes order) count x.now (ordered order (map (λ (r : Bor Row). r.now) (drop (at + 1) rows))))
    ∙ ap (λ l. take count (ordered order (map (λ (r : Bor Row). r.now) l))) (sym (drop-item rows at x lt is))

pub first_back : (order : List By) (count at : ℕ) (rows : List (Bor Row)) (x : Bor Row) (kept new : List Row) → 0 < at → at ≤ length rows → x ≡ get_or rows (at - 1) x → kept ≡ take count (ordered order (map (λ (r : Bor Row). r.now) (drop at rows))) → new ≡ take count (inserted (precedes order) x.now kept) → new ≡ take count (ordered order (map (λ (r : Bor Row). r.now) (drop (at - 1) rows)))
first_back order count at rows x kept new some within is so_far put =
    let e : at ≡ at - 1 + 1 = omega (arith, some) in
    first_turn order count (at - 1) rows x kept new (let k : at - 1 < length rows = omega (arith, some, within) in k) is
    (so_far ∙ ap (λ n. take count (ordered order (map (λ (r : Bor Row). r.now) (drop n rows)))) e) put
