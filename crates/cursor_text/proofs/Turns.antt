-- The turns of the loops that read items up to the byte that closes them, and their end.
use Rattle.std.proofs.Common.{◌≡◌, ℕ, suc, ◌+◌, ◌-◌, ◌<◌, ◌≤◌, List, [], ◌∷◌, ◌++◌, length, Option, Some, None, refl, sym, ap, subst, ◌∙◌, append_assoc, append-nil, arith}
use Rattle.cursor_text.specs.Reader.{Reader, and_then, ◌>>=◌, pure, byte, by_byte, items_until, until, after_items}

abbrev Outcome : Type 0 → Type 0
Outcome A = Option (A × List ℕ)

after_one : {A : Type 0} (found : List A) (x : A) (o : Outcome (List A)) → and_then (and_then o (λ xs. pure (x ∷ xs))) (λ xs. pure (found ++ xs)) ≡ and_then o (λ xs. pure ((found ++ x ∷ []) ++ xs))
after_one found x None = refl
after_one found x (Some p) = ap (λ (l : List _). Some (l, p.1)) (sym (append_assoc found (x ∷ []) p.0))

after_item : {A : Type 0} (found : List A) (o : Outcome A) (later : Reader (List A)) → and_then (and_then o (λ x. later >>= λ xs. pure (x ∷ xs))) (λ xs. pure (found ++ xs)) ≡ and_then o (λ x. after_items (found ++ x ∷ []) later)
after_item found None later = refl
after_item found (Some p) later = after_one found p.0 (later p.1)

pub items_begin : {A : Type 0} (close : ℕ) (item : Reader A) (found : List A) (ts : List ℕ) → after_items found (until close item) ts ≡ after_items found (items_until close item (length ts - 0)) ts
unfolding until
items_begin close item found ts = let k : length ts ≡ length ts - 0 = omega arith in ap (λ (m : ℕ). after_items found (items_until close item m) ts) k

after_none : {A : Type 0} (o : Outcome (List A)) → o ≡ and_then o (λ xs. pure ([] ++ xs))
after_none None = refl
after_none (Some p) = refl

-- the same where none was found yet
pub first_begin : {A : Type 0} (close : ℕ) (item : Reader A) (ts : List ℕ) (found : List A) → found ≡ [] → until close item ts ≡ after_items found (items_until close item (length ts - 0)) ts
first_begin {A} close item ts found none =
    subst (λ (l : List A). until close item ts ≡ after_items l (items_until close item (length ts - 0)) ts) (sym none)
    (after_none (until close item ts) ∙ items_begin close item [] ts)

module _ {A : Type 0} {total : Outcome (List A)} (close : ℕ) (item : Reader A) (n at : ℕ) (found : List A) (ts : List ℕ) (so_far : total ≡ after_items found (items_until close item (n - at)) ts) where
  turn : at < n → total ≡ after_items found (items_until close item (suc (n - (at + 1)))) ts
  turn lt = let k : n - at ≡ suc (n - (at + 1)) = omega arith in so_far ∙ ap (λ (m : ℕ). after_items found (items_until close item m) ts) k

  abbrev later_items : Reader (List A)
  later_items = item >>= λ x. items_until close item (n - (at + 1)) >>= λ xs. pure (x ∷ xs)

  -- the byte that closes is there
  pub items_close : at < n → (mid : List ℕ) → byte close ts ≡ Some (tt, mid) → total ≡ Some (found, mid)
  unfolding items_until
  items_close lt mid hit =
      turn lt
      ∙ ap (λ (o : Outcome (Unit {0})). and_then (by_byte o (pure []) later_items ts) (λ xs. pure (found ++ xs))) hit
      ∙ ap (λ (l : List A). Some (l, mid)) (append-nil found)

  -- an item is to come
  pub items_go_on : at < n → (mid : List ℕ) → byte close ts ≡ None → mid ≡ ts → total ≡ and_then (item mid) (λ x. after_items (found ++ x ∷ []) (items_until close item (n - (at + 1))))
  unfolding items_until
  items_go_on lt mid miss same =
      turn lt
      ∙ ap (λ (o : Outcome (Unit {0})). and_then (by_byte o (pure []) later_items ts) (λ xs. pure (found ++ xs))) miss
      ∙ after_item found (item ts) (items_until close item (n - (at + 1)))
      ∙ ap (λ (l : List ℕ). and_then (item l) (λ x. after_items (found ++ x ∷ []) (items_until close item (n - (at + 1))))) (sym same)

  -- no more items may come
  pub items_end : n ≤ at → total ≡ None
  unfolding items_until
  items_end le = let k : n - at ≡ 0 = omega arith in so_far ∙ ap (λ (m : ℕ). after_items found (items_until close item m) ts) k
