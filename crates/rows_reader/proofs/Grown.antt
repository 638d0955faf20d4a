-- Indexes and lists with one row more.
use Rattle.std.proofs.Common.{◌≡◌, ℕ, zero, suc, ◌+◌, ◌<◌, List, [], ◌∷◌, ◌++◌, length, get_or, set, take, drop, map, Bool, true, false, ◌||◌, Some, refl, sym, ap, ◌∙◌, subst, arith, add-one}
use Rattle.std.specs.Prelude.{if◌then◌else◌}
use Rattle.pg_base.specs.Lists.{Each, EachPair}
use Rattle.pg_base.specs.declared.cell.Cell.{Cell}
use Rattle.rel_model.specs.declared.tables.Row.{Row}
use Rattle.rel_model.specs.Tables.{cells_at}
use Rattle.rows_reader.specs.Keys.{same_cells, stands, keys_at}
use Rattle.rows_reader.specs.Kept.{Index, IsIndexOf, with_key, grown}
use Rattle.rows_reader.proofs.Found.{cells_are}
use Rattle.rows_reader.proofs.Places.{get_is, Each_at}

-- ---- an index

or_false : (b : Bool) → (b || false) ≡ b
or_false true = refl
or_false false = refl

or_true : (b : Bool) → (b || true) ≡ true
or_true true = refl
or_true false = refl

or_assoc : (a b c : Bool) → (a || (b || c)) ≡ ((a || b) || c)
or_assoc true b c = refl
or_assoc false b c = refl

stands_last : (keys : List (List Cell)) (key last : List Cell) → stands (keys ++ last ∷ []) key ≡ (stands keys key || same_cells key last)
stands_last [] key last = or_false (same_cells key last)
stands_last (k ∷ keys) key last = ap (λ b. same_cells key k || b) (stands_last keys key last) ∙ or_assoc (same_cells key k) (stands keys key) (same_cells key last)

keys_last : (places : List ℕ) (rows : List Row) (r : Row) → keys_at places (rows ++ r ∷ []) ≡ keys_at places rows ++ cells_at places r.cells ∷ []
keys_last places [] r = refl
keys_last places (s ∷ rows) r = ap (λ l. cells_at places s.cells ∷ l) (keys_last places rows r)

with_key_stands : (keys : List (List Cell)) (last key : List Cell) → stands (with_key keys last) key ≡ (stands keys key || same_cells key last)
with_key_stands keys last key = by (stands keys last) refl
  where
    same : stands keys last ≡ true → (b : Bool) → same_cells key last ≡ b → stands keys key ≡ (stands keys key || b)
    same there true e =
        let equal : key ≡ last = (cells_are key last).0 e in
        let found : stands keys key ≡ true = subst (λ (k : List Cell). stands keys k ≡ true) (sym equal) there in
        found ∙ sym (or_true (stands keys key))
    same there false e = sym (or_false (stands keys key))

    by : (b : Bool) → stands keys last ≡ b → stands (if b then keys else keys ++ last ∷ []) key ≡ (stands keys key || same_cells key last)
    by true there = same there (same_cells key last) refl
    by false there = stands_last keys key last

pub index_grown : (rows : List Row) (r : Row) (index : Index) → IsIndexOf rows index → IsIndexOf (rows ++ r ∷ []) (grown r.cells index)
index_grown rows r index h = λ key.
    with_key_stands index.keys (cells_at index.places r.cells) key
    ∙ ap (λ b. b || same_cells key (cells_at index.places r.cells)) (h key)
    ∙ sym (ap (λ l. stands l key) (keys_last index.places rows r) ∙ stands_last (keys_at index.places rows) key (cells_at index.places r.cells))

pub indexes_grown : (rows : List Row) (r : Row) (indexes : List Index) → Each (IsIndexOf rows) indexes → Each (IsIndexOf (rows ++ r ∷ [])) (map (grown r.cells) indexes)
indexes_grown rows r [] h = tt
indexes_grown rows r (index ∷ indexes) h = (index_grown rows r index h.0, indexes_grown rows r indexes h.1)

-- ---- a loop that changes each item in turn

turn : {A : Type 0} (f : A → A) (xs : List A) (i : ℕ) (x : A) → i < length xs → x ≡ get_or xs i x → take (suc i) (set xs i (f x)) ++ map f (drop (suc i) (set xs i (f x))) ≡ take i xs ++ map f (drop i xs)
turn f [] i x lt e = absurd (omega arith)
turn f (y ∷ ys) zero x lt e = ap (λ z. f z ∷ map f ys) e
turn f (y ∷ ys) (suc i) x lt e = ap (λ l. y ∷ l) (turn f ys i x (omega arith) e)

pub changed_turn : {A : Type 0} (f : A → A) (xs next due : List A) (i : ℕ) (x : A) → i < length xs → x ≡ get_or xs i x → take i xs ++ map f (drop i xs) ≡ due → next ≡ set xs i (f x) → take (i + 1) next ++ map f (drop (i + 1) next) ≡ due
changed_turn f xs next due i x lt e so_far same =
    rw add-one (ap (λ l. take (suc i) l ++ map f (drop (suc i) l)) same ∙ turn f xs i x lt e ∙ so_far)

-- ---- what holds of each, after one is set

pub Each_set : {A : Type 0} (P : A → Type 0) (xs : List A) (i : ℕ) (y : A) → Each P xs → P y → Each P (set xs i y)
Each_set P [] i y h p = tt
Each_set P (x ∷ xs) zero y h p = (p, h.1)
Each_set P (x ∷ xs) (suc i) y h p = (h.0, Each_set P xs i y h.1 p)

pub Each_index : {A : Type 0} (P : A → Type 0) (xs : List A) (i : ℕ) (x : A) → i < length xs → x ≡ get_or xs i x → Each P xs → P x
Each_index P xs i x lt e h = Each_at P xs i x h (get_is xs i x lt ∙ ap (λ (y : _). Some y) (sym e))

pub pair_index : {A B : Type 0} (R : A → B → Type 0) (xs : List A) (ys : List B) (i : ℕ) (x d : A) (y e : B) → i < length xs → get_or xs i d ≡ x → get_or ys i e ≡ y → EachPair R xs ys → R x y
pair_index R [] ys i x d y e lt p q h = absurd (omega arith)
pair_index R (a ∷ xs) [] i x d y e lt p q h = absurd h
pair_index R (a ∷ xs) (b ∷ ys) zero x d y e lt p q h = subst (λ t. R t y) p (subst (λ t. R a t) q h.0)
pair_index R (a ∷ xs) (b ∷ ys) (suc i) x d y e lt p q h = pair_index R xs ys i x d y e (omega arith) p q h.1

pub pair_set_both : {A B : Type 0} (R : A → B → Type 0) (xs : List A) (ys : List B) (i : ℕ) (x : A) (y : B) → EachPair R xs ys → R x y → EachPair R (set xs i x) (set ys i y)
pair_set_both R [] [] i x y h p = tt
pair_set_both R [] (b ∷ ys) i x y h p = absurd h
pair_set_both R (a ∷ xs) [] i x y h p = absurd h
pair_set_both R (a ∷ xs) (b ∷ ys) zero x y h p = (p, h.1)
pair_set_both R (a ∷ xs) (b ∷ ys) (suc i) x y h p = (h.0, pair_set_both R xs ys i x y h.1 p)
