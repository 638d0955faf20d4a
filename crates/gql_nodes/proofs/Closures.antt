-- A list that grows by what follows its items, one item after another, becomes what is reached.
use Rattle.std.proofs.Common.{◌≡◌, ◌≢◌, ◌⊎◌, inl, inr, ℕ, zero, suc, ◌+◌, ◌<◌, ◌≤◌, Bool, true, false, ◌||◌}
use Rattle.std.proofs.Common.{if◌then◌else◌, List, [], ◌∷◌, ◌++◌, Some, None, length, refl, sym, ap, subst, ◌∙◌, arith}
use Rattle.std.specs.Prelude.{slice_get}
use Rattle.std.specs.List.{list_any}
use Rattle.std.proofs.lemmas.Bool.Decides.{eqb_tells}
use Rattle.indexmap.specs.IndexSet.{insert_key, insert_all}
use Rattle.gql_nodes.specs.Reached.{IsIn, starts, goes_on, ReachedBy, IsClosure}

-- ---- items of lists

pub in-left : {A : Type 0} (xs ys : List A) (x : A) → IsIn xs x → IsIn (xs ++ ys) x
in-left [] ys x h = absurd h
in-left (y ∷ xs) ys x (inl e) = inl e
in-left (y ∷ xs) ys x (inr h) = inr (in-left xs ys x h)

pub in-last : {A : Type 0} (xs : List A) (x : A) → IsIn (xs ++ x ∷ []) x
in-last [] x = inl refl
in-last (y ∷ xs) x = inr (in-last xs x)

pub in-cases : {A : Type 0} (xs : List A) (k x : A) → IsIn (xs ++ k ∷ []) x → IsIn xs x ⊎ (k ≡ x)
in-cases [] k x (inl e) = inr e
in-cases [] k x (inr h) = absurd h
in-cases (y ∷ xs) k x (inl e) = inl (inl e)
in-cases (y ∷ xs) k x (inr h) = elim (in-cases xs k x h) [ inl a ↦ inl (inr a) | inr b ↦ inr b ]

pub some_same : {A : Type 0} (x y : A) → Some x ≡ Some y → x ≡ y
some_same x y e = cc

pub at_in : {A : Type 0} (xs : List A) (i : ℕ) (x : A) → slice_get xs i ≡ Some x → IsIn xs x
at_in [] i x e = absurd (cc)
at_in (y ∷ xs) zero x e = inl (some_same y x e)
at_in (y ∷ xs) (suc i) x e = inr (at_in xs i x e)

pub record Place {A : Type 0} (xs : List A) (x : A) : Type 0 where
  pub at : ℕ
  pub within : at < length xs
  pub stands : slice_get xs at ≡ Some x

pub place_of : {A : Type 0} (xs : List A) (x : A) → IsIn xs x → Place xs x
place_of [] x h = absurd h
place_of (y ∷ xs) x (inl e) = record { at = 0; within = omega arith; stands = ap Some e }
place_of (y ∷ xs) x (inr h) = let p = place_of xs x h in let w : p.at < length xs = p.within in record { at = suc p.at; within = omega arith; stands = p.stands }

-- nothing stands at a place past the end
pub past : {A : Type 0} (xs : List A) (i : ℕ) → slice_get xs i ≡ None → length xs ≤ i
past [] i e = omega arith
past (x ∷ xs) zero e = absurd (cc)
past (x ∷ xs) (suc i) e = let h : length xs ≤ i = past xs i e in omega arith

get-left : {A : Type 0} (xs ys : List A) (i : ℕ) (x : A) → slice_get xs i ≡ Some x → slice_get (xs ++ ys) i ≡ Some x
get-left [] ys i x e = absurd (cc)
get-left (y ∷ xs) ys zero x e = e
get-left (y ∷ xs) ys (suc i) x e = get-left xs ys i x e

pub record Found {A : Type 0} (xs : List A) (i : ℕ) : Type 0 where
  pub item : A
  pub stands : slice_get xs i ≡ Some item

pub found_at : {A : Type 0} (xs : List A) (i : ℕ) → i < length xs → Found xs i
found_at [] i lt = absurd (omega arith)
found_at (x ∷ xs) zero lt = record { item = x; stands = refl }
found_at (x ∷ xs) (suc i) lt = let f = found_at xs i (omega arith) in record { item = f.item; stands = f.stands }

held : {A : Type 0} (found : List A) (i at : ℕ) (m : A) → i < at → slice_get found at ≡ Some m → i < length found
held [] i at m lt e = absurd (cc)
held (x ∷ found) i zero m lt e = absurd (omega arith)
held (x ∷ found) zero (suc at) m lt e = omega arith
held (x ∷ found) (suc i) (suc at) m lt e = let h : i < length found = held found i at m (omega arith) e in omega arith

-- the place is an earlier one, or the last one
pub before_or_at : (i at : ℕ) → i < at + 1 → (i < at) ⊎ (i ≡ at)
before_or_at i at lt = elim (eqb_tells i at) [ inl e ↦ inr e.1 | inr d ↦ inl (let apart : i ≢ at = d.1 in omega arith) ]

-- what is found is reached, and holds the first ones and what follows the items before the place
pub record IsGrown {N : Type 0} (first : List N) (next : N → List N) (found : List N) (at : ℕ) : Type 0 where
  pub reached : (n : N) → IsIn found n → ReachedBy first next n
  pub begun : (n : N) → IsIn first n → IsIn found n
  pub closed : (i : ℕ) (m n : N) → i < at → slice_get found i ≡ Some m → IsIn (next m) n → IsIn found n

module _ {N : Type 0} (eq : N → N → Bool) (tells : (k x : N) → eq k x ≡ true → k ≡ x) where
  -- ---- one more key

  hit_at : (k x : N) (ks : List N) (b : Bool) → eq k x ≡ b → (list_any (eq k) ks ≡ true → IsIn ks k) → (b || list_any (eq k) ks) ≡ true → IsIn (x ∷ ks) k
  hit_at k x ks true same later e = inl (sym (tells k x same))
  hit_at k x ks false same later e = inr (later e)

  hit : (k : N) (ks : List N) → list_any (eq k) ks ≡ true → IsIn ks k
  hit k [] e = absurd (cc)
  hit k (x ∷ ks) e = hit_at k x ks (eq k x) refl (hit k ks) e

  -- by whether the key was there
  pub key_kept_by : (ks : List N) (k x : N) (b : Bool) → IsIn ks x → IsIn (if b then ks else ks ++ k ∷ []) x
  key_kept_by ks k x true h = h
  key_kept_by ks k x false h = in-left ks (k ∷ []) x h

  key_put_by : (ks : List N) (k : N) (b : Bool) → (b ≡ true → IsIn ks k) → IsIn (if b then ks else ks ++ k ∷ []) k
  key_put_by ks k true h = h refl
  key_put_by ks k false h = in-last ks k

  key_from_by : (ks : List N) (k x : N) (b : Bool) → IsIn (if b then ks else ks ++ k ∷ []) x → IsIn ks x ⊎ (k ≡ x)
  key_from_by ks k x true h = inl h
  key_from_by ks k x false h = in-cases ks k x h

  key_at_by : (ks : List N) (k : N) (i : ℕ) (x : N) (b : Bool) → slice_get ks i ≡ Some x → slice_get (if b then ks else ks ++ k ∷ []) i ≡ Some x
  key_at_by ks k i x true e = e
  key_at_by ks k i x false e = get-left ks (k ∷ []) i x e

  -- ---- more keys

  pub kept : (ks xs : List N) (x : N) → IsIn ks x → IsIn (insert_all eq ks xs) x
  kept ks [] x h = h
  kept ks (k ∷ xs) x h = kept (insert_key eq ks k) xs x (key_kept_by ks k x (list_any (eq k) ks) h)

  pub put : (ks xs : List N) (x : N) → IsIn xs x → IsIn (insert_all eq ks xs) x
  put ks [] x h = absurd h
  put ks (k ∷ xs) x (inl e) = kept (insert_key eq ks k) xs x (subst (λ y. IsIn (insert_key eq ks k) y) e (key_put_by ks k (list_any (eq k) ks) (hit k ks)))
  put ks (k ∷ xs) x (inr h) = put (insert_key eq ks k) xs x h

  from_one : (ks xs : List N) (k x : N) → IsIn (insert_key eq ks k) x ⊎ IsIn xs x → IsIn ks x ⊎ IsIn (k ∷ xs) x
  from_one ks xs k x (inl h) = elim (key_from_by ks k x (list_any (eq k) ks) h) [ inl a ↦ inl a | inr e ↦ inr (inl e) ]
  from_one ks xs k x (inr h) = inr (inr h)

  pub from : (ks xs : List N) (x : N) → IsIn (insert_all eq ks xs) x → IsIn ks x ⊎ IsIn xs x
  from ks [] x h = inl h
  from ks (k ∷ xs) x h = from_one ks xs k x (from (insert_key eq ks k) xs x h)

  pub stays : (ks xs : List N) (i : ℕ) (x : N) → slice_get ks i ≡ Some x → slice_get (insert_all eq ks xs) i ≡ Some x
  stays ks [] i x e = e
  stays ks (k ∷ xs) i x e = stays (insert_key eq ks k) xs i x (key_at_by ks k i x (list_any (eq k) ks) e)

  -- ---- the turns of the loop

  begins_from : (first : List N) (next : N → List N) (n : N) → IsIn [] n ⊎ IsIn first n → ReachedBy first next n
  begins_from first next n (inl h) = absurd h
  begins_from first next n (inr h) = starts h

  pub begins : (first : List N) (next : N → List N) (found : List N) → found ≡ insert_all eq [] first → IsGrown first next found 0
  begins first next found e = subst (λ l. IsGrown first next l 0) (sym e) (record {
    reached = λ n h. begins_from first next n (from [] first n h);
    begun = λ n h. put [] first n h;
    closed = λ i m n lt at h. absurd (omega arith);
  })

  grows_from : (first : List N) (next : N → List N) (found : List N) (m n : N) → ((k : N) → IsIn found k → ReachedBy first next k) → IsIn found m → IsIn found n ⊎ IsIn (next m) n → ReachedBy first next n
  grows_from first next found m n known at (inl h) = known n h
  grows_from first next found m n known at (inr h) = goes_on (known m at) h

  closed_by : (first : List N) (next : N → List N) (found : List N) (at : ℕ) (m : N) → IsGrown first next found at → slice_get found at ≡ Some m
      → (i : ℕ) (k n : N) → (i < at) ⊎ (i ≡ at) → slice_get (insert_all eq found (next m)) i ≡ Some k → IsIn (next k) n → IsIn (insert_all eq found (next m)) n
  closed_by first next found at m g e i k n (inl lt) there h =
      let f = found_at found i (held found i at m lt e) in
      let same : f.item ≡ k = some_same f.item k (sym (stays found (next m) i f.item f.stands) ∙ there) in
      kept found (next m) n (g.closed i k n lt (f.stands ∙ ap Some same) h)
  closed_by first next found at m g e i k n (inr is) there h =
      let here : slice_get (insert_all eq found (next m)) i ≡ Some m = ap (λ j. slice_get (insert_all eq found (next m)) j) is ∙ stays found (next m) at m e in
      let same : k ≡ m = some_same k m (sym there ∙ here) in
      put found (next m) n (subst (λ j. IsIn (next j) n) same h)

  pub grows : (first : List N) (next : N → List N) (found after : List N) (at : ℕ) (m : N) → IsGrown first next found at → slice_get found at ≡ Some m → after ≡ insert_all eq found (next m) → IsGrown first next after (at + 1)
  grows first next found after at m g e is = subst (λ l. IsGrown first next l (at + 1)) (sym is) (record {
    reached = λ n h. grows_from first next found m n g.reached (at_in found at m e) (from found (next m) n h);
    begun = λ n h. kept found (next m) n (g.begun n h);
    closed = λ i k n lt there h. closed_by first next found at m g e i k n (before_or_at i at lt) there h;
  })

  complete_by : (first : List N) (next : N → List N) (found : List N) (at : ℕ) → IsGrown first next found at → length found ≤ at → (n : N) → ReachedBy first next n → IsIn found n
  complete_by first next found at g le n (starts h) = g.begun n h
  complete_by first next found at g le n (goes_on {m = m} r h) =
      let p = place_of found m (complete_by first next found at g le m r) in
      let w : p.at < length found = p.within in
      g.closed p.at m n (omega arith) p.stands h

  pub ends : (first : List N) (next : N → List N) (found : List N) (at : ℕ) → IsGrown first next found at → length found ≤ at → IsClosure first next found
  ends first next found at g le = record { reached = g.reached; complete = complete_by first next found at g le }
