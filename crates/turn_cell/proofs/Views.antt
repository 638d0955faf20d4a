-- Lists of views, and what one seat's step leaves of the others.
use Rattle.std.proofs.Common.{◌≡◌, ◌≢◌, ℕ, zero, suc, ◌+◌, ◌<◌, ◌≤◌, ◌⊎◌, List, [], ◌∷◌, ◌++◌, map, length, set, sym, refl, ap, ◌∙◌, subst, inl, inr, ⊎_elim, arith, cond, eqb, eq-eqb, ne_eqb, length-set, append_assoc, length-append, Bool, true, false, ltb, ltb-true, ltb-false, lt-ltb, le-ltb, get_or, All, Contains}
use Rattle.std.proofs.lemmas.List.{append-nil}
use mathlib.Core.List.{head-eq_of_cons-eq, tail-eq_of_cons-eq, nil≢cons}
use Rattle.turn_cell.specs.Moves.{longer}
use mathlib.Core.Option.{some, some-injective, some-ne-none}
use mathlib.Core.Logic.{dite}
use Rattle.std.proofs.lemmas.List.Elements.{All-append}
use mathlib.Core.List.{IsPrefix}
use native.Mathlib.Decide.{ℕ_discrete}
use lib.ListN.{get_elem?}
use Rattle.atomic_table.proofs.Lists.{at_set, set_here, set_else, at_longer}
use Rattle.turn_cell.specs.declared.view.Entry.{Entry}
use Rattle.turn_cell.specs.declared.view.View.{View}
use Rattle.turn_cell.specs.declared.view.JoinedSeat.{JoinedSeat}
use Rattle.turn_cell.specs.Histories.{entry, plain, marked, made_by}
use Rattle.turn_cell.specs.Rule.{Has, Apart, Gone, TellsOf, Covered, Rest, total}

module _ {A : Type 0} where
  pub at_below : (l : List A) (i : ℕ) (a : A) → get_elem? l i ≡ some a → i < length l
  at_below [] i a e = absurd (some-ne-none a (sym e))
  at_below (x ∷ xs) zero a e = omega arith
  at_below (x ∷ xs) (suc i) a e = let h = at_below xs i a e in omega arith

  pub each_stays : (P : ℕ → A → Type 0) (vs : List A) (me : ℕ) (w : A) → P me w → ((j : ℕ) (v : A) → j ≢ me → get_elem? vs j ≡ some v → P j v)
      → (j : ℕ) (v : A) → get_elem? (set vs me w) j ≡ some v → P j v
  each_stays P vs me w mine others j v e = ⊎_elim (λ (t : (j ≡ me) × (w ≡ v)). subst (λ (x : ℕ × A). P x.0 x.1) (λ i. (sym t.0 i, t.1 i)) mine)
      (λ (t : (j ≢ me) × (get_elem? vs j ≡ some v)). others j v t.0 t.1) (at_set vs me j w v e)

  pub all_one : (P : A → Type 0) (x : A) → P x → All P (x ∷ [])
  all_one P x h zero d l = h
  all_one P x h (suc k) d l = absurd (omega arith)

  pub snoc_at : (l : List A) (a b : A) (j : ℕ) → get_elem? (l ++ a ∷ []) j ≡ some b → (get_elem? l j ≡ some b) ⊎ ((j ≡ length l) × (a ≡ b))
  snoc_at [] a b zero e = inr (refl, some-injective a b e)
  snoc_at [] a b (suc j) e = absurd (some-ne-none b (sym e))
  snoc_at (x ∷ xs) a b zero e = inl e
  snoc_at (x ∷ xs) a b (suc j) e = ⊎_elim (λ t. inl t) (λ t. inr (ap suc t.0, t.1)) (snoc_at xs a b j e)

  -- in two lists, one behind the other with one element between
  pub between : (xs ys : List A) (y c : A) (i : ℕ) → get_elem? (xs ++ y ∷ ys) i ≡ some c → (get_elem? xs i ≡ some c) ⊎ ((y ≡ c) ⊎ ((k : ℕ) × (get_elem? ys k ≡ some c)))
  between [] ys y c zero e = inr (inl (some-injective y c e))
  between [] ys y c (suc i) e = inr (inr (i, e))
  between (x ∷ xs) ys y c zero e = inl e
  between (x ∷ xs) ys y c (suc i) e = between xs ys y c i e

  pub at_after : (xs ys : List A) (c : A) (i : ℕ) → get_elem? ys i ≡ some c → (k : ℕ) × (get_elem? (xs ++ ys) k ≡ some c)
  at_after [] ys c i e = (i, e)
  at_after (x ∷ xs) ys c i e = let t = at_after xs ys c i e in (suc t.0, t.1)

  pub only : (P : ℕ → A → Type 0) (a : A) (j : ℕ) (b : A) → get_elem? (a ∷ []) j ≡ some b → P 0 a → P j b
  only P a zero b e h = subst (P 0) (some-injective a b e) h
  only P a (suc j) b e h = absurd (some-ne-none b (sym e))

  pub empty : (l : List A) → length l ≡ 0 → l ≡ []
  empty [] e = refl
  empty (x ∷ xs) e = absurd (omega arith)

  pub nothing_before : (xs ys : List A) → xs ++ ys ≡ [] → xs ≡ []
  nothing_before [] ys e = refl
  nothing_before (x ∷ xs) ys e = cc

  -- P holds of each element, where it holds of what stands at each place
  pub at_each : (xs : List A) (P : A → Type 0) → ((i : ℕ) (x : A) → get_elem? xs i ≡ some x → P x) → All P xs
  at_each xs P h k d l = h k (get_or xs k d) (there xs k d l)
    where
      there : (ys : List A) (i : ℕ) (a : A) → i < length ys → get_elem? ys i ≡ some (get_or ys i a)
      there [] i a l = absurd (omega arith)
      there (y ∷ ys) zero a l = refl
      there (y ∷ ys) (suc i) a l = there ys i a (omega arith)

  pub prefix_more : (xs ys : List A) (y : A) → IsPrefix xs ys → IsPrefix xs (ys ++ y ∷ [])
  prefix_more xs ys y p = (p.0 ++ y ∷ [], sym (append_assoc xs p.0 (y ∷ [])) ∙ ap (λ (l : List A). l ++ y ∷ []) p.1)

  pub prefix_length : (xs ys : List A) → IsPrefix xs ys → length xs ≤ length ys
  prefix_length xs ys p = let a = length-append xs p.0 in let b : length (xs ++ p.0) ≡ length ys = ap length p.1 in omega arith

  -- of two beginnings of one list the shorter begins the longer
  pub shorter_prefix : (xs ys zs : List A) → IsPrefix xs zs → IsPrefix ys zs → length xs ≤ length ys → IsPrefix xs ys
  shorter_prefix [] ys zs p q l = (ys, refl)
  shorter_prefix (x ∷ xs) [] zs p q l = absurd (omega arith)
  shorter_prefix (x ∷ xs) (y ∷ ys) [] p q l = absurd (nil≢cons (sym p.1))
  shorter_prefix (x ∷ xs) (y ∷ ys) (z ∷ zs) p q l =
      let t = shorter_prefix xs ys zs (p.0, tail-eq_of_cons-eq p.1) (q.0, tail-eq_of_cons-eq q.1) (omega arith) in
      (t.0, λ i. (head-eq_of_cons-eq p.1 ∙ sym (head-eq_of_cons-eq q.1)) i ∷ t.1 i)

  pub prefix_longer : (xs ys zs : List A) → IsPrefix xs zs → IsPrefix ys zs → IsPrefix xs (longer xs ys)
  prefix_longer xs ys zs p q = choose (ltb (length xs) (length ys)) refl
    where
      choose : (b : Bool) → ltb (length xs) (length ys) ≡ b → IsPrefix xs (cond b ys xs)
      choose true e = let l : length xs < length ys = ltb-true (length xs) (length ys) e in shorter_prefix xs ys zs p q (omega arith)
      choose false e = ([], append-nil xs)

  pub prefix_longer_too : (xs ys zs : List A) → IsPrefix xs zs → IsPrefix ys zs → IsPrefix ys (longer xs ys)
  prefix_longer_too xs ys zs p q = choose (ltb (length xs) (length ys)) refl
    where
      choose : (b : Bool) → ltb (length xs) (length ys) ≡ b → IsPrefix ys (cond b ys xs)
      choose true e = ([], append-nil ys)
      choose false e = let l = ltb-false (length xs) (length ys) e in shorter_prefix ys xs zs q p (omega arith)

  pub longer_within : (xs ys zs : List A) → IsPrefix xs zs → IsPrefix ys zs → IsPrefix (longer xs ys) zs
  longer_within xs ys zs p q = choose (ltb (length xs) (length ys))
    where
      choose : (b : Bool) → IsPrefix (cond b ys xs) zs
      choose true = q
      choose false = p

  pub longer_either : (xs ys : List A) → (longer xs ys ≡ xs) ⊎ (longer xs ys ≡ ys)
  longer_either xs ys = choose (ltb (length xs) (length ys))
    where
      choose : (b : Bool) → (cond b ys xs ≡ xs) ⊎ (cond b ys xs ≡ ys)
      choose true = inr refl
      choose false = inl refl

  pub longer_later : (xs ys : List A) → length xs < length ys → longer xs ys ≡ ys
  longer_later xs ys l = ap (λ b. cond b ys xs) (lt-ltb (length xs) (length ys) l)

  pub longer_former : (xs ys : List A) → length ys ≤ length xs → longer xs ys ≡ xs
  longer_former xs ys l = ap (λ b. cond b ys xs) (le-ltb (length xs) (length ys) l)

  pub prefix_trans : (xs ys zs : List A) → IsPrefix xs ys → IsPrefix ys zs → IsPrefix xs zs
  prefix_trans xs ys zs a b = (a.0 ++ b.0, sym (append_assoc xs a.0 b.0) ∙ (ap (λ (l : List A). l ++ b.0) a.1 ∙ b.1))

module _ {E B : Type 0} where
  pub apart_stays : (vs : List (View E B)) (me : ℕ) (w : View E B) → Apart vs
      → ((t j : ℕ) (v : View E B) → j ≢ me → get_elem? vs j ≡ some v → Has t v.stage → Has t w.stage → ⊥) → Apart (set vs me w)
  apart_stays vs me w old new t j k v u atj atk hj hk = ⊎_elim
      (λ (a : (j ≡ me) × (w ≡ v)). ⊎_elim
      (λ (b : (k ≡ me) × (w ≡ u)). a.0 ∙ sym b.0)
      (λ (b : (k ≢ me) × (get_elem? vs k ≡ some u)). absurd (new t k u b.0 b.1 hk (subst (λ (x : View E B). Has t x.stage) (sym a.1) hj)))
      (at_set vs me k w u atk))
      (λ (a : (j ≢ me) × (get_elem? vs j ≡ some v)). ⊎_elim
      (λ (b : (k ≡ me) × (w ≡ u)). absurd (new t j v a.0 a.1 hj (subst (λ (x : View E B). Has t x.stage) (sym b.1) hk)))
      (λ (b : (k ≢ me) × (get_elem? vs k ≡ some u)). old t j k v u a.1 b.1 hj hk)
      (at_set vs me k w u atk))
      (at_set vs me j w v atj)

  pub total_set : (f : View E B → ℕ) (vs : List (View E B)) (j : ℕ) (v w : View E B) → get_elem? vs j ≡ some v → total f (set vs j w) + f v ≡ total f vs + f w
  total_set f [] j v w e = absurd (some-ne-none v (sym e))
  total_set f (x ∷ xs) zero v w e = let same : f x ≡ f v = ap f (some-injective x v e) in omega arith
  total_set f (x ∷ xs) (suc j) v w e = let h = total_set f xs j v w e in omega arith

  pub total_snoc : (f : View E B → ℕ) (vs : List (View E B)) (w : View E B) → total f (vs ++ w ∷ []) ≡ total f vs + f w
  total_snoc f [] w = omega arith
  total_snoc f (x ∷ xs) w = let h = total_snoc f xs w in omega arith

  pub total_at : (f : View E B → ℕ) (vs : List (View E B)) (j : ℕ) (v : View E B) → get_elem? vs j ≡ some v → f v ≤ total f vs
  total_at f [] j v e = absurd (some-ne-none v (sym e))
  total_at f (x ∷ xs) zero v e = let same : f x ≡ f v = ap f (some-injective x v e) in omega arith
  total_at f (x ∷ xs) (suc j) v e = let h = total_at f xs j v e in omega arith

  pub total_two : (f : View E B → ℕ) (vs : List (View E B)) (j k : ℕ) (v u : View E B) → j ≢ k → get_elem? vs j ≡ some v → get_elem? vs k ≡ some u → f v + f u ≤ total f vs
  total_two f [] j k v u ne e h = absurd (some-ne-none v (sym e))
  total_two f (x ∷ xs) zero zero v u ne e h = absurd (ne refl)
  total_two f (x ∷ xs) zero (suc k) v u ne e h = let same : f x ≡ f v = ap f (some-injective x v e) in let t = total_at f xs k u h in omega arith
  total_two f (x ∷ xs) (suc j) zero v u ne e h = let same : f x ≡ f u = ap f (some-injective x u h) in let t = total_at f xs j v e in omega arith
  total_two f (x ∷ xs) (suc j) (suc k) v u ne e h = let t = total_two f xs j k v u (λ s. ne (ap suc s)) e h in omega arith

  pub apart_snoc : (vs : List (View E B)) (w : View E B) → Apart vs → ((t : ℕ) → Has t w.stage → ⊥) → Apart (vs ++ w ∷ [])
  apart_snoc vs w old bare t j k v u atj atk hj hk = ⊎_elim
      (λ (a : get_elem? vs j ≡ some v). ⊎_elim (λ (b : get_elem? vs k ≡ some u). old t j k v u a b hj hk)
      (λ (b : (k ≡ length vs) × (w ≡ u)). absurd (bare t (subst (λ (x : View E B). Has t x.stage) (sym b.1) hk))) (snoc_at vs w u k atk))
      (λ (a : (j ≡ length vs) × (w ≡ v)). absurd (bare t (subst (λ (x : View E B). Has t x.stage) (sym a.1) hj)))
      (snoc_at vs w v j atj)

  pub total_le : (f h : View E B → ℕ) (vs : List (View E B)) → ((j : ℕ) (v : View E B) → get_elem? vs j ≡ some v → f v ≤ h v) → total f vs ≤ total h vs
  total_le f h [] all = omega arith
  total_le f h (x ∷ xs) all = let a = all 0 x refl in let b = total_le f h xs (λ j v e. all (suc j) v e) in omega arith

module _ {E : Type 0} where
  pub made_by-snoc : (k : ℕ) (xs : List (Entry E)) (m : ℕ) (x : E) → m ≡ k → made_by k (xs ++ entry m x ∷ []) ≡ made_by k xs ++ x ∷ []
  made_by-snoc k [] m x e = ap (λ b. cond b (x ∷ []) []) (eq-eqb k m (sym e))
  made_by-snoc k (y ∷ ys) m x e = dite (ℕ_discrete k y.maker)
      (λ is. let t : eqb k y.maker ≡ _ = eq-eqb k y.maker is in rw t (ap (λ l. y.what ∷ l) (made_by-snoc k ys m x e)))
      (λ not. let t : eqb k y.maker ≡ _ = ne_eqb k y.maker not in rw t (made_by-snoc k ys m x e))

  pub made_by-append : (k : ℕ) (xs ys : List (Entry E)) → made_by k (xs ++ ys) ≡ made_by k xs ++ made_by k ys
  made_by-append k [] ys = refl
  made_by-append k (x ∷ xs) ys = dite (ℕ_discrete k x.maker)
      (λ is. let t : eqb k x.maker ≡ _ = eq-eqb k x.maker is in rw t (ap (λ l. x.what ∷ l) (made_by-append k xs ys)))
      (λ not. let t : eqb k x.maker ≡ _ = ne_eqb k x.maker not in rw t (made_by-append k xs ys))

  -- what lies between two histories with the same entries of a seat has them too
  pub made_by-within : (k : ℕ) (xs ys zs : List (Entry E)) → IsPrefix xs ys → IsPrefix ys zs → made_by k zs ≡ made_by k xs → made_by k ys ≡ made_by k xs
  made_by-within k xs ys zs p q e =
      let a : made_by k xs ++ made_by k p.0 ≡ made_by k ys = sym (made_by-append k xs p.0) ∙ ap (made_by k) p.1 in
      let b : made_by k ys ++ made_by k q.0 ≡ made_by k zs = sym (made_by-append k ys q.0) ∙ ap (made_by k) q.1 in
      let la = length-append (made_by k xs) (made_by k p.0) in let lb = length-append (made_by k ys) (made_by k q.0) in
      let la' : length (made_by k xs ++ made_by k p.0) ≡ length (made_by k ys) = ap length a in let lb' : length (made_by k ys ++ made_by k q.0) ≡ length (made_by k zs) = ap length b in
      let le : length (made_by k zs) ≡ length (made_by k xs) = ap length e in
      let none_more : made_by k p.0 ≡ [] = empty (made_by k p.0) (omega arith) in
      sym a ∙ (ap (λ (l : List E). made_by k xs ++ l) none_more ∙ append-nil (made_by k xs))

  pub made_by-other : (k : ℕ) (xs : List (Entry E)) (m : ℕ) (x : E) → m ≢ k → made_by k (xs ++ entry m x ∷ []) ≡ made_by k xs
  made_by-other k [] m x e = ap (λ b. cond b (x ∷ []) []) (ne_eqb k m (λ s. e (sym s)))
  made_by-other k (y ∷ ys) m x e = dite (ℕ_discrete k y.maker)
      (λ is. let t : eqb k y.maker ≡ _ = eq-eqb k y.maker is in rw t (ap (λ l. y.what ∷ l) (made_by-other k ys m x e)))
      (λ not. let t : eqb k y.maker ≡ _ = ne_eqb k y.maker not in rw t (made_by-other k ys m x e))

module _ {E B : Type 0} where
  pub gone_stays : (vs : List (View E B)) (id n : ℕ) (v w : View E B) → get_elem? vs id ≡ some v → 0 < v.parts → Gone vs n → Gone (set vs id w) n
  gone_stays vs id n v w at part g = let none_left = g.4 in
      (g.0, g.1, g.2, set_else vs id g.0 w (λ (e : g.0 ≡ id). let same : g.1 ≡ v = some-injective g.1 v (sym g.3 ∙ (ap (get_elem? vs) e ∙ at)) in let same' : g.1.parts ≡ v.parts = ap (λ (x : View E B). x.parts) same in absurd (omega arith)) ∙ g.3, g.4)

  pub covered_stays : (vs : List (View E B)) (id : ℕ) (v w : View E B) → get_elem? vs id ≡ some v → 0 < w.parts → w.number ≡ v.number → w.joined ≡ v.joined → Covered vs → Covered (set vs id w)
  covered_stays vs id v w at p n j cov k l = let l' : k < length vs = subst (λ (m : ℕ). k < m) (length-set vs id w) l in let t = cov k l' in dite (ℕ_discrete t.0 id)
      (λ e. let same : t.1 ≡ v = some-injective t.1 v (sym t.2 ∙ (ap (get_elem? vs) e ∙ at)) in
      let tells : TellsOf v (k + 1) = subst (λ (x : View E B). TellsOf x (k + 1)) same t.4 in (
        id,
        w,
        set_here vs id w (at_below vs id v at),
        p,
        ⊎_elim (λ e. inl (e ∙ sym n)) (λ (x : (i : ℕ) × (c : JoinedSeat E) × (get_elem? v.joined i ≡ some c) × ((k + 1) ≡ c.number)). inr (x.0, x.1, ap (λ l. get_elem? l x.0) j ∙ x.2, x.3)) tells,
      ))
      (λ ne. (t.0, t.1, set_else vs id t.0 w ne ∙ t.2, t.3, t.4))

module _ {E : Type 0} where
  pub rest_more : (opening : List E) (n : ℕ) (log : List (Entry E)) (k : ℕ) (e : E) → 0 < k → k ≤ n → Rest opening n log → Rest opening n (log ++ entry k e ∷ [])
  rest_more opening n log k e a b r = record {
    more = r.more ++ entry k e ∷ [];
    is = ap (λ (l : List (Entry E)). l ++ entry k e ∷ []) r.is ∙ append_assoc (marked 0 opening) r.more (entry k e ∷ []);
    makers = All-append (λ (x : Entry E). (0 < x.maker) × (x.maker ≤ n)) r.more (entry k e ∷ []) r.makers (all_one (λ (x : Entry E). (0 < x.maker) × (x.maker ≤ n)) (entry k e) (a, b));
  }

  all_wider : (n : ℕ) (xs : List (Entry E)) → All (λ (e : Entry E). (0 < e.maker) × (e.maker ≤ n)) xs → All (λ (e : Entry E). (0 < e.maker) × (e.maker ≤ n + 1)) xs
  all_wider n xs h k d l = let t = h k d l in let b = t.1 in (t.0, omega arith)

  pub rest_wider : (opening : List E) (n : ℕ) (log : List (Entry E)) → Rest opening n log → Rest opening (n + 1) log
  rest_wider opening n log r = record { more = r.more; is = r.is; makers = all_wider n r.more r.makers }

  pub made_by-marked : (k : ℕ) (xs : List E) → 0 < k → made_by k (marked 0 xs) ≡ []
  made_by-marked k [] h = refl
  made_by-marked k (x ∷ xs) h = ap (λ b. cond b (x ∷ made_by k (marked 0 xs)) (made_by k (marked 0 xs))) (ne_eqb k 0 (λ e. omega arith)) ∙ made_by-marked k xs h

  pub plain-marked : (k : ℕ) (xs : List E) → plain (marked k xs) ≡ xs
  plain-marked k [] = refl
  plain-marked k (x ∷ xs) = ap (λ l. x ∷ l) (plain-marked k xs)

module _ {E B : Type 0} where
  pub gone_longer : (vs : List (View E B)) (n : ℕ) (w : View E B) → Gone vs n → Gone (vs ++ w ∷ []) n
  gone_longer vs n w g = (g.0, g.1, g.2, at_longer vs (w ∷ []) g.0 g.1 g.3, g.4)

  pub gone_spent : (vs : List (View E B)) (other n : ℕ) (v w : View E B) → get_elem? vs other ≡ some v → w.parts ≡ 0 → Gone vs n → Gone (set vs other w) n
  gone_spent vs other n v w at none_left g = dite (ℕ_discrete g.0 other)
      (λ e. (other, w, g.2 ∙ ap (λ (k : ℕ). k + 1) e, set_here vs other w (at_below vs other v at), none_left))
      (λ ne. (g.0, g.1, g.2, set_else vs other g.0 w ne ∙ g.3, g.4))

  -- the seat of this number is the one that tells, or was joined into it
  pub tells_number : (v : View E B) (n : ℕ) → TellsOf v n → (n ≡ v.number) ⊎ Contains (map (λ (c : JoinedSeat E). c.number) v.joined) n
  tells_number v n t = ⊎_elim (λ e. inl e) (λ (x : (i : ℕ) × (c : JoinedSeat E) × (get_elem? v.joined i ≡ some c) × (n ≡ c.number)). inr (contains v.joined x.0 x.1 x.2 x.3)) t
    where
      contains : (cs : List (JoinedSeat E)) (i : ℕ) (c : JoinedSeat E) → get_elem? cs i ≡ some c → n ≡ c.number → Contains (map (λ (c : JoinedSeat E). c.number) cs) n
      contains [] i c e is = absurd (some-ne-none c (sym e))
      contains (d ∷ cs) zero c e is = (0, omega arith, ap (λ (y : JoinedSeat E). y.number) (some-injective d c e) ∙ sym is)
      contains (d ∷ cs) (suc i) c e is = let t = contains cs i c e is in let l = t.1 in (suc t.0, omega arith, t.2)
