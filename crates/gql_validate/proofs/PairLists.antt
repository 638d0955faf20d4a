-- What stands in the lists of pairs.
use Rattle.std.proofs.Common.{◌≡◌, ◌⊎◌, inl, inr, ℕ, Bool, true, false, ◌||◌, ◌&&◌, List, [], ◌∷◌, ◌++◌, refl, sym, ap, subst}
use Rattle.std.specs.Prelude.{IsTrue}
use Rattle.std.proofs.lemmas.Bool.{and_from, and_parts}
use Rattle.gql_nodes.specs.Nodes.{At}
use Rattle.gql_nodes.specs.Reached.{IsIn}
use Rattle.gql_nodes.proofs.Closures.{in-left}
use Rattle.gql_validate.specs.declared.pairs.Pair.{Pair}
use Rattle.gql_validate.specs.FieldSelectionMerging.{sets_of, meet, differ}
use Rattle.gql_validate.specs.SetPairs.{is_deep, when, in_order, pairs_with, pairs_of, field_pairs, any_differ, with_second, with_first, below_pair, below_each, steps}

abbrev pub pair : ℕ → ℕ → Pair
pair first second = record { first = first; second = second }

pub in-right : {A : Type 0} (xs ys : List A) (x : A) → IsIn ys x → IsIn (xs ++ ys) x
in-right [] ys x h = h
in-right (y ∷ xs) ys x h = inr (in-right xs ys x h)

pub in-either : {A : Type 0} (xs ys : List A) (x : A) → IsIn (xs ++ ys) x → IsIn xs x ⊎ IsIn ys x
in-either [] ys x h = inr h
in-either (y ∷ xs) ys x (inl e) = inl (inl e)
in-either (y ∷ xs) ys x (inr h) = elim (in-either xs ys x h) [ inl a ↦ inl (inr a) | inr b ↦ inr b ]

-- ---- one pair, where a test holds

pub in_when : (b : Bool) (f g : ℕ) → b ≡ true → IsIn (when b f g) (pair f g)
in_when true f g e = inl refl
in_when false f g e = absurd (cc)

pub record Held (b : Bool) (f g : ℕ) (p : Pair) : Type 0 where
  pub holds : b ≡ true
  pub is : pair f g ≡ p

pub from_when : (b : Bool) (f g : ℕ) (p : Pair) → IsIn (when b f g) p → Held b f g p
from_when true f g p (inl e) = record { holds = refl; is = e }
from_when true f g p (inr h) = absurd h
from_when false f g p h = absurd h

-- ---- pairs of fields

-- one of the fields stands in either list, and they meet
pub record Met (nodes : List At) (fs gs : List ℕ) (p : Pair) : Type 0 where
  pub stand : (IsIn fs p.first × IsIn gs p.second) ⊎ (IsIn gs p.first × IsIn fs p.second)
  pub meet : IsTrue (meet nodes p.first p.second)

module _ (nodes : List At) where
  met_here : (f g : ℕ) (fs gs : List ℕ) (p : Pair) → IsIn fs f → IsIn gs g → IsIn (in_order nodes f g) p → Met nodes fs gs p
  met_here f g fs gs p hf hg h = met_by (in-either (when (meet nodes f g) f g) (when (meet nodes g f) g f) p h)
    where
      met_by : IsIn (when (meet nodes f g) f g) p ⊎ IsIn (when (meet nodes g f) g f) p → Met nodes fs gs p
      met_by (inl a) = let w = from_when (meet nodes f g) f g p a in subst (Met nodes fs gs) w.is (record { stand = inl (hf, hg); meet = w.holds })
      met_by (inr b) = let w = from_when (meet nodes g f) g f p b in subst (Met nodes fs gs) w.is (record { stand = inr (hg, hf); meet = w.holds })

  met_with : (f : ℕ) (fs gs hs : List ℕ) (p : Pair) → IsIn fs f → ((g : ℕ) → IsIn hs g → IsIn gs g) → IsIn (pairs_with nodes f hs) p → Met nodes fs gs p
  met_with f fs gs [] p hf sub h = absurd h
  met_with f fs gs (g ∷ hs) p hf sub h = elim (in-either (in_order nodes f g) (pairs_with nodes f hs) p h)
      [ inl a ↦ met_here f g fs gs p hf (sub g (inl refl)) a | inr b ↦ met_with f fs gs hs p hf (λ k i. sub k (inr i)) b ]

  met_each : (fs gs es : List ℕ) (p : Pair) → ((f : ℕ) → IsIn es f → IsIn fs f) → IsIn (pairs_of nodes es gs) p → Met nodes fs gs p
  met_each fs gs [] p sub h = absurd h
  met_each fs gs (f ∷ es) p sub h = elim (in-either (pairs_with nodes f gs) (pairs_of nodes es gs) p h)
      [ inl a ↦ met_with f fs gs gs p (sub f (inl refl)) (λ k i. i) a | inr b ↦ met_each fs gs es p (λ k i. sub k (inr i)) b ]

  pub met : (fs gs : List ℕ) (p : Pair) → IsIn (pairs_of nodes fs gs) p → Met nodes fs gs p
  met fs gs p h = met_each fs gs fs p (λ k i. i) h

  put_here : (f g : ℕ) → IsTrue (meet nodes f g) → IsIn (in_order nodes f g) (pair f g)
  put_here f g m = in-left (when (meet nodes f g) f g) (when (meet nodes g f) g f) (pair f g) (in_when (meet nodes f g) f g m)

  put_back : (f g : ℕ) → IsTrue (meet nodes g f) → IsIn (in_order nodes f g) (pair g f)
  put_back f g m = in-right (when (meet nodes f g) f g) (when (meet nodes g f) g f) (pair g f) (in_when (meet nodes g f) g f m)

  put_with : (f : ℕ) (gs : List ℕ) (g : ℕ) (p : Pair) → IsIn gs g → IsIn (in_order nodes f g) p → IsIn (pairs_with nodes f gs) p
  put_with f [] g p h i = absurd h
  put_with f (k ∷ gs) g p (inl e) i = in-left (in_order nodes f k) (pairs_with nodes f gs) p (subst (λ j. IsIn (in_order nodes f j) p) (sym e) i)
  put_with f (k ∷ gs) g p (inr h) i = in-right (in_order nodes f k) (pairs_with nodes f gs) p (put_with f gs g p h i)

  put_each : (fs gs : List ℕ) (f g : ℕ) (p : Pair) → IsIn fs f → IsIn gs g → IsIn (in_order nodes f g) p → IsIn (pairs_of nodes fs gs) p
  put_each [] gs f g p h hg i = absurd h
  put_each (k ∷ fs) gs f g p (inl e) hg i = in-left (pairs_with nodes k gs) (pairs_of nodes fs gs) p (put_with k gs g p hg (subst (λ j. IsIn (in_order nodes j g) p) (sym e) i))
  put_each (k ∷ fs) gs f g p (inr h) hg i = in-right (pairs_with nodes k gs) (pairs_of nodes fs gs) p (put_each fs gs f g p h hg i)

  -- a pair of fields that meet is found, whichever set comes first
  pub pair_forth : (fs gs : List ℕ) (f g : ℕ) → IsIn fs f → IsIn gs g → IsTrue (meet nodes f g) → IsIn (pairs_of nodes fs gs) (pair f g)
  pair_forth fs gs f g hf hg m = put_each fs gs f g (pair f g) hf hg (put_here f g m)

  pub pair_back : (fs gs : List ℕ) (f g : ℕ) → IsIn fs f → IsIn gs g → IsTrue (meet nodes f g) → IsIn (pairs_of nodes gs fs) (pair f g)
  pair_back fs gs f g hf hg m = put_each gs fs g f (pair f g) hg hf (put_back g f m)

  again_by : (fs gs : List ℕ) (p : Pair) → IsTrue (meet nodes p.first p.second) → (IsIn fs p.first × IsIn gs p.second) ⊎ (IsIn gs p.first × IsIn fs p.second) → IsIn (pairs_of nodes gs fs) p
  again_by fs gs p m (inl a) = pair_back fs gs p.first p.second a.0 a.1 m
  again_by fs gs p m (inr b) = pair_forth gs fs p.first p.second b.0 b.1 m

  -- the same pairs, whichever list comes first
  pub again : (fs gs : List ℕ) (p : Pair) → IsIn (pairs_of nodes fs gs) p → IsIn (pairs_of nodes gs fs) p
  again fs gs p h = let w = met fs gs p h in again_by fs gs p w.meet w.stand

  -- ---- pairs that differ

  pub record Differing (ps : List Pair) : Type 0 where
    pub pair : Pair
    pub stands : IsIn ps pair
    pub differ : IsTrue (differ nodes pair.first pair.second)

  differing_by : (p : Pair) (ps : List Pair) (b : Bool) → differ nodes p.first p.second ≡ b → (any_differ nodes ps ≡ true → Differing ps) → (b || any_differ nodes ps) ≡ true → Differing (p ∷ ps)
  differing_by p ps true is go e = record { pair = p; stands = inl refl; differ = is }
  differing_by p ps false is go e = let d = go e in record { pair = d.pair; stands = inr d.stands; differ = d.differ }

  pub differing : (ps : List Pair) → IsTrue (any_differ nodes ps) → Differing ps
  differing [] e = absurd (cc)
  differing (p ∷ ps) e = differing_by p ps (differ nodes p.first p.second) refl (differing ps) e

  either_true : (a b : Bool) → b ≡ true → (a || b) ≡ true
  either_true true b e = refl
  either_true false b e = e

  first_true : (a b : Bool) → a ≡ true → (a || b) ≡ true
  first_true true b e = refl
  first_true false b e = cc

  pub differ_among : (ps : List Pair) (p : Pair) → IsIn ps p → IsTrue (differ nodes p.first p.second) → IsTrue (any_differ nodes ps)
  differ_among [] p h d = absurd h
  differ_among (q ∷ ps) p (inl e) d = first_true (differ nodes q.first q.second) (any_differ nodes ps) (subst (λ (r : Pair). differ nodes r.first r.second ≡ true) (sym e) d)
  differ_among (q ∷ ps) p (inr h) d = either_true (differ nodes q.first q.second) (any_differ nodes ps) (differ_among ps p h d)

-- ---- pairs with one set changed

pub put_second : (firsts : List ℕ) (second first : ℕ) → IsIn firsts first → IsIn (with_second firsts second) (pair first second)
put_second [] second first h = absurd h
put_second (k ∷ firsts) second first (inl e) = inl (ap (λ j. pair j second) e)
put_second (k ∷ firsts) second first (inr h) = inr (put_second firsts second first h)

pub put_first : (first : ℕ) (seconds : List ℕ) (second : ℕ) → IsIn seconds second → IsIn (with_first first seconds) (pair first second)
put_first first [] second h = absurd h
put_first first (k ∷ seconds) second (inl e) = inl (ap (λ j. pair first j) e)
put_first first (k ∷ seconds) second (inr h) = inr (put_first first seconds second h)

pub record Changed (list : List ℕ) (make : ℕ → Pair) (p : Pair) : Type 0 where
  pub place : ℕ
  pub stands : IsIn list place
  pub is : make place ≡ p

pub from_second : (firsts : List ℕ) (second : ℕ) (p : Pair) → IsIn (with_second firsts second) p → Changed firsts (λ j. pair j second) p
from_second [] second p h = absurd h
from_second (k ∷ firsts) second p (inl e) = record { place = k; stands = inl refl; is = e }
from_second (k ∷ firsts) second p (inr h) = let c = from_second firsts second p h in record { place = c.place; stands = inr c.stands; is = c.is }

pub from_first : (first : ℕ) (seconds : List ℕ) (p : Pair) → IsIn (with_first first seconds) p → Changed seconds (λ j. pair first j) p
from_first first [] p h = absurd h
from_first first (k ∷ seconds) p (inl e) = record { place = k; stands = inl refl; is = e }
from_first first (k ∷ seconds) p (inr h) = let c = from_first first seconds p h in record { place = c.place; stands = inr c.stands; is = c.is }

-- ---- below pairs of fields

-- sets of the two fields, in which something stands
pub data Below (nodes : List At) (p : Pair) : Pair → Type 0 where
  both_sets : is_deep nodes p.first ≡ true → is_deep nodes p.second ≡ true → Below nodes p (pair p.first p.second)
  first_set : is_deep nodes p.first ≡ true → Below nodes p (pair p.first p.first)
  second_set : is_deep nodes p.second ≡ true → Below nodes p (pair p.second p.second)

module _ (nodes : List At) where
  below_rest : (p q : Pair) → IsIn (when (is_deep nodes p.first) p.first p.first ++ when (is_deep nodes p.second) p.second p.second) q → Below nodes p q
  below_rest p q h = rest (in-either (when (is_deep nodes p.first) p.first p.first) (when (is_deep nodes p.second) p.second p.second) q h)
    where
      rest : IsIn (when (is_deep nodes p.first) p.first p.first) q ⊎ IsIn (when (is_deep nodes p.second) p.second p.second) q → Below nodes p q
      rest (inl a) = let w = from_when (is_deep nodes p.first) p.first p.first q a in subst (Below nodes p) w.is (first_set w.holds)
      rest (inr b) = let w = from_when (is_deep nodes p.second) p.second p.second q b in subst (Below nodes p) w.is (second_set w.holds)

  pub below_one : (p q : Pair) → IsIn (below_pair nodes p) q → Below nodes p q
  below_one p q h = one (in-either (when (is_deep nodes p.first && is_deep nodes p.second) p.first p.second) (when (is_deep nodes p.first) p.first p.first ++ when (is_deep nodes p.second) p.second p.second) q h)
    where
      one : IsIn (when (is_deep nodes p.first && is_deep nodes p.second) p.first p.second) q ⊎ IsIn (when (is_deep nodes p.first) p.first p.first ++ when (is_deep nodes p.second) p.second p.second) q → Below nodes p q
      one (inl a) = let w = from_when (is_deep nodes p.first && is_deep nodes p.second) p.first p.second q a in let d = and_parts (is_deep nodes p.first) (is_deep nodes p.second) w.holds in subst (Below nodes p) w.is (both_sets d.0 d.1)
      one (inr b) = below_rest p q b

  pub record BelowSome (ps : List Pair) (q : Pair) : Type 0 where
    pub pair : Pair
    pub stands : IsIn ps pair
    pub below : Below nodes pair q

  pub from_below : (ps : List Pair) (q : Pair) → IsIn (below_each nodes ps) q → BelowSome ps q
  from_below [] q h = absurd h
  from_below (p ∷ ps) q h = elim (in-either (below_pair nodes p) (below_each nodes ps) q h)
      [ inl a ↦ record { pair = p; stands = inl refl; below = below_one p q a } | inr b ↦ let s = from_below ps q b in record { pair = s.pair; stands = inr s.stands; below = s.below } ]

  pub put_below : (p q : Pair) → Below nodes p q → IsIn (below_pair nodes p) q
  put_below p _ (both_sets d e) = in-left (when (is_deep nodes p.first && is_deep nodes p.second) p.first p.second) (when (is_deep nodes p.first) p.first p.first ++ when (is_deep nodes p.second) p.second p.second) (pair p.first p.second) (in_when (is_deep nodes p.first && is_deep nodes p.second) p.first p.second (and_from (is_deep nodes p.first) (is_deep nodes p.second) d e))
  put_below p _ (first_set d) = in-right (when (is_deep nodes p.first && is_deep nodes p.second) p.first p.second) (when (is_deep nodes p.first) p.first p.first ++ when (is_deep nodes p.second) p.second p.second) (pair p.first p.first) (in-left (when (is_deep nodes p.first) p.first p.first) (when (is_deep nodes p.second) p.second p.second) (pair p.first p.first) (in_when (is_deep nodes p.first) p.first p.first d))
  put_below p _ (second_set d) = in-right (when (is_deep nodes p.first && is_deep nodes p.second) p.first p.second) (when (is_deep nodes p.first) p.first p.first ++ when (is_deep nodes p.second) p.second p.second) (pair p.second p.second) (in-right (when (is_deep nodes p.first) p.first p.first) (when (is_deep nodes p.second) p.second p.second) (pair p.second p.second) (in_when (is_deep nodes p.second) p.second p.second d))

  pub put_below_some : (ps : List Pair) (p q : Pair) → IsIn ps p → Below nodes p q → IsIn (below_each nodes ps) q
  put_below_some [] p q h b = absurd h
  put_below_some (r ∷ ps) p q (inl e) b = in-left (below_pair nodes r) (below_each nodes ps) q (put_below r q (subst (λ s. Below nodes s q) (sym e) b))
  put_below_some (r ∷ ps) p q (inr h) b = in-right (below_pair nodes r) (below_each nodes ps) q (put_below_some ps p q h b)

  -- ---- steps, by cases

  pub data Step (p : Pair) : Pair → Type 0 where
    enter_first : (set : ℕ) → IsIn (sets_of nodes p.first) set → Step p (pair set p.second)
    enter_second : (set : ℕ) → IsIn (sets_of nodes p.second) set → Step p (pair p.first set)
    go_below : {q : Pair} (m : Pair) → IsIn (field_pairs nodes p) m → Below nodes m q → Step p q

  step_rest : (p q : Pair) → IsIn (with_first p.first (sets_of nodes p.second)) q ⊎ IsIn (below_each nodes (field_pairs nodes p)) q → Step p q
  step_rest p q (inl a) = let c = from_first p.first (sets_of nodes p.second) q a in subst (Step p) c.is (enter_second c.place c.stands)
  step_rest p q (inr b) = let s = from_below (field_pairs nodes p) q b in go_below s.pair s.stands s.below

  step_by : (p q : Pair) → IsIn (with_second (sets_of nodes p.first) p.second) q ⊎ IsIn (with_first p.first (sets_of nodes p.second) ++ below_each nodes (field_pairs nodes p)) q → Step p q
  step_by p q (inl a) = let c = from_second (sets_of nodes p.first) p.second q a in subst (Step p) c.is (enter_first c.place c.stands)
  step_by p q (inr b) = step_rest p q (in-either (with_first p.first (sets_of nodes p.second)) (below_each nodes (field_pairs nodes p)) q b)

  pub step_of : (p q : Pair) → IsIn (steps nodes p) q → Step p q
  step_of p q h = step_by p q (in-either (with_second (sets_of nodes p.first) p.second) (with_first p.first (sets_of nodes p.second) ++ below_each nodes (field_pairs nodes p)) q h)

  pub is_step : (p q : Pair) → Step p q → IsIn (steps nodes p) q
  is_step p _ (enter_first set h) = in-left (with_second (sets_of nodes p.first) p.second) (with_first p.first (sets_of nodes p.second) ++ below_each nodes (field_pairs nodes p)) (pair set p.second) (put_second (sets_of nodes p.first) p.second set h)
  is_step p _ (enter_second set h) = in-right (with_second (sets_of nodes p.first) p.second) (with_first p.first (sets_of nodes p.second) ++ below_each nodes (field_pairs nodes p)) (pair p.first set) (in-left (with_first p.first (sets_of nodes p.second)) (below_each nodes (field_pairs nodes p)) (pair p.first set) (put_first p.first (sets_of nodes p.second) set h))
  is_step p q (go_below m h b) = in-right (with_second (sets_of nodes p.first) p.second) (with_first p.first (sets_of nodes p.second) ++ below_each nodes (field_pairs nodes p)) q (in-right (with_first p.first (sets_of nodes p.second)) (below_each nodes (field_pairs nodes p)) q (put_below_some (field_pairs nodes p) m q h b))
