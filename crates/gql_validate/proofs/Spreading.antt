-- What is spoiled, found by passes over the pairs.
use Rattle.std.proofs.Common.{◌≡◌, ◌⊎◌, inl, inr, ℕ, suc, ◌+◌, ◌<◌, ◌≤◌, Bool, true, false, ◌||◌, if◌then◌else◌, List, [], ◌∷◌, ◌++◌, Some, length, drop, refl, sym, ap, subst, ◌∙◌, append_assoc, arith}
use Rattle.std.specs.Prelude.{◌==◌, slice_get, IsTrue}
use Rattle.std.proofs.lemmas.Bool.{and_from}
use Rattle.std.proofs.lemmas.Bool.Decides.{eqb_tells}
use Rattle.std.specs.List.{list_any}
use Rattle.std.proofs.lemmas.Option.{slice_get_within, get_or_from_slice_get}
use Rattle.pg_base.proofs.ListSteps.{drop-item}
use Rattle.gql_nodes.specs.Nodes.{At}
use Rattle.gql_nodes.specs.Reached.{IsIn}
use Rattle.gql_nodes.proofs.Closures.{in-left, in-last, in-cases}
use Rattle.gql_validate.specs.declared.pairs.Pair.{Pair}
use Rattle.gql_validate.specs.declared.tables.Tables.{Tables}
use Rattle.gql_validate.specs.SetPairs.{IsSpoiled, clash, further}
use Rattle.gql_validate.specs.Merged.{AreTables, same_pair, same_tells, stands, with_pair, clashes_by, put_clash, put_clashes, listed_steps, leads, put_led, put_each_led, IsSpread}
use Rattle.gql_validate.proofs.Steps.{clashes_are, steps_are}

pub next_listed : (keys out new : List Pair) (at : ℕ) (p : Pair) → slice_get keys at ≡ Some p → new ≡ out ++ p ∷ [] → out ++ drop at keys ≡ keys → new ++ drop (at + 1) keys ≡ keys
next_listed keys out new at p there put before =
    ap (λ l. l ++ drop (at + 1) keys) put ∙ append_assoc out (p ∷ []) (drop (at + 1) keys)
    ∙ ap (λ l. out ++ l) (sym (drop-item keys at p (slice_get_within keys at p there) (sym (get_or_from_slice_get keys at p p there)))) ∙ before

-- ---- pairs that stand

stands_by : (p x : Pair) (xs : List Pair) (b : Bool) → same_pair p x ≡ b → (list_any (same_pair p) xs ≡ true → IsIn xs p) → (b || list_any (same_pair p) xs) ≡ true → IsIn (x ∷ xs) p
stands_by p x xs true same go e = inl (sym (same_tells p x same))
stands_by p x xs false same go e = inr (go e)

pub stand_in : (xs : List Pair) (p : Pair) → stands xs p ≡ true → IsIn xs p
stand_in [] p e = absurd (cc)
stand_in (x ∷ xs) p e = stands_by p x xs (same_pair p x) refl (stand_in xs p) e

pub record Standing (xs list : List Pair) : Type 0 where
  pub pair : Pair
  pub due : IsIn list pair
  pub stands : IsIn xs pair

standing_by : (xs : List Pair) (p : Pair) (due : List Pair) (b : Bool) → stands xs p ≡ b → (list_any (stands xs) due ≡ true → Standing xs due) → (b || list_any (stands xs) due) ≡ true → Standing xs (p ∷ due)
standing_by xs p due true is go e = record { pair = p; due = inl refl; stands = stand_in xs p is }
standing_by xs p due false is go e = let s = go e in record { pair = s.pair; due = inr s.due; stands = s.stands }

pub standing : (xs due : List Pair) → list_any (stands xs) due ≡ true → Standing xs due
standing xs [] e = absurd (cc)
standing xs (p ∷ due) e = standing_by xs p due (stands xs p) refl (standing xs due) e

pub or_left : (a b : Bool) → a ≡ true → (a || b) ≡ true
or_left true b e = refl
or_left false b e = cc

pub or_right : (a b : Bool) → b ≡ true → (a || b) ≡ true
or_right true b e = refl
or_right false b e = e

same_self : (p : Pair) → same_pair p p ≡ true
same_self p = and_from (p.first == p.first) (p.second == p.second) (number_self p.first) (number_self p.second)
  where
    number_self : (n : ℕ) → (n == n) ≡ true
    number_self n = elim (eqb_tells n n) [ inl t ↦ t.0 | inr t ↦ absurd (t.1 refl) ]

pub in_stands : (xs : List Pair) (p : Pair) → IsIn xs p → stands xs p ≡ true
in_stands [] p h = absurd h
in_stands (x ∷ xs) p (inl e) = or_left (same_pair p x) (list_any (same_pair p) xs) (subst (λ y. same_pair p y ≡ true) (sym e) (same_self p))
in_stands (x ∷ xs) p (inr h) = or_right (same_pair p x) (list_any (same_pair p) xs) (in_stands xs p h)

pub among_stands : (xs due : List Pair) (p : Pair) → IsIn due p → IsIn xs p → list_any (stands xs) due ≡ true
among_stands xs [] p h s = absurd h
among_stands xs (q ∷ due) p (inl e) s = or_left (stands xs q) (list_any (stands xs) due) (subst (λ y. stands xs y ≡ true) (sym e) (in_stands xs p s))
among_stands xs (q ∷ due) p (inr h) s = or_right (stands xs q) (list_any (stands xs) due) (among_stands xs due p h s)

-- ---- one pair more

keep_by : (xs : List Pair) (p q : Pair) (b : Bool) → IsIn xs q → IsIn (if b then xs else xs ++ p ∷ []) q
keep_by xs p q true h = h
keep_by xs p q false h = in-left xs (p ∷ []) q h

keep_pair : (xs : List Pair) (p q : Pair) → IsIn xs q → IsIn (with_pair xs p) q
keep_pair xs p q h = keep_by xs p q (stands xs p) h

from_by : (xs : List Pair) (p q : Pair) (b : Bool) → IsIn (if b then xs else xs ++ p ∷ []) q → IsIn xs q ⊎ (p ≡ q)
from_by xs p q true h = inl h
from_by xs p q false h = in-cases xs p q h

from_pair : (xs : List Pair) (p q : Pair) → IsIn (with_pair xs p) q → IsIn xs q ⊎ (p ≡ q)
from_pair xs p q h = from_by xs p q (stands xs p) h

put_by : (xs : List Pair) (p : Pair) (b : Bool) → (b ≡ true → IsIn xs p) → IsIn (if b then xs else xs ++ p ∷ []) p
put_by xs p true go = go refl
put_by xs p false go = in-last xs p

put_in : (xs : List Pair) (p : Pair) → IsIn (with_pair xs p) p
put_in xs p = put_by xs p (stands xs p) (stand_in xs p)

length_end : (xs : List Pair) (p : Pair) → length (xs ++ p ∷ []) ≡ suc (length xs)
length_end [] p = refl
length_end (x ∷ xs) p = ap suc (length_end xs p)

grow_by : (xs : List Pair) (p : Pair) (b : Bool) → length xs ≤ length (if b then xs else xs ++ p ∷ [])
grow_by xs p true = omega arith
grow_by xs p false = let e : length (xs ++ p ∷ []) ≡ suc (length xs) = length_end xs p in omega arith

same_by : (xs : List Pair) (p : Pair) (b : Bool) → length (if b then xs else xs ++ p ∷ []) ≤ length xs → (if b then xs else xs ++ p ∷ []) ≡ xs
same_by xs p true le = refl
same_by xs p false le = let e : length (xs ++ p ∷ []) ≡ suc (length xs) = length_end xs p in absurd (omega arith)

-- ---- a pair that stands already isn't put again

either_way : (xs ys : List Pair) (b : Bool) → ys ≡ xs → xs ≡ (if b then ys else xs)
either_way xs ys true e = sym e
either_way xs ys false e = refl

module _ (nodes : List At) (t : Tables) where
  pub led_already : (xs : List Pair) (p : Pair) → stands xs p ≡ true → xs ≡ put_led nodes t xs p
  led_already xs p e = either_way xs (with_pair xs p) (leads nodes t xs p) (ap (λ b. if b then xs else xs ++ p ∷ []) e)

  -- ---- a pass

  led_keep : (xs : List Pair) (p q : Pair) (b : Bool) → IsIn xs q → IsIn (if b then with_pair xs p else xs) q
  led_keep xs p q true h = keep_pair xs p q h
  led_keep xs p q false h = h

  led_grow : (xs : List Pair) (p : Pair) (b : Bool) → length xs ≤ length (if b then with_pair xs p else xs)
  led_grow xs p true = grow_by xs p (stands xs p)
  led_grow xs p false = omega arith

  led_same : (xs : List Pair) (p : Pair) (b : Bool) → length (if b then with_pair xs p else xs) ≤ length xs → (if b then with_pair xs p else xs) ≡ xs
  led_same xs p true le = same_by xs p (stands xs p) le
  led_same xs p false le = refl

  pub pass_keep : (xs ps : List Pair) (q : Pair) → IsIn xs q → IsIn (put_each_led nodes t xs ps) q
  pass_keep xs [] q h = h
  pass_keep xs (p ∷ ps) q h = pass_keep (put_led nodes t xs p) ps q (led_keep xs p q (leads nodes t xs p) h)

  pass_grow : (xs ps : List Pair) → length xs ≤ length (put_each_led nodes t xs ps)
  pass_grow xs [] = omega arith
  pass_grow xs (p ∷ ps) =
      let one : length xs ≤ length (put_led nodes t xs p) = led_grow xs p (leads nodes t xs p) in
      let rest : length (put_led nodes t xs p) ≤ length (put_each_led nodes t (put_led nodes t xs p) ps) = pass_grow (put_led nodes t xs p) ps in
      omega arith

  -- a pass that puts nothing
  pub pass_same : (xs ps : List Pair) → length (put_each_led nodes t xs ps) ≡ length xs → put_each_led nodes t xs ps ≡ xs
  pass_same xs [] e = refl
  pass_same xs (p ∷ ps) e =
      let rest : length (put_led nodes t xs p) ≤ length (put_each_led nodes t (put_led nodes t xs p) ps) = pass_grow (put_led nodes t xs p) ps in
      let here : put_led nodes t xs p ≡ xs = led_same xs p (leads nodes t xs p) (omega arith) in
      ap (λ l. put_each_led nodes t l ps) here ∙ pass_same xs ps (sym (ap (λ l. length (put_each_led nodes t l ps)) here) ∙ e)

  led_in : (xs : List Pair) (p : Pair) (b : Bool) → b ≡ true → (if b then with_pair xs p else xs) ≡ xs → IsIn xs p
  led_in xs p true e same = subst (λ l. IsIn l p) same (put_in xs p)
  led_in xs p false e same = absurd (cc)

  closed_step : (xs : List Pair) (q p : Pair) (ps : List Pair) → put_led nodes t xs q ≡ xs → IsTrue (leads nodes t xs p) → (IsIn ps p → IsIn xs p) → (q ≡ p) ⊎ IsIn ps p → IsIn xs p
  closed_step xs q p ps here l go (inl same) = subst (λ r. IsIn xs r) same (led_in xs q (leads nodes t xs q) (subst (λ r. leads nodes t xs r ≡ true) (sym same) l) here)
  closed_step xs q p ps here l go (inr h) = go h

  pub pass_closed : (xs ps : List Pair) → length (put_each_led nodes t xs ps) ≡ length xs → (p : Pair) → IsIn ps p → IsTrue (leads nodes t xs p) → IsIn xs p
  pass_closed xs [] e p h l = absurd h
  pass_closed xs (q ∷ ps) e p h l =
      let rest : length (put_led nodes t xs q) ≤ length (put_each_led nodes t (put_led nodes t xs q) ps) = pass_grow (put_led nodes t xs q) ps in
      let here : put_led nodes t xs q ≡ xs = led_same xs q (leads nodes t xs q) (omega arith) in
      closed_step xs q p ps here l (λ i. pass_closed xs ps (sym (ap (λ k. length (put_each_led nodes t k ps)) here) ∙ e) p i l) h

  led_sound : (xs : List Pair) (p : Pair) → AreTables nodes t → ((q : Pair) → IsIn xs q → IsSpoiled nodes q) → (b : Bool) → leads nodes t xs p ≡ b → (q : Pair) → IsIn (if b then with_pair xs p else xs) q → IsSpoiled nodes q
  led_sound xs p h known true e q i =
      let s = standing xs (listed_steps nodes t p) e in
      elim (from_pair xs p q i) [
        | inl a ↦ known q a
        | inr same ↦ subst (IsSpoiled nodes) same (further s.pair (subst (λ l. IsIn l s.pair) (steps_are nodes t h p) s.due) (known s.pair s.stands))
      ]
  led_sound xs p h known false e q i = known q i

  pub pass_sound : (xs ps : List Pair) → AreTables nodes t → ((q : Pair) → IsIn xs q → IsSpoiled nodes q) → (q : Pair) → IsIn (put_each_led nodes t xs ps) q → IsSpoiled nodes q
  pass_sound xs [] h known q i = known q i
  pass_sound xs (p ∷ ps) h known q i = pass_sound (put_led nodes t xs p) ps h (led_sound xs p h known (leads nodes t xs p) refl) q i

  -- ---- the turns

  pub record IsTurn (old new : List Pair) (turn : ℕ) : Type 0 where
    pub kept : (q : Pair) → IsIn old q → IsIn new q
    pub sound : ((q : Pair) → IsIn old q → IsSpoiled nodes q) → (q : Pair) → IsIn new q → IsSpoiled nodes q
    pub grown : turn + 1 ≤ length new

  pub begin_turn : (old : List Pair) → 0 < length old → IsTurn old old 0
  begin_turn old lt = record { kept = λ q h. h; sound = λ known q h. known q h; grown = omega arith }

  pub next_turn : (old now new found : List Pair) (turn : ℕ) → AreTables nodes t → IsTurn old now turn → new ≡ put_each_led nodes t now found → (length new ≡ length now → ⊥) → IsTurn old new (turn + 1)
  next_turn old now new found turn h i is grew =
      let le : length now ≤ length new = subst (λ l. length now ≤ length l) (sym is) (pass_grow now found) in
      let g : turn + 1 ≤ length now = i.grown in
      record {
        kept = λ q a. subst (λ l. IsIn l q) (sym is) (pass_keep now found q (i.kept q a));
        sound = λ known q a. pass_sound now found h (i.sound known) q (subst (λ l. IsIn l q) is a);
        grown = omega arith;
      }

  pub end_turn : (old now new found : List Pair) (turn : ℕ) → AreTables nodes t → IsTurn old now turn → new ≡ put_each_led nodes t now found → length new ≡ length now → IsSpread nodes t found old new
  end_turn old now new found turn h i is same =
      let len : length (put_each_led nodes t now found) ≡ length now = ap length (sym is) ∙ same in
      let kept_same : new ≡ now = is ∙ pass_same now found len in
      subst (IsSpread nodes t found old) (sym kept_same) (record { kept = i.kept; sound = i.sound; closed = pass_closed now found len })

  -- ---- the pairs that clash

  clash_keep : (xs : List Pair) (p q : Pair) (b : Bool) → IsIn xs q → IsIn (if b then with_pair xs p else xs) q
  clash_keep xs p q b h = led_keep xs p q b h

  clashes_keep : (xs ps : List Pair) (q : Pair) → IsIn xs q → IsIn (put_clashes nodes t xs ps) q
  clashes_keep xs [] q h = h
  clashes_keep xs (p ∷ ps) q h = clashes_keep (put_clash nodes t xs p) ps q (clash_keep xs p q (clashes_by nodes t p) h)

  clash_put : (xs : List Pair) (p : Pair) (b : Bool) → b ≡ true → IsIn (if b then with_pair xs p else xs) p
  clash_put xs p true e = put_in xs p
  clash_put xs p false e = absurd (cc)

  pub clashes_put : (xs ps : List Pair) (p : Pair) → IsIn ps p → clashes_by nodes t p ≡ true → IsIn (put_clashes nodes t xs ps) p
  clashes_put xs [] p h e = absurd h
  clashes_put xs (q ∷ ps) p (inl same) e = clashes_keep (put_clash nodes t xs q) ps p (subst (λ r. IsIn (put_clash nodes t xs q) r) same (clash_put xs q (clashes_by nodes t q) (subst (λ r. clashes_by nodes t r ≡ true) (sym same) e)))
  clashes_put xs (q ∷ ps) p (inr h) e = clashes_put (put_clash nodes t xs q) ps p h e

  clash_sound : (xs : List Pair) (p : Pair) → AreTables nodes t → ((q : Pair) → IsIn xs q → IsSpoiled nodes q) → (b : Bool) → clashes_by nodes t p ≡ b → (q : Pair) → IsIn (if b then with_pair xs p else xs) q → IsSpoiled nodes q
  clash_sound xs p h known true e q i = elim (from_pair xs p q i) [ inl a ↦ known q a | inr same ↦ subst (IsSpoiled nodes) same (clash (sym (clashes_are nodes t h p) ∙ e)) ]
  clash_sound xs p h known false e q i = known q i

  pub clashes_sound : (xs ps : List Pair) → AreTables nodes t → ((q : Pair) → IsIn xs q → IsSpoiled nodes q) → (q : Pair) → IsIn (put_clashes nodes t xs ps) q → IsSpoiled nodes q
  clashes_sound xs [] h known q i = known q i
  clashes_sound xs (p ∷ ps) h known q i = clashes_sound (put_clash nodes t xs p) ps h (clash_sound xs p h known (clashes_by nodes t p) refl) q i
