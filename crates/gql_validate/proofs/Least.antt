-- The least place of a field that can't merge, two lists of fields through.
use Rattle.std.proofs.Common.{◌≡◌, ◌⊎◌, inl, inr, ℕ, ◌<◌, ◌≤◌, Bool, true, false, ◌||◌, if◌then◌else◌, List, [], ◌∷◌, ◌++◌, Option, Some, None, refl, sym, ap, subst, ◌∙◌, arith}
use Rattle.std.specs.Prelude.{min, IsTrue}
use Rattle.std.proofs.Math.Nat.{min-eq_left, min-eq_right}
use Rattle.std.proofs.lemmas.Bool.Decides.{leb_tells}
use Rattle.gql_nodes.proofs.Closures.{in-left}
use Rattle.std.specs.List.{list_any}
use Rattle.gql_nodes.specs.Nodes.{At}
use Rattle.gql_nodes.specs.Reached.{IsIn, IsClosure, goes_on}
use Rattle.gql_validate.specs.declared.pairs.Pair.{Pair}
use Rattle.gql_validate.specs.declared.tables.Tables.{Tables}
use Rattle.gql_validate.specs.FieldSelectionMerging.{fields_of, sets_of, meet, differ, Breaks}
use Rattle.gql_validate.specs.SetPairs.{when, in_order, pairs_with, pairs_of, field_pairs, below_pair_in, clashes, steps, starts, IsSpoiled, clash, further}
use Rattle.gql_validate.specs.Merged.{list_at, AreTables, stands, below_pair_by, listed_steps, put_clashes, IsSpread, is_bad, smaller, least_when, least_in_order, least_with, least_of, least_of_sets, least_in, IsLeastBreak, IsLeastFrom}
use Rattle.gql_validate.proofs.PairLists.{pair, in-either, in-right, below_one, put_below, is_step, go_below, differ_among}
use Rattle.gql_validate.proofs.Steps.{clashes_are, steps_are, fields_are, sets_are}
use Rattle.gql_validate.proofs.Spreading.{standing, or_left, or_right, among_stands, clashes_put, clashes_sound}
use Rattle.gql_validate.proofs.CannotMerge.{BadBelow, BreaksIn, breaks_in, breaks_there}

-- ---- the least of a list

abbrev pub least : Option ℕ → List ℕ → Option ℕ
least o [] = o
least o (x ∷ xs) = least (smaller o x) xs

least_append : (o : Option ℕ) (xs ys : List ℕ) → least (least o xs) ys ≡ least o (xs ++ ys)
least_append o [] ys = refl
least_append o (x ∷ xs) ys = least_append (smaller o x) xs ys

-- the later fields of pairs that pass a test
abbrev pub latest : (Pair → Bool) → List Pair → List ℕ
latest bad [] = []
latest bad (p ∷ ps) = if bad p then p.second ∷ latest bad ps else latest bad ps

latest_by : (bad : Pair → Bool) (p : Pair) (ps qs : List Pair) (b : Bool) → latest bad (ps ++ qs) ≡ latest bad ps ++ latest bad qs
    → (if b then p.second ∷ latest bad (ps ++ qs) else latest bad (ps ++ qs)) ≡ (if b then p.second ∷ latest bad ps else latest bad ps) ++ latest bad qs
latest_by bad p ps qs true e = ap (λ l. p.second ∷ l) e
latest_by bad p ps qs false e = e

latest_append : (bad : Pair → Bool) (ps qs : List Pair) → latest bad (ps ++ qs) ≡ latest bad ps ++ latest bad qs
latest_append bad [] qs = refl
latest_append bad (p ∷ ps) qs = latest_by bad p ps qs (bad p) (latest_append bad ps qs)

pub record Later (bad : Pair → Bool) (ps : List Pair) (place : ℕ) : Type 0 where
  pub first : ℕ
  pub stands : IsIn ps (pair first place)
  pub passes : bad (pair first place) ≡ true

later_by : (bad : Pair → Bool) (p : Pair) (ps : List Pair) (place : ℕ) (b : Bool) → bad p ≡ b → (IsIn (latest bad ps) place → Later bad ps place) → IsIn (if b then p.second ∷ latest bad ps else latest bad ps) place → Later bad (p ∷ ps) place
later_by bad p ps place true e go (inl same) = subst (Later bad (p ∷ ps)) same (record { first = p.first; stands = inl refl; passes = e })
later_by bad p ps place true e go (inr h) = let l = go h in record { first = l.first; stands = inr l.stands; passes = l.passes }
later_by bad p ps place false e go h = let l = go h in record { first = l.first; stands = inr l.stands; passes = l.passes }

pub later : (bad : Pair → Bool) (ps : List Pair) (place : ℕ) → IsIn (latest bad ps) place → Later bad ps place
later bad [] place h = absurd h
later bad (p ∷ ps) place h = later_by bad p ps place (bad p) refl (later bad ps place) h

late_here : (bad : Pair → Bool) (p : Pair) (ps : List Pair) (b : Bool) → b ≡ true → IsIn (if b then p.second ∷ latest bad ps else latest bad ps) p.second
late_here bad p ps true e = inl refl
late_here bad p ps false e = absurd (cc)

late_after : (bad : Pair → Bool) (p : Pair) (ps : List Pair) (place : ℕ) (b : Bool) → IsIn (latest bad ps) place → IsIn (if b then p.second ∷ latest bad ps else latest bad ps) place
late_after bad p ps place true h = inr h
late_after bad p ps place false h = h

pub late : (bad : Pair → Bool) (ps : List Pair) (p : Pair) → IsIn ps p → bad p ≡ true → IsIn (latest bad ps) p.second
late bad [] p h e = absurd h
late bad (q ∷ ps) p (inl same) e = subst (λ (r : Pair). IsIn (latest bad (q ∷ ps)) r.second) same (late_here bad q ps (bad q) (subst (λ r. bad r ≡ true) (sym same) e))
late bad (q ∷ ps) p (inr h) e = late_after bad q ps p.second (bad q) (late bad ps p h e)

-- ---- what the least of a list tells

some_same : (x y : ℕ) → Some x ≡ Some y → x ≡ y
some_same x y e = cc

pub record IsLeastOf (m : ℕ) (xs : List ℕ) (k : ℕ) : Type 0 where
  pub below : k ≤ m
  pub each : (x : ℕ) → IsIn xs x → k ≤ x
  pub among : (k ≡ m) ⊎ IsIn xs k

min_cases : (m x : ℕ) → ((min m x ≡ m) × (m ≤ x)) ⊎ ((min m x ≡ x) × (x ≤ m))
min_cases m x = elim (leb_tells m x) [ inl t ↦ inl (min-eq_left t.1, t.1) | inr t ↦ (let le : x ≤ m = (let lt : x < m = t.1 in omega arith) in inr (min-eq_right le, le)) ]

each_more : (x k : ℕ) (xs : List ℕ) → k ≤ x → ((y : ℕ) → IsIn xs y → k ≤ y) → (y : ℕ) → IsIn (x ∷ xs) y → k ≤ y
each_more x k xs le go y (inl same) = subst (λ z. k ≤ z) same le
each_more x k xs le go y (inr h) = go y h

least_more : (m x : ℕ) (xs : List ℕ) (k : ℕ) → IsLeastOf (min m x) xs k → ((min m x ≡ m) × (m ≤ x)) ⊎ ((min m x ≡ x) × (x ≤ m)) → IsLeastOf m (x ∷ xs) k
least_more m x xs k l (inl t) =
    let below : k ≤ m = subst (λ n. k ≤ n) t.0 l.below in
    let le : m ≤ x = t.1 in
    record { below = below; each = each_more x k xs (omega arith) l.each; among = elim l.among [ inl e ↦ inl (e ∙ t.0) | inr h ↦ inr (inr h) ] }
least_more m x xs k l (inr t) =
    let below : k ≤ x = subst (λ n. k ≤ n) t.0 l.below in
    let le : x ≤ m = t.1 in
    record { below = omega arith; each = each_more x k xs below l.each; among = elim l.among [ inl e ↦ inr (inl (sym (e ∙ t.0))) | inr h ↦ inr (inr h) ] }

least_some : (m : ℕ) (xs : List ℕ) (k : ℕ) → least (Some m) xs ≡ Some k → IsLeastOf m xs k
least_some m [] k e = let same : m ≡ k = some_same m k e in record { below = omega arith; each = λ x h. absurd h; among = inl (sym same) }
least_some m (x ∷ xs) k e = least_more m x xs k (least_some (min m x) xs k e) (min_cases m x)

pub record IsLeastAmong (xs : List ℕ) (k : ℕ) : Type 0 where
  pub each : (x : ℕ) → IsIn xs x → k ≤ x
  pub among : IsIn xs k

pub least_among : (xs : List ℕ) (k : ℕ) → least None xs ≡ Some k → IsLeastAmong xs k
least_among [] k e = absurd (cc)
least_among (x ∷ xs) k e =
    let l = least_some x xs k e in
    record { each = each_more x k xs l.below l.each; among = elim l.among [ inl same ↦ inl (sym same) | inr h ↦ inr h ] }

never_none : (m : ℕ) (xs : List ℕ) → least (Some m) xs ≡ None → ⊥
never_none m [] e = absurd (cc)
never_none m (x ∷ xs) e = never_none (min m x) xs e

pub least_nothing : (xs : List ℕ) (x : ℕ) → least None xs ≡ None → IsIn xs x → ⊥
least_nothing [] x e h = h
least_nothing (y ∷ xs) x e h = never_none y xs e

-- ---- the code's loops

module _ (nodes : List At) (t : Tables) (spoiled : List Pair) where
  abbrev pub bad : Pair → Bool
  bad p = is_bad nodes t spoiled p

  when_least : (f g : ℕ) (b : Bool) (o : Option ℕ) → (if b then (if bad (pair f g) then smaller o g else o) else o) ≡ least o (latest bad (when b f g))
  when_least f g true o = one (bad (pair f g))
    where
      one : (c : Bool) → (if c then smaller o g else o) ≡ least o (if c then g ∷ [] else [])
      one true = refl
      one false = refl
  when_least f g false o = refl

  order_least : (f g : ℕ) (o : Option ℕ) → least_in_order nodes t spoiled f g o ≡ least o (latest bad (in_order nodes f g))
  order_least f g o =
      when_least g f (meet nodes g f) (least_when nodes t spoiled f g o)
      ∙ ap (λ a. least a (latest bad (when (meet nodes g f) g f))) (when_least f g (meet nodes f g) o)
      ∙ least_append o (latest bad (when (meet nodes f g) f g)) (latest bad (when (meet nodes g f) g f))
      ∙ ap (least o) (sym (latest_append bad (when (meet nodes f g) f g) (when (meet nodes g f) g f)))

  with_least : (f : ℕ) (gs : List ℕ) (o : Option ℕ) → least_with nodes t spoiled f gs o ≡ least o (latest bad (pairs_with nodes f gs))
  with_least f [] o = refl
  with_least f (g ∷ gs) o =
      with_least f gs (least_in_order nodes t spoiled f g o)
      ∙ ap (λ a. least a (latest bad (pairs_with nodes f gs))) (order_least f g o)
      ∙ least_append o (latest bad (in_order nodes f g)) (latest bad (pairs_with nodes f gs))
      ∙ ap (least o) (sym (latest_append bad (in_order nodes f g) (pairs_with nodes f gs)))

  of_least : (fs gs : List ℕ) (o : Option ℕ) → least_of nodes t spoiled fs gs o ≡ least o (latest bad (pairs_of nodes fs gs))
  of_least [] gs o = refl
  of_least (f ∷ fs) gs o =
      of_least fs gs (least_with nodes t spoiled f gs o)
      ∙ ap (λ a. least a (latest bad (pairs_of nodes fs gs))) (with_least f gs o)
      ∙ least_append o (latest bad (pairs_with nodes f gs)) (latest bad (pairs_of nodes fs gs))
      ∙ ap (least o) (sym (latest_append bad (pairs_with nodes f gs) (pairs_of nodes fs gs)))

  abbrev pub pairs_by : Pair → List Pair
  pairs_by p = pairs_of nodes (list_at t.fields p.first) (list_at t.fields p.second)

  abbrev pub all_pairs : List Pair → List Pair
  all_pairs [] = []
  all_pairs (p ∷ ps) = pairs_by p ++ all_pairs ps

  pub in_least : (found : List Pair) (o : Option ℕ) → least_in nodes t spoiled found o ≡ least o (latest bad (all_pairs found))
  in_least [] o = refl
  in_least (p ∷ ps) o =
      in_least ps (least_of_sets nodes t spoiled p o)
      ∙ ap (λ a. least a (latest bad (all_pairs ps))) (of_least (list_at t.fields p.first) (list_at t.fields p.second) o)
      ∙ least_append o (latest bad (pairs_by p)) (latest bad (all_pairs ps))
      ∙ ap (least o) (sym (latest_append bad (pairs_by p) (all_pairs ps)))

  pub record FromSets (found : List Pair) (m : Pair) : Type 0 where
    pub sets : Pair
    pub within : IsIn found sets
    pub stands : IsIn (pairs_by sets) m

  pub from_all : (ps : List Pair) (m : Pair) → IsIn (all_pairs ps) m → FromSets ps m
  from_all [] m h = absurd h
  from_all (p ∷ ps) m h = elim (in-either (pairs_by p) (all_pairs ps) m h)
      [ inl a ↦ record { sets = p; within = inl refl; stands = a } | inr b ↦ (let f = from_all ps m b in record { sets = f.sets; within = inr f.within; stands = f.stands }) ]

  pub in_all : (ps : List Pair) (p m : Pair) → IsIn ps p → IsIn (pairs_by p) m → IsIn (all_pairs ps) m
  in_all [] p m h i = absurd h
  in_all (q ∷ ps) p m (inl same) i = in-left (pairs_by q) (all_pairs ps) m (subst (λ r. IsIn (pairs_by r) m) (sym same) i)
  in_all (q ∷ ps) p m (inr h) i = in-right (pairs_by q) (all_pairs ps) m (in_all ps p m h i)

-- ---- what is found is what breaks the rule

module _ (nodes : List At) (t : Tables) (h : AreTables nodes t) (found : List Pair) (c : IsClosure (starts nodes) (steps nodes) found) where
  pairs_are : (p : Pair) → pairs_of nodes (list_at t.fields p.first) (list_at t.fields p.second) ≡ field_pairs nodes p
  pairs_are p = ap (λ f. pairs_of nodes (f p.first) (f p.second)) (fields_are nodes t h)

  below_are : (p : Pair) → below_pair_by t p ≡ below_pair_in (fields_of nodes) (sets_of nodes) p
  below_are p = ap (λ f. below_pair_in f (list_at t.sets) p) (fields_are nodes t h) ∙ ap (λ s. below_pair_in (fields_of nodes) s p) (sets_are nodes t h)

  -- pairs with the sets that clash among them, and with each from which a step leads to one of them
  pub record IsWhole (from spoiled : List Pair) : Type 0 where
    pub clashing : (p : Pair) → IsIn found p → IsTrue (clashes nodes p) → IsIn spoiled p
    pub closed : (p q : Pair) → IsIn found p → IsIn (steps nodes p) q → IsIn spoiled q → IsIn spoiled p
    pub sound : (p : Pair) → IsIn spoiled p → IsSpoiled nodes p

  Found : Pair → Type 0
  Found p = IsIn found p

  next_found : (p q : Pair) → IsIn found p → IsIn (steps nodes p) q → IsIn found q
  next_found p q i s = c.complete q (goes_on (c.reached p i) s)

  complete : (from spoiled : List Pair) → IsWhole from spoiled → (p : Pair) → IsSpoiled nodes p → IsIn found p → IsIn spoiled p
  complete from spoiled w p (clash e) i = w.clashing p i e
  complete from spoiled w p (further q s k) i = w.closed p q i s (complete from spoiled w q k (next_found p q i s))

  bad_is : (from spoiled : List Pair) → IsWhole from spoiled → (sets : Pair) (f g : ℕ) → IsIn found sets → IsIn (field_pairs nodes sets) (pair f g) → IsTrue (differ nodes f g) ⊎ BadBelow nodes f g → is_bad nodes t spoiled (pair f g) ≡ true
  bad_is from spoiled w sets f g i s (inl d) = or_left (differ nodes f g) (list_any (stands spoiled) (below_pair_by t (pair f g))) d
  bad_is from spoiled w sets f g i s (inr b) =
      let there : IsIn found b.sets = next_found sets b.sets i (is_step nodes sets b.sets (go_below (pair f g) s b.below)) in
      let among : IsIn (below_pair_by t (pair f g)) b.sets = subst (λ l. IsIn l b.sets) (sym (below_are (pair f g))) (put_below nodes (pair f g) b.sets b.below) in
      or_right (differ nodes f g) (list_any (stands spoiled) (below_pair_by t (pair f g))) (among_stands spoiled (below_pair_by t (pair f g)) b.sets among (complete from spoiled w b.sets b.spoiled there))

  bad_tells_by : (from spoiled : List Pair) → IsWhole from spoiled → (f g : ℕ) (b : Bool) → differ nodes f g ≡ b → (b || list_any (stands spoiled) (below_pair_by t (pair f g))) ≡ true → IsTrue (differ nodes f g) ⊎ BadBelow nodes f g
  bad_tells_by from spoiled w f g true is e = inl is
  bad_tells_by from spoiled w f g false is e =
      let s = standing spoiled (below_pair_by t (pair f g)) e in
      inr (record { sets = s.pair; below = below_one nodes (pair f g) s.pair (subst (λ l. IsIn l s.pair) (below_are (pair f g)) s.due); spoiled = w.sound s.pair s.stands })

  place_breaks : (from spoiled : List Pair) → IsWhole from spoiled → (place : ℕ) → IsIn (latest (is_bad nodes t spoiled) (all_pairs nodes t spoiled found)) place → Breaks nodes place
  place_breaks from spoiled w place i =
      let l = later (is_bad nodes t spoiled) (all_pairs nodes t spoiled found) place i in
      let f = from_all nodes t spoiled found (pair l.first place) l.stands in
      breaks_there nodes place (record {
        sets = f.sets;
        closed = c.reached f.sets f.within;
        first = l.first;
        stands = subst (λ p. IsIn p (pair l.first place)) (pairs_are f.sets) f.stands;
        bad = bad_tells_by from spoiled w l.first place (differ nodes l.first place) refl l.passes;
      })

  breaks_place : (from spoiled : List Pair) → IsWhole from spoiled → (place : ℕ) → Breaks nodes place → IsIn (latest (is_bad nodes t spoiled) (all_pairs nodes t spoiled found)) place
  breaks_place from spoiled w place b =
      let i = breaks_in nodes place b in
      let there : IsIn found i.sets = c.complete i.sets i.closed in
      late (is_bad nodes t spoiled) (all_pairs nodes t spoiled found) (pair i.first place)
      (in_all nodes t spoiled found i.sets (pair i.first place) there (subst (λ p. IsIn p (pair i.first place)) (sym (pairs_are i.sets)) i.stands))
      (bad_is from spoiled w i.sets i.first place there i.stands i.bad)

  answer_by : (from spoiled : List Pair) → IsWhole from spoiled → (made : Option ℕ) → least None (latest (is_bad nodes t spoiled) (all_pairs nodes t spoiled found)) ≡ made → IsLeastBreak nodes made
  answer_by from spoiled w None e = λ place b. least_nothing (latest (is_bad nodes t spoiled) (all_pairs nodes t spoiled found)) place e (breaks_place from spoiled w place b)
  answer_by from spoiled w (Some k) e =
      let l = least_among (latest (is_bad nodes t spoiled) (all_pairs nodes t spoiled found)) k e in
      (place_breaks from spoiled w k l.among, λ place b. l.each place (breaks_place from spoiled w place b))

  none_first : (p : Pair) → IsIn [] p → IsSpoiled nodes p
  none_first p i = absurd i

  whole_from : (from spoiled : List Pair) → from ≡ put_clashes nodes t [] found → IsSpread nodes t found from spoiled → IsWhole from spoiled
  whole_from from spoiled is s = record {
    clashing = λ p i e. s.kept p (subst (λ l. IsIn l p) (sym is) (clashes_put nodes t [] found p i (clashes_are nodes t h p ∙ e)));
    closed = λ p q i k j. s.closed p i (among_stands spoiled (listed_steps nodes t p) q (subst (λ l. IsIn l q) (sym (steps_are nodes t h p)) k) j);
    sound = s.sound (λ q i. clashes_sound nodes t [] found h none_first q (subst (λ l. IsIn l q) is i));
  }

  -- where sets clash
  pub answer : (from : List Pair) (made : Option ℕ) → from ≡ put_clashes nodes t [] found → IsLeastFrom nodes t found from made → IsLeastBreak nodes made
  answer from made is l =
      answer_by from l.spoiled (whole_from from l.spoiled is l.spread) made (sym (in_least nodes t l.spoiled found None) ∙ sym l.least)

  nothing_whole : put_clashes nodes t [] found ≡ [] → IsWhole [] []
  nothing_whole e = record {
    clashing = λ p i d. subst (λ l. IsIn l p) e (clashes_put nodes t [] found p i (clashes_are nodes t h p ∙ d));
    closed = λ p q i k j. absurd j;
    sound = λ p i. absurd i;
  }

  none_spoiled : IsWhole [] [] → (p : Pair) → IsSpoiled nodes p → IsIn found p → ⊥
  none_spoiled w p k i = complete [] [] w p k i

  none_bad : IsWhole [] [] → (place : ℕ) (i : BreaksIn nodes place) → IsIn found i.sets → IsTrue (differ nodes i.first place) ⊎ BadBelow nodes i.first place → ⊥
  none_bad w place i there (inl d) = w.clashing i.sets there (differ_among nodes (field_pairs nodes i.sets) (pair i.first place) i.stands d)
  none_bad w place i there (inr b) = none_spoiled w b.sets b.spoiled (next_found i.sets b.sets there (is_step nodes i.sets b.sets (go_below (pair i.first place) i.stands b.below)))

  -- where none do, nothing breaks the rule
  pub no_answer : put_clashes nodes t [] found ≡ [] → IsLeastBreak nodes None
  no_answer e place b = let i = breaks_in nodes place b in none_bad (nothing_whole e) place i (c.complete i.sets i.closed) i.bad
