-- Pairs of fields can't merge exactly where pairs of plain selection sets are spoiled.
use Rattle.std.proofs.Common.{◌≡◌, ◌⊎◌, inl, inr, ℕ, zero, suc, ◌+◌, ◌<◌, Bool, true, false, if◌then◌else◌, List, [], ◌∷◌, length, refl, sym, ap, subst, ◌∙◌, arith}
use Rattle.std.specs.Prelude.{IsTrue}
use Rattle.gql_nodes.specs.Nodes.{At}
use Rattle.gql_nodes.specs.Reached.{IsIn, starts as begin, goes_on, ReachedBy}
use Rattle.gql_validate.specs.declared.pairs.Pair.{Pair}
use Rattle.gql_validate.specs.FieldSelectionMerging.{fields_of, sets_of, meet, differ, below, IsPair, CannotMerge, they_differ, below_them, AreJoined, alone, of_pair, Breaks}
use Rattle.gql_validate.specs.SetPairs.{is_empty, is_deep, field_pairs, steps, starts, starts_from, when, IsSpoiled, clash, further}
use Rattle.gql_validate.proofs.PairLists.{pair, in-either, in-right, in_when, from_when, met, pair_forth, pair_back, again, differing, differ_among, Below, both_sets, first_set, second_set, Step, enter_first, enter_second, go_below, step_of, is_step}
use Rattle.gql_nodes.proofs.Closures.{in-left}

module _ (nodes : List At) where
  abbrev pub Enters : List ℕ → ℕ → Type 0
  Enters joined set = ReachedBy joined (sets_of nodes) set

  -- ---- what is spoiled can't merge

  pub record SomePair (joined : List ℕ) : Type 0 where
    pub first : ℕ
    pub second : ℕ
    pub cannot : CannotMerge nodes joined first second

  pair_by : (joined : List ℕ) (a b : ℕ) (m : Pair) → Enters joined a → Enters joined b → IsTrue (meet nodes m.first m.second)
      → (IsIn (fields_of nodes a) m.first × IsIn (fields_of nodes b) m.second) ⊎ (IsIn (fields_of nodes b) m.first × IsIn (fields_of nodes a) m.second) → IsPair nodes joined m.first m.second
  pair_by joined a b m ea eb t (inl h) = record { first = record { set = a; entered = ea; stands = h.0 }; second = record { set = b; entered = eb; stands = h.1 }; meet = t }
  pair_by joined a b m ea eb t (inr h) = record { first = record { set = b; entered = eb; stands = h.0 }; second = record { set = a; entered = ea; stands = h.1 }; meet = t }

  -- the fields of a pair of entered sets
  pub pair_in : (joined : List ℕ) (p m : Pair) → Enters joined p.first → Enters joined p.second → IsIn (field_pairs nodes p) m → IsPair nodes joined m.first m.second
  pair_in joined p m ea eb h = let w = met nodes (fields_of nodes p.first) (fields_of nodes p.second) m h in pair_by joined p.first p.second m ea eb w.meet w.stand

  below_entered : (m q : Pair) → Below nodes m q → ((joined : List ℕ) → Enters joined q.first → Enters joined q.second → SomePair joined) → SomePair (below m.first m.second)
  below_entered m _ (both_sets d e) go = go (below m.first m.second) (begin (inl refl)) (begin (inr (inl refl)))
  below_entered m _ (first_set d) go = go (below m.first m.second) (begin (inl refl)) (begin (inl refl))
  below_entered m _ (second_set d) go = go (below m.first m.second) (begin (inr (inl refl))) (begin (inr (inl refl)))

  spoiled_step : (p q : Pair) (joined : List ℕ) → Step nodes p q → Enters joined p.first → Enters joined p.second → ((j : List ℕ) → Enters j q.first → Enters j q.second → SomePair j) → SomePair joined
  spoiled_step p _ joined (enter_first set h) ea eb go = go joined (goes_on ea h) eb
  spoiled_step p _ joined (enter_second set h) ea eb go = go joined ea (goes_on eb h)
  spoiled_step p q joined (go_below m h b) ea eb go =
      let s = below_entered m q b go in
      record { first = m.first; second = m.second; cannot = below_them s.first s.second (pair_in joined p m ea eb h) s.cannot }

  pub unmergeable : (p : Pair) → IsSpoiled nodes p → (joined : List ℕ) → Enters joined p.first → Enters joined p.second → SomePair joined
  unmergeable p (clash e) joined ea eb =
      let d = differing nodes (field_pairs nodes p) e in
      record { first = d.pair.first; second = d.pair.second; cannot = they_differ (pair_in joined p d.pair ea eb d.stands) d.differ }
  unmergeable p (further q h s) joined ea eb = spoiled_step p q joined (step_of nodes p q h) ea eb (unmergeable q s)

  -- ---- sets in which something stands

  filled : (xs : List ℕ) (x : ℕ) → IsIn xs x → is_empty xs ≡ false
  filled [] x h = absurd h
  filled (y ∷ xs) x h = refl

  always : (b : Bool) → (if b then true else true) ≡ true
  always true = refl
  always false = refl

  pub deep_field : (set f : ℕ) → IsIn (fields_of nodes set) f → is_deep nodes set ≡ true
  deep_field set f h = ap (λ b. if b then (if is_empty (sets_of nodes set) then false else true) else true) (filled (fields_of nodes set) f h)

  deep_set : (set inner : ℕ) → IsIn (sets_of nodes set) inner → is_deep nodes set ≡ true
  deep_set set inner h = ap (λ b. if is_empty (fields_of nodes set) then (if b then false else true) else true) (filled (sets_of nodes set) inner h) ∙ always (is_empty (fields_of nodes set))

  -- ---- from one set to those that it enters

  abbrev pub Chain : ℕ → ℕ → Type 0
  Chain x a = ReachedBy (x ∷ []) (sets_of nodes) a

  only : (x a : ℕ) → IsIn (x ∷ []) a → x ≡ a
  only x a (inl e) = e
  only x a (inr h) = absurd h

  record From (joined : List ℕ) (a : ℕ) : Type 0 where
    set : ℕ
    stands : IsIn joined set
    chain : ReachedBy (set ∷ []) (sets_of nodes) a

  from_joined : (joined : List ℕ) (a : ℕ) → Enters joined a → From joined a
  from_joined joined a (begin h) = record { set = a; stands = h; chain = begin (inl refl) }
  from_joined joined a (goes_on {m = m} r h) = let f = from_joined joined m r in record { set = f.set; stands = f.stands; chain = goes_on f.chain h }

  deep_back : (x a : ℕ) → Chain x a → is_deep nodes a ≡ true → is_deep nodes x ≡ true
  deep_back x a (begin h) d = subst (λ s. is_deep nodes s ≡ true) (sym (only x a h)) d
  deep_back x a (goes_on {m = m} r h) d = deep_back x m r (deep_set m a h)

  -- ---- spoiled either way round

  swap_step : (p q : Pair) → Step nodes p q → IsSpoiled nodes q → IsSpoiled nodes (pair q.second q.first) → IsSpoiled nodes (pair p.second p.first)
  swap_step p _ (enter_first set h) s t = further (pair p.second set) (is_step nodes (pair p.second p.first) (pair p.second set) (enter_second set h)) t
  swap_step p _ (enter_second set h) s t = further (pair set p.first) (is_step nodes (pair p.second p.first) (pair set p.first) (enter_first set h)) t
  swap_step p q (go_below m h b) s t = further q (is_step nodes (pair p.second p.first) q (go_below m (again nodes (fields_of nodes p.first) (fields_of nodes p.second) m h) b)) s

  swapped : (p : Pair) → IsSpoiled nodes p → IsSpoiled nodes (pair p.second p.first)
  swapped p (clash e) =
      let d = differing nodes (field_pairs nodes p) e in
      clash (differ_among nodes (field_pairs nodes (pair p.second p.first)) d.pair (again nodes (fields_of nodes p.first) (fields_of nodes p.second) d.pair d.stands) d.differ)
  swapped p (further q h s) = swap_step p q (step_of nodes p q h) s (swapped q s)

  back_first : (x a b : ℕ) → Chain x a → IsSpoiled nodes (pair a b) → IsSpoiled nodes (pair x b)
  back_first x a b (begin h) s = subst (λ j. IsSpoiled nodes (pair j b)) (sym (only x a h)) s
  back_first x a b (goes_on {m = m} r h) s = back_first x m b r (further (pair a b) (is_step nodes (pair m b) (pair a b) (enter_first a h)) s)

  back_second : (y b a : ℕ) → Chain y b → IsSpoiled nodes (pair a b) → IsSpoiled nodes (pair a y)
  back_second y b a (begin h) s = subst (λ j. IsSpoiled nodes (pair a j)) (sym (only y b h)) s
  back_second y b a (goes_on {m = m} r h) s = back_second y m a r (further (pair a b) (is_step nodes (pair a m) (pair a b) (enter_second b h)) s)

  -- ---- what can't merge is spoiled

  pub record BadBelow (f g : ℕ) : Type 0 where
    pub sets : Pair
    pub below : Below nodes (pair f g) sets
    pub spoiled : IsSpoiled nodes sets

  abbrev pub Deep : ℕ → Type 0
  Deep set = is_deep nodes set ≡ true

  bad_by : (f g x y : ℕ) → IsIn (f ∷ g ∷ []) x → IsIn (f ∷ g ∷ []) y → Deep x → Deep y → IsSpoiled nodes (pair x y) → BadBelow f g
  bad_by f g x y (inl e) (inl d) dx dy s = record { sets = pair f f; below = first_set (subst Deep (sym e) dx); spoiled = subst (λ j. IsSpoiled nodes (pair f j)) (sym d) (subst (λ j. IsSpoiled nodes (pair j y)) (sym e) s) }
  bad_by f g x y (inl e) (inr (inl d)) dx dy s = record { sets = pair f g; below = both_sets (subst Deep (sym e) dx) (subst Deep (sym d) dy); spoiled = subst (λ j. IsSpoiled nodes (pair f j)) (sym d) (subst (λ j. IsSpoiled nodes (pair j y)) (sym e) s) }
  bad_by f g x y (inr (inl e)) (inl d) dx dy s = record { sets = pair f g; below = both_sets (subst Deep (sym d) dy) (subst Deep (sym e) dx); spoiled = swapped (pair g f) (subst (λ j. IsSpoiled nodes (pair g j)) (sym d) (subst (λ j. IsSpoiled nodes (pair j y)) (sym e) s)) }
  bad_by f g x y (inr (inl e)) (inr (inl d)) dx dy s = record { sets = pair g g; below = second_set (subst Deep (sym e) dx); spoiled = subst (λ j. IsSpoiled nodes (pair g j)) (sym d) (subst (λ j. IsSpoiled nodes (pair j y)) (sym e) s) }
  bad_by f g x y (inl e) (inr (inr h)) dx dy s = absurd h
  bad_by f g x y (inr (inl e)) (inr (inr h)) dx dy s = absurd h
  bad_by f g x y (inr (inr h)) d dx dy s = absurd h

  record SpoiledSets (joined : List ℕ) : Type 0 where
    first : ℕ
    second : ℕ
    first_entered : Enters joined first
    second_entered : Enters joined second
    first_deep : is_deep nodes first ≡ true
    second_deep : is_deep nodes second ≡ true
    spoiled : IsSpoiled nodes (pair first second)

  bad_below : (f g : ℕ) → SpoiledSets (below f g) → BadBelow f g
  bad_below f g s =
      let x = from_joined (below f g) s.first s.first_entered in
      let y = from_joined (below f g) s.second s.second_entered in
      bad_by f g x.set y.set x.stands y.stands (deep_back x.set s.first x.chain s.first_deep) (deep_back y.set s.second y.chain s.second_deep)
      (back_second y.set s.second x.set y.chain (back_first x.set s.first s.second x.chain s.spoiled))

  forth : (joined : List ℕ) (f g : ℕ) (p : IsPair nodes joined f g) → IsIn (field_pairs nodes (pair p.first.set p.second.set)) (pair f g)
  forth joined f g p = pair_forth nodes (fields_of nodes p.first.set) (fields_of nodes p.second.set) f g p.first.stands p.second.stands p.meet

  made : (joined : List ℕ) (f g : ℕ) (p : IsPair nodes joined f g) → IsSpoiled nodes (pair p.first.set p.second.set) → SpoiledSets joined
  made joined f g p s = record {
    first = p.first.set;
    second = p.second.set;
    first_entered = p.first.entered;
    second_entered = p.second.entered;
    first_deep = deep_field p.first.set f p.first.stands;
    second_deep = deep_field p.second.set g p.second.stands;
    spoiled = s;
  }

  spoiled_sets : (joined : List ℕ) (f g : ℕ) → CannotMerge nodes joined f g → SpoiledSets joined
  spoiled_sets joined f g (they_differ p d) = made joined f g p (clash (differ_among nodes (field_pairs nodes (pair p.first.set p.second.set)) (pair f g) (forth joined f g p) d))
  spoiled_sets joined f g (below_them h k p c) =
      let b = bad_below f g (spoiled_sets (below f g) h k c) in
      made joined f g p (further b.sets (is_step nodes (pair p.first.set p.second.set) b.sets (go_below (pair f g) (forth joined f g p) b.below)) b.spoiled)

  -- ---- the closure of the starts

  abbrev pub Closed : Pair → Type 0
  Closed p = ReachedBy (starts nodes) (steps nodes) p

  later_start : (place i : ℕ) → (place + 1) + i ≡ place + suc i
  later_start place i = omega arith

  first_start : (place : ℕ) → place ≡ place + zero
  first_start place = omega arith

  in_starts_from : (place : ℕ) (rest : List At) (i : ℕ) → i < length rest → Deep (place + i) → IsIn (starts_from nodes place rest) (pair (place + i) (place + i))
  in_starts_from place [] i lt d = absurd (omega arith)
  in_starts_from place (x ∷ rest) zero lt d =
      let here : IsIn (when (is_deep nodes place) place place) (pair place place) = in_when (is_deep nodes place) place place (subst Deep (sym (first_start place)) d) in
      in-left (when (is_deep nodes place) place place) (starts_from nodes (place + 1) rest) (pair (place + zero) (place + zero)) (subst (λ s. IsIn (when (is_deep nodes place) place place) (pair s s)) (first_start place) here)
  in_starts_from place (x ∷ rest) (suc i) lt d =
      let later = in_starts_from (place + 1) rest i (omega arith) (subst Deep (sym (later_start place i)) d) in
      in-right (when (is_deep nodes place) place place) (starts_from nodes (place + 1) rest) (pair (place + suc i) (place + suc i)) (subst (λ s. IsIn (starts_from nodes (place + 1) rest) (pair s s)) (later_start place i) later)

  zero_more : (i : ℕ) → i ≡ 0 + i
  zero_more i = omega arith

  in_starts : (set : ℕ) → set < length nodes → Deep set → IsIn (starts nodes) (pair set set)
  in_starts set lt d = subst (λ s. IsIn (starts nodes) (pair s s)) (sym (zero_more set)) (in_starts_from 0 nodes set lt (subst Deep (zero_more set) d))

  pub record Start (bound : ℕ) (p : Pair) : Type 0 where
    pub set : ℕ
    pub within : set < bound
    pub is : pair set set ≡ p

  from_starts_by : (place : ℕ) (x : At) (rest : List At) (p : Pair) → (IsIn (starts_from nodes (place + 1) rest) p → Start ((place + 1) + length rest) p) → IsIn (when (is_deep nodes place) place place) p ⊎ IsIn (starts_from nodes (place + 1) rest) p → Start (place + length (x ∷ rest)) p
  from_starts_by place x rest p go (inl a) = let w = from_when (is_deep nodes place) place place p a in record { set = place; within = omega arith; is = w.is }
  from_starts_by place x rest p go (inr b) = let s = go b in let lt : s.set < (place + 1) + length rest = s.within in record { set = s.set; within = omega arith; is = s.is }

  pub from_starts : (place : ℕ) (rest : List At) (p : Pair) → IsIn (starts_from nodes place rest) p → Start (place + length rest) p
  from_starts place [] p h = absurd h
  from_starts place (x ∷ rest) p h = from_starts_by place x rest p (from_starts (place + 1) rest p) (in-either (when (is_deep nodes place) place place) (starts_from nodes (place + 1) rest) p h)

  close_first : (x a b : ℕ) → Chain x a → Closed (pair x b) → Closed (pair a b)
  close_first x a b (begin h) c = subst (λ j. Closed (pair j b)) (only x a h) c
  close_first x a b (goes_on {m = m} r h) c = goes_on (close_first x m b r c) (is_step nodes (pair m b) (pair a b) (enter_first a h))

  close_second : (y b a : ℕ) → Chain y b → Closed (pair a y) → Closed (pair a b)
  close_second y b a (begin h) c = subst (λ j. Closed (pair a j)) (only y b h) c
  close_second y b a (goes_on {m = m} r h) c = goes_on (close_second y m a r c) (is_step nodes (pair a m) (pair a b) (enter_second b h))

  abbrev pub InClosure : ℕ → ℕ → Type 0
  InClosure a b = Closed (pair a b) ⊎ Closed (pair b a)

  closed_below : (joined : List ℕ) (f g : ℕ) (p : IsPair nodes joined f g) (q : Pair) → Below nodes (pair f g) q → InClosure p.first.set p.second.set → Closed q
  closed_below joined f g p q b (inl c) = goes_on c (is_step nodes (pair p.first.set p.second.set) q (go_below (pair f g) (forth joined f g p) b))
  closed_below joined f g p q b (inr c) =
      goes_on c (is_step nodes (pair p.second.set p.first.set) q (go_below (pair f g) (pair_back nodes (fields_of nodes p.first.set) (fields_of nodes p.second.set) f g p.first.stands p.second.stands p.meet) b))

  joined_by : (f g x y a b : ℕ) → ((q : Pair) → Below nodes (pair f g) q → Closed q) → IsIn (f ∷ g ∷ []) x → IsIn (f ∷ g ∷ []) y → Chain x a → Chain y b → Deep x → Deep y → InClosure a b
  joined_by f g x y a b go (inl e) (inl d) cx cy dx dy = inl (close_second y b a cy (close_first x a y cx (subst (λ j. Closed (pair x j)) (sym e ∙ d) (subst (λ j. Closed (pair j x)) e (subst (λ j. Closed (pair f j)) e (go (pair f f) (first_set (subst Deep (sym e) dx))))))))
  joined_by f g x y a b go (inl e) (inr (inl d)) cx cy dx dy = inl (close_second y b a cy (close_first x a y cx (subst (λ j. Closed (pair j y)) e (subst (λ j. Closed (pair f j)) d (go (pair f g) (both_sets (subst Deep (sym e) dx) (subst Deep (sym d) dy)))))))
  joined_by f g x y a b go (inr (inl e)) (inl d) cx cy dx dy = inr (close_second x a b cx (close_first y b x cy (subst (λ j. Closed (pair j x)) d (subst (λ j. Closed (pair f j)) e (go (pair f g) (both_sets (subst Deep (sym d) dy) (subst Deep (sym e) dx)))))))
  joined_by f g x y a b go (inr (inl e)) (inr (inl d)) cx cy dx dy = inl (close_second y b a cy (close_first x a y cx (subst (λ j. Closed (pair j y)) e (subst (λ j. Closed (pair g j)) d (go (pair g g) (second_set (subst Deep (sym e) dx)))))))
  joined_by f g x y a b go (inl e) (inr (inr h)) cx cy dx dy = absurd h
  joined_by f g x y a b go (inr (inl e)) (inr (inr h)) cx cy dx dy = absurd h
  joined_by f g x y a b go (inr (inr h)) d cx cy dx dy = absurd h

  in_joined : (f g a b : ℕ) → ((q : Pair) → Below nodes (pair f g) q → Closed q) → Enters (below f g) a → Enters (below f g) b → Deep a → Deep b → InClosure a b
  in_joined f g a b go ea eb da db =
      let x = from_joined (below f g) a ea in
      let y = from_joined (below f g) b eb in
      joined_by f g x.set y.set a b go x.stands y.stands x.chain y.chain (deep_back x.set a x.chain da) (deep_back y.set b y.chain db)

  pub in_closure : (joined : List ℕ) → AreJoined nodes joined → (a b : ℕ) → Enters joined a → Enters joined b → Deep a → Deep b → InClosure a b
  in_closure _ (alone set lt) a b ea eb da db = inl (close_second set b a eb (close_first set a set ea (begin (in_starts set lt (deep_back set a ea da)))))
  in_closure _ (of_pair {f = f} {g = g} joined j p) a b ea eb da db =
      let outer = in_closure joined j p.first.set p.second.set p.first.entered p.second.entered (deep_field p.first.set f p.first.stands) (deep_field p.second.set g p.second.stands) in
      in_joined f g a b (λ q w. closed_below joined f g p q w outer) ea eb da db

  -- ---- the closure holds sets that are joined

  record JoinedSets (p : Pair) : Type 0 where
    joined : List ℕ
    are_joined : AreJoined nodes joined
    first_entered : Enters joined p.first
    second_entered : Enters joined p.second

  below_joined : (k p : Pair) → AreJoined nodes (below k.first k.second) → Below nodes k p → JoinedSets p
  below_joined k _ j (both_sets d e) = record { joined = below k.first k.second; are_joined = j; first_entered = begin (inl refl); second_entered = begin (inr (inl refl)) }
  below_joined k _ j (first_set d) = record { joined = below k.first k.second; are_joined = j; first_entered = begin (inl refl); second_entered = begin (inl refl) }
  below_joined k _ j (second_set d) = record { joined = below k.first k.second; are_joined = j; first_entered = begin (inr (inl refl)); second_entered = begin (inr (inl refl)) }

  joined_step : (m p : Pair) → JoinedSets m → Step nodes m p → JoinedSets p
  joined_step m _ j (enter_first set h) = record { joined = j.joined; are_joined = j.are_joined; first_entered = goes_on j.first_entered h; second_entered = j.second_entered }
  joined_step m _ j (enter_second set h) = record { joined = j.joined; are_joined = j.are_joined; first_entered = j.first_entered; second_entered = goes_on j.second_entered h }
  joined_step m p j (go_below k h b) = below_joined k p (of_pair j.joined j.are_joined (pair_in j.joined m k j.first_entered j.second_entered h)) b

  none_before : (n : ℕ) (set : ℕ) → set < 0 + n → set < n
  none_before n set lt = omega arith

  joined_start : (p : Pair) → Start (0 + length nodes) p → JoinedSets p
  joined_start p s = subst JoinedSets s.is (record { joined = s.set ∷ []; are_joined = alone s.set (none_before (length nodes) s.set s.within); first_entered = begin (inl refl); second_entered = begin (inl refl) })

  joined_of : (p : Pair) → Closed p → JoinedSets p
  joined_of p (begin h) = joined_start p (from_starts 0 nodes p h)
  joined_of p (goes_on {m = m} r h) = joined_step m p (joined_of m r) (step_of nodes m p h)

  -- ---- the rule

  -- in sets of the closure the field is the later one of two that differ, or below which sets are spoiled
  pub record BreaksIn (place : ℕ) : Type 0 where
    pub sets : Pair
    pub closed : ReachedBy (starts nodes) (steps nodes) sets
    pub first : ℕ
    pub stands : IsIn (field_pairs nodes sets) (pair first place)
    pub bad : IsTrue (differ nodes first place) ⊎ BadBelow first place

  breaks_by : (first place : ℕ) (joined : List ℕ) → AreJoined nodes joined → IsPair nodes joined first place → IsTrue (differ nodes first place) ⊎ BadBelow first place → Breaks nodes place
  breaks_by first place joined j p (inl d) = record { joined = joined; are_joined = j; first = first; cannot = they_differ p d }
  breaks_by first place joined j p (inr b) =
      let s = below_entered (pair first place) b.sets b.below (unmergeable b.sets b.spoiled) in
      record { joined = joined; are_joined = j; first = first; cannot = below_them s.first s.second p s.cannot }

  pub breaks_there : (place : ℕ) → BreaksIn place → Breaks nodes place
  breaks_there place b =
      let j = joined_of b.sets b.closed in
      breaks_by b.first place j.joined j.are_joined (pair_in j.joined b.sets (pair b.first place) j.first_entered j.second_entered b.stands) b.bad

  breaks_at : (joined : List ℕ) (f place : ℕ) (p : IsPair nodes joined f place) → IsTrue (differ nodes f place) ⊎ BadBelow f place → InClosure p.first.set p.second.set → BreaksIn place
  breaks_at joined f place p bad (inl c) = record { sets = pair p.first.set p.second.set; closed = c; first = f; stands = forth joined f place p; bad = bad }
  breaks_at joined f place p bad (inr c) = record { sets = pair p.second.set p.first.set; closed = c; first = f; stands = pair_back nodes (fields_of nodes p.first.set) (fields_of nodes p.second.set) f place p.first.stands p.second.stands p.meet; bad = bad }

  closure_of : (joined : List ℕ) → AreJoined nodes joined → (f g : ℕ) (p : IsPair nodes joined f g) → InClosure p.first.set p.second.set
  closure_of joined j f g p = in_closure joined j p.first.set p.second.set p.first.entered p.second.entered (deep_field p.first.set f p.first.stands) (deep_field p.second.set g p.second.stands)

  there_by : (joined : List ℕ) (f place : ℕ) → AreJoined nodes joined → CannotMerge nodes joined f place → BreaksIn place
  there_by joined f place j (they_differ p d) = breaks_at joined f place p (inl d) (closure_of joined j f place p)
  there_by joined f place j (below_them h k p c) = breaks_at joined f place p (inr (bad_below f place (spoiled_sets (below f place) h k c))) (closure_of joined j f place p)

  pub breaks_in : (place : ℕ) → Breaks nodes place → BreaksIn place
  breaks_in place b = there_by b.joined b.first place b.are_joined b.cannot
