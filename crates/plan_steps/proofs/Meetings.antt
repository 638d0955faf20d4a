-- Where a place is met: once where it stands below the root, else once for each state that the place above gives where it
-- is met.
use Rattle.std.proofs.Common.{◌≡◌, ℕ, ◌+◌, ◌<◌, ◌≤◌, List, [], ◌∷◌, ◌++◌, map, length, drop, Option, Some, None, Bool, true, false, cond, refl, sym, ap, ◌∙◌, subst, arith, inl, inr, append_assoc, append-nil, ne_eqb, eq-eqb, length-drop}
use Rattle.std.proofs.lemmas.Option.{slice_get_within}
use Rattle.std.specs.Prelude.{slice_get, ◌==◌, ⊤}
use Rattle.place_tree.specs.declared.place.Place.{Place}
use Rattle.place_tree.specs.declared.answer.Answer.{Answer}
use Rattle.place_tree.specs.declared.answer.Answer.TheVariants.{Shows, Fails, One, Many}
use Rattle.place_tree.specs.Fold.{below, same_place, when, fold}
use Rattle.place_tree.proofs.Folds.{same_place_true}
use Rattle.place_tree.proofs.Lists.{get_drop, drop_next}
use Rattle.plan_steps.specs.Values.{Path}
use Rattle.plan_steps.proofs.Bools.{same_or}
use Rattle.plan_steps.proofs.Visits.{Visit, joined, visits_in, met}

-- ---- lists of lists

abbrev pub flat : {A B : Type 0} → (A → List B) → List A → List B
flat f [] = []
flat f (x ∷ xs) = f x ++ flat f xs

pub flat_append : {A B : Type 0} (f : A → List B) (xs ys : List A) → flat f (xs ++ ys) ≡ flat f xs ++ flat f ys
flat_append f [] ys = refl
flat_append f (x ∷ xs) ys = let seam : f x ++ (flat f xs ++ flat f ys) ≡ (f x ++ flat f xs) ++ flat f ys = simp append_assoc in ap (λ l. f x ++ l) (flat_append f xs ys) ∙ seam

pub flat_flat : {A B C : Type 0} (g : B → List C) (f : A → List B) (xs : List A) → flat g (flat f xs) ≡ flat (λ x. flat g (f x)) xs
flat_flat g f [] = refl
flat_flat g f (x ∷ xs) = flat_append g (f x) (flat f xs) ∙ ap (λ l. flat g (f x) ++ l) (flat_flat g f xs)

pub flat_same : {A B : Type 0} (f g : A → List B) → ((x : A) → f x ≡ g x) → (xs : List A) → flat f xs ≡ flat g xs
flat_same f g h [] = refl
flat_same f g h (x ∷ xs) = ap (λ l. l ++ flat f xs) (h x) ∙ ap (λ l. g x ++ l) (flat_same f g h xs)

pub flat_none : {A B : Type 0} (f : A → List B) → ((x : A) → f x ≡ []) → (xs : List A) → flat f xs ≡ []
flat_none f h [] = refl
flat_none f h (x ∷ xs) = ap (λ l. l ++ flat f xs) (h x) ∙ flat_none f h xs

pub flat_one : {A : Type 0} (f : A → List A) → ((x : A) → f x ≡ x ∷ []) → (xs : List A) → flat f xs ≡ xs
flat_one f h [] = refl
flat_one f h (x ∷ xs) = ap (λ l. l ++ flat f xs) (h x) ∙ ap (λ l. x ∷ l) (flat_one f h xs)

-- the states that an answer gives
abbrev pub states : {S : Type 0} → Answer S → List S
states (Shows l) = []
states (Fails message) = []
states (One s) = s ∷ []
states (Many ss) = ss

abbrev here : Bool → Path → List Path
here true s = s ∷ []
here false s = []

met_one : (j : ℕ) (v : Visit) (vs : List Visit) → met j (v ∷ vs) ≡ here (v.place == j) v.path ++ met j vs
met_one j v vs = by_test (v.place == j) where
  by_test : (b : Bool) → cond b (v.path ∷ met j vs) (met j vs) ≡ here b v.path ++ met j vs
  by_test true = refl
  by_test false = refl

met_append : (j : ℕ) (vs ws : List Visit) → met j (vs ++ ws) ≡ met j vs ++ met j ws
met_append j [] ws = refl
met_append j (v ∷ vs) ws =
    let one : List Path = here (v.place == j) v.path in
    let seam : one ++ (met j vs ++ met j ws) ≡ (one ++ met j vs) ++ met j ws = simp append_assoc in
    met_one j v (vs ++ ws) ∙ ap (λ l. one ++ l) (met_append j vs ws) ∙ seam ∙ ap (λ l. l ++ met j ws) (sym (met_one j v vs))

met_joined : (j : ℕ) (f : Path → List Visit) (ss : List Path) → met j (joined (map f ss)) ≡ flat (λ s. met j (f s)) ss
met_joined j f [] = refl
met_joined j f (s ∷ ss) = met_append j (f s) (joined (map f ss)) ∙ ap (λ l. met j (f s) ++ l) (met_joined j f ss)

met_in : (j : ℕ) (f : Path → List Visit) (a : Answer Path) → met j (visits_in (below f a)) ≡ flat (λ s. met j (f s)) (states a)
met_in j f (Shows l) = refl
met_in j f (Fails m) = refl
met_in j f (One s) = sym (append-nil (met j (f s)))
met_in j f (Many ss) = met_joined j f ss

-- a place above, if one, stands before these places
abbrev pub Outside : ℕ → Option ℕ → Type 0
Outside i None = ⊤
Outside i (Some a) = a < i

outside_next : (i : ℕ) (o : Option ℕ) → Outside i o → Outside (i + 1) o
outside_next i None h = tt
outside_next i (Some a) h = omega (arith, h)

outside_not : (i : ℕ) (o : Option ℕ) → Outside i o → same_place o (Some i) ≡ false
outside_not i None h = refl
outside_not i (Some a) h = ne_eqb a i (λ e. absurd (omega (arith, e, h)))

not_outside : (i : ℕ) (o : Option ℕ) → Outside i o → same_place (Some i) o ≡ false
not_outside i None h = refl
not_outside i (Some a) h = ne_eqb i a (λ e. absurd (omega (arith, e, h)))

module _ (ask : ℕ → Place → Path → Answer Path) (all : List Place) (earlier : (i : ℕ) (p : Place) (a : ℕ) → slice_get all i ≡ Some p → p.parent ≡ Some a → a < i) where
  abbrev pub V : List Place → ℕ → Option ℕ → Path → List Visit
  V ps i parent s = fold ask (λ i p path a rest. record { place = i; path = path } ∷ (visits_in a ++ rest)) [] ps i parent s

  -- what is met at a place and behind it
  abbrev now : ℕ → List Place → ℕ → Place → Option ℕ → Path → List Path
  now j ps i p parent s = here (i == j) s ++ (flat (λ t. met j (V ps (i + 1) (Some i) t)) (states (ask i p s)) ++ met j (V ps (i + 1) parent s))

  met_step : (j : ℕ) (ps : List Place) (i : ℕ) (p : Place) (parent : Option ℕ) (s : Path) → met j (V (p ∷ ps) i parent s) ≡ cond (same_place p.parent parent) (now j ps i p parent s) (met j (V ps (i + 1) parent s))
  met_step j ps i p parent s = by_test (same_place p.parent parent) where
    by_test : (b : Bool) → met j (when b (λ _. record { place = i; path = s } ∷ (visits_in (below (V ps (i + 1) (Some i)) (ask i p s)) ++ V ps (i + 1) parent s)) (V ps (i + 1) parent s)) ≡ cond b (now j ps i p parent s) (met j (V ps (i + 1) parent s))
    by_test true =
        met_one j (record { place = i; path = s }) (visits_in (below (V ps (i + 1) (Some i)) (ask i p s)) ++ V ps (i + 1) parent s)
        ∙ ap (λ l. here (i == j) s ++ l) (met_append j (visits_in (below (V ps (i + 1) (Some i)) (ask i p s))) (V ps (i + 1) parent s) ∙ ap (λ l. l ++ met j (V ps (i + 1) parent s)) (met_in j (V ps (i + 1) (Some i)) (ask i p s)))
    by_test false = refl

  either : {A : Type 0} (b : Bool) (x y z : List A) → (b ≡ true → x ≡ z) → (b ≡ false → y ≡ z) → cond b x y ≡ z
  either true x y z f g = f refl
  either false x y z f g = g refl

  empty_now : (j : ℕ) (ps : List Place) (i : ℕ) (p : Place) (parent : Option ℕ) (s : Path) → (i == j) ≡ false → ((t : Path) → met j (V ps (i + 1) (Some i) t) ≡ []) → now j ps i p parent s ≡ met j (V ps (i + 1) parent s)
  empty_now j ps i p parent s e h =
      ap (λ b. here b s ++ (flat (λ t. met j (V ps (i + 1) (Some i) t)) (states (ask i p s)) ++ met j (V ps (i + 1) parent s))) e
      ∙ ap (λ l. l ++ met j (V ps (i + 1) parent s)) (flat_none _ h (states (ask i p s)))

  -- an earlier place isn't met
  met_before : (j : ℕ) (ps : List Place) (i : ℕ) (parent : Option ℕ) (s : Path) → j < i → met j (V ps i parent s) ≡ []
  met_before j [] i parent s lt = refl
  met_before j (p ∷ ps) i parent s lt =
      let rest = met_before j ps (i + 1) parent s (omega (arith, lt)) in
      met_step j ps i p parent s
      ∙ either (same_place p.parent parent) _ _ [] (λ _. empty_now j ps i p parent s (ne_eqb i j (λ e. absurd (omega (arith, e, lt)))) (λ t. met_before j ps (i + 1) (Some i) t (omega (arith, lt))) ∙ rest) (λ _. rest)

  -- nor one whose place above is an earlier one, and another one
  pub met_not : (j : ℕ) (q : Place) → slice_get all j ≡ Some q → (ps : List Place) (i : ℕ) → drop i all ≡ ps → (parent : Option ℕ) (s : Path) → Outside i q.parent → same_place q.parent parent ≡ false → met j (V ps i parent s) ≡ []
  met_not j q at [] i is parent s out off = refl
  met_not j q at (p ∷ ps) i is parent s out off =
      let next = drop_next all ps i p is in
      let rest = met_not j q at ps (i + 1) next parent s (outside_next i q.parent out) off in
      met_step j ps i p parent s
      ∙ either (same_place p.parent parent) _ _ [] (λ under. empty_now j ps i p parent s (apart under) (λ t. met_not j q at ps (i + 1) next (Some i) t (outside_next i q.parent out) (outside_not i q.parent out)) ∙ rest) (λ _. rest)
    where
      apart : same_place p.parent parent ≡ true → (i == j) ≡ false
      apart under = ne_eqb i j (λ e.
          let same : p ≡ q = let a = get_drop all ps i p is in let b = subst (λ n. slice_get all n ≡ Some p) e a in cc in
          let on = subst (λ x. same_place x.parent parent ≡ true) same under in let c = sym off ∙ on in cc)

  past_end : (j i : ℕ) (q : Place) → slice_get all j ≡ Some q → i ≤ j → drop i all ≡ [] → ⊥
  past_end j i q at le is = let a = slice_get_within all j q at in let b = ap length is in let c = length-drop i all in absurd (omega (arith, a, b, c, le))

  -- a place below this one is met once
  pub met_once : (j : ℕ) (q : Place) → slice_get all j ≡ Some q → (ps : List Place) (i : ℕ) → drop i all ≡ ps → (parent : Option ℕ) (s : Path) → Outside i q.parent → same_place q.parent parent ≡ true → i ≤ j → met j (V ps i parent s) ≡ s ∷ []
  met_once j q at [] i is parent s out on le = absurd (past_end j i q at le is)
  met_once j q at (p ∷ ps) i is parent s out on le =
      let next = drop_next all ps i p is in
      met_step j ps i p parent s
      ∙ elim (same_or i j) [
        | inl e ↦
            let same : p ≡ q = let a = get_drop all ps i p is in let b = subst (λ n. slice_get all n ≡ Some p) e a in cc in
            let under : same_place p.parent parent ≡ true = subst (λ x. same_place x.parent parent ≡ true) (sym same) on in
            let lt : j < i + 1 = omega (arith, e) in
            ap (λ b. cond b (now j ps i p parent s) (met j (V ps (i + 1) parent s))) under
            ∙ ap (λ b. here b s ++ (flat (λ t. met j (V ps (i + 1) (Some i) t)) (states (ask i p s)) ++ met j (V ps (i + 1) parent s))) (eq-eqb i j e)
            ∙ ap (λ l. s ∷ (l ++ met j (V ps (i + 1) parent s))) (flat_none _ (λ t. met_before j ps (i + 1) (Some i) t lt) (states (ask i p s)))
            ∙ ap (λ l. s ∷ l) (met_before j ps (i + 1) parent s lt)
        | inr n ↦
            let rest = met_once j q at ps (i + 1) next parent s (outside_next i q.parent out) on (omega (arith, le, n)) in
            either (same_place p.parent parent) _ _ (s ∷ [])
            (λ _. empty_now j ps i p parent s (ne_eqb i j n) (λ t. met_not j q at ps (i + 1) next (Some i) t (outside_next i q.parent out) (outside_not i q.parent out)) ∙ rest)
            (λ _. rest)
      ]

  -- and any other once for each state that the place above gives where it is met
  pub met_below : (a : ℕ) (q : Place) → slice_get all a ≡ Some q → (j : ℕ) (c : Place) → slice_get all j ≡ Some c → c.parent ≡ Some a → (ps : List Place) (i : ℕ) → drop i all ≡ ps → (parent : Option ℕ) (s : Path) → Outside i parent → i ≤ a →
      met j (V ps i parent s) ≡ flat (λ t. states (ask a q t)) (met a (V ps i parent s))
  met_below a q at j c child above [] i is parent s out le = refl
  met_below a q at j c child above (p ∷ ps) i is parent s out le =
      let next = drop_next all ps i p is in
      let lt = earlier j c a child above in
      let F : Path → List Path = λ t. states (ask a q t) in
      let apart : (i == j) ≡ false = ne_eqb i j (λ e. absurd (omega (arith, e, le, lt))) in
      elim (same_or i a) [
        | inl e ↦
            let same : p ≡ q = let x = get_drop all ps i p is in let y = subst (λ n. slice_get all n ≡ Some p) e x in cc in
            let near : c.parent ≡ Some i = above ∙ ap (λ n. Some n) (sym e) in
            let inside : Outside (i + 1) c.parent = subst (Outside (i + 1)) (sym near) (let k : i < i + 1 = omega arith in k) in
            let rest : met j (V ps (i + 1) parent s) ≡ [] = met_not j c child ps (i + 1) next parent s inside (ap (λ o. same_place o parent) near ∙ not_outside i parent out) in
            let first : (t : Path) → met j (V ps (i + 1) (Some i) t) ≡ t ∷ [] = λ t. met_once j c child ps (i + 1) next (Some i) t inside (ap (λ o. same_place o (Some i)) near ∙ eq-eqb i i refl) (omega (arith, lt, e)) in
            met_step j ps i p parent s
            ∙ by_under (same_place p.parent parent) refl
            (ap (λ b. here b s ++ (flat (λ t. met j (V ps (i + 1) (Some i) t)) (states (ask i p s)) ++ met j (V ps (i + 1) parent s))) apart
            ∙ ap (λ l. l ++ met j (V ps (i + 1) parent s)) (flat_one _ first (states (ask i p s)))
            ∙ ap (λ l. states (ask i p s) ++ l) rest
            ∙ (λ k. states (ask (e k) (same k) s) ++ []))
            rest
            (λ under. let le' : i ≤ a = omega (arith, e) in let o : Outside i q.parent = subst (Outside i) (sym (same_place_true q.parent parent (subst (λ x. same_place x.parent parent ≡ true) same under))) out in met_once a q at (p ∷ ps) i is parent s o (subst (λ x. same_place x.parent parent ≡ true) same under) le')
            (λ under. met_step a ps i p parent s ∙ ap (λ b. cond b (now a ps i p parent s) (met a (V ps (i + 1) parent s))) under ∙ met_before a ps (i + 1) parent s (omega (arith, e)))
        | inr n ↦
            let le' : i + 1 ≤ a = omega (arith, le, n) in
            let out' = outside_next i parent out in
            let below_ : (t : Path) → met j (V ps (i + 1) (Some i) t) ≡ flat F (met a (V ps (i + 1) (Some i) t)) = λ t. met_below a q at j c child above ps (i + 1) next (Some i) t (let k : i < i + 1 = omega arith in k) le' in
            let rest = met_below a q at j c child above ps (i + 1) next parent s out' le' in
            met_step j ps i p parent s
            ∙ ap (λ b. cond (same_place p.parent parent) (here b s ++ (flat (λ t. met j (V ps (i + 1) (Some i) t)) (states (ask i p s)) ++ met j (V ps (i + 1) parent s))) (met j (V ps (i + 1) parent s))) apart
            ∙ both_sides (same_place p.parent parent) F
            (flat (λ t. met j (V ps (i + 1) (Some i) t)) (states (ask i p s))) (flat (λ t. met a (V ps (i + 1) (Some i) t)) (states (ask i p s))) (met j (V ps (i + 1) parent s)) (met a (V ps (i + 1) parent s))
            (flat_same _ _ below_ (states (ask i p s)) ∙ sym (flat_flat F (λ t. met a (V ps (i + 1) (Some i) t)) (states (ask i p s)))) rest
            ∙ ap (λ b. flat F (cond (same_place p.parent parent) (here b s ++ (flat (λ t. met a (V ps (i + 1) (Some i) t)) (states (ask i p s)) ++ met a (V ps (i + 1) parent s))) (met a (V ps (i + 1) parent s)))) (sym (ne_eqb i a n))
            ∙ ap (flat F) (sym (met_step a ps i p parent s))
      ]
    where
      both_sides : (b : Bool) (F : Path → List Path) (x y u v : List Path) → x ≡ flat F y → u ≡ flat F v → cond b (x ++ u) u ≡ flat F (cond b (y ++ v) v)
      both_sides true F x y u v e f = ap (λ l. l ++ u) e ∙ ap (λ l. flat F y ++ l) f ∙ sym (flat_append F y v)
      both_sides false F x y u v e f = f

      by_under : (b : Bool) → same_place p.parent parent ≡ b → now j ps i p parent s ≡ states (ask a q s) ++ [] → met j (V ps (i + 1) parent s) ≡ [] →
          (same_place p.parent parent ≡ true → met a (V (p ∷ ps) i parent s) ≡ s ∷ []) → (same_place p.parent parent ≡ false → met a (V (p ∷ ps) i parent s) ≡ []) →
          cond b (now j ps i p parent s) (met j (V ps (i + 1) parent s)) ≡ flat (λ t. states (ask a q t)) (met a (V (p ∷ ps) i parent s))
      by_under true e x y f g = x ∙ ap (flat (λ t. states (ask a q t))) (sym (f e))
      by_under false e x y f g = y ∙ ap (flat (λ t. states (ask a q t))) (sym (g e))
