-- Two ways to ask that agree at related states give related results over the places of a tree.
use Rattle.std.proofs.Common.{◌≡◌, ℕ, ◌+◌, List, [], ◌∷◌, map, drop, Option, Some, None, Bool, true, false, refl, sym, ap, ◌∙◌, subst, eqb-true}
use Rattle.std.specs.Prelude.{slice_get, ⊤}
use Rattle.place_tree.specs.declared.place.Place.{Place}
use Rattle.place_tree.specs.Fold.{Answer, Shows, Fails, One, Many, below, same_place, when, fold}
use Rattle.place_tree.specs.Response.{no_members, member, value_of, members_of}
use Rattle.place_tree.proofs.Lists.{get_drop, drop_next}

pub same_place_true : (a b : Option ℕ) → same_place a b ≡ true → a ≡ b
same_place_true None None h = refl
same_place_true None (Some y) h = cc
same_place_true (Some x) None h = cc
same_place_true (Some x) (Some y) h = ap (λ n. Some n) (eqb-true x y h)

module _ {S T : Type 0} (R : S → T → Type 0) where
  abbrev pub Paired : List S → List T → Type 0
  Paired [] [] = ⊤
  Paired [] (t ∷ ts) = ⊥
  Paired (s ∷ ss) [] = ⊥
  Paired (s ∷ ss) (t ∷ ts) = R s t × Paired ss ts

  -- the same leaf or error, or states that are related one by one
  abbrev pub Agree : Answer S → Answer T → Type 0
  Agree (Shows l) (Shows m) = l ≡ m
  Agree (Fails e) (Fails f) = e ≡ f
  Agree (One s) (One t) = R s t
  Agree (Many ss) (Many ts) = Paired ss ts
  Agree _ _ = ⊥

module _ {S T M N : Type 0} (R : S → T → Type 0) (Q : M → N → Type 0) (f : S → M) (g : T → N) (step : (s : S) (t : T) → R s t → Q (f s) (g t)) where
  Paired-map : (ss : List S) (ts : List T) → Paired R ss ts → Paired Q (map f ss) (map g ts)
  Paired-map [] [] h = tt
  Paired-map [] (t ∷ ts) h = absurd h
  Paired-map (s ∷ ss) [] h = absurd h
  Paired-map (s ∷ ss) (t ∷ ts) h = (step s t h.0, Paired-map ss ts h.1)

  Agree-below : (a : Answer S) (b : Answer T) → Agree R a b → Agree Q (below f a) (below g b)
  Agree-below (Shows l) (Shows m) h = h
  Agree-below (Fails d) (Fails e) h = h
  Agree-below (One s) (One t) h = step s t h
  Agree-below (Many ss) (Many ts) h = Paired-map ss ts h
  Agree-below (Shows l) (Fails e) h = absurd h
  Agree-below (Shows l) (One t) h = absurd h
  Agree-below (Shows l) (Many ts) h = absurd h
  Agree-below (Fails d) (Shows m) h = absurd h
  Agree-below (Fails d) (One t) h = absurd h
  Agree-below (Fails d) (Many ts) h = absurd h
  Agree-below (One s) (Shows m) h = absurd h
  Agree-below (One s) (Fails e) h = absurd h
  Agree-below (One s) (Many ts) h = absurd h
  Agree-below (Many ss) (Shows m) h = absurd h
  Agree-below (Many ss) (Fails e) h = absurd h
  Agree-below (Many ss) (One t) h = absurd h

-- Related at each place, with related results, and so over all places. The relation of states goes by the place above.
module _ {S T M N : Type 0} (R : Option ℕ → S → T → Type 0) (Q : M → N → Type 0)
    (ask : ℕ → Place → S → Answer S) (other : ℕ → Place → T → Answer T)
    (see : ℕ → Place → S → Answer M → M → M) (look : ℕ → Place → T → Answer N → N → N)
    (nothing : M) (none_ : N) (all : List Place)
    (agree : (i : ℕ) (p : Place) (s : S) (t : T) → slice_get all i ≡ Some p → R p.parent s t → Agree (R (Some i)) (ask i p s) (other i p t))
    (keep : (i : ℕ) (p : Place) (s : S) (t : T) (a : Answer M) (b : Answer N) (m : M) (n : N) → slice_get all i ≡ Some p → R p.parent s t → Agree Q a b → Q m n → Q (see i p s a m) (look i p t b n))
    (start : Q nothing none_) where
  kept : (b : Bool) (f : ⊤ → M) (g : ⊤ → N) (m : M) (n : N) → (b ≡ true → Q (f tt) (g tt)) → Q m n → Q (when b f m) (when b g n)
  kept true f g m n h rest = h refl
  kept false f g m n h rest = rest

  pub folds_related : (ps : List Place) (i : ℕ) → drop i all ≡ ps → (parent : Option ℕ) (s : S) (t : T) → R parent s t → Q (fold ask see nothing ps i parent s) (fold other look none_ ps i parent t)
  folds_related [] i at parent s t r = start
  folds_related (p ∷ ps) i at parent s t r =
      let place = get_drop all ps i p at in
      let next = drop_next all ps i p at in
      let rest = folds_related ps (i + 1) next parent s t r in
      kept (same_place p.parent parent) _ _ _ _
      (λ e.
      let here = subst (λ q. R q s t) (sym (same_place_true p.parent parent e)) r in
      keep i p s t _ _ _ _ place here (Agree-below (R (Some i)) Q _ _ (λ s' t' r'. folds_related ps (i + 1) next (Some i) s' t' r') _ _ (agree i p s t place here)) rest)
      rest

-- ---- results that are equal

Paired-same : {M : Type 0} (ms ns : List M) → Paired (λ m n. m ≡ n) ms ns → ms ≡ ns
Paired-same [] [] h = refl
Paired-same [] (n ∷ ns) h = absurd h
Paired-same (m ∷ ms) [] h = absurd h
Paired-same (m ∷ ms) (n ∷ ns) h = ap (λ x. x ∷ ms) h.0 ∙ ap (λ xs. n ∷ xs) (Paired-same ms ns h.1)

Agree-same : {M : Type 0} (a b : Answer M) → Agree (λ m n. m ≡ n) a b → a ≡ b
Agree-same (Shows l) (Shows m) h = ap Shows h
Agree-same (Fails d) (Fails e) h = ap Fails h
Agree-same (One s) (One t) h = ap One h
Agree-same (Many ss) (Many ts) h = ap Many (Paired-same ss ts h)
Agree-same (Shows l) (Fails e) h = absurd h
Agree-same (Shows l) (One t) h = absurd h
Agree-same (Shows l) (Many ts) h = absurd h
Agree-same (Fails d) (Shows m) h = absurd h
Agree-same (Fails d) (One t) h = absurd h
Agree-same (Fails d) (Many ts) h = absurd h
Agree-same (One s) (Shows m) h = absurd h
Agree-same (One s) (Fails e) h = absurd h
Agree-same (One s) (Many ts) h = absurd h
Agree-same (Many ss) (Shows m) h = absurd h
Agree-same (Many ss) (Fails e) h = absurd h
Agree-same (Many ss) (One t) h = absurd h

module _ {S T : Type 0} (R : Option ℕ → S → T → Type 0)
    (ask : ℕ → Place → S → Answer S) (other : ℕ → Place → T → Answer T) (all : List Place)
    (agree : (i : ℕ) (p : Place) (s : S) (t : T) → slice_get all i ≡ Some p → R p.parent s t → Agree (R (Some i)) (ask i p s) (other i p t)) where
  -- one response
  pub members_same : (parent : Option ℕ) (s : S) (t : T) → R parent s t → members_of ask all 0 parent s ≡ members_of other all 0 parent t
  members_same parent s t r =
      folds_related R (λ m n. m ≡ n) ask other _ _ no_members no_members all agree
      (λ i p s t a b m n at r h e. ap (λ x. member p.key (value_of p x) m) (Agree-same a b h) ∙ ap (λ x. member p.key (value_of p b) x) e)
      refl all 0 refl parent s t r

  -- one result, where what is seen at each place is the same at related states
  pub folds_same : {M : Type 0} (see : ℕ → Place → S → Answer M → M → M) (look : ℕ → Place → T → Answer M → M → M) (nothing : M) →
      ((i : ℕ) (p : Place) (s : S) (t : T) (a : Answer M) (m : M) → slice_get all i ≡ Some p → R p.parent s t → see i p s a m ≡ look i p t a m) →
      (parent : Option ℕ) (s : S) (t : T) → R parent s t → fold ask see nothing all 0 parent s ≡ fold other look nothing all 0 parent t
  folds_same see look nothing same parent s t r =
      folds_related R (λ m n. m ≡ n) ask other see look nothing nothing all agree
      (λ i p s t a b m n at r h e. ap (λ x. see i p s x m) (Agree-same a b h) ∙ ap (λ x. see i p s b x) e ∙ same i p s t b n at r)
      refl all 0 refl parent s t r
