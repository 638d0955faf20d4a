-- The pass over the steps that marks those that are used.
use Rattle.std.proofs.Common.{◌≡◌, ℕ, zero, suc, ◌+◌, ◌<◌, ◌≤◌, List, [], ◌∷◌, drop, length, get_or, Option, Some, None, Bool, true, false, cond, refl, sym, ap, ◌∙◌, subst, arith, eqb-true, eq-eqb}
use Rattle.std.specs.Prelude.{◌==◌, ◌&&◌, ◌||◌, nat_lt, slice_get, slice_set, IfSome, IsTrue}
use Rattle.std.specs.List.{list_any}
use Rattle.std.proofs.lemmas.Bool.Decides.{nat_tests}
use Rattle.std.proofs.lemmas.Option.{slice_get_within}
use Rattle.pg_base.proofs.ListSteps.{drop-item, drop-past}
use Rattle.pg_base.specs.Base.{BaseParts}
use Rattle.place_tree.specs.declared.place.Place.{Place}
use Rattle.place_tree.specs.declared.place.Tree.{Tree}
use Rattle.plan_steps.specs.declared.plan.OutPlace.{OutPlace}
use Rattle.plan_steps.specs.declared.plan.Plan.{Plan}
use Rattle.plan_steps.specs.declared.plan.Step.{Step}
use Rattle.plan_steps.proofs.Earlier.{names_earlier}
use Rattle.plan_steps.specs.Chains.{chain, is_in, or_nothing}
use Rattle.plan_steps.specs.Check.{is_checked}
use Rattle.plan_steps.specs.Named.{named_at, named_in, used_by}
use Rattle.plan_steps.specs.Under.{is_below}
use Rattle.batch_execute.specs.Used.{mark_at, NameEarlier, is_shown, with_shown, with_named, named_from, is_reached, is_used_from, ArePassed}

-- ---- marks

or_none : (a : Bool) → (a || false) ≡ a
or_none true = refl
or_none false = refl

or_all : (a : Bool) → (a || true) ≡ true
or_all true = refl
or_all false = refl

mark_there : (marks : List Bool) (i : ℕ) → i < length marks → mark_at (slice_set marks i true) i ≡ true
mark_there [] i lt = absurd (omega (arith, lt))
mark_there (m ∷ marks) zero lt = refl
mark_there (m ∷ marks) (suc i) lt = mark_there marks i (omega (arith, lt))

mark_apart : (marks : List Bool) (i k : ℕ) → (i ≡ k → ⊥) → mark_at (slice_set marks i true) k ≡ mark_at marks k
mark_apart [] i k h = refl
mark_apart (m ∷ marks) zero zero h = absurd (h refl)
mark_apart (m ∷ marks) zero (suc k) h = refl
mark_apart (m ∷ marks) (suc i) zero h = refl
mark_apart (m ∷ marks) (suc i) (suc k) h = mark_apart marks i k (λ e. h (ap suc e))

marked : (marks : List Bool) (i k : ℕ) → k < length marks → mark_at (slice_set marks i true) k ≡ (mark_at marks k || (i == k))
marked marks i k lt = by (i == k) refl where
  by : (b : Bool) → (i == k) ≡ b → mark_at (slice_set marks i true) k ≡ (mark_at marks k || b)
  by true e = ap (λ j. mark_at (slice_set marks j true) k) (eqb-true i k e) ∙ mark_there marks k lt ∙ sym (or_all (mark_at marks k))
  by false e = mark_apart marks i k (λ same. let y = eq-eqb i k same in cc) ∙ sym (or_none (mark_at marks k))

pub same_length : (marks : List Bool) (i : ℕ) (b : Bool) → length (slice_set marks i b) ≡ length marks
same_length [] i b = refl
same_length (m ∷ marks) zero b = refl
same_length (m ∷ marks) (suc i) b = ap suc (same_length marks i b)

-- ---- entries under the root

or_joined : (a b c : Bool) → ((a || b) || c) ≡ (a || (b || c))
or_joined true b c = refl
or_joined false b c = refl

shown_length : (marks : List Bool) (under : Bool) (o : OutPlace) → length (with_shown marks under o) ≡ length marks
shown_length marks true o = same_length marks o.step true
shown_length marks false o = refl

shown_marked : (marks : List Bool) (under : Bool) (o : OutPlace) (k : ℕ) → k < length marks → mark_at (with_shown marks under o) k ≡ (mark_at marks k || (under && (o.step == k)))
shown_marked marks true o k lt = marked marks o.step k lt
shown_marked marks false o k lt = sym (or_none (mark_at marks k))

module _ (places : List Place) (root : Option ℕ) (steps : List Step) (outs : List OutPlace) where
  pub shown_on : (i : ℕ) (o : OutPlace) → i < length outs → o ≡ get_or outs i o → (marks next : List Bool) → length marks ≡ length steps → next ≡ with_shown marks (is_below places root o.place) o
      → ((k : ℕ) → k < length steps → (mark_at marks k || list_any (is_shown places root k) (drop i outs)) ≡ list_any (is_shown places root k) outs)
      → (k : ℕ) → k < length steps → (mark_at next k || list_any (is_shown places root k) (drop (i + 1) outs)) ≡ list_any (is_shown places root k) outs
  shown_on i o lt is marks next len made so k below =
      ap (λ m. mark_at m k || list_any (is_shown places root k) (drop (i + 1) outs)) made
      ∙ ap (λ b. b || list_any (is_shown places root k) (drop (i + 1) outs)) (shown_marked marks (is_below places root o.place) o k (omega (arith, len, below)))
      ∙ or_joined (mark_at marks k) (is_shown places root k o) (list_any (is_shown places root k) (drop (i + 1) outs))
      ∙ ap (λ l. mark_at marks k || list_any (is_shown places root k) l) (sym (drop-item outs i o lt is))
      ∙ so k below

  pub shown_step : (marks next : List Bool) (o : OutPlace) → length marks ≡ length steps → next ≡ with_shown marks (is_below places root o.place) o → length next ≡ length steps
  shown_step marks next o len made = ap length made ∙ shown_length marks (is_below places root o.place) o ∙ len

  -- ---- before the pass

  alone : (next : ℕ → Option ℕ) (n s k : ℕ) → next s ≡ None → 0 < n → is_in (chain next n s) k ≡ (s == k)
  alone next zero s k e lt = absurd (omega (arith, lt))
  alone next (suc n) s k e lt = ap (λ o. (s == k) || is_in (or_nothing (chain next n) o) k) e ∙ or_none (s == k)

  past_none : (s : ℕ) → named_from steps (length steps) s ≡ None
  past_none s = by (nat_lt s (length steps)) refl (slice_get steps s) refl where
    by : (b : Bool) → nat_lt s (length steps) ≡ b → (o : Option Step) → slice_get steps s ≡ o → cond b None (named_in o) ≡ None
    by true e o at = refl
    by false e None at = refl
    by false e (Some x) at = let lt = slice_get_within steps s x at in absurd (grind (arith, nat_tests, e, lt))

  first_used : (k : ℕ) → k < length steps → (o : OutPlace) → is_used_from places steps root (length steps) k o ≡ is_shown places root k o
  first_used k lt o = ap (λ b. is_below places root o.place && b) (alone (named_from steps (length steps)) (length steps) o.step k (past_none o.step) (omega (arith, lt)))

  pub shown_passed : (i : ℕ) → length outs ≤ i → (marks : List Bool) → ((k : ℕ) → k < length steps → (mark_at marks k || list_any (is_shown places root k) (drop i outs)) ≡ list_any (is_shown places root k) outs)
      → ArePassed places steps outs root (length steps) marks
  shown_passed i le marks so k lt =
      sym (or_none (mark_at marks k))
      ∙ ap (λ l. mark_at marks k || list_any (is_shown places root k) l) (sym (drop-past outs i le))
      ∙ so k lt
      ∙ ap (λ test. list_any test outs) (λ i o. sym (first_used k lt o) i)

  -- ---- a step further

  abbrev is_named : Option ℕ → ℕ → Bool
  is_named None j = false
  is_named (Some i) j = i == j

  with_marked : (marks : List Bool) (b : Bool) (named : Option ℕ) (j : ℕ) → j < length marks → mark_at (with_named marks b named) j ≡ (mark_at marks j || (b && is_named named j))
  with_marked marks true None j lt = sym (or_none (mark_at marks j))
  with_marked marks false None j lt = sym (or_none (mark_at marks j))
  with_marked marks true (Some i) j lt = marked marks i j lt
  with_marked marks false (Some i) j lt = sym (or_none (mark_at marks j))

  with_length : (marks : List Bool) (b : Bool) (named : Option ℕ) → length (with_named marks b named) ≡ length marks
  with_length marks true None = refl
  with_length marks false None = refl
  with_length marks true (Some i) = same_length marks i true
  with_length marks false (Some i) = refl

  module _ (falls : NameEarlier steps) (k : ℕ) where
    earlier : (s i : ℕ) → named_at steps s ≡ Some i → i < s
    earlier s i e = by (named_at steps s) e (falls s) where
      by : (o : Option ℕ) → o ≡ Some i → IfSome o (λ j. j < s) → i < s
      by None e h = cc
      by (Some j) e h = let same : j ≡ i = cc in omega (arith, h, same)

    -- before it both stop, after it both go on
    under_it : (n s : ℕ) → s < n → named_from steps n s ≡ None
    under_it n s lt = by (nat_lt s n) refl where
      by : (b : Bool) → nat_lt s n ≡ b → cond b None (named_at steps s) ≡ None
      by true e = refl
      by false e = absurd (grind (arith, nat_tests, e, lt))

    from_it : (n s : ℕ) → n ≤ s → named_from steps n s ≡ named_at steps s
    from_it n s le = by (nat_lt s n) refl where
      by : (b : Bool) → nat_lt s n ≡ b → cond b None (named_at steps s) ≡ named_at steps s
      by true e = absurd (grind (arith, nat_tests, e, le))
      by false e = refl

    grouped : (a b c d : Bool) → (a || (b || (c && d))) ≡ ((a || b) || ((false || c) && d))
    grouped true b c d = refl
    grouped false b c d = refl

    abbrev old : ℕ → ℕ → ℕ → Bool
    old m s j = is_in (chain (named_from steps (k + 1)) m s) j

    abbrev new : ℕ → ℕ → ℕ → Bool
    new m s j = is_in (chain (named_from steps k) m s) j

    apart : (s : ℕ) → (s ≡ k → ⊥) → (s == k) ≡ false
    apart s h = by (s == k) refl where
      by : (b : Bool) → (s == k) ≡ b → b ≡ false
      by true e = absurd (h (eqb-true s k e))
      by false e = refl

    stop : (a d : Bool) → (a || false) ≡ ((a || false) || ((false || false) && d))
    stop true d = refl
    stop false d = refl

    halt : (a : Bool) → (a || false) ≡ ((a || false) || ((true || false) && false))
    halt true = refl
    halt false = refl

    reach : (a d : Bool) → (a || (d || false)) ≡ ((a || false) || ((true || false) && d))
    reach true d = refl
    reach false true = refl
    reach false false = refl

    -- a step before it names nothing yet
    low : (m s j : ℕ) → s < k → new (suc m) s j ≡ (old (suc m) s j || (old (suc m) s k && is_named (named_at steps k) j))
    low m s j lt =
        ap (λ o. (s == j) || is_in (or_nothing (chain (named_from steps k) m) o) j) (under_it k s lt)
        ∙ stop (s == j) (is_named (named_at steps k) j)
        ∙ ap (λ b. ((s == j) || false) || ((b || false) && is_named (named_at steps k) j)) (sym (apart s (λ e. omega (arith, lt, e))))
        ∙ ap (λ o. ((s == j) || is_in (or_nothing (chain (named_from steps (k + 1)) m) o) j) || (((s == k) || is_in (or_nothing (chain (named_from steps (k + 1)) m) o) k) && is_named (named_at steps k) j)) (sym (under_it (k + 1) s (omega (arith, lt))))

    -- it reaches the one that it names, and that names nothing yet
    here : (m j : ℕ) → ((i : ℕ) → named_at steps k ≡ Some i → k < suc m) → new (suc m) k j ≡ (old (suc m) k j || (old (suc m) k k && is_named (named_at steps k) j))
    here m j within =
        ap (λ o. (k == j) || is_in (or_nothing (chain (named_from steps k) m) o) j) (from_it k k (omega arith))
        ∙ by (named_at steps k) refl
        ∙ ap (λ b. ((k == j) || false) || ((b || false) && is_named (named_at steps k) j)) (sym (eq-eqb k k refl))
        ∙ ap (λ o. ((k == j) || is_in (or_nothing (chain (named_from steps (k + 1)) m) o) j) || (((k == k) || is_in (or_nothing (chain (named_from steps (k + 1)) m) o) k) && is_named (named_at steps k) j)) (sym (under_it (k + 1) k (omega arith))) where
          by : (o : Option ℕ) → named_at steps k ≡ o → ((k == j) || is_in (or_nothing (chain (named_from steps k) m) o) j) ≡ (((k == j) || false) || ((true || false) && is_named o j))
          by None e = halt (k == j)
          by (Some i) e =
              let less = earlier k i e in
              let lt = within i e in
              ap (λ b. (k == j) || b) (alone (named_from steps k) m i j (under_it k i less) (omega (arith, less, lt))) ∙ reach_one (k == j) (i == j) where
                reach_one : (a d : Bool) → (a || d) ≡ ((a || false) || ((true || false) && d))
                reach_one true d = refl
                reach_one false true = refl
                reach_one false false = refl

    ends : (a d : Bool) → (a || false) ≡ ((a || false) || ((false || false) && d))
    ends true d = refl
    ends false d = refl

    -- a step after it goes on as before
    high : (m s j : ℕ) → k < s → ((i : ℕ) → named_at steps s ≡ Some i → new m i j ≡ (old m i j || (old m i k && is_named (named_at steps k) j))) → new (suc m) s j ≡ (old (suc m) s j || (old (suc m) s k && is_named (named_at steps k) j))
    high m s j lt later =
        ap (λ o. (s == j) || is_in (or_nothing (chain (named_from steps k) m) o) j) (from_it k s (omega (arith, lt)))
        ∙ by (named_at steps s) refl
        ∙ ap (λ b. ((s == j) || is_in (or_nothing (chain (named_from steps (k + 1)) m) (named_at steps s)) j) || ((b || is_in (or_nothing (chain (named_from steps (k + 1)) m) (named_at steps s)) k) && is_named (named_at steps k) j)) (sym (apart s (λ e. omega (arith, lt, e))))
        ∙ ap (λ o. ((s == j) || is_in (or_nothing (chain (named_from steps (k + 1)) m) o) j) || (((s == k) || is_in (or_nothing (chain (named_from steps (k + 1)) m) o) k) && is_named (named_at steps k) j)) (sym (from_it (k + 1) s (omega (arith, lt)))) where
          by : (o : Option ℕ) → named_at steps s ≡ o → ((s == j) || is_in (or_nothing (chain (named_from steps k) m) o) j)
              ≡ (((s == j) || is_in (or_nothing (chain (named_from steps (k + 1)) m) o) j) || ((false || is_in (or_nothing (chain (named_from steps (k + 1)) m) o) k) && is_named (named_at steps k) j))
          by None e = ends (s == j) (is_named (named_at steps k) j)
          by (Some i) e = ap (λ b. (s == j) || b) (later i e) ∙ grouped (s == j) (old m i j) (old m i k) (is_named (named_at steps k) j)

    further : (m s j : ℕ) → ((i : ℕ) → named_at steps s ≡ Some i → s < m) → new m s j ≡ (old m s j || (old m s k && is_named (named_at steps k) j))
    further zero s j within = refl
    further (suc m) s j within = by (nat_lt s k) refl (nat_lt k s) refl (λ i e. further m i j (λ q f. let a = earlier s i e in let b = within i e in omega (arith, a, b))) where
      by : (b : Bool) → nat_lt s k ≡ b → (c : Bool) → nat_lt k s ≡ c → ((i : ℕ) → named_at steps s ≡ Some i → new m i j ≡ (old m i j || (old m i k && is_named (named_at steps k) j)))
          → new (suc m) s j ≡ (old (suc m) s j || (old (suc m) s k && is_named (named_at steps k) j))
      by true e c f later = low m s j (grind (arith, nat_tests, e))
      by false e true f later = high m s j (grind (arith, nat_tests, f)) later
      by false e false f later =
          let same : k ≡ s = grind (arith, nat_tests, e, f) in
          subst (λ t. new (suc m) t j ≡ (old (suc m) t j || (old (suc m) t k && is_named (named_at steps k) j))) same
          (here m j (subst (λ t. (i : ℕ) → named_at steps t ≡ Some i → t < suc m) (sym same) within))

    -- ---- a turn

    both : (h a c n : Bool) → (h && (a || (c && n))) ≡ ((h && a) || ((h && c) && n))
    both true a c n = refl
    both false a c n = refl

    shuffled : (a c r q n : Bool) → ((a || (c && n)) || (r || (q && n))) ≡ ((a || r) || ((c || q) && n))
    shuffled true c r q n = refl
    shuffled false true true q true = refl
    shuffled false true true q false = refl
    shuffled false true false q true = refl
    shuffled false true false true false = refl
    shuffled false true false false false = refl
    shuffled false false r q n = refl

    any_both : (h a c : OutPlace → Bool) (n : Bool) (os : List OutPlace) → list_any (λ o. h o && (a o || (c o && n))) os ≡ (list_any (λ o. h o && a o) os || (list_any (λ o. h o && c o) os && n))
    any_both h a c n [] = refl
    any_both h a c n (o ∷ os) =
        ap (λ b. b || list_any (λ o. h o && (a o || (c o && n))) os) (both (h o) (a o) (c o) n)
        ∙ ap (λ b. ((h o && a o) || ((h o && c o) && n)) || b) (any_both h a c n os)
        ∙ shuffled (h o && a o) (h o && c o) (list_any (λ o. h o && a o) os) (list_any (λ o. h o && c o) os) n

    within_all : (s i : ℕ) → named_at steps s ≡ Some i → s < length steps
    within_all s i e = by (slice_get steps s) refl e where
      by : (o : Option Step) → slice_get steps s ≡ o → named_in o ≡ Some i → s < length steps
      by None at h = cc
      by (Some x) at h = slice_get_within steps s x at

    pub passed_on : k < length steps → (marks next : List Bool) → length marks ≡ length steps → next ≡ with_named marks (mark_at marks k) (named_at steps k)
        → ArePassed places steps outs root (k + 1) marks → ArePassed places steps outs root k next
    passed_on lt marks next len made so j below =
        ap (λ m. mark_at m j) made
        ∙ with_marked marks (mark_at marks k) (named_at steps k) j (omega (arith, len, below))
        ∙ ap (λ b. b || (mark_at marks k && is_named (named_at steps k) j)) (so j below)
        ∙ ap (λ b. list_any (is_used_from places steps root (k + 1) j) outs || (b && is_named (named_at steps k) j)) (so k lt)
        ∙ sym (any_both (λ o. is_below places root o.place) (λ o. is_reached steps (k + 1) o.step j) (λ o. is_reached steps (k + 1) o.step k) (is_named (named_at steps k) j) outs)
        ∙ ap (λ test. list_any test outs) (λ i o. is_below places root o.place && sym (further (length steps) o.step j (within_all o.step)) i)

    pub length_on : (marks next : List Bool) → length marks ≡ length steps → next ≡ with_named marks (mark_at marks k) (named_at steps k) → length next ≡ length steps
    length_on marks next len made = ap length made ∙ with_length marks (mark_at marks k) (named_at steps k) ∙ len

  all_from : (s : ℕ) → named_from steps 0 s ≡ named_at steps s
  all_from s = by (nat_lt s 0) refl where
    by : (b : Bool) → nat_lt s 0 ≡ b → cond b None (named_at steps s) ≡ named_at steps s
    by true e = absurd (grind (arith, nat_tests, e))
    by false e = refl

  pub used_all : (marks : List Bool) → ArePassed places steps outs root 0 marks → (k : ℕ) → k < length steps → mark_at marks k ≡ list_any (λ o. is_below places root o.place && is_in (used_by steps o.step) k) outs
  used_all marks so k lt = so k lt ∙ ap (λ next. list_any (λ o. is_below places root o.place && is_in (chain next (length steps) o.step) k) outs) (λ i s. all_from s i)

-- the steps of a plan that is checked name earlier ones
pub name_earlier : (base : BaseParts) (tree : Tree) (plan : Plan) → IsTrue (is_checked base tree plan) → NameEarlier plan.steps
name_earlier base tree plan ok k = by (slice_get plan.steps k) refl where
  by : (o : Option Step) → slice_get plan.steps k ≡ o → IfSome (named_in o) (λ j. j < k)
  by None at = tt
  by (Some s) at = names_earlier base tree plan ok k s at
