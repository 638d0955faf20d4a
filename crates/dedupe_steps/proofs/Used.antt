-- What is used in the quotient of a plan is used in the plan.
use Rattle.std.proofs.Common.{◌≡◌, ℕ, zero, suc, ◌<◌, List, [], ◌∷◌, length, Option, Some, None, Bool, true, false, refl, sym, ap, ◌∙◌, subst, arith, inl, inr, ◌⊎◌, eq-eqb, eqb-true}
use Rattle.std.specs.Prelude.{slice_get, ◌==◌, ◌&&◌, ◌||◌, nat_lt, option_map, unwrap_or, is_some, IsSome, IfSome, IsTrue}
use Rattle.std.specs.Cmp.{first_so, second_so}
use Rattle.std.specs.List.{list_any, list_all}
use Rattle.std.proofs.lemmas.Bool.Decides.{nat_tests}
use Rattle.pg_base.specs.Base.{BaseParts}
use Rattle.place_tree.specs.declared.place.Tree.{Tree}
use Rattle.plan_steps.specs.declared.plan.FetchStep.{FetchStep, out-FetchStep}
use Rattle.plan_steps.specs.declared.plan.OutPlace.{OutPlace}
use Rattle.plan_steps.specs.declared.plan.Plan.{Plan}
use Rattle.plan_steps.specs.declared.plan.Root.{Root}
use Rattle.plan_steps.specs.declared.plan.Step.{Step}
use Rattle.plan_steps.specs.declared.plan.Step.TheVariants as step
use Rattle.plan_steps.specs.Chains.{or_nothing, chain, is_in}
use Rattle.plan_steps.specs.Check.{steps_fit, layers_fit, outs_fit, out_fits, is_checked}
use Rattle.plan_steps.specs.Named.{named_by, named_in, named_at, used_by, fetch_in, is_given}
use Rattle.plan_steps.specs.Under.{is_under, is_used}
use Rattle.plan_steps.proofs.Bools.{or_cases, or_left, or_right, and_both}
use Rattle.plan_steps.proofs.Checked.{at_some, any_some, any_at}
use Rattle.plan_steps.proofs.Earlier.{names_earlier}
use Rattle.dedupe_steps.specs.Keys.{content, OnGivenRow, OnRowOf, hook_on}
use Rattle.dedupe_steps.specs.Numbered.{at}
use Rattle.dedupe_steps.specs.Quotient.{new_out}
use Rattle.dedupe_steps.proofs.Lists.{some_one, map_get, get_below}
use Rattle.dedupe_steps.proofs.Merging.{hook_row, given_from, Merging, to, M, other_there, FetchThere, fetch_there}
use Rattle.dedupe_steps.proofs.Serving.{new_fetch, new_parent, hangs_none, hangs_given, hooks}

pub all_told : {A : Type 0} (test : A → Bool) (xs : List A) → list_all test xs ≡ true → (n : ℕ) (x : A) → slice_get xs n ≡ Some x → test x ≡ true
all_told test [] h n x e = cc
all_told test (y ∷ xs) h zero x e = sym (ap test (some_one y x e)) ∙ first_so (test y) _ h
all_told test (y ∷ xs) h (suc n) x e = all_told test xs (second_so (test y) _ h) n x e

pub less_told : (a b : ℕ) → nat_lt a b ≡ true → a < b
less_told a b h = grind (arith, nat_tests, h)

pub outs_checked : (base : BaseParts) (tree : Tree) (plan : Plan) → IsTrue (is_checked base tree plan) → outs_fit base tree plan ≡ true
outs_checked base tree plan ok = second_so (layers_fit plan) _ (second_so (steps_fit base.catalog plan 0 plan.steps) _ ok)

pub out_checked : (base : BaseParts) (tree : Tree) (plan : Plan) → IsTrue (is_checked base tree plan) → (n : ℕ) (o : OutPlace) → slice_get plan.out n ≡ Some o → out_fits base tree plan o ≡ true
out_checked base tree plan ok n o h = all_told (out_fits base tree plan) plan.out (first_so (list_all (out_fits base tree plan) plan.out) _ (outs_checked base tree plan ok)) n o h

-- an entry's step is there
pub out_step : (base : BaseParts) (tree : Tree) (plan : Plan) → IsTrue (is_checked base tree plan) → (n : ℕ) (o : OutPlace) → slice_get plan.out n ≡ Some o → (s : Step) × (slice_get plan.steps o.step ≡ Some s)
out_step base tree plan ok n o h =
    let fits = second_so (nat_lt o.place (length tree.places)) _ (out_checked base tree plan ok n o h) in
    at_some plan.steps o.step (less_told o.step (length plan.steps) (first_so (nat_lt o.step (length plan.steps)) _ fits))

named_content : (to_ : List ℕ) (s : Step) → is_some (fetch_in (Some s)) ≡ false → named_by (content to_ s) ≡ option_map (at to_) (named_by s)
named_content to_ (step.Const x) h = refl
named_content to_ (step.Var x) h = refl
named_content to_ step.Given h = refl
named_content to_ (step.Fetch f) h = cc
named_content to_ (step.Item s) h = refl
named_content to_ (step.Column i c) h = refl
named_content to_ (step.Count s) h = refl
named_content to_ (step.Page s part) h = refl
named_content to_ (step.CursorOf i) h = refl

pub mapped_some : (f : ℕ → ℕ) (o : Option ℕ) (y : ℕ) → option_map f o ≡ Some y → (x : ℕ) × (o ≡ Some x) × (f x ≡ y)
mapped_some f None y e = cc
mapped_some f (Some x) y e = (x, refl, some_one (f x) y e)

-- where a number starts, a chain goes on
pub chain_cases : (next : ℕ → Option ℕ) (n x k : ℕ) → is_in (chain next (suc n) x) k ≡ true → (x ≡ k) ⊎ (y : ℕ) × (next x ≡ Some y) × (is_in (chain next n y) k ≡ true)
chain_cases next n x k h = elim (or_cases (x == k) (is_in (or_nothing (chain next n) (next x)) k) h) [ inl e ↦ inl (eqb-true x k e) | inr e ↦ by (next x) refl e ] where
  by : (o : Option ℕ) → next x ≡ o → is_in (or_nothing (chain next n) o) k ≡ true → (x ≡ k) ⊎ (y : ℕ) × (next x ≡ Some y) × (is_in (chain next n y) k ≡ true)
  by None g e = cc
  by (Some y) g e = inr (y, g, e)

pub chain_itself : (next : ℕ → Option ℕ) (n x k : ℕ) → x ≡ k → is_in (chain next (suc n) x) k ≡ true
chain_itself next n x k e = or_left (x == k) _ (eq-eqb x k e)

pub chain_on : (next : ℕ → Option ℕ) (n x y k : ℕ) → next x ≡ Some y → is_in (chain next n y) k ≡ true → is_in (chain next (suc n) x) k ≡ true
chain_on next n x y k e h = or_right (x == k) _ (ap (λ o. is_in (or_nothing (chain next n) o) k) e ∙ h)

module _ (m : Merging) where
  -- a step that stands for a fetch is a fetch
  pub fetch_back : (k : ℕ) (s : Step) (n : ℕ) (x : FetchStep) → slice_get m.plan.steps k ≡ Some s → to m k ≡ n → slice_get (M m).steps n ≡ Some (step.Fetch x) → (f : FetchStep) × (s ≡ step.Fetch f)
  fetch_back k (step.Fetch f) n x h e is = (f, refl)
  fetch_back k (step.Const v) n x h e is = let o = sym (other_there m k (step.Const v) refl h) ∙ ap (slice_get (M m).steps) e ∙ is in cc
  fetch_back k (step.Var v) n x h e is = let o = sym (other_there m k (step.Var v) refl h) ∙ ap (slice_get (M m).steps) e ∙ is in cc
  fetch_back k step.Given n x h e is = let o = sym (other_there m k step.Given refl h) ∙ ap (slice_get (M m).steps) e ∙ is in cc
  fetch_back k (step.Item s) n x h e is = let o = sym (other_there m k (step.Item s) refl h) ∙ ap (slice_get (M m).steps) e ∙ is in cc
  fetch_back k (step.Column i c) n x h e is = let o = sym (other_there m k (step.Column i c) refl h) ∙ ap (slice_get (M m).steps) e ∙ is in cc
  fetch_back k (step.Count s) n x h e is = let o = sym (other_there m k (step.Count s) refl h) ∙ ap (slice_get (M m).steps) e ∙ is in cc
  fetch_back k (step.Page s part) n x h e is = let o = sym (other_there m k (step.Page s part) refl h) ∙ ap (slice_get (M m).steps) e ∙ is in cc
  fetch_back k (step.CursorOf i) n x h e is = let o = sym (other_there m k (step.CursorOf i) refl h) ∙ ap (slice_get (M m).steps) e ∙ is in cc

  -- what a new step names is what the old one names, or the row that a mutation gave
  abbrev pub NameBack : Step → ℕ → Type 0
  NameBack s y = ((j : ℕ) × (named_by s ≡ Some j) × (to m j ≡ y)) ⊎ (slice_get (M m).steps y ≡ Some step.Given)

  name_other : (k : ℕ) (s : Step) (y : ℕ) → is_some (fetch_in (Some s)) ≡ false → slice_get m.plan.steps k ≡ Some s → named_at (M m).steps (to m k) ≡ Some y → NameBack s y
  name_other k s y none h e =
      inl (mapped_some (to m) (named_by s) y (sym (named_content m.r.to s none) ∙ sym (ap named_in (other_there m k s none h)) ∙ e))

  name_fetch : (k : ℕ) (f : FetchStep) (y : ℕ) → slice_get m.plan.steps k ≡ Some (step.Fetch f) → named_at (M m).steps (to m k) ≡ Some y → NameBack (step.Fetch f) y
  name_fetch k f y h e = by (out-FetchStep f).parent refl where
    t : FetchThere m k f
    t = fetch_there m k f h

    named : (out-FetchStep (new_fetch m k f (fetch_there m k f h))).parent ≡ Some y
    named = sym (ap named_in (fetch_there m k f h).is) ∙ e

    row : (item : ℕ) (b : Bool) → is_given m.plan.steps item ≡ b → (out-FetchStep f).parent ≡ Some item → NameBack (step.Fetch f) y
    row item true g p =
        let z = hangs_given m k f (fetch_there m k f h) item p (given_from (slice_get m.plan.steps item) g) in
        let same = some_one z.0 y (sym z.1 ∙ named) in
        inr (sym (ap (slice_get (M m).steps) same) ∙ z.2)
    row item false g p =
        let is = hooks m k f (fetch_there m k f h) ∙ ap (hook_on m.r.to m.plan.steps) p ∙ ap (λ b. Rattle.std.specs.Prelude.if◌then◌else◌ b OnGivenRow (OnRowOf (to m item))) g in
        let z = hook_row m.r.to m.plan.steps (out-FetchStep (fetch_there m k f h).fetch).parent (to m item) is in
        let new = new_parent m k f (fetch_there m k f h) ∙ ap (option_map (to m)) z.1 ∙ ap (λ n. Some n) z.3 in
        inl (item, p, some_one (to m item) y (sym new ∙ named))

    by : (o : Option ℕ) → (out-FetchStep f).parent ≡ o → NameBack (step.Fetch f) y
    by None p = let none = hangs_none m k f (fetch_there m k f h) p in let z = sym none ∙ named in cc
    by (Some item) p = row item (is_given m.plan.steps item) refl p

  pub name_back : (k : ℕ) (s : Step) (y : ℕ) → slice_get m.plan.steps k ≡ Some s → named_at (M m).steps (to m k) ≡ Some y → NameBack s y
  name_back k (step.Fetch f) y h e = name_fetch k f y h e
  name_back k (step.Const v) y h e = name_other k (step.Const v) y refl h e
  name_back k (step.Var v) y h e = name_other k (step.Var v) y refl h e
  name_back k step.Given y h e = name_other k step.Given y refl h e
  name_back k (step.Item s) y h e = name_other k (step.Item s) y refl h e
  name_back k (step.Column i c) y h e = name_other k (step.Column i c) y refl h e
  name_back k (step.Count s) y h e = name_other k (step.Count s) y refl h e
  name_back k (step.Page s part) y h e = name_other k (step.Page s part) y refl h e
  name_back k (step.CursorOf i) y h e = name_other k (step.CursorOf i) y refl h e

  -- only itself is used by the row that a mutation gave
  given_chain : (n y k : ℕ) → slice_get (M m).steps y ≡ Some step.Given → is_in (chain (named_at (M m).steps) n y) k ≡ true → y ≡ k
  given_chain zero y k h i = cc
  given_chain (suc n) y k h i =
      elim (chain_cases (named_at (M m).steps) n y k i) [
        | inl e ↦ e
        | inr z ↦ let none = sym (ap named_in h) ∙ z.1 in cc
      ]

  -- a step that a new one uses stands for one that the old one uses
  pub record UsedBack (k f n : ℕ) : Type 0 where
    pub old : ℕ
    pub step_ : Step
    pub is_old : slice_get m.plan.steps old ≡ Some step_
    pub to_ : to m old ≡ n
    pub used : is_in (chain (named_at m.plan.steps) f k) old ≡ true

  pub used_back : (f k g n : ℕ) (s : Step) → k < g → slice_get m.plan.steps k ≡ Some s → (slice_get (M m).steps n ≡ Some step.Given → ⊥) → is_in (chain (named_at (M m).steps) f (to m k)) n ≡ true → UsedBack k g n
  used_back zero k g n s lt h not_given i = cc
  used_back (suc f) k zero n s lt h not_given i = absurd (omega (arith, lt))
  used_back (suc f) k (suc g) n s lt h not_given i =
      elim (chain_cases (named_at (M m).steps) f (to m k) n i) [
        | inl e ↦ record { old = k; step_ = s; is_old = h; to_ = e; used = chain_itself (named_at m.plan.steps) g k k refl }
        | inr z ↦ elim (name_back k s z.0 h z.1) [
          | inl j ↦
              let less : j.0 < k = subst (λ o. IfSome o (λ x. x < k)) j.1 (names_earlier m.base m.tree m.plan m.checked k s h) in
              let below = get_below m.plan.steps k s h in
              let t = at_some m.plan.steps j.0 (omega (arith, less, below)) in
              let up = used_back f j.0 g n t.0 (omega (arith, less, lt)) t.1 not_given (ap (λ x. is_in (chain (named_at (M m).steps) f x) n) j.2 ∙ z.2) in
              record {
                old = up.old;
                step_ = up.step_;
                is_old = up.is_old;
                to_ = up.to_;
                used = chain_on (named_at m.plan.steps) g k j.0 up.old (ap named_in h ∙ j.1) up.used;
              }
          | inr given ↦ absurd (not_given (sym (ap (slice_get (M m).steps) (given_chain f z.0 n given z.2)) ∙ given))
        ]
      ]

  -- a fetch that a root uses stands for one that it uses
  pub used_there : (r : Root) (n : ℕ) (x : FetchStep) → slice_get (M m).steps n ≡ Some (step.Fetch x) → is_used m.tree (M m) r n ≡ true
      → (k : ℕ) × (f : FetchStep) × (slice_get m.plan.steps k ≡ Some (step.Fetch f)) × (to m k ≡ n) × (is_used m.tree m.plan r k ≡ true)
  used_there r n x is u =
      let e = any_some (λ o. is_under m.tree r o.place && is_in (used_by (M m).steps o.step) n) (M m).out u in
      let o = map_get (new_out m.r.to m.l.to) m.plan.out e.0 e.1 e.2 in
      let test : (is_under m.tree r o.0.place && is_in (used_by (M m).steps (to m o.0.step)) n) ≡ true = ap (λ z. is_under m.tree r z.place && is_in (used_by (M m).steps z.step) n) o.2 ∙ e.3 in
      let under = first_so (is_under m.tree r o.0.place) _ test in
      let chained = second_so (is_under m.tree r o.0.place) _ test in
      let s = out_step m.base m.tree m.plan m.checked e.0 o.0 o.1 in
      let not_given : slice_get (M m).steps n ≡ Some step.Given → ⊥ = λ given. (let z = sym given ∙ is in cc) in
      let old = used_back (length (M m).steps) o.0.step (length m.plan.steps) n s.0 (get_below m.plan.steps o.0.step s.0 s.1) s.1 not_given chained in
      let f = fetch_back old.old old.step_ n x old.is_old old.to_ is in (
        old.old,
        f.0,
        old.is_old ∙ ap (λ z. Some z) f.1,
        old.to_,
        any_at (λ o. is_under m.tree r o.place && is_in (used_by m.plan.steps o.step) old.old) m.plan.out e.0 o.0 o.1 (and_both (is_under m.tree r o.0.place) _ under old.used),
      )
