-- A plan that is well formed has one quotient at most.
use Rattle.std.proofs.Common.{◌≡◌, ℕ, zero, suc, ◌<◌, ◌≤◌, List, [], ◌∷◌, length, Option, Some, None, Bool, true, false, cond, refl, sym, ap, ◌∙◌, subst, arith, inl, inr, ◌⊎◌}
use Rattle.std.proofs.lemmas.Bool.{cases_lt}
use Rattle.std.specs.Prelude.{slice_get, nat_lt, unwrap_or, IfSome, IsTrue}
use Rattle.pg_base.specs.Base.{BaseParts}
use Rattle.place_tree.specs.declared.place.Tree.{Tree}
use Rattle.plan_constraints.specs.declared.constraint.Constraint.{Constraint}
use Rattle.plan_steps.specs.declared.plan.FetchStep.{out-FetchStep}
use Rattle.plan_steps.specs.declared.plan.Plan.{Plan}
use Rattle.plan_steps.specs.declared.plan.Step.{Step}
use Rattle.plan_steps.specs.declared.plan.Step.TheVariants as step
use Rattle.plan_steps.specs.Check.{is_checked}
use Rattle.plan_steps.specs.Named.{named_by, is_given, over}
use Rattle.plan_steps.proofs.Checked.{at_some}
use Rattle.plan_steps.proofs.Earlier.{names_earlier}
use Rattle.dedupe_steps.specs.Keys.{content, OnGivenRow, OnRowOf, hook_on, hook, Numbered, Later, ground_of, reach, order_for, key_of, key_at}
use Rattle.dedupe_steps.specs.Numbered.{at, Renaming, IsNumbered}
use Rattle.dedupe_steps.specs.Quotient.{ground_at, quotient, IsQuotient}
use Rattle.dedupe_steps.proofs.Lists.{some_one, get_below}
use Rattle.dedupe_steps.proofs.Used.{less_told}

-- ---- lists

pub same_list : {A : Type 0} (xs ys : List A) → ((k : ℕ) → slice_get xs k ≡ slice_get ys k) → xs ≡ ys
same_list [] [] f = refl
same_list [] (y ∷ ys) f = let z = f 0 in cc
same_list (x ∷ xs) [] f = let z = f 0 in cc
same_list (x ∷ xs) (y ∷ ys) f = ap (λ z. z ∷ xs) (some_one x y (f 0)) ∙ ap (λ zs. y ∷ zs) (same_list xs ys (λ k. f (suc k)))

get_past : {A : Type 0} (xs : List A) (k : ℕ) → length xs ≤ k → slice_get xs k ≡ None
get_past [] k le = refl
get_past (x ∷ xs) zero le = absurd (omega (arith, le))
get_past (x ∷ xs) (suc k) le = get_past xs k (omega (arith, le))

at_is : (xs : List ℕ) (k x : ℕ) → slice_get xs k ≡ Some x → at xs k ≡ x
at_is xs k x e = ap (λ o. unwrap_or o 0) e

abbrev pub AgreeBelow : List ℕ → List ℕ → ℕ → Type 0
AgreeBelow t u k = (j : ℕ) → j < k → at t j ≡ at u j

same_numbers : (t u : List ℕ) (n : ℕ) → length t ≡ n → length u ≡ n → AgreeBelow t u n → t ≡ u
same_numbers t u n a b agree = same_list t u (λ k. by k (cases_lt k n)) where
  by : (k : ℕ) → (k < n) ⊎ (n ≤ k) → slice_get t k ≡ slice_get u k
  by k (inl lt) =
      let x = at_some t k (omega (arith, a, lt)) in
      let y = at_some u k (omega (arith, b, lt)) in
      x.1 ∙ ap (λ z. Some z) (sym (at_is t k x.0 x.1) ∙ agree k lt ∙ at_is u k y.0 y.1) ∙ sym y.1
  by k (inr le) = get_past t k (omega (arith, a, le)) ∙ sym (get_past u k (omega (arith, b, le)))

-- ---- things numbered anew, where keys go by earlier numbers

module _ {K : Type 0} (count : ℕ) (key other : ℕ → K) (r s : Renaming) (a : IsNumbered count key r) (b : IsNumbered count other s)
    (keys : (k : ℕ) → k < count → AgreeBelow r.to s.to k → key k ≡ other k) where
  -- a number that is new in one way isn't smaller in the other
  not_less : (k : ℕ) → k < count → AgreeBelow r.to s.to k → slice_get s.firsts (at s.to k) ≡ Some k → slice_get r.firsts (at r.to k) ≡ Some k → at r.to k < at s.to k → ⊥
  not_less k lt agree first mine less =
      let long = get_below s.firsts (at s.to k) k first in
      let j = at_some s.firsts (at r.to k) (omega (arith, less, long)) in
      let f = b.first (at r.to k) j.0 j.1 in
      let before = b.rising (at r.to k) (at s.to k) j.0 k j.1 first less in
      let le = a.least (at r.to k) j.0 k mine f.0 (agree j.0 before ∙ f.1) in
      omega (arith, le, before)

  -- a number that an earlier one has is the same in the other way
  old_same : (k j : ℕ) → k < count → AgreeBelow r.to s.to k → j < k → at r.to j ≡ at r.to k → at r.to k ≡ at s.to k
  old_same k j lt agree less e =
      let j_in : j < count = omega (arith, lt, less) in
      let same = sym (keys j j_in (λ i below. agree i (omega (arith, below, less)))) ∙ a.one_key j k j_in lt e ∙ keys k lt agree in
      sym e ∙ agree j less ∙ b.one_number j k j_in lt same

abbrev FirstIs : Renaming → ℕ → Type 0
FirstIs r k = (slice_get r.firsts (at r.to k) ≡ Some k) ⊎ (j : ℕ) × (j < k) × (at r.to j ≡ at r.to k)

first_is : {K : Type 0} (count : ℕ) (key : ℕ → K) (r : Renaming) → IsNumbered count key r → (k : ℕ) → k < count → FirstIs r k
first_is count key r a k lt =
    let j = at_some r.firsts (at r.to k) (a.named k lt) in
    let f = a.first (at r.to k) j.0 j.1 in
    let le = a.least (at r.to k) k j.0 j.1 lt refl in
    elim (cases_lt j.0 k) [
      | inl less ↦ inr (j.0, less, f.1)
      | inr more ↦ let same : j.0 ≡ k = omega (arith, le, more) in inl (j.1 ∙ ap (λ n. Some n) same)
    ]

module _ {K : Type 0} (count : ℕ) (key other : ℕ → K) (r s : Renaming) (a : IsNumbered count key r) (b : IsNumbered count other s)
    (keys : (k : ℕ) → k < count → AgreeBelow r.to s.to k → key k ≡ other k) where
  one_more : (k : ℕ) → k < count → AgreeBelow r.to s.to k → at r.to k ≡ at s.to k
  one_more k lt agree = by (first_is count key r a k lt) (first_is count other s b k lt) where
    back : (j : ℕ) → j < count → AgreeBelow s.to r.to j → other j ≡ key j
    back j j_in other_way = sym (keys j j_in (λ i below. sym (other_way i below)))

    by : FirstIs r k → FirstIs s k → at r.to k ≡ at s.to k
    by (inr z) y = old_same count key other r s a b keys k z.0 lt agree z.1 z.2
    by (inl x) (inr z) = sym (old_same count other key s r b a back k z.0 lt (λ i below. sym (agree i below)) z.1 z.2)
    by (inl x) (inl y) = elim (cases_lt (at r.to k) (at s.to k)) [
      | inl less ↦ absurd (not_less count key other r s a b keys k lt agree y x less)
      | inr le ↦ elim (cases_lt (at s.to k) (at r.to k)) [
        | inl more ↦ absurd (not_less count other key s r b a back k lt (λ i below. sym (agree i below)) x y more)
        | inr ge ↦ omega (arith, le, ge)
      ]
    ]

  agree_to : (k : ℕ) → k ≤ count → AgreeBelow r.to s.to k
  agree_to zero le j lt = absurd (omega (arith, lt))
  agree_to (suc k) le j lt =
      let below = agree_to k (omega (arith, le)) in
      elim (cases_lt j k) [
        | inl less ↦ below j less
        | inr more ↦ let same : k ≡ j = omega (arith, lt, more) in subst (λ n. at r.to n ≡ at s.to n) same (one_more k (omega (arith, le)) below)
      ]

  first_same : (agree : AgreeBelow r.to s.to count) (m : ℕ) → slice_get r.firsts m ≡ slice_get s.firsts m
  first_same agree m = by (cases_lt m (length r.firsts)) (cases_lt m (length s.firsts)) where
    into : (x : Renaming) (k : ℕ → K) → IsNumbered count k x → (j : ℕ) → j < count → at x.to j ≡ m → m < length x.firsts
    into x k num j j_in e = let z = num.named j j_in in omega (arith, z, e)

    by : (m < length r.firsts) ⊎ (length r.firsts ≤ m) → (m < length s.firsts) ⊎ (length s.firsts ≤ m) → slice_get r.firsts m ≡ slice_get s.firsts m
    by (inl lt) (inl less) =
        let x = at_some r.firsts m lt in
        let y = at_some s.firsts m less in
        let f = a.first m x.0 x.1 in
        let g = b.first m y.0 y.1 in
        let le = a.least m y.0 x.0 x.1 g.0 (agree y.0 g.0 ∙ g.1) in
        let ge = b.least m x.0 y.0 y.1 f.0 (sym (agree x.0 f.0) ∙ f.1) in
        let same : x.0 ≡ y.0 = omega (arith, le, ge) in
        x.1 ∙ ap (λ n. Some n) same ∙ sym y.1
    by (inl lt) (inr ge) =
        let x = at_some r.firsts m lt in
        let f = a.first m x.0 x.1 in
        let z = into s other b x.0 f.0 (sym (agree x.0 f.0) ∙ f.1) in
        absurd (omega (arith, z, ge))
    by (inr ge) (inl less) =
        let y = at_some s.firsts m less in
        let g = b.first m y.0 y.1 in
        let z = into r key a y.0 g.0 (agree y.0 g.0 ∙ g.1) in
        absurd (omega (arith, z, ge))
    by (inr ge) (inr le) = get_past r.firsts m ge ∙ sym (get_past s.firsts m le)

  pub renaming_same : r ≡ s
  renaming_same =
      let agree = agree_to count (omega arith) in
      let tos = same_numbers r.to s.to count a.all b.all agree in
      let firsts = same_list r.firsts s.firsts (first_same agree) in
      λ n. record { to = tos n; firsts = firsts n }

-- ---- keys go by earlier numbers

content_agrees : (t u : List ℕ) (k : ℕ) (s : Step) → AgreeBelow t u k → IfSome (named_by s) (λ j. j < k) → content t s ≡ content u s
content_agrees t u k (step.Const v) agree lt = refl
content_agrees t u k (step.Var v) agree lt = refl
content_agrees t u k step.Given agree lt = refl
content_agrees t u k (step.Fetch f) agree lt = refl
content_agrees t u k (step.Item s) agree lt = ap (λ n. step.Item n) (agree s lt)
content_agrees t u k (step.Column i c) agree lt = ap (λ n. step.Column n c) (agree i lt)
content_agrees t u k (step.Count s) agree lt = ap (λ n. step.Count n) (agree s lt)
content_agrees t u k (step.Page s part) agree lt = ap (λ n. step.Page n part) (agree s lt)
content_agrees t u k (step.CursorOf i) agree lt = ap (λ n. step.CursorOf n) (agree i lt)

hook_on_agrees : (t u : List ℕ) (steps : List Step) (k : ℕ) (p : Option ℕ) → AgreeBelow t u k → IfSome p (λ j. j < k) → hook_on t steps p ≡ hook_on u steps p
hook_on_agrees t u steps k None agree lt = refl
hook_on_agrees t u steps k (Some p) agree lt = ap (λ n. cond (is_given steps p) OnGivenRow (OnRowOf n)) (agree p lt)

hook_agrees : (t u : List ℕ) (steps : List Step) (k : ℕ) (s : Step) → AgreeBelow t u k → IfSome (named_by s) (λ j. j < k) → hook t steps s ≡ hook u steps s
hook_agrees t u steps k (step.Fetch f) agree lt = hook_on_agrees t u steps k (out-FetchStep f).parent agree lt
hook_agrees t u steps k (step.Const v) agree lt = refl
hook_agrees t u steps k (step.Var v) agree lt = refl
hook_agrees t u steps k step.Given agree lt = refl
hook_agrees t u steps k (step.Item s) agree lt = refl
hook_agrees t u steps k (step.Column i c) agree lt = refl
hook_agrees t u steps k (step.Count s) agree lt = refl
hook_agrees t u steps k (step.Page s part) agree lt = refl
hook_agrees t u steps k (step.CursorOf i) agree lt = refl

ground_agrees : (t u : List ℕ) (k : ℕ) (o : Option ℕ) → AgreeBelow t u k → ground_of t k o ≡ ground_of u k o
ground_agrees t u k None agree = refl
ground_agrees t u k (Some s) agree = by (nat_lt s k) refl where
  by : (b : Bool) → nat_lt s k ≡ b → cond b (Numbered (at t s)) (Later s) ≡ cond b (Numbered (at u s)) (Later s)
  by true e = ap (λ n. Numbered n) (agree s (less_told s k e))
  by false e = refl

-- the key of a step is the same under renamings that agree on the steps before it
pub key_agrees : (base : BaseParts) (tree : Tree) (constraints : List Constraint) (plan : Plan) (t u : List ℕ) (k : ℕ) (s : Step) → AgreeBelow t u k → IfSome (named_by s) (λ j. j < k)
    → key_of base tree constraints plan t k s ≡ key_of base tree constraints plan u k s
key_agrees base tree constraints plan t u k s agree lt =
    let a = content_agrees t u k s agree lt in
    let b = hook_agrees t u plan.steps k s agree lt in
    let c = ground_agrees t u k (over plan.layers k) agree in
    λ n. record { content = a n; hook = b n; stand = c n; reach = reach base tree plan k s; order = order_for base tree constraints plan k s }

pub keys_agree : (base : BaseParts) (tree : Tree) (constraints : List Constraint) (plan : Plan) → IsTrue (is_checked base tree plan) → (t u : List ℕ) (k : ℕ) → k < length plan.steps → AgreeBelow t u k
    → key_at base tree constraints plan t k ≡ key_at base tree constraints plan u k
keys_agree base tree constraints plan ok t u k lt agree =
    let s = at_some plan.steps k lt in
    ap (λ o. key_of base tree constraints plan t k (unwrap_or o step.Given)) s.1
    ∙ key_agrees base tree constraints plan t u k s.0 agree (names_earlier base tree plan ok k s.0 s.1)
    ∙ sym (ap (λ o. key_of base tree constraints plan u k (unwrap_or o step.Given)) s.1)

-- ---- the law

pub one_quotient : (base : BaseParts) (tree : Tree) (constraints : List Constraint) (plan merged other : Plan) → IsTrue (is_checked base tree plan) → IsQuotient base tree constraints plan merged → IsQuotient base tree constraints plan other → merged ≡ other
one_quotient base tree constraints plan merged other ok a b =
    let steps = renaming_same (length plan.steps) (key_at base tree constraints plan a.steps.to) (key_at base tree constraints plan b.steps.to) a.steps b.steps a.numbered b.numbered
    (λ k lt agree. keys_agree base tree constraints plan ok a.steps.to b.steps.to k lt agree) in
    let layers = renaming_same (length plan.layers) (ground_at a.steps.to plan.layers) (ground_at b.steps.to plan.layers) a.layers b.layers a.laid b.laid
    (λ k lt agree. ap (λ r. ground_at r.to plan.layers k) steps) in
    a.is ∙ ap (λ r. quotient plan r a.layers) steps ∙ ap (quotient plan b.steps) layers ∙ sym b.is
