-- Tests of lists, and what stands in them.
use Rattle.std.proofs.Common.{◌≡◌, ◌⊎◌, inl, inr, ℕ, Bool, true, false, ◌||◌, ◌==◌, List, [], ◌∷◌, Option, Some, None, refl, sym, ap, subst, ◌∙◌, true≢false}
use Rattle.std.specs.List.{list_any}
use Rattle.std.proofs.lemmas.Bool.Decides.{Decides-eqb}
use Rattle.pg_base.specs.Lists.{Each}
use Rattle.gql_nodes.specs.Reached.{IsIn}
use Rattle.gql_scopes.specs.Conditions.{if_some}
use Rattle.gql_scopes.specs.Tables.{has}

-- one of the two
pub either : (a b : Bool) → (a || b) ≡ true → (a ≡ true) ⊎ (b ≡ true)
either true b h = inl refl
either false b h = inr h

pub left_so : (a b : Bool) → a ≡ true → (a || b) ≡ true
left_so a b h = ap (λ c. c || b) h

pub right_so : (a b : Bool) → b ≡ true → (a || b) ≡ true
right_so true b h = refl
right_so false b h = h

neither_first : (a b : Bool) → (a || b) ≡ false → a ≡ false
neither_first true b h = absurd (true≢false h)
neither_first false b h = refl

neither_second : (a b : Bool) → (a || b) ≡ false → b ≡ false
neither_second true b h = absurd (true≢false h)
neither_second false b h = h

-- ---- places

pub has_in : (places : List ℕ) (n : ℕ) → has places n ≡ true → IsIn places n
has_in [] n h = absurd (true≢false (sym h))
has_in (y ∷ ys) n h = elim (either (y == n) (has ys n) h) [ inl a ↦ inl ((Decides-eqb y n).0 a) | inr b ↦ inr (has_in ys n b) ]

pub in_has : (places : List ℕ) (n : ℕ) → IsIn places n → has places n ≡ true
in_has [] n h = absurd h
in_has (y ∷ ys) n (inl e) = left_so (y == n) (has ys n) ((Decides-eqb y n).1 e)
in_has (y ∷ ys) n (inr h) = right_so (y == n) (has ys n) (in_has ys n h)

pub here_is : (n : ℕ) → (n == n) ≡ true
here_is n = (Decides-eqb n n).1 refl

-- ---- any item

pub none_passes : {A : Type 0} (test : A → Bool) (xs : List A) (x : A) → list_any test xs ≡ false → IsIn xs x → test x ≡ false
none_passes test [] x h at = absurd at
none_passes test (y ∷ ys) x h (inl e) = sym (ap test e) ∙ neither_first (test y) (list_any test ys) h
none_passes test (y ∷ ys) x h (inr at) = none_passes test ys x (neither_second (test y) (list_any test ys) h) at

pub any_in : {A : Type 0} (test : A → Bool) (xs : List A) (x : A) → IsIn xs x → test x ≡ true → list_any test xs ≡ true
any_in test [] x at h = absurd at
any_in test (y ∷ ys) x (inl e) h = left_so (test y) (list_any test ys) (ap test e ∙ h)
any_in test (y ∷ ys) x (inr at) h = right_so (test y) (list_any test ys) (any_in test ys x at h)

both_false : (a b : Bool) → a ≡ false → b ≡ false → (a || b) ≡ false
both_false a b e f = ap (λ c. c || b) e ∙ f

pub all_fail : {A : Type 0} (test : A → Bool) (xs : List A) → ((x : A) → IsIn xs x → test x ≡ false) → list_any test xs ≡ false
all_fail test [] h = refl
all_fail test (y ∷ ys) h = both_false (test y) (list_any test ys) (h y (inl refl)) (all_fail test ys (λ x at. h x (inr at)))

-- ---- a test of what may be there

pub record Passed {A : Type 0} (test : A → Bool) (o : Option A) : Type 0 where
  pub item : A
  pub is : o ≡ Some item
  pub passes : test item ≡ true

pub passed : {A : Type 0} (test : A → Bool) (o : Option A) → if_some test o ≡ true → Passed test o
passed test None h = absurd (true≢false (sym h))
passed test (Some x) h = record { item = x; is = refl; passes = h }

pub passes : {A : Type 0} (test : A → Bool) (o : Option A) (x : A) → o ≡ Some x → test x ≡ true → if_some test o ≡ true
passes test o x is h = ap (if_some test) is ∙ h

-- ---- each item

pub each_in : {A : Type 0} (P : A → Type 0) (xs : List A) (x : A) → Each P xs → IsIn xs x → P x
each_in P [] x h at = absurd at
each_in P (y ∷ ys) x h (inl e) = subst P e h.0
each_in P (y ∷ ys) x h (inr at) = each_in P ys x h.1 at
