-- Things that are numbered one after the other are numbered by their keys.
use Rattle.std.proofs.Common.{◌≡◌, ◌≢◌, ℕ, zero, suc, ◌+◌, ◌<◌, ◌≤◌, List, [], ◌∷◌, ◌++◌, length, length-append, get_or, Option, Some, None, Bool, true, false, cond, not, refl, sym, ap, ◌∙◌, subst, arith, inl, inr, ◌⊎◌, eq-eqb, eqb-true}
use Rattle.std.proofs.lemmas.Bool.{cases_lt}
use Rattle.std.specs.Prelude.{slice_get, ◌==◌, ◌||◌, nat_eq, nat_lt, option_map, unwrap_or, IsTrue}
use Rattle.std.specs.Cmp.{signed_Decides, unsigned_Decides}
use Rattle.std.specs.List.{list_any, position_or_len}
use Rattle.std.proofs.lemmas.List.Sums.{position_or_len_is}
use Rattle.std.proofs.lemmas.Slice.Eq.{bytes_eq-Decides}
use Rattle.pg_base.specs.Base.{BaseParts}
use Rattle.place_tree.specs.declared.place.Tree.{Tree}
use Rattle.plan_constraints.specs.declared.constraint.Constraint.{Constraint}
use Rattle.plan_steps.specs.declared.plan.FetchStep.{FetchStep, out-FetchStep}
use Rattle.plan_steps.specs.declared.plan.Layer.{Layer}
use Rattle.plan_steps.specs.declared.plan.Plan.{Plan}
use Rattle.plan_steps.specs.declared.plan.Step.{Step}
use Rattle.plan_steps.specs.declared.plan.Step.TheVariants as step
use Rattle.plan_steps.specs.Check.{is_checked}
use Rattle.plan_steps.proofs.Checked.{at_some}
use Rattle.dedupe_steps.specs.declared.words.Word.{Word}
use Rattle.dedupe_steps.specs.declared.words.Word.TheVariants as word
use Rattle.dedupe_steps.specs.Keys.{Key, key_of, key_at}
use Rattle.dedupe_steps.specs.Numbered.{at, Renaming, IsNumbered}
use Rattle.dedupe_steps.specs.Numbering.{same_word, same_key, Numbers, no_numbers, is_new, number_in, with_key, with_first, numbered_with}
use Rattle.dedupe_steps.specs.Quotient.{ground_at}
use Rattle.dedupe_steps.specs.Words.{optional, number, key_words}
use Rattle.dedupe_steps.proofs.Lists.{some_one, get_below}
use Rattle.dedupe_steps.proofs.Same.{all_same, all_itself}
use Rattle.dedupe_steps.proofs.Unique.{AgreeBelow, keys_agree}
use Rattle.dedupe_steps.proofs.WordsApart.{optional_exact, number_exact, content_bare, keys_apart}

-- ---- words that are the same

word_same : (a b : Word) → same_word a b ≡ true → a ≡ b
word_same (word.Number m) (word.Number n) h = ap (λ z. word.Number z) (eqb-true m n h)
word_same (word.Whole m) (word.Whole n) h = ap (λ z. word.Whole z) ((signed_Decides m n).0 h)
word_same (word.Letters s) (word.Letters t) h = ap (λ z. word.Letters z) ((bytes_eq-Decides s t).0 h)
word_same (word.Number m) (word.Whole n) h = cc
word_same (word.Number m) (word.Letters t) h = cc
word_same (word.Whole m) (word.Number n) h = cc
word_same (word.Whole m) (word.Letters t) h = cc
word_same (word.Letters s) (word.Number n) h = cc
word_same (word.Letters s) (word.Whole n) h = cc

word_itself : (a : Word) → same_word a a ≡ true
word_itself (word.Number m) = eq-eqb m m refl
word_itself (word.Whole m) = (signed_Decides m m).1 refl
word_itself (word.Letters s) = (bytes_eq-Decides s s).1 refl

pub key_same : (a b : List Word) → same_key a b ≡ true → a ≡ b
key_same a b h = all_same same_word word_same a b h

pub key_itself : (a : List Word) → same_key a a ≡ true
key_itself a = all_itself same_word word_itself a

-- ---- the place of a key

get_first : {A : Type 0} (xs ys : List A) (k : ℕ) → k < length xs → slice_get (xs ++ ys) k ≡ slice_get xs k
get_first [] ys k lt = absurd (omega (arith, lt))
get_first (x ∷ xs) ys zero lt = refl
get_first (x ∷ xs) ys (suc k) lt = get_first xs ys k (omega (arith, lt))

get_seam : {A : Type 0} (xs : List A) (x : A) → slice_get (xs ++ x ∷ []) (length xs) ≡ Some x
get_seam [] x = refl
get_seam (a ∷ xs) x = get_seam xs x

-- an item of a list with one more
pushed : {A : Type 0} (xs : List A) (x y : A) (k : ℕ) → slice_get (xs ++ x ∷ []) k ≡ Some y → (slice_get xs k ≡ Some y) ⊎ ((k ≡ length xs) × (x ≡ y))
pushed [] x y zero h = inr (refl, some_one x y h)
pushed [] x y (suc k) h = cc
pushed (a ∷ xs) x y zero h = inl h
pushed (a ∷ xs) x y (suc k) h = elim (pushed xs x y k h) [ inl e ↦ inl e | inr e ↦ let s = e.0 in inr (omega (arith, s), e.1) ]

get_is : {A : Type 0} (xs : List A) (k : ℕ) (x d : A) → slice_get xs k ≡ Some x → get_or xs k d ≡ x
get_is [] k x d h = cc
get_is (y ∷ xs) zero x d h = some_one y x h
get_is (y ∷ xs) (suc k) x d h = get_is xs k x d h

none_at : {A : Type 0} (test : A → Bool) (xs : List A) (k : ℕ) (x : A) → list_any test xs ≡ false → slice_get xs k ≡ Some x → test x ≡ false
none_at test [] k x h e = cc
none_at test (y ∷ xs) k x h e = by (test y) refl (λ j. none_at test xs j x) h k e where
  by : (b : Bool) → test y ≡ b → ((j : ℕ) → list_any test xs ≡ false → slice_get xs j ≡ Some x → test x ≡ false) → (b || list_any test xs) ≡ false → (k : ℕ) → slice_get (y ∷ xs) k ≡ Some x → test x ≡ false
  by true is again h k e = cc
  by false is again h zero e = sym (ap test (some_one y x e)) ∙ is
  by false is again h (suc k) e = again k h e

-- the first that passes
record First {A : Type 0} (test : A → Bool) (xs : List A) : Type 0 where
  pub place : ℕ
  pub item : A
  pub is : slice_get xs place ≡ Some item
  pub passes : test item ≡ true
  pub others : (k : ℕ) (y : A) → k < place → slice_get xs k ≡ Some y → test y ≡ false

first_of_all : {A : Type 0} (test : A → Bool) (xs : List A) → list_any test xs ≡ true → First test xs
first_of_all test [] h = cc
first_of_all {A = A} test (x ∷ xs) h = by (test x) refl (first_of_all test xs) h where
  by : (b : Bool) → test x ≡ b → (list_any test xs ≡ true → First test xs) → (b || list_any test xs) ≡ true → First test (x ∷ xs)
  by true is again h = record { place = 0; item = x; is = refl; passes = is; others = λ k y lt e. absurd (omega (arith, lt)) }
  by false is again h =
      let z = again h in
      record {
        place = suc z.place;
        item = z.item;
        is = z.is;
        passes = z.passes;
        others = λ k y lt e. before k y z lt e;
      } where
        before : (k : ℕ) (y : A) (z : First test xs) → k < suc z.place → slice_get (x ∷ xs) k ≡ Some y → test y ≡ false
        before zero y z lt e = sym (ap test (some_one x y e)) ∙ is
        before (suc k) y z lt e = z.others k y (omega (arith, lt)) e

found_or : {A : Type 0} (test : A → Bool) (xs : List A) → list_any test xs ≡ true → (x : A) × (slice_get xs (position_or_len test xs) ≡ Some x) × (test x ≡ true)
found_or test xs h =
    let z = first_of_all test xs h in
    let below = get_below xs z.place z.item z.is in
    let same : position_or_len test xs ≡ z.place =
    position_or_len_is test xs z.place z.item (omega (arith, below))
    (λ k lt. let y = at_some xs k (omega (arith, lt, below)) in ap test (get_is xs k y.0 z.item y.1) ∙ z.others k y.0 lt y.1)
    (λ lt. ap test (get_is xs z.place z.item z.item z.is) ∙ z.passes) in
    (z.item, ap (slice_get xs) same ∙ z.is, z.passes)

none_or : {A : Type 0} (test : A → Bool) (xs : List A) → list_any test xs ≡ false → position_or_len test xs ≡ length xs
none_or test [] h = refl
none_or test (x ∷ xs) h =
    position_or_len_is test (x ∷ xs) (length (x ∷ xs)) x (omega arith)
    (λ k lt. let y = at_some (x ∷ xs) k lt in ap test (get_is (x ∷ xs) k y.0 x y.1) ∙ none_at test (x ∷ xs) k y.0 h y.1)
    (λ lt. absurd (omega (arith, lt)))

-- ---- numbers of so many things

pub record AreNumbers {K : Type 0} (count : ℕ) (key : ℕ → K) (words : ℕ → List Word) (n : Numbers) : Type 0 where
  pub numbered : IsNumbered count key (record { to = n.to; firsts = n.firsts })
  pub long : length n.keys ≡ length n.firsts
  pub kept : (m k : ℕ) → slice_get n.firsts m ≡ Some k → slice_get n.keys m ≡ Some (words k)

at_first : (xs : List ℕ) (x k : ℕ) → k < length xs → at (xs ++ x ∷ []) k ≡ at xs k
at_first xs x k lt = ap (λ o. unwrap_or o 0) (get_first xs (x ∷ []) k lt)

at_last : (xs : List ℕ) (x k : ℕ) → k ≡ length xs → at (xs ++ x ∷ []) k ≡ x
at_last xs x k e = ap (at (xs ++ x ∷ [])) e ∙ ap (λ o. unwrap_or o 0) (get_seam xs x)

pub none_numbered : {K : Type 0} (key : ℕ → K) (words : ℕ → List Word) → AreNumbers 0 key words no_numbers
none_numbered key words = record {
  numbered = record {
    all = refl;
    named = λ k lt. absurd (omega (arith, lt));
    one_key = λ j k lt less e. absurd (omega (arith, lt));
    one_number = λ j k lt less e. absurd (omega (arith, lt));
    first = λ m k e. cc;
    least = λ m j k e lt is. absurd (omega (arith, lt));
    rising = λ l m j k e f lt. cc;
  };
  long = refl;
  kept = λ m k e. cc;
}

module _ {K : Type 0} (count : ℕ) (key other : ℕ → K) (words others : ℕ → List Word) (n : Numbers) (a : AreNumbers count key words n)
    (keys : (k : ℕ) → k < count → key k ≡ other k) (written : (k : ℕ) → k < count → words k ≡ others k)
    (apart : (k : ℕ) → k < count → others k ≡ others count → other k ≡ other count)
    (same : (k : ℕ) → k < count → other k ≡ other count → others k ≡ others count) where
  abbrev w : List Word
  w = others count

  abbrev m : ℕ
  m = number_in n.keys (others count)

  abbrev to : List ℕ
  to = n.to ++ number_in n.keys (others count) ∷ []

  old_at : (k : ℕ) → k < count → at to k ≡ at n.to k
  old_at k lt = let e = a.numbered.all in at_first n.to m k (omega (arith, e, lt))

  new_at : at to count ≡ m
  new_at = let e = a.numbered.all in at_last n.to m count (omega (arith, e))

  all : length to ≡ count + 1
  all = let e = a.numbered.all in let l = length-append n.to (m ∷ []) in omega (arith, e, l)

  old_key : (j k : ℕ) → j < count → k < count → at n.to j ≡ at n.to k → other j ≡ other k
  old_key j k lt less e = sym (keys j lt) ∙ a.numbered.one_key j k lt less e ∙ keys k less

  old_number : (j k : ℕ) → j < count → k < count → other j ≡ other k → at n.to j ≡ at n.to k
  old_number j k lt less e = a.numbered.one_number j k lt less (keys j lt ∙ e ∙ sym (keys k less))

  split : (k : ℕ) → k < count + 1 → (k < count) ⊎ (k ≡ count)
  split k lt = elim (cases_lt k count) [ inl less ↦ inl less | inr more ↦ inr (omega (arith, lt, more)) ]

  -- what the numbers are once the new thing's number is known to be that of its key, and its firsts are there
  module _ (firsts : List ℕ)
      (here : (k : ℕ) → k < count → at n.to k ≡ m → other k ≡ other count)
      (back : (k : ℕ) → k < count → other k ≡ other count → at n.to k ≡ m)
      (longer : length n.firsts ≤ length firsts) (inside : m < length firsts)
      (first : (l k : ℕ) → slice_get firsts l ≡ Some k → (slice_get n.firsts l ≡ Some k) ⊎ ((k ≡ count) × (l ≡ m) × (length n.firsts ≡ m)))
      (rising : (l q j k : ℕ) → slice_get firsts l ≡ Some j → slice_get firsts q ≡ Some k → l < q → j < k) where
    named : (k : ℕ) → k < count + 1 → at to k < length firsts
    named k lt = elim (split k lt) [
      | inl less ↦ let z = a.numbered.named k less in let e = old_at k less in omega (arith, z, e, longer)
      | inr is ↦ let e : at to k ≡ m = ap (at to) is ∙ new_at in omega (arith, e, inside)
    ]

    one_key : (j k : ℕ) → j < count + 1 → k < count + 1 → at to j ≡ at to k → other j ≡ other k
    one_key j k lt less e = by (split j lt) (split k less) where
      by : (j < count) ⊎ (j ≡ count) → (k < count) ⊎ (k ≡ count) → other j ≡ other k
      by (inl p) (inl q) = old_key j k p q (sym (old_at j p) ∙ e ∙ old_at k q)
      by (inl p) (inr q) = here j p (sym (old_at j p) ∙ e ∙ ap (at to) q ∙ new_at) ∙ ap other (sym q)
      by (inr p) (inl q) = ap other p ∙ sym (here k q (sym (old_at k q) ∙ sym e ∙ ap (at to) p ∙ new_at))
      by (inr p) (inr q) = ap other (p ∙ sym q)

    one_number : (j k : ℕ) → j < count + 1 → k < count + 1 → other j ≡ other k → at to j ≡ at to k
    one_number j k lt less e = by (split j lt) (split k less) where
      by : (j < count) ⊎ (j ≡ count) → (k < count) ⊎ (k ≡ count) → at to j ≡ at to k
      by (inl p) (inl q) = old_at j p ∙ old_number j k p q e ∙ sym (old_at k q)
      by (inl p) (inr q) = old_at j p ∙ back j p (e ∙ ap other q) ∙ sym (ap (at to) q ∙ new_at)
      by (inr p) (inl q) = ap (at to) p ∙ new_at ∙ sym (old_at k q ∙ back k q (sym e ∙ ap other p))
      by (inr p) (inr q) = ap (at to) (p ∙ sym q)

    first_there : (l k : ℕ) → slice_get firsts l ≡ Some k → (k < count + 1) × (at to k ≡ l)
    first_there l k e = elim (first l k e) [
      | inl old ↦ let f = a.numbered.first l k old in let lt = f.0 in (omega (arith, lt), old_at k lt ∙ f.1)
      | inr new ↦ let is = new.0 in (omega (arith, is), ap (at to) new.0 ∙ new_at ∙ sym new.1)
    ]

    least : (l j k : ℕ) → slice_get firsts l ≡ Some k → j < count + 1 → at to j ≡ l → k ≤ j
    least l j k e lt is = by (first l k e) (split j lt) where
      by : (slice_get n.firsts l ≡ Some k) ⊎ ((k ≡ count) × (l ≡ m) × (length n.firsts ≡ m)) → (j < count) ⊎ (j ≡ count) → k ≤ j
      by (inl old) (inl p) = a.numbered.least l j k old p (sym (old_at j p) ∙ is)
      by (inl old) (inr q) = let f = a.numbered.first l k old in let below = f.0 in omega (arith, below, q)
      by (inr new) (inl p) =
          let z = a.numbered.named j p in
          let e = old_at j p in
          let is_l = new.1 in
          let past = new.2 in
          absurd (omega (arith, z, e, is, is_l, past))
      by (inr new) (inr q) = let is_k = new.0 in omega (arith, is_k, q)

    pub numbered_here : IsNumbered (count + 1) other (record { to = to; firsts = firsts })
    numbered_here = record {
      all = all;
      named = named;
      one_key = one_key;
      one_number = one_number;
      first = first_there;
      least = least;
      rising = rising;
    }

  -- ---- a key that is there

  there : list_any (same_key w) n.keys ≡ true → (j : ℕ) × (slice_get n.firsts m ≡ Some j) × (j < count) × (at n.to j ≡ m) × (other j ≡ other count)
  there h =
      let f = found_or (same_key w) n.keys h in
      let long = a.long in
      let below = get_below n.keys m f.0 f.1 in
      let j = at_some n.firsts m (omega (arith, long, below)) in
      let g = a.numbered.first m j.0 j.1 in
      let is : words j.0 ≡ w = sym (key_same w (words j.0) (sym (ap (same_key w) (some_one f.0 (words j.0) (sym f.1 ∙ a.kept m j.0 j.1))) ∙ f.2)) in
      (j.0, j.1, g.0, g.1, apart j.0 g.0 (sym (written j.0 g.0) ∙ is))

  old_numbers : list_any (same_key w) n.keys ≡ true → AreNumbers (count + 1) other others (record { keys = n.keys; to = to; firsts = n.firsts })
  old_numbers h =
      let t = there h in
      record {
        numbered =
            numbered_here n.firsts
            (λ k lt e. old_key k t.0 lt t.2 (e ∙ sym t.3) ∙ t.4)
            (λ k lt e. old_number k t.0 lt t.2 (e ∙ sym t.4) ∙ t.3)
            (omega arith) (get_below n.firsts m t.0 t.1)
            (λ l k e. inl e)
            a.numbered.rising;
        long = a.long;
        kept = λ l k e. a.kept l k e ∙ ap (λ x. Some x) (written k (a.numbered.first l k e).0);
      }

  -- ---- a key that is new

  nowhere : list_any (same_key w) n.keys ≡ false → (k : ℕ) → k < count → other k ≡ other count → ⊥
  nowhere h k lt e =
      let j = at_some n.firsts (at n.to k) (a.numbered.named k lt) in
      let f = a.numbered.first (at n.to k) j.0 j.1 in
      let one = old_key j.0 k f.0 lt f.1 ∙ e in
      let is = written j.0 f.0 ∙ same j.0 f.0 one in
      let no_key = none_at (same_key w) n.keys (at n.to k) (words j.0) h (a.kept (at n.to k) j.0 j.1) in
      let yes = ap (same_key w) is ∙ key_itself w in
      let z = sym yes ∙ no_key in cc

  new_numbers : list_any (same_key w) n.keys ≡ false → AreNumbers (count + 1) other others (record { keys = n.keys ++ w ∷ []; to = to; firsts = n.firsts ++ length n.to ∷ [] })
  new_numbers h =
      let is_m : m ≡ length n.keys = none_or (same_key w) n.keys h in
      let long = a.long in
      let count_is = a.numbered.all in
      let more = length-append n.firsts (length n.to ∷ []) in
      let keys_more = length-append n.keys (w ∷ []) in
      record {
        numbered =
            numbered_here (n.firsts ++ length n.to ∷ [])
            (λ k lt e. absurd (let z = a.numbered.named k lt in omega (arith, z, e, is_m, long)))
            (λ k lt e. absurd (nowhere h k lt e))
            (omega (arith, more)) (omega (arith, more, is_m, long))
            (λ l k e. elim (pushed n.firsts (length n.to) k l e) [
              | inl old ↦ inl old
              | inr new ↦ let at_l = new.0 in let is_k = new.1 in inr (omega (arith, is_k, count_is), omega (arith, at_l, is_m, long), omega (arith, is_m, long))
            ])
            (λ l q j k e f lt. by l q j k lt (pushed n.firsts (length n.to) j l e) (pushed n.firsts (length n.to) k q f));
        long = omega (arith, more, keys_more, long);
        kept = λ l k e. keep l k (pushed n.firsts (length n.to) k l e);
      } where
        by : (l q j k : ℕ) → l < q → (slice_get n.firsts l ≡ Some j) ⊎ ((l ≡ length n.firsts) × (length n.to ≡ j)) → (slice_get n.firsts q ≡ Some k) ⊎ ((q ≡ length n.firsts) × (length n.to ≡ k)) → j < k
        by l q j k lt (inl x) (inl y) = a.numbered.rising l q j k x y lt
        by l q j k lt (inl x) (inr y) = let f = a.numbered.first l j x in let below = f.0 in let is = y.1 in let e = a.numbered.all in omega (arith, below, is, e)
        by l q j k lt (inr x) (inl y) = let below = get_below n.firsts q k y in let is = x.0 in absurd (omega (arith, below, is, lt))
        by l q j k lt (inr x) (inr y) = let is = x.0 in let its = y.0 in absurd (omega (arith, is, its, lt))

        keep : (l k : ℕ) → (slice_get n.firsts l ≡ Some k) ⊎ ((l ≡ length n.firsts) × (length n.to ≡ k)) → slice_get (n.keys ++ w ∷ []) l ≡ Some (others k)
        keep l k (inl x) =
            let below = get_below n.firsts l k x in
            let long = a.long in
            get_first n.keys (w ∷ []) l (omega (arith, below, long)) ∙ a.kept l k x ∙ ap (λ z. Some z) (written k (a.numbered.first l k x).0)
        keep l k (inr x) =
            let at_l = x.0 in
            let is_k = x.1 in
            let long = a.long in
            let e = a.numbered.all in
            let end : l ≡ length n.keys = omega (arith, at_l, long) in
            let last : count ≡ k = omega (arith, is_k, e) in
            ap (slice_get (n.keys ++ w ∷ [])) end ∙ get_seam n.keys w ∙ ap (λ z. Some (others z)) last

  -- one thing more is numbered by its key
  pub one_more : AreNumbers (count + 1) other others (numbered_with n w)
  one_more = by (list_any (same_key w) n.keys) refl where
    by : (b : Bool) → list_any (same_key w) n.keys ≡ b → AreNumbers (count + 1) other others (record {
      keys = cond b n.keys (n.keys ++ w ∷ []);
      to = to;
      firsts = with_first n.firsts (length n.to) (not b);
    })
    by true e = old_numbers e
    by false e = new_numbers e

-- ---- the steps and the layers of a plan

-- the steps before a place are numbered by their keys
abbrev pub StepsNumbered : BaseParts → Tree → List Constraint → Plan → ℕ → Numbers → Type 0
StepsNumbered base tree constraints plan k n =
    AreNumbers k (key_at base tree constraints plan n.to) (λ j. key_words (key_at base tree constraints plan n.to j)) n

module _ (base : BaseParts) (tree : Tree) (constraints : List Constraint) (plan : Plan) (ok : IsTrue (is_checked base tree plan))
    (flat : (k : ℕ) (f : FetchStep) → slice_get plan.steps k ≡ Some (step.Fetch f) → (out-FetchStep f).children ≡ []) where
  abbrev key : List ℕ → ℕ → Key
  key to = key_at base tree constraints plan to

  keys_differ : (to : List ℕ) (j k : ℕ) → j < length plan.steps → k < length plan.steps → key_words (key to j) ≡ key_words (key to k) → key to j ≡ key to k
  keys_differ to j k lt less e =
      keys_apart (key to j) (key to k) (flat_at j lt) (flat_at k less) e where
        flat_at : (i : ℕ) → i < length plan.steps → Rattle.dedupe_steps.proofs.WordsApart.IsBareStep (key to i).content
        flat_at i below =
            let s = at_some plan.steps i below in
            subst (λ o. Rattle.dedupe_steps.proofs.WordsApart.IsBareStep (Rattle.dedupe_steps.specs.Keys.content to (unwrap_or o step.Given))) (sym s.1)
            (content_bare to s.0 (λ f is. flat i f (s.1 ∙ ap (λ z. Some z) is)))

  -- and so is the next one, whose key is written under the numbers so far
  pub step_numbered : (k : ℕ) (n : Numbers) → k < length plan.steps → StepsNumbered base tree constraints plan k n
      → StepsNumbered base tree constraints plan (k + 1) (numbered_with n (key_words (key n.to k)))
  step_numbered k n lt a =
      let place = number_in n.keys (key_words (key n.to k)) in
      let to = n.to ++ place ∷ [] in
      let long = a.numbered.all in
      let agree : (j : ℕ) → j < k + 1 → AgreeBelow n.to to j = λ j less i below. sym (at_first n.to place i (omega (arith, long, less, below))) in
      let same : (j : ℕ) → j < k + 1 → key n.to j ≡ key to j = λ j less. keys_agree base tree constraints plan ok n.to to j (omega (arith, less, lt)) (agree j less) in
      let here : key n.to k ≡ key to k = same k (omega arith) in
      subst (λ x. AreNumbers (k + 1) (key to) (λ j. key_words (key to j)) (numbered_with n x)) (sym (ap key_words here))
      (one_more k (key n.to) (key to) (λ j. key_words (key n.to j)) (λ j. key_words (key to j)) n a
      (λ j less. same j (omega (arith, less)))
      (λ j less. ap key_words (same j (omega (arith, less))))
      (λ j less e. keys_differ to j k (omega (arith, less, lt)) lt e)
      (λ j less e. ap key_words e))

  pub steps_begin : StepsNumbered base tree constraints plan 0 no_numbers
  steps_begin = none_numbered (key []) (λ j. key_words (key [] j))

abbrev pub LayersNumbered : List ℕ → List Layer → ℕ → Numbers → Type 0
LayersNumbered to layers y n = AreNumbers y (ground_at to layers) (λ z. optional number (ground_at to layers z)) n

pub layers_begin : (to : List ℕ) (layers : List Layer) → LayersNumbered to layers 0 no_numbers
layers_begin to layers = none_numbered (ground_at to layers) (λ z. optional number (ground_at to layers z))

pub layer_numbered : (to : List ℕ) (layers : List Layer) (y : ℕ) (n : Numbers) → LayersNumbered to layers y n → LayersNumbered to layers (y + 1) (numbered_with n (optional number (ground_at to layers y)))
layer_numbered to layers y n a =
    one_more y (ground_at to layers) (ground_at to layers) (λ z. optional number (ground_at to layers z)) (λ z. optional number (ground_at to layers z)) n a
    (λ j less. refl) (λ j less. refl)
    (λ j less e. (optional_exact number number_exact (ground_at to layers j) (ground_at to layers y) [] [] (ap (λ w. w ++ []) e)).0)
    (λ j less e. ap (optional number) e)
