-- A link without a fault is valid.
use Rattle.std.proofs.Common.{◌≡◌, ◌≢◌, ℕ, zero, suc, ◌+◌, ◌<◌, ◌≤◌, Bool, true, false, ◌||◌, ◌&&◌, ◌==◌, List, [], ◌∷◌, length, get_or, Option, None, Some, IsSomeAnd, refl, sym, ap, ◌∙◌, arith}
use Rattle.std.specs.Prelude.{remove}
use Rattle.std.specs.List.{slice_get, list_any, cons_option}
use Rattle.std.specs.List.Sorted.{IsPermutation}
use Rattle.std.specs.Str.{bytes_eq}
use Rattle.std.proofs.lemmas.Bool.Decides.{nat_tests}
use Rattle.std.proofs.lemmas.Slice.Eq.{bytes_eq-Decides}
use Rattle.std.proofs.lemmas.List.Sorted.{IsPermutation-refl, IsPermutation-cons, IsPermutation-trans, IsPermutation-sym, IsPermutation-remove}
use Rattle.std.proofs.lemmas.List.Quantifiers.{position-Some}
use Rattle.pg_base.specs.Lists.{Each, AreDistinct, AreBelow, EachPair}
use Rattle.pg_base.specs.Kind.{Family, texts, integers, truths, cases_of, family}
use Rattle.pg_base.specs.Catalog.{CanCompare}
use Rattle.pg_base.specs.declared.table_def.ColumnDef.{ColumnDef}
use Rattle.pg_base.specs.declared.table_def.KeyDef.{KeyDef}
use Rattle.pg_base.specs.declared.table_def.TableDef.{TableDef}
use Rattle.pg_catalog.specs.Names.{place_of, places_of}
use Rattle.pg_catalog.specs.Constraints.{same_family, comparable, are_comparable, are_among, are_reordered}
use Rattle.pg_catalog.proofs.Passed.{and_true}

-- ---- families

pub same : (a b : Family) → same_family a b ≡ true → a ≡ b
same texts texts e = refl
same texts integers e = absurd (cc)
same texts truths e = absurd (cc)
same texts (cases_of d) e = absurd (cc)
same integers texts e = absurd (cc)
same integers integers e = refl
same integers truths e = absurd (cc)
same integers (cases_of d) e = absurd (cc)
same truths texts e = absurd (cc)
same truths integers e = absurd (cc)
same truths truths e = refl
same truths (cases_of d) e = absurd (cc)
same (cases_of d) texts e = absurd (cc)
same (cases_of d) integers e = absurd (cc)
same (cases_of d) truths e = absurd (cc)
same (cases_of d) (cases_of f) e = let is : d ≡ f = grind (arith, nat_tests) in ap cases_of is

compares : (o p : Option ColumnDef) → comparable o p ≡ true → IsSomeAnd o (λ c. IsSomeAnd p (λ d. family c.kind ≡ family d.kind))
compares None p e = absurd (cc)
compares (Some c) None e = absurd (cc)
compares (Some c) (Some d) e = same (family c.kind) (family d.kind) e

pub pairs : (t u : TableDef) (xs ys : List ℕ) → length xs ≡ length ys → are_comparable t u xs ys ≡ true → EachPair (CanCompare t.columns u.columns) xs ys
pairs t u [] [] n e = tt
pairs t u [] (y ∷ ys) n e = absurd (omega arith)
pairs t u (x ∷ xs) [] n e = absurd (omega arith)
pairs t u (x ∷ xs) (y ∷ ys) n e =
    let both = and_true (comparable (slice_get t.columns x) (slice_get u.columns y)) (are_comparable t u xs ys) e in
    (compares (slice_get t.columns x) (slice_get u.columns y) both.0, pairs t u xs ys (omega arith) both.1)

-- ---- the places of columns that differ

distinct_from : (names : List (List ℕ)) (name : List ℕ) (at : ℕ) → place_of names name ≡ Some at → (some : List (List ℕ)) → Each (λ y. name ≢ y) some → Each (λ j. at ≢ j) (places_of names some)
distinct_from names name at is [] h = tt
distinct_from names name at is (x ∷ xs) h = go (place_of names x) refl (distinct_from names name at is xs h.1)
  where
    go : (o : Option ℕ) → place_of names x ≡ o → Each (λ j. at ≢ j) (places_of names xs) → Each (λ j. at ≢ j) (cons_option o (places_of names xs))
    go None e rest = rest
    go (Some j) e rest = (
      (λ same_place.
          let a : bytes_eq name (get_or names at []) ≡ true = (position-Some (bytes_eq name) names at [] is).1 in
          let b : bytes_eq x (get_or names j []) ≡ true = (position-Some (bytes_eq x) names j [] e).1 in
          let p : name ≡ get_or names at [] = (bytes_eq-Decides name (get_or names at [])).0 a in
          let q : x ≡ get_or names j [] = (bytes_eq-Decides x (get_or names j [])).0 b in
          h.0 (p ∙ ap (λ n. get_or names n []) same_place ∙ sym q)),
      rest,
    )

pub places_differ : (names some : List (List ℕ)) → AreDistinct some → AreDistinct (places_of names some)
places_differ names [] d = tt
places_differ names (x ∷ xs) d = go (place_of names x) refl (places_differ names xs d.1)
  where
    go : (o : Option ℕ) → place_of names x ≡ o → AreDistinct (places_of names xs) → AreDistinct (cons_option o (places_of names xs))
    go None e rest = rest
    go (Some at) e rest = (distinct_from names x at e xs d.0, rest)

pub places_below : (names some : List (List ℕ)) → AreBelow (length names) (places_of names some)
places_below names [] = tt
places_below names (x ∷ xs) = go (place_of names x) refl (places_below names xs)
  where
    go : (o : Option ℕ) → place_of names x ≡ o → AreBelow (length names) (places_of names xs) → AreBelow (length names) (cons_option o (places_of names xs))
    go None e rest = rest
    go (Some at) e rest = ((position-Some (bytes_eq x) names at [] e).0, rest)

pub places_no_more : (names some : List (List ℕ)) → length (places_of names some) ≤ length some
places_no_more names [] = omega arith
places_no_more names (x ∷ xs) = go (place_of names x) (places_no_more names xs)
  where
    go : (o : Option ℕ) → length (places_of names xs) ≤ length xs → length (cons_option o (places_of names xs)) ≤ length (x ∷ xs)
    go None h = omega arith
    go (Some at) h = omega arith

-- ---- the columns of a key, in any order

-- a place that stands in the list
place_in : (ys : List ℕ) (x : ℕ) → list_any (λ y. y == x) ys ≡ true → (i : ℕ) × (i < length ys) × (x ≡ get_or ys i x)
place_in [] x e = absurd (cc)
place_in (y ∷ ys) x e = go (y == x) refl (λ (h : list_any (λ y. y == x) ys ≡ true). place_in ys x h)
  where
    go : (v : Bool) → (y == x) ≡ v → (list_any (λ y. y == x) ys ≡ true → (i : ℕ) × (i < length ys) × (x ≡ get_or ys i x)) → (i : ℕ) × (i < length (y ∷ ys)) × (x ≡ get_or (y ∷ ys) i x)
    go true hit later = (0, omega arith, let is : y ≡ x = grind (arith, nat_tests) in sym is)
    go false miss later =
        let rest : list_any (λ y. y == x) ys ≡ true = sym (ap (λ b. b || list_any (λ y. y == x) ys) miss) ∙ e in
        let r = later rest in (suc r.0, omega arith, r.2)

-- what stands in a list and isn't the item at the place stands in what is left without it
still_in : (ys : List ℕ) (i x z : ℕ) → x ≡ get_or ys i x → i < length ys → x ≢ z → list_any (λ y. y == z) ys ≡ true → list_any (λ y. y == z) (remove ys i) ≡ true
still_in [] i x z is lt differ e = absurd (omega arith)
still_in (y ∷ ys) zero x z is lt differ e = go (y == z) refl
  where
    go : (v : Bool) → (y == z) ≡ v → list_any (λ y. y == z) ys ≡ true
    go true hit = absurd (let same_item : y ≡ z = grind (arith, nat_tests) in differ (is ∙ same_item))
    go false miss = sym (ap (λ b. b || list_any (λ y. y == z) ys) miss) ∙ e
still_in (y ∷ ys) (suc i) x z is lt differ e = go (y == z) refl (λ (h : list_any (λ y. y == z) ys ≡ true). still_in ys i x z is (omega arith) differ h)
  where
    go : (v : Bool) → (y == z) ≡ v → (list_any (λ y. y == z) ys ≡ true → list_any (λ y. y == z) (remove ys i) ≡ true) → list_any (λ y. y == z) (y ∷ remove ys i) ≡ true
    go true hit later = ap (λ b. b || list_any (λ y. y == z) (remove ys i)) hit
    go false miss later = ap (λ b. b || list_any (λ y. y == z) (remove ys i)) miss ∙ later (sym (ap (λ b. b || list_any (λ y. y == z) ys) miss) ∙ e)

all_still_in : (xs ys : List ℕ) (i x : ℕ) → x ≡ get_or ys i x → i < length ys → Each (λ z. x ≢ z) xs → are_among xs ys ≡ true → are_among xs (remove ys i) ≡ true
all_still_in [] ys i x is lt d e = refl
all_still_in (z ∷ xs) ys i x is lt d e =
    let both = and_true (list_any (λ y. y == z) ys) (are_among xs ys) e in
    ap (λ b. b && are_among xs (remove ys i)) (still_in ys i x z is lt d.0 both.0) ∙ all_still_in xs ys i x is lt d.1 both.1

length-remove : (ys : List ℕ) (i : ℕ) → i < length ys → length (remove ys i) + 1 ≡ length ys
length-remove [] i lt = absurd (omega arith)
length-remove (y ∷ ys) zero lt = omega arith
length-remove (y ∷ ys) (suc i) lt = let h = length-remove ys i (omega arith) in omega arith

-- of as many places, none of which stands twice, each in the other list: the one is the other in another order
reordered : (xs ys : List ℕ) → AreDistinct xs → length xs ≡ length ys → are_among xs ys ≡ true → IsPermutation xs ys
reordered [] [] d n e = IsPermutation-refl []
reordered [] (y ∷ ys) d n e = absurd (omega arith)
reordered (x ∷ xs) ys d n e =
    let both = and_true (list_any (λ y. y == x) ys) (are_among xs ys) e in
    let there = place_in ys x both.0 in
    let less = length-remove ys there.0 there.1 in
    let rest = reordered xs (remove ys there.0) d.1 (omega arith) (all_still_in xs ys there.0 x there.2 there.1 d.0 both.1) in
    IsPermutation-trans (x ∷ xs) (x ∷ remove ys there.0) ys (IsPermutation-cons x xs (remove ys there.0) rest)
    (IsPermutation-sym ys (x ∷ remove ys there.0) (IsPermutation-remove ys there.0 x there.1 there.2))

-- a key that has these columns
pub key_found : (keys : List KeyDef) (places : List ℕ) → Each (λ k. AreDistinct k.columns) keys → list_any (λ k. are_reordered k.columns places) keys ≡ true → (at : ℕ) × IsSomeAnd (slice_get keys at) (λ k. IsPermutation k.columns places)
key_found [] places d e = absurd (cc)
key_found (k ∷ keys) places d e = go (are_reordered k.columns places) refl (λ (h : list_any (λ k. are_reordered k.columns places) keys ≡ true). key_found keys places d.1 h)
  where
    go : (v : Bool) → are_reordered k.columns places ≡ v → (list_any (λ k. are_reordered k.columns places) keys ≡ true → (at : ℕ) × IsSomeAnd (slice_get keys at) (λ k. IsPermutation k.columns places)) → (at : ℕ) × IsSomeAnd (slice_get (k ∷ keys) at) (λ k. IsPermutation k.columns places)
    go true hit later =
        let both = and_true (length k.columns == length places) (are_among k.columns places) hit in
        let count : (length k.columns == length places) ≡ true = both.0 in
        (0, reordered k.columns places d.0 (grind (arith, nat_tests)) both.1)
    go false miss later =
        let r = later (sym (ap (λ b. b || list_any (λ k. are_reordered k.columns places) keys) miss) ∙ e) in (suc r.0, r.1)
