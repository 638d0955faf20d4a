-- The numbers of paths: two paths have one number where they are one path.
use Rattle.std.proofs.Common.{◌≡◌, ℕ, ◌+◌, ◌<◌, Bool, true, false, cond, eqb, not, ◌||◌, List, [], ◌∷◌, ◌++◌, length, length-append, get_or, Option, Some, None, refl, sym, ap, ◌∙◌, arith}
use Rattle.std.specs.Prelude.{unwrap_or, ⊤}
use Rattle.std.specs.List.{list_any, position_or_len}
use Rattle.std.proofs.lemmas.Bool.Decides.{nat_tests}
use Rattle.std.proofs.lemmas.List.Folds.{position_or_len_push}
use Rattle.std.proofs.lemmas.List.Sums.{passes_at_first}
use Rattle.place_tree.specs.Needs.{RowField}
use Rattle.needed_count.specs.declared.words.Word.{Word}
use Rattle.needed_count.specs.PathWords.{path_words, same_key}
use Rattle.needed_count.specs.Walk.{number_in, with_path}
use Rattle.needed_count.proofs.Apart.{path_apart}
use Rattle.needed_count.proofs.Same.{key_same, key_itself}

-- ---- the first that passes

any_below : {A : Type 0} (test : A → Bool) (xs : List A) → list_any test xs ≡ true → position_or_len test xs < length xs
any_below test [] h = cc
any_below test (x ∷ xs) h = by (test x) (any_below test xs) h where
  by : (b : Bool) → (list_any test xs ≡ true → position_or_len test xs < length xs) → (b || list_any test xs) ≡ true → cond (not b) (1 + position_or_len test xs) 0 < length (x ∷ xs)
  by true again h = omega arith
  by false again h = let lt = again h in omega (arith, lt)

none_length : {A : Type 0} (test : A → Bool) (xs : List A) → list_any test xs ≡ false → position_or_len test xs ≡ length xs
none_length test [] h = refl
none_length test (x ∷ xs) h = by (test x) (none_length test xs) h where
  by : (b : Bool) → (list_any test xs ≡ false → position_or_len test xs ≡ length xs) → (b || list_any test xs) ≡ false → cond (not b) (1 + position_or_len test xs) 0 ≡ length (x ∷ xs)
  by true again h = cc
  by false again h = let e = again h in omega (arith, e)

-- ---- numbers

-- the number of a path that is told from its last row field on
abbrev pub path_number : List (List Word) → List RowField → Option ℕ
path_number paths [] = None
path_number paths (f ∷ above) = Some (number_in paths (path_words (path_number paths above) f))

-- its words and those of all paths above are there
abbrev pub IsThere : List (List Word) → List RowField → Type 0
IsThere paths [] = ⊤
IsThere paths (f ∷ above) =
    (number_in paths (path_words (path_number paths above) f) < length paths) × IsThere paths above

at_number : (paths : List (List Word)) (key : List Word) → number_in paths key < length paths → key ≡ get_or paths (number_in paths key) []
at_number paths key lt = key_same key _ (passes_at_first (same_key key) paths [] lt)

some_same : (m n : ℕ) → Some m ≡ Some n → m ≡ n
some_same m n e = ap (λ o. unwrap_or o m) e

pub one_path : (paths : List (List Word)) (p q : List RowField) → IsThere paths p → IsThere paths q → path_number paths p ≡ path_number paths q → p ≡ q
one_path paths [] [] h k e = refl
one_path paths [] (g ∷ q) h k e = cc
one_path paths (f ∷ p) [] h k e = cc
one_path paths (f ∷ p) (g ∷ q) h k e =
    let a = path_words (path_number paths p) f in
    let b = path_words (path_number paths q) g in
    let words : a ≡ b = at_number paths a h.0 ∙ ap (λ n. get_or paths n []) (some_same (number_in paths a) (number_in paths b) e) ∙ sym (at_number paths b k.0) in
    let same = path_apart (path_number paths p) (path_number paths q) f g words in
    ap (λ z. z ∷ p) same.1 ∙ ap (λ zs. g ∷ zs) (one_path paths p q h.1 k.1 same.0)

-- ---- one path more

first_stays : (b : Bool) (n long next : ℕ) → n < long → b ≡ eqb n long → cond b next n ≡ n
first_stays true n long next lt e = absurd (grind (arith, nat_tests))
first_stays false n long next lt e = refl

number_stays : (paths : List (List Word)) (more key : List Word) → number_in paths key < length paths → number_in (paths ++ more ∷ []) key ≡ number_in paths key
number_stays paths more key lt = position_or_len_push (same_key key) paths more ∙ first_stays _ (number_in paths key) (length paths) _ lt refl

-- numbers stay
grown : (paths : List (List Word)) (more : List Word) (p : List RowField) → IsThere paths p
    → (path_number (paths ++ more ∷ []) p ≡ path_number paths p) × IsThere (paths ++ more ∷ []) p
grown paths more [] h = (refl, tt)
grown paths more (f ∷ p) h =
    let above = grown paths more p h.1 in
    let same = ap (λ n. number_in (paths ++ more ∷ []) (path_words n f)) above.0 ∙ number_stays paths more (path_words (path_number paths p) f) h.0 in
    let long = length-append paths (more ∷ []) in
    let lt = h.0 in
    (ap (λ n. Some n) same, (omega (arith, same, lt, long), above.1))

pub kept : (paths : List (List Word)) (key : List Word) (p : List RowField) → IsThere paths p
    → (path_number (with_path paths key) p ≡ path_number paths p) × IsThere (with_path paths key) p
kept paths key p h = by (list_any (same_key key) paths) where
  by : (b : Bool) → (path_number (cond b paths (paths ++ key ∷ [])) p ≡ path_number paths p) × IsThere (cond b paths (paths ++ key ∷ [])) p
  by true = (refl, h)
  by false = grown paths key p h

at_end : (b c : Bool) (n long : ℕ) → n ≡ long → c ≡ true → cond b (long + cond c 0 1) n ≡ n
at_end true c n long e is = let same : long + cond c 0 1 ≡ long + 0 = ap (λ d. long + cond d 0 1) is in omega (arith, same, e)
at_end false c n long e is = refl

number_new : (paths : List (List Word)) (key : List Word) → list_any (same_key key) paths ≡ false → number_in (paths ++ key ∷ []) key ≡ number_in paths key
number_new paths key lacks =
    position_or_len_push (same_key key) paths key
    ∙ at_end (eqb (number_in paths key) (length paths)) (same_key key key) (number_in paths key) (length paths) (none_length (same_key key) paths lacks) (key_itself key)

-- the words of a path that goes on by a row field
abbrev key_of : List (List Word) → RowField → List RowField → List Word
key_of paths f p = path_words (path_number paths p) f

put_by : (paths : List (List Word)) (f : RowField) (p : List RowField) (b : Bool) → IsThere paths p → list_any (same_key (key_of paths f p)) paths ≡ b
    → (path_number (cond b paths (paths ++ key_of paths f p ∷ [])) (f ∷ p) ≡ Some (number_in paths (key_of paths f p)))
    × IsThere (cond b paths (paths ++ key_of paths f p ∷ [])) (f ∷ p)
put_by paths f p true h is = (refl, (any_below (same_key (key_of paths f p)) paths is, h))
put_by paths f p false h is =
    let key = key_of paths f p in
    let above = grown paths key p h in
    let same = ap (λ n. number_in (paths ++ key ∷ []) (path_words n f)) above.0 ∙ number_new paths key is in
    let first = none_length (same_key key) paths is in
    let long = length-append paths (key ∷ []) in
    (ap (λ n. Some n) same, (omega (arith, same, first, long), above.1))

-- a path that is put to others
pub put : (paths : List (List Word)) (f : RowField) (p : List RowField) → IsThere paths p
    → (path_number (with_path paths (path_words (path_number paths p) f)) (f ∷ p) ≡ Some (number_in paths (path_words (path_number paths p) f)))
    × IsThere (with_path paths (path_words (path_number paths p) f)) (f ∷ p)
put paths f p h = put_by paths f p (list_any (same_key (key_of paths f p)) paths) h refl
