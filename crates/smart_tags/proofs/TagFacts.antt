-- Words, and what tags say is on.
use Rattle.std.proofs.Common.{◌≡◌, ◌⊎◌, ℕ, suc, ◌+◌, Bool, true, false, not, List, [], ◌∷◌, ◌++◌, Option, Some, None, length, refl, sym, ap, subst, ◌∙◌, inl, inr, append_assoc, arith}
use borrow.Author.Tests.{eqb-true, ltb-false}
use Rattle.std.specs.List.{before_first, after_first, position, position_or_len, slice_split, onto_first, filter_map, flat_map, cons_option}
use Rattle.std.specs.Option.{unwrap_or}
use Rattle.std.specs.Str.{IsUtf8, bytes_eq}
use Rattle.std.specs.Bool.{nat_lt}
use Rattle.std.proofs.lemmas.Bool.{cases_Bool}
use Rattle.std.proofs.lemmas.List.Elements.{filter_map-append}
use Rattle.std.proofs.lemmas.List.Sums.{prefix_len-le-length}
use Rattle.std.proofs.lemmas.Str.{IsUtf8-nil}
use Rattle.smart_tags.specs.Tags.{is_space, first_value, word_of, value_of, behavior_words, setting, last_or, is_on}
use Rattle.smart_tags.proofs.Cuts.{cut}

-- ---- words

module _ (b : ℕ) (z : List ℕ) where
  before_space : is_space b ≡ true → (before_first is_space (b ∷ z) ≡ []) × (after_first is_space (b ∷ z) ≡ z)
  before_space e = (rw e refl, rw e refl)

  before_other : is_space b ≡ false → (before_first is_space (b ∷ z) ≡ b ∷ before_first is_space z) × (after_first is_space (b ∷ z) ≡ after_first is_space z)
  before_other e =
      let n = position_or_len is_space z in
      let one : 1 + n ≡ suc n = omega arith in
      let two : suc n + 1 ≡ suc (n + 1) = omega arith in
      (rw (e, one) refl, rw (e, one, two) refl)

words_is : (z : List ℕ) → (slice_split is_space z ≡ before_first is_space z ∷ slice_split is_space (after_first is_space z)) ⊎ ((slice_split is_space z ≡ before_first is_space z ∷ []) × (after_first is_space z ≡ []))
words_is [] = inr (refl, refl)
words_is (b ∷ z) = elim (cases_Bool (is_space b)) [
  | inl e ↦
      let p = before_space b z e in
      let s : slice_split is_space (b ∷ z) ≡ [] ∷ slice_split is_space z = rw e refl in
      inl (s ∙ ap (λ (w : List ℕ). w ∷ slice_split is_space z) (sym p.0) ∙ ap (λ (w : List ℕ). before_first is_space (b ∷ z) ∷ slice_split is_space w) (sym p.1))
  | inr e ↦
      let p = before_other b z e in
      let s : slice_split is_space (b ∷ z) ≡ onto_first b (slice_split is_space z) = rw e refl in
      elim (words_is z) [
        | inl h ↦ inl (s ∙ ap (onto_first b) h ∙ ap (λ (w : List ℕ). w ∷ slice_split is_space (after_first is_space z)) (sym p.0) ∙ ap (λ (w : List ℕ). before_first is_space (b ∷ z) ∷ slice_split is_space w) (sym p.1))
        | inr h ↦ inr (s ∙ ap (onto_first b) h.0 ∙ ap (λ (w : List ℕ). w ∷ []) (sym p.0), p.1 ∙ h.1)
      ]
]

pub IsUtf8-after_first : (z p : List ℕ) → IsUtf8 (p ++ z) → IsUtf8 (after_first is_space z)
IsUtf8-after_first [] p u = IsUtf8-nil
IsUtf8-after_first (b ∷ z) p u = elim (cases_Bool (is_space b)) [
  | inl e ↦ let same = eqb-true b 32 e in subst IsUtf8 (sym (before_space b z e).1) (cut p b z (omega arith) u).1
  | inr e ↦ subst IsUtf8 (sym (before_other b z e).1) (IsUtf8-after_first z (p ++ b ∷ []) (subst IsUtf8 (sym (append_assoc p (b ∷ []) z)) u))
]

-- ---- settings

abbrev pub settings : List ℕ → List ℕ → List Bool
settings thing z = filter_map (setting thing) (slice_split is_space z)

settings_is : (thing z : List ℕ) → settings thing z ≡ cons_option (setting thing (before_first is_space z)) (settings thing (after_first is_space z))
settings_is thing z = elim (words_is z) [
  | inl h ↦ ap (filter_map (setting thing)) h
  | inr h ↦ ap (filter_map (setting thing)) h.0 ∙ ap (λ (w : List ℕ). cons_option (setting thing (before_first is_space z)) (settings thing w)) (sym h.1)
]

last_or-cons : (on : Bool) (o : Option Bool) (xs : List Bool) → last_or on (cons_option o xs) ≡ last_or (unwrap_or o on) xs
last_or-cons on None xs = refl
last_or-cons on (Some x) xs = refl

last_or-append : (on : Bool) (xs ys : List Bool) → last_or on (xs ++ ys) ≡ last_or (last_or on xs) ys
last_or-append on [] ys = refl
last_or-append on (x ∷ xs) ys = last_or-append x xs ys

-- one more word
pub word_more : (thing z : List ℕ) (on after : Bool) → after ≡ unwrap_or (setting thing (before_first is_space z)) on → last_or on (settings thing z) ≡ last_or after (settings thing (after_first is_space z))
word_more thing z on after e =
    ap (last_or on) (settings_is thing z) ∙ last_or-cons on (setting thing (before_first is_space z)) (settings thing (after_first is_space z))
    ∙ ap (λ (b : Bool). last_or b (settings thing (after_first is_space z))) (sym e)

abbrev pub left_on : List ℕ → Bool → List (List ℕ) → Bool
left_on thing on tags = last_or on (filter_map (setting thing) (flat_map behavior_words tags))

-- one more tag
pub tag_more : (thing : List ℕ) (on after : Bool) (tag : List ℕ) (tags : List (List ℕ)) → after ≡ last_or on (filter_map (setting thing) (behavior_words tag)) → left_on thing on (tag ∷ tags) ≡ left_on thing after tags
tag_more thing on after tag tags e =
    ap (last_or on) (filter_map-append (setting thing) (behavior_words tag) (flat_map behavior_words tags))
    ∙ last_or-append on (filter_map (setting thing) (behavior_words tag)) (filter_map (setting thing) (flat_map behavior_words tags))
    ∙ ap (λ (b : Bool). last_or b (filter_map (setting thing) (flat_map behavior_words tags))) (sym e)

pub is_on_is : (thing : List ℕ) (tags : List (List ℕ)) → is_on thing tags ≡ left_on thing true tags
unfolding is_on
is_on_is thing tags = refl

-- ---- values

pub value_found : (word tag : List ℕ) (tags : List (List ℕ)) → bytes_eq (word_of tag) word ≡ true → first_value word (tag ∷ tags) ≡ Some (value_of tag)
unfolding first_value
value_found word tag tags e = rw e refl

pub value_next : (word tag : List ℕ) (tags : List (List ℕ)) → bytes_eq (word_of tag) word ≡ false → first_value word (tag ∷ tags) ≡ first_value word tags
unfolding first_value
value_next word tag tags e = rw e refl

pub value_none : (word : List ℕ) → first_value word [] ≡ None
unfolding first_value
value_none word = refl

-- ---- the place of the first that passes

pub place_some : (p : ℕ → Bool) (xs : List ℕ) (at : ℕ) → position p xs ≡ Some at → at ≡ position_or_len p xs
place_some p xs at e = elim (cases_Bool (nat_lt (position_or_len p xs) (length xs))) [
  | inl h ↦ let s : Some (position_or_len p xs) ≡ Some at = sym (rw h refl) ∙ e in cc
  | inr h ↦ let s : None ≡ Some at = sym (rw h refl) ∙ e in absurd (cc)
]

pub place_none : (p : ℕ → Bool) (xs : List ℕ) → position p xs ≡ None → length xs ≡ position_or_len p xs
place_none p xs e = elim (cases_Bool (nat_lt (position_or_len p xs) (length xs))) [
  | inl h ↦ let s : Some (position_or_len p xs) ≡ None = sym (rw h refl) ∙ e in absurd (cc)
  | inr h ↦ omega (arith, ltb-false (position_or_len p xs) (length xs) h, prefix_len-le-length (λ (x : ℕ). not (p x)) xs)
]
