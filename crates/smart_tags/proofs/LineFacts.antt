-- Lines, and the first of them.
use Rattle.std.proofs.Common.{◌≡◌, ◌≢◌, ◌⊎◌, ℕ, zero, suc, ◌+◌, ◌-◌, ◌<◌, ◌≤◌, Bool, true, false, cond, ◌&&◌, ◌==◌, List, [], ◌∷◌, ◌++◌, length, get_or, take, drop, refl, sym, ap, subst, ◌∙◌, inl, inr, append_assoc, append-nil, length-drop, arith, eq-eqb}
use borrow.Author.Tests.{eqb-true, ne_eqb}
use Rattle.std.specs.List.{onto_first, join_with_byte}
use Rattle.std.specs.Str.{IsUtf8}
use Rattle.std.proofs.lemmas.Bool.{cond_both, cases_Bool, false≢true, and_parts}
use Rattle.std.proofs.lemmas.List.{take_rest}
use Rattle.std.proofs.lemmas.Str.{IsUtf8-nil, IsUtf8-append}
use Rattle.smart_tags.specs.Lines.{lines, is_tag, tag_lines, other_lines}
use Rattle.smart_tags.specs.Parts.{break_len, line_of, after_line, without_cr}
use Rattle.smart_tags.proofs.Cuts.{split, cut, past}

-- ---- by the end of a line in front

cond_zero : (t : Bool) (n m : ℕ) → cond t n m ≡ 0 → 0 < n → (t ≡ false) × (m ≡ 0)
cond_zero true n m e lt = absurd (omega arith)
cond_zero false n m e lt = (refl, e)

lines_plain : (b : ℕ) (z : List ℕ) → break_len (b ∷ z) ≡ 0 → lines (b ∷ z) ≡ onto_first b (lines z)
unfolding lines
lines_plain b [] e = let h = cond_zero (b == 10) 1 0 e (omega arith) in rw h.0 refl
lines_plain b (c ∷ z) e =
    let h = cond_zero (b == 10) 1 _ e (omega arith) in
    let k = cond_zero ((b == 13) && (c == 10)) 2 0 h.1 (omega arith) in
    rw (h.0, k.0) refl

lines_break : (b : ℕ) (z : List ℕ) → break_len (b ∷ z) ≢ 0 → lines (b ∷ z) ≡ [] ∷ lines (drop (break_len (b ∷ z)) (b ∷ z))
unfolding lines
lines_break b [] n = elim (cases_Bool (b == 10)) [ inl h ↦ rw h refl | inr h ↦ absurd (n (rw h refl)) ]
lines_break b (c ∷ z) n = elim (cases_Bool (b == 10)) [
  | inl h ↦ rw h refl
  | inr h ↦ elim (cases_Bool ((b == 13) && (c == 10))) [ inl k ↦ rw (h, k) refl | inr k ↦ absurd (n (rw (h, k) refl)) ]
]

break_ascii : (b : ℕ) (z : List ℕ) → break_len (b ∷ z) ≢ 0 → b < 128
break_ascii b [] n = elim (cases_Bool (b == 10)) [ inl h ↦ let same = eqb-true b 10 h in omega arith | inr h ↦ absurd (n (rw h refl)) ]
break_ascii b (c ∷ z) n = elim (cases_Bool (b == 10)) [
  | inl h ↦ let same = eqb-true b 10 h in omega arith
  | inr h ↦ elim (cases_Bool ((b == 13) && (c == 10))) [ inl k ↦ let same = eqb-true b 13 (and_parts _ _ k).0 in omega arith | inr k ↦ absurd (n (rw (h, k) refl)) ]
]

IsUtf8-break : (b : ℕ) (z : List ℕ) → break_len (b ∷ z) ≢ 0 → IsUtf8 z → IsUtf8 (drop (break_len (b ∷ z)) (b ∷ z))
IsUtf8-break b [] n u = elim (cases_Bool (b == 10)) [ inl h ↦ rw h u | inr h ↦ absurd (n (rw h refl)) ]
IsUtf8-break b (c ∷ z) n u = elim (cases_Bool (b == 10)) [
  | inl h ↦ rw h u
  | inr h ↦ elim (cases_Bool ((b == 13) && (c == 10))) [
    | inl k ↦ let same = eqb-true c 10 (and_parts (b == 13) (c == 10) k).1 in rw (h, k) (cut [] c z (omega arith) u).1
    | inr k ↦ absurd (n (rw (h, k) refl))
  ]
]

pub break_len_le : (w : List ℕ) → break_len w ≤ length w
break_len_le [] = omega arith
break_len_le (b ∷ []) = cond_both (b == 10) 1 0 (λ (n : ℕ). n ≤ 1) (λ _. omega arith) (λ _. omega arith)
break_len_le (b ∷ c ∷ z) = cond_both (b == 10) _ _ (λ (n : ℕ). n ≤ suc (suc (length z))) (λ _. omega arith) (λ _. cond_both ((b == 13) && (c == 10)) _ _ (λ (n : ℕ). n ≤ suc (suc (length z))) (λ _. omega arith) (λ _. omega arith))

-- ---- the first line

pub line_plain : (b : ℕ) (z : List ℕ) → break_len (b ∷ z) ≡ 0 → (line_of (b ∷ z) ≡ b ∷ line_of z) × (after_line (b ∷ z) ≡ after_line z)
unfolding line_of after_line
line_plain b z e = let t = eq-eqb (break_len (b ∷ z)) 0 e in (rw t refl, rw t refl)

pub line_break : (b : ℕ) (z : List ℕ) → break_len (b ∷ z) ≢ 0 → (line_of (b ∷ z) ≡ []) × (after_line (b ∷ z) ≡ drop (break_len (b ∷ z)) (b ∷ z))
unfolding line_of after_line
line_break b z n = let t = ne_eqb (break_len (b ∷ z)) 0 n in (rw t refl, rw t refl)

pub line_none : (line_of [] ≡ []) × (after_line [] ≡ [])
unfolding line_of after_line
line_none = (refl, refl)

decided : (n : ℕ) → (n ≡ 0) ⊎ (n ≢ 0)
decided zero = inl refl
decided (suc n) = inr (λ (e : suc n ≡ 0). omega arith)

-- the lines are the first one and those after it, or the first one alone
lines_is : (z : List ℕ) → (lines z ≡ line_of z ∷ lines (after_line z)) ⊎ ((lines z ≡ line_of z ∷ []) × (after_line z ≡ []))
unfolding lines
lines_is [] = inr (ap (λ (l : List ℕ). l ∷ []) (sym line_none.0), line_none.1)
lines_is (b ∷ z) = elim (decided (break_len (b ∷ z))) [
  | inl e ↦
      let p = line_plain b z e in
      elim (lines_is z) [
        | inl h ↦ inl (lines_plain b z e ∙ ap (onto_first b) h ∙ ap (λ (l : List ℕ). l ∷ lines (after_line z)) (sym p.0) ∙ ap (λ (w : List ℕ). line_of (b ∷ z) ∷ lines w) (sym p.1))
        | inr h ↦ inr (lines_plain b z e ∙ ap (onto_first b) h.0 ∙ ap (λ (l : List ℕ). l ∷ []) (sym p.0), p.1 ∙ h.1)
      ]
  | inr n ↦
      let p = line_break b z n in
      inl (lines_break b z n ∙ ap (λ (l : List ℕ). l ∷ lines (drop (break_len (b ∷ z)) (b ∷ z))) (sym p.0) ∙ ap (λ (w : List ℕ). line_of (b ∷ z) ∷ lines w) (sym p.1))
]

-- there is a first line
head_is : (z : List ℕ) → (ls : List (List ℕ)) × (lines z ≡ line_of z ∷ ls)
head_is z = elim (lines_is z) [ inl h ↦ (lines (after_line z), h) | inr h ↦ ([], h.0) ]

-- ---- tags

tag_break : (z : List ℕ) → break_len (64 ∷ z) ≡ 0
tag_break [] = refl
tag_break (c ∷ z) = refl

pub tag_is : (z : List ℕ) → is_tag z ≡ true → z ≡ 64 ∷ drop 1 z
tag_is [] e = absurd (false≢true e)
tag_is (b ∷ z) e = ap (λ (x : ℕ). x ∷ z) (eqb-true b 64 e)

lines_of_tag : (w : List ℕ) (ls : List (List ℕ)) → lines w ≡ line_of w ∷ ls → lines (64 ∷ w) ≡ (64 ∷ line_of w) ∷ ls
lines_of_tag w ls e = lines_plain 64 w (tag_break w) ∙ ap (onto_first 64) e

tag_step : (w : List ℕ) → tag_lines (lines (64 ∷ w)) ≡ (64 ∷ line_of w) ∷ tag_lines (lines (after_line w))
unfolding lines
tag_step w = elim (lines_is w) [
  | inl h ↦ ap tag_lines (lines_of_tag w _ h)
  | inr h ↦ ap tag_lines (lines_of_tag w _ h.0) ∙ ap (λ (v : List ℕ). (64 ∷ line_of w) ∷ tag_lines (lines v)) (sym h.1)
]

joined_step : (w : List ℕ) → join_with_byte 10 (other_lines (lines (64 ∷ w))) ≡ join_with_byte 10 (other_lines (lines (after_line w)))
unfolding lines
joined_step w = elim (lines_is w) [
  | inl h ↦ ap (λ (ls : List (List ℕ)). join_with_byte 10 (other_lines ls)) (lines_of_tag w _ h)
  | inr h ↦ ap (λ (ls : List (List ℕ)). join_with_byte 10 (other_lines ls)) (lines_of_tag w _ h.0) ∙ ap (λ (v : List ℕ). join_with_byte 10 (other_lines (lines v))) (sym h.1)
]

no_tag_line : (z : List ℕ) → is_tag z ≡ false → is_tag (line_of z) ≡ false
no_tag_line [] e = ap is_tag line_none.0
no_tag_line (b ∷ z) e = elim (decided (break_len (b ∷ z))) [ inl p ↦ ap is_tag (line_plain b z p).0 ∙ e | inr n ↦ ap is_tag (line_break b z n).0 ]

no_tag_lines : (l : List ℕ) (ls : List (List ℕ)) → is_tag l ≡ false → (tag_lines (l ∷ ls) ≡ []) × (other_lines (l ∷ ls) ≡ l ∷ ls)
no_tag_lines l ls e = (rw e refl, rw e refl)

-- the tags of a text that begins with one, and of one that does not
pub tags_more : (z : List ℕ) → is_tag z ≡ true → tag_lines (lines z) ≡ (64 ∷ line_of (drop 1 z)) ∷ tag_lines (lines (after_line (drop 1 z)))
tags_more z e = ap (λ (w : List ℕ). tag_lines (lines w)) (tag_is z e) ∙ tag_step (drop 1 z)

pub tags_none : (z : List ℕ) → is_tag z ≡ false → tag_lines (lines z) ≡ []
tags_none z e = let h = head_is z in ap tag_lines h.1 ∙ (no_tag_lines (line_of z) h.0 (no_tag_line z e)).0

pub joined_more : (z : List ℕ) → is_tag z ≡ true → join_with_byte 10 (other_lines (lines z)) ≡ join_with_byte 10 (other_lines (lines (after_line (drop 1 z))))
joined_more z e = ap (λ (w : List ℕ). join_with_byte 10 (other_lines (lines w))) (tag_is z e) ∙ joined_step (drop 1 z)

pub joined_none : (z : List ℕ) → is_tag z ≡ false → join_with_byte 10 (other_lines (lines z)) ≡ join_with_byte 10 (lines z)
joined_none z e = let h = head_is z in ap (join_with_byte 10) (ap other_lines h.1 ∙ (no_tag_lines (line_of z) h.0 (no_tag_line z e)).1 ∙ sym h.1)

-- ---- less is left

pub after_line_le : (z : List ℕ) → length (after_line z) ≤ length z
after_line_le [] = omega (arith, ap length line_none.1)
after_line_le (b ∷ z) = elim (decided (break_len (b ∷ z))) [
  | inl e ↦ omega (arith, ap length (line_plain b z e).1, after_line_le z)
  | inr n ↦ omega (arith, ap length (line_break b z n).1, length-drop (break_len (b ∷ z)) (b ∷ z))
]

-- ---- UTF-8

pub IsUtf8-line : (z p : List ℕ) → IsUtf8 (p ++ z) → IsUtf8 (p ++ line_of z) × IsUtf8 (after_line z)
IsUtf8-line [] p u = (subst (λ (w : List ℕ). IsUtf8 (p ++ w)) (sym line_none.0) u, subst IsUtf8 (sym line_none.1) IsUtf8-nil)
IsUtf8-line (b ∷ z) p u = elim (decided (break_len (b ∷ z))) [
  | inl e ↦
      let l = line_plain b z e in
      let r = IsUtf8-line z (p ++ b ∷ []) (subst IsUtf8 (sym (append_assoc p (b ∷ []) z)) u) in
      (subst (λ (w : List ℕ). IsUtf8 (p ++ w)) (sym l.0) (subst IsUtf8 (append_assoc p (b ∷ []) (line_of z)) r.0), subst IsUtf8 (sym l.1) r.1)
  | inr n ↦
      let l = line_break b z n in
      let parts = cut p b z (break_ascii b z n) u in
      (subst (λ (w : List ℕ). IsUtf8 (p ++ w)) (sym l.0) (subst IsUtf8 (sym (append-nil p)) parts.0), subst IsUtf8 (sym l.1) (IsUtf8-break b z n parts.1))
]

pub IsUtf8-without_cr : (z p : List ℕ) → IsUtf8 (p ++ z) → IsUtf8 (p ++ without_cr z)
unfolding without_cr
IsUtf8-without_cr [] p u = u
IsUtf8-without_cr (b ∷ z) p u =
    cond_both (break_len (b ∷ z) == 2) _ _ (λ (w : List ℕ). IsUtf8 (p ++ w))
    (λ (e : (break_len (b ∷ z) == 2) ≡ true).
    let two = eqb-true (break_len (b ∷ z)) 2 e in
    let n : break_len (b ∷ z) ≢ 0 = λ (h : break_len (b ∷ z) ≡ 0). omega arith in
    let parts = cut p b z (break_ascii b z n) u in
    IsUtf8-without_cr z p (IsUtf8-append p z parts.0 parts.1))
    (λ _. past p b z (without_cr z) u (IsUtf8-without_cr z (p ++ b ∷ [])))

-- ---- lines, joined by LF

join_onto : (b : ℕ) (l : List ℕ) (ls : List (List ℕ)) → join_with_byte 10 (onto_first b (l ∷ ls)) ≡ b ∷ join_with_byte 10 (l ∷ ls)
join_onto b l [] = refl
join_onto b l (m ∷ ls) = refl

joined_onto : (b : ℕ) (z : List ℕ) → join_with_byte 10 (onto_first b (lines z)) ≡ b ∷ join_with_byte 10 (lines z)
joined_onto b z = let h = head_is z in ap (λ (ls : List (List ℕ)). join_with_byte 10 (onto_first b ls)) h.1 ∙ join_onto b (line_of z) h.0 ∙ ap (λ (ls : List (List ℕ)). b ∷ join_with_byte 10 ls) (sym h.1)

joined_break : (z : List ℕ) → join_with_byte 10 ([] ∷ lines z) ≡ 10 ∷ join_with_byte 10 (lines z)
joined_break z = let h = head_is z in ap (λ (ls : List (List ℕ)). join_with_byte 10 ([] ∷ ls)) h.1 ∙ ap (λ (ls : List (List ℕ)). 10 ∷ join_with_byte 10 ls) (sym h.1)

lines_ten : (z : List ℕ) → lines (10 ∷ z) ≡ [] ∷ lines z
unfolding lines
lines_ten [] = refl
lines_ten (c ∷ z) = refl

pub joined_is : (z : List ℕ) → join_with_byte 10 (lines z) ≡ without_cr z
unfolding lines without_cr
joined_is [] = refl
joined_is (b ∷ []) = elim (cases_Bool (b == 10)) [ inl h ↦ rw h (ap (λ (x : ℕ). x ∷ []) (sym (eqb-true b 10 h))) | inr h ↦ rw h refl ]
joined_is (b ∷ c ∷ z) = elim (cases_Bool (b == 10)) [
  | inl h ↦ rw h (joined_break (c ∷ z) ∙ ap (λ (x : ℕ). x ∷ join_with_byte 10 (lines (c ∷ z))) (sym (eqb-true b 10 h)) ∙ ap (λ (w : List ℕ). b ∷ w) (joined_is (c ∷ z)))
  | inr h ↦ elim (cases_Bool ((b == 13) && (c == 10))) [
    | inl k ↦ rw (h, k) (ap (join_with_byte 10) (sym (ap (λ (x : ℕ). lines (x ∷ z)) (eqb-true c 10 (and_parts _ _ k).1) ∙ lines_ten z)) ∙ joined_is (c ∷ z))
    | inr k ↦ rw (h, k) (joined_onto b (c ∷ z) ∙ ap (λ (w : List ℕ). b ∷ w) (joined_is (c ∷ z)))
  ]
]

without_cr-drops : (b : ℕ) (z : List ℕ) → break_len (b ∷ z) ≡ 2 → without_cr (b ∷ z) ≡ without_cr z
unfolding without_cr
without_cr-drops b z e = let t = eq-eqb (break_len (b ∷ z)) 2 e in rw t refl

without_cr-keeps : (b : ℕ) (z : List ℕ) → break_len (b ∷ z) ≢ 2 → without_cr (b ∷ z) ≡ b ∷ without_cr z
unfolding without_cr
without_cr-keeps b z n = let t = ne_eqb (break_len (b ∷ z)) 2 n in rw t refl

pub without_cr-nil : without_cr [] ≡ []
unfolding without_cr
without_cr-nil = refl

-- ---- by places

module _ (z : List ℕ) (i : ℕ) (lt : i < length z) where
  pub break_at : break_len (drop i z) ≢ 0 → (line_of (drop i z) ≡ []) × (after_line (drop i z) ≡ drop (break_len (drop i z)) (drop i z))
  break_at = let P : List ℕ → Type 0 = λ w. break_len w ≢ 0 → (line_of w ≡ []) × (after_line w ≡ drop (break_len w) w) in subst P (sym (split z i lt)) (line_break _ _)

  pub plain_at : break_len (drop i z) ≡ 0 → (line_of (drop i z) ≡ get_or z i 0 ∷ line_of (drop (i + 1) z)) × (after_line (drop i z) ≡ after_line (drop (i + 1) z))
  plain_at = let P : List ℕ → Type 0 = λ w. break_len w ≡ 0 → (line_of w ≡ get_or z i 0 ∷ line_of (drop (i + 1) z)) × (after_line w ≡ after_line (drop (i + 1) z)) in subst P (sym (split z i lt)) (line_plain _ _)

  pub cr_at : break_len (drop i z) ≡ 2 → without_cr (drop i z) ≡ without_cr (drop (i + 1) z)
  cr_at = let P : List ℕ → Type 0 = λ w. break_len w ≡ 2 → without_cr w ≡ without_cr (drop (i + 1) z) in subst P (sym (split z i lt)) (without_cr-drops _ _)

  pub no_cr_at : break_len (drop i z) ≢ 2 → without_cr (drop i z) ≡ get_or z i 0 ∷ without_cr (drop (i + 1) z)
  no_cr_at = let P : List ℕ → Type 0 = λ w. break_len w ≢ 2 → without_cr w ≡ get_or z i 0 ∷ without_cr (drop (i + 1) z) in subst P (sym (split z i lt)) (without_cr-keeps _ _)

-- ---- after the at sign of a tag

module _ (z : List ℕ) (tag : is_tag z ≡ true) where
  pub IsUtf8-named : IsUtf8 z → IsUtf8 (take (length z - 1) (drop 1 z))
  IsUtf8-named u = subst IsUtf8 (sym (take_rest z 1)) (cut [] 64 (drop 1 z) (omega arith) (subst IsUtf8 (tag_is z tag) u)).1

  pub others_less : (others : List ℕ) → others ≡ after_line (take (length z - 1) (drop 1 z)) → length others < length z
  others_less others e =
      let le = after_line_le (drop 1 z) in
      omega (arith, ap length (e ∙ ap (λ (w : List ℕ). after_line w) (take_rest z 1)), ap length (tag_is z tag))
