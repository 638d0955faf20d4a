-- What the lexer takes for a block string's value is BlockStringValue of its raw value.
use Rattle.std.proofs.Common.{◌≡◌, inl, inr, ℕ, suc, ◌+◌, ◌≤◌, min, Bool, true, false, cond, ◌&&◌, ◌==◌, List, [], ◌∷◌, ◌++◌, map, length, length-append, length-drop, take, drop, Option, Some, None, unwrap_or, refl, sym, ap, subst, ◌∙◌, arith}
use borrow.Author.Tests.{eqb-true, eqb-false}
use Rattle.std.specs.List.{list_all, prefix_len}
use Rattle.std.proofs.lemmas.Bool.{false≢true, and_parts, cases_lt}
use Rattle.std.proofs.lemmas.List.{take-append-drop, length-take-le, nil_from_length}
use Rattle.std.proofs.lemmas.Bool.Decides.{nat_tests}
use Rattle.pg_base.specs.Lists.{Each, EachPair}
use Rattle.gql_lex.specs.Bytes.{is_line_end, is_white}
use Rattle.gql_lex.specs.Block.{longer_line, ends_pair, lines_of, indent_of, is_blank_line, lesser, common_indent, undented, without_blank_start, without_blank_end, joined, block_string_value}
use Rattle.gql_lex.specs.Grammar.{EndsLine, ends_by_lf, ends_by_both, ends_by_cr, IsOfLine, HasLines, has_last, has_line, IsBlankLine, IsIndented, indent_ends, indent_more, IsCommonIndent, none_indented, least_indent, IsUndented, front_off, all_off, AreUndented, are_undented, AreTrimmed, AreJoined, join_none, join_one, join_more, IsBlockValue}
use Rattle.gql_lex.proofs.Classes.{line_end_decides, white_decides}
use Rattle.gql_lex.proofs.Lines.{lines_of-pair, lines_of-end, lines_of-plain, lines_of-nothing}

-- ---- lines

not_pair : (b : ℕ) → ends_pair false b ≡ false
not_pair b = chosen (b == 10)
  where
    chosen : (v : Bool) → (v && false) ≡ false
    chosen true = refl
    chosen false = refl

no_lf_pair : (b : ℕ) → (b == 10) ≡ false → ends_pair true b ≡ false
no_lf_pair b e = ap (λ (v : Bool). v && true) e

is_pair : (b : ℕ) → (b == 10) ≡ true → ends_pair true b ≡ true
is_pair b e = ap (λ (v : Bool). v && true) e

has_longer : (b : ℕ) (z : List ℕ) (lines : List (List ℕ)) → IsOfLine b → HasLines z lines → HasLines (b ∷ z) (longer_line b lines)
has_longer b _ _ h (has_last line all) = has_last (b ∷ line) (h, all)
has_longer b _ _ h (has_line line next rest lines all end more) = has_line (b ∷ line) next rest lines (h, all) end more

of_line : (b : ℕ) → is_line_end b ≡ false → IsOfLine b
of_line b e h = false≢true (sym e ∙ (line_end_decides b).1 h)

is_lf : (b : ℕ) → is_line_end b ≡ true → (b == 13) ≡ false → b ≡ 10
is_lf b e f = grind (arith, nat_tests)

-- after a CR a byte that isn't an LF is as elsewhere
after_cr : (d : ℕ) (z : List ℕ) → (d == 10) ≡ false → lines_of true (d ∷ z) ≡ lines_of false (d ∷ z)
after_cr d z e = chosen (is_line_end d) refl
  where
    chosen : (v : Bool) → is_line_end d ≡ v → lines_of true (d ∷ z) ≡ lines_of false (d ∷ z)
    chosen true f = lines_of-end true d z (no_lf_pair d e) f ∙ sym (lines_of-end false d z (not_pair d) f)
    chosen false f = lines_of-plain true d z (no_lf_pair d e) f ∙ sym (lines_of-plain false d z (not_pair d) f)

first_line : (next rest : List ℕ) (lines : List (List ℕ)) → EndsLine next rest → HasLines rest lines → HasLines next ([] ∷ lines)
first_line next rest lines end more = has_line [] next rest lines tt end more

-- a line's end, by what stands after it
end_when : (b : ℕ) (z : List ℕ) → is_line_end b ≡ true → HasLines z (lines_of false z) → ((b == 13) ≡ true → HasLines (13 ∷ z) ([] ∷ lines_of true z)) → HasLines (b ∷ z) ([] ∷ lines_of (b == 13) z)
end_when b z e plain cr = chosen (b == 13) refl
  where
    chosen : (v : Bool) → (b == 13) ≡ v → HasLines (b ∷ z) ([] ∷ lines_of v z)
    chosen true f = subst (λ (x : ℕ). HasLines (x ∷ z) ([] ∷ lines_of true z)) (sym (eqb-true b 13 f)) (cr f)
    chosen false f = subst (λ (x : ℕ). HasLines (x ∷ z) ([] ∷ lines_of false z)) (sym (is_lf b e f)) (first_line (10 ∷ z) z (lines_of false z) (ends_by_lf z) plain)

step : (b : ℕ) (z : List ℕ) → HasLines z (lines_of false z) → ((b == 13) ≡ true → HasLines (13 ∷ z) ([] ∷ lines_of true z)) → HasLines (b ∷ z) (lines_of false (b ∷ z))
step b z plain cr = chosen (is_line_end b) refl
  where
    chosen : (v : Bool) → is_line_end b ≡ v → HasLines (b ∷ z) (lines_of false (b ∷ z))
    chosen true e = subst (HasLines (b ∷ z)) (sym (lines_of-end false b z (not_pair b) e)) (end_when b z e plain cr)
    chosen false e = subst (HasLines (b ∷ z)) (sym (lines_of-plain false b z (not_pair b) e)) (has_longer b z (lines_of false z) (of_line b e) plain)

cr_then : (d : ℕ) (z : List ℕ) → HasLines z (lines_of false z) → HasLines (d ∷ z) (lines_of false (d ∷ z)) → HasLines (13 ∷ d ∷ z) ([] ∷ lines_of true (d ∷ z))
cr_then d z rest plain = chosen (d == 10) refl
  where
    chosen : (v : Bool) → (d == 10) ≡ v → HasLines (13 ∷ d ∷ z) ([] ∷ lines_of true (d ∷ z))
    chosen true e =
        let lines : lines_of true (d ∷ z) ≡ lines_of false z = lines_of-pair true d z (is_pair d e) in
        let text : 13 ∷ 10 ∷ z ≡ 13 ∷ d ∷ z = ap (λ (x : ℕ). 13 ∷ x ∷ z) (sym (eqb-true d 10 e)) in
        subst (λ (w : List ℕ). HasLines w ([] ∷ lines_of true (d ∷ z))) text
        (subst (λ (ls : List (List ℕ)). HasLines (13 ∷ 10 ∷ z) ([] ∷ ls)) (sym lines) (first_line (13 ∷ 10 ∷ z) z (lines_of false z) (ends_by_both z) rest))
    chosen false e =
        subst (λ (ls : List (List ℕ)). HasLines (13 ∷ d ∷ z) ([] ∷ ls)) (sym (after_cr d z e))
        (first_line (13 ∷ d ∷ z) (d ∷ z) (lines_of false (d ∷ z)) (ends_by_cr (d ∷ z) (λ (k : d ≡ 10). eqb-false d 10 e k)) plain)

lines_are : (z : List ℕ) → HasLines z (lines_of false z)
lines_are [] = subst (HasLines []) (sym (lines_of-nothing false)) (has_last [] tt)
lines_are (b ∷ []) =
    step b [] (lines_are []) (λ e. subst (λ (ls : List (List ℕ)). HasLines (13 ∷ []) ([] ∷ ls)) (sym (lines_of-nothing true)) (first_line (13 ∷ []) [] ([] ∷ []) (ends_by_cr [] (λ (x : ⊥). x)) (has_last [] tt)))
lines_are (b ∷ d ∷ z) = step b (d ∷ z) (lines_are (d ∷ z)) (λ e. cr_then d z (lines_are z) (lines_are (d ∷ z)))

-- ---- white space

blank_is : (line : List ℕ) → is_blank_line line ≡ true → IsBlankLine line
blank_is [] e = tt
blank_is (b ∷ line) e = let p = and_parts (is_white b) (list_all is_white line) e in ((white_decides b).0 p.0, blank_is line p.1)

is_blank : (line : List ℕ) → IsBlankLine line → is_blank_line line ≡ true
is_blank [] h = refl
is_blank (b ∷ line) h = rw ((white_decides b).1 h.0, is_blank line h.1) refl

indent_white : (b : ℕ) (line : List ℕ) → is_white b ≡ true → indent_of (b ∷ line) ≡ 1 + indent_of line
indent_white b line e =
    let one : 1 + prefix_len is_white line ≡ suc (prefix_len is_white line) = omega arith in
    let more : suc (indent_of line) ≡ 1 + indent_of line = omega arith in
    rw (e, one) more

indent_other : (b : ℕ) (line : List ℕ) → is_white b ≡ false → indent_of (b ∷ line) ≡ 0
indent_other b line e = rw e refl

indent_is : (line : List ℕ) → is_blank_line line ≡ false → IsIndented (indent_of line) line
indent_is [] e = absurd (false≢true (sym e))
indent_is (b ∷ line) e = chosen (is_white b) refl (λ rest. indent_is line rest)
  where
    chosen : (v : Bool) → is_white b ≡ v → (is_blank_line line ≡ false → IsIndented (indent_of line) line) → IsIndented (indent_of (b ∷ line)) (b ∷ line)
    chosen true w more =
        let same : indent_of (b ∷ line) ≡ 1 + indent_of line = indent_white b line w in
        let rest : is_blank_line line ≡ false = sym (ap (λ (x : Bool). x && list_all is_white line) w) ∙ e in
        subst (λ (n : ℕ). IsIndented n (b ∷ line)) (sym same) (indent_more b (indent_of line) line ((white_decides b).0 w) (more rest))
    chosen false w more = subst (λ (n : ℕ). IsIndented n (b ∷ line)) (sym (indent_other b line w)) (indent_ends b line (λ h. false≢true (sym w ∙ (white_decides b).1 h)))

-- a line has one indent, and a blank one none
one_indent : (m : ℕ) (line : List ℕ) → IsIndented m line → indent_of line ≡ m
one_indent _ _ (indent_ends b line h) = chosen (is_white b) refl
  where
    chosen : (v : Bool) → is_white b ≡ v → indent_of (b ∷ line) ≡ 0
    chosen true e = absurd (h ((white_decides b).0 e))
    chosen false e = indent_other b line e
one_indent _ _ (indent_more b n line h more) = indent_white b line ((white_decides b).1 h) ∙ ap (λ (i : ℕ). 1 + i) (one_indent n line more)

not_blank : (m : ℕ) (line : List ℕ) → IsIndented m line → IsBlankLine line → ⊥
not_blank _ _ (indent_ends b line h) blank = h blank.0
not_blank _ _ (indent_more b n line h more) blank = not_blank n line more blank.1

-- ---- the common indent

abbrev AtLeast : ℕ → List (List ℕ) → Type 0
AtLeast n lines = Each (λ other. (m : ℕ) → IsIndented m other → n ≤ m) lines

record IsLeast (n : ℕ) (lines : List (List ℕ)) : Type 0 where
  before : List (List ℕ)
  line : List ℕ
  after : List (List ℕ)
  split : lines ≡ before ++ line ∷ after
  indent : IsIndented n line
  least : AtLeast n lines

abbrev IndentIs : List (List ℕ) → Option ℕ → Type 0
IndentIs lines None = Each IsBlankLine lines
IndentIs lines (Some n) = IsLeast n lines

blank_at_least : (n : ℕ) (lines : List (List ℕ)) → Each IsBlankLine lines → AtLeast n lines
blank_at_least n [] h = tt
blank_at_least n (line ∷ lines) h = ((λ (m : ℕ) (i : IsIndented m line). absurd (not_blank m line i h.0)), blank_at_least n lines h.1)

at_least_less : (k n : ℕ) (lines : List (List ℕ)) → k ≤ n → AtLeast n lines → AtLeast k lines
at_least_less k n [] le h = tt
at_least_less k n (line ∷ lines) le h = ((λ (m : ℕ) (i : IsIndented m line). let x : n ≤ m = h.0 m i in let r : k ≤ m = omega arith in r), at_least_less k n lines le h.1)

past_line : (line : List ℕ) (n : ℕ) (lines : List (List ℕ)) → ((m : ℕ) → IsIndented m line → n ≤ m) → IsLeast n lines → IsLeast n (line ∷ lines)
past_line line n lines h r = record { before = line ∷ r.before; line = r.line; after = r.after; split = ap (λ (ls : List (List ℕ)). line ∷ ls) r.split; indent = r.indent; least = (h, r.least) }

this_line : (line : List ℕ) (n : ℕ) (lines : List (List ℕ)) → IsIndented n line → AtLeast n lines → IsLeast n (line ∷ lines)
this_line line n lines h all =
    record { before = []; line = line; after = lines; split = refl; indent = h; least = ((λ (m : ℕ) (i : IsIndented m line). let a = one_indent m line i in let b = one_indent n line h in let r : n ≤ m = omega arith in r), all) }

lesser_is : (line : List ℕ) (n : ℕ) (lines : List (List ℕ)) (o : Option ℕ) → IsIndented n line → IndentIs lines o → IndentIs (line ∷ lines) (lesser n o)
lesser_is line n lines None h all = this_line line n lines h (blank_at_least n lines all)
lesser_is line n lines (Some m) h r = elim (cases_lt m n) [
  | inl lt ↦
      let k : min n m ≡ m = omega arith in
      subst (λ (i : ℕ). IsLeast i (line ∷ lines)) (sym k) (past_line line m lines (λ (j : ℕ) (i : IsIndented j line). let a = one_indent j line i in let b = one_indent n line h in let le : m ≤ j = omega arith in le) r)
  | inr le ↦
      let k : min n m ≡ n = omega arith in
      subst (λ (i : ℕ). IsLeast i (line ∷ lines)) (sym k) (this_line line n lines h (at_least_less n m lines le r.least))
]

indent_of_lines : (lines : List (List ℕ)) → IndentIs lines (common_indent lines)
unfolding common_indent
indent_of_lines [] = tt
indent_of_lines (line ∷ lines) = chosen (is_blank_line line) refl (indent_of_lines lines)
  where
    others : (o : Option ℕ) → IsBlankLine line → IndentIs lines o → IndentIs (line ∷ lines) o
    others None h all = (h, all)
    others (Some n) h r = past_line line n lines (λ (m : ℕ) (i : IsIndented m line). absurd (not_blank m line i h)) r

    chosen : (v : Bool) → is_blank_line line ≡ v → IndentIs lines (common_indent lines) → IndentIs (line ∷ lines) (cond v (common_indent lines) (lesser (indent_of line) (common_indent lines)))
    chosen true e ih = others (common_indent lines) (blank_is line e) ih
    chosen false e ih = lesser_is line (indent_of line) lines (common_indent lines) (indent_is line e) ih

common_is : (lines : List (List ℕ)) (o : Option ℕ) → IndentIs lines o → IsCommonIndent (unwrap_or o 0) lines
common_is lines None all = none_indented lines all
common_is lines (Some n) r = subst (IsCommonIndent n) (sym r.split) (least_indent n r.before r.line r.after r.indent (subst (AtLeast n) r.split r.least))

-- ---- lines without it

undented_line : (n : ℕ) (line : List ℕ) → IsUndented n line (drop n line)
undented_line n line = elim (cases_lt n (length line)) [
  | inl lt ↦ subst (λ (w : List ℕ). IsUndented n w (drop n line)) (take-append-drop n line) (front_off (take n line) (drop n line) (length-take-le n line (omega arith)))
  | inr le ↦ subst (λ (w : List ℕ). IsUndented n line w) (sym (nil_from_length (drop n line) (omega (arith, length-drop n line)))) (all_off line le)
]

undented_pairs : (n : ℕ) (lines : List (List ℕ)) → EachPair (IsUndented n) lines (map (λ line. drop n line) lines)
undented_pairs n [] = tt
undented_pairs n (line ∷ lines) = (undented_line n line, undented_pairs n lines)

undented_are : (first : List ℕ) (lines : List (List ℕ)) → AreUndented (first ∷ lines) (undented (first ∷ lines))
undented_are first lines =
    let n = unwrap_or (common_indent lines) 0 in
    are_undented n first lines (map (λ line. drop n line) lines) (common_is lines (common_indent lines) (indent_of_lines lines)) (undented_pairs n lines)

has_some : (z : List ℕ) (lines : List (List ℕ)) → HasLines z lines → AreUndented lines (undented lines)
has_some _ _ (has_last line all) = undented_are line []
has_some _ _ (has_line line next rest lines all end more) = undented_are line lines

-- ---- blank lines at both ends

all_blank : (lines : List (List ℕ)) → list_all is_blank_line lines ≡ true → Each IsBlankLine lines
all_blank [] e = tt
all_blank (line ∷ lines) e = let p = and_parts (is_blank_line line) (list_all is_blank_line lines) e in (blank_is line p.0, all_blank lines p.1)

record HasStart (lines rest : List (List ℕ)) : Type 0 where
  front : List (List ℕ)
  split : lines ≡ front ++ rest
  blank : Each IsBlankLine front
  first : (line : List ℕ) (more : List (List ℕ)) → rest ≡ line ∷ more → IsBlankLine line → ⊥

start_is : (lines : List (List ℕ)) → HasStart lines (without_blank_start lines)
unfolding without_blank_start
start_is [] = record { front = []; split = refl; blank = tt; first = λ line more e h. let len : 0 ≡ suc (length more) = ap length e in absurd (omega arith) }
start_is (line ∷ lines) = chosen (is_blank_line line) refl (start_is lines)
  where
    chosen : (v : Bool) → is_blank_line line ≡ v → HasStart lines (without_blank_start lines) → HasStart (line ∷ lines) (cond v (without_blank_start lines) (line ∷ lines))
    chosen true e s = record { front = line ∷ s.front; split = ap (λ (ls : List (List ℕ)). line ∷ ls) s.split; blank = (blank_is line e, s.blank); first = s.first }
    chosen false e s = record { front = []; split = refl; blank = tt; first = λ other more k h. let same : line ≡ other = cc in false≢true (sym e ∙ ap is_blank_line same ∙ is_blank other h) }

record HasEnd (lines rest : List (List ℕ)) : Type 0 where
  back : List (List ℕ)
  split : lines ≡ rest ++ back
  blank : Each IsBlankLine back
  last : (more : List (List ℕ)) (line : List ℕ) → rest ≡ more ++ line ∷ [] → IsBlankLine line → ⊥

nothing_kept : (lines : List (List ℕ)) → without_blank_end lines ≡ [] → list_all is_blank_line lines ≡ true
unfolding without_blank_end
nothing_kept [] e = refl
nothing_kept (line ∷ lines) e = chosen (list_all is_blank_line (line ∷ lines)) refl e
  where
    chosen : (v : Bool) → list_all is_blank_line (line ∷ lines) ≡ v → cond v [] (line ∷ without_blank_end lines) ≡ [] → v ≡ true
    chosen true f k = refl
    chosen false f k = let len : suc (length (without_blank_end lines)) ≡ 0 = ap length k in absurd (omega arith)

end_last : (line : List ℕ) (lines more : List (List ℕ)) (other : List ℕ) → list_all is_blank_line (line ∷ lines) ≡ false → HasEnd lines (without_blank_end lines) → line ∷ without_blank_end lines ≡ more ++ other ∷ [] → IsBlankLine other → ⊥
end_last line lines [] other e s k h =
    let same : line ≡ other = cc in
    let over : without_blank_end lines ≡ [] = cc in
    let all : list_all is_blank_line (line ∷ lines) ≡ true = rw (ap is_blank_line same ∙ is_blank other h, nothing_kept lines over) refl in
    false≢true (sym e ∙ all)
end_last line lines (x ∷ more) other e s k h = let rest : without_blank_end lines ≡ more ++ other ∷ [] = cc in s.last more other rest h

end_is : (lines : List (List ℕ)) → HasEnd lines (without_blank_end lines)
unfolding without_blank_end
end_is [] = record { back = []; split = refl; blank = tt; last = λ more line e h. let len : 0 ≡ length more + 1 = ap length e ∙ length-append more (line ∷ []) in absurd (omega arith) }
end_is (line ∷ lines) = chosen (list_all is_blank_line (line ∷ lines)) refl (end_is lines)
  where
    chosen : (v : Bool) → list_all is_blank_line (line ∷ lines) ≡ v → HasEnd lines (without_blank_end lines) → HasEnd (line ∷ lines) (cond v [] (line ∷ without_blank_end lines))
    chosen true e s = record { back = line ∷ lines; split = refl; blank = all_blank (line ∷ lines) e; last = λ more other k h. let len : 0 ≡ length more + 1 = ap length k ∙ length-append more (other ∷ []) in absurd (omega arith) }
    chosen false e s = record { back = s.back; split = ap (λ (ls : List (List ℕ)). line ∷ ls) s.split; blank = s.blank; last = λ more other k h. end_last line lines more other e s k h }

trimmed_are : (lines : List (List ℕ)) → AreTrimmed lines (without_blank_end (without_blank_start lines))
trimmed_are lines =
    let s = start_is lines in
    let e = end_is (without_blank_start lines) in
    record {
      front = s.front;
      back = e.back;
      split = s.split ∙ ap (λ (ls : List (List ℕ)). s.front ++ ls) e.split;
      front_blank = s.blank;
      back_blank = e.blank;
      first = λ line rest k h. s.first line (rest ++ e.back) (e.split ∙ ap (λ (ls : List (List ℕ)). ls ++ e.back) k) h;
      last = e.last;
    }

-- ---- the value

joined_are : (lines : List (List ℕ)) → AreJoined lines (joined lines)
unfolding joined
joined_are [] = join_none
joined_are (line ∷ []) = join_one line
joined_are (line ∷ next ∷ lines) = join_more line next lines (joined (next ∷ lines)) (joined_are (next ∷ lines))

pub block_value_is : (raw : List ℕ) → IsBlockValue raw (block_string_value raw)
block_value_is raw =
    let lines = lines_of false raw in
    record {
      lines = lines;
      undented = undented lines;
      kept = without_blank_end (without_blank_start (undented lines));
      has_lines = lines_are raw;
      are_undented = has_some raw lines (lines_are raw);
      are_trimmed = trimmed_are (undented lines);
      are_joined = joined_are (without_blank_end (without_blank_start (undented lines)));
    }
