-- The scan of a head, byte by byte.
use Rattle.std.proofs.Common.{◌≡◌, ℕ, zero, suc, ◌+◌, ◌-◌, ◌<◌, ◌≤◌, Bool, true, false, cond, eqb, ◌||◌, List, [], ◌∷◌, ◌++◌, length, take, drop, Option, Some, None, refl, sym, ap, ◌∙◌, subst, append_assoc, add_assoc, length-append, arith}
use Rattle.std.proofs.lemmas.List.{length_push, drop-append-le}
use Rattle.std.proofs.Math.Seq.{drop-append_seam}
use Rattle.http_sessions.specs.declared.scan.Place.{Place}
use Rattle.http_sessions.specs.declared.scan.Place.TheVariants.{Before, LineStart, AfterCr, InLine}
use Rattle.http_sessions.specs.declared.scan.Scan.{Scan}
use Rattle.http_sessions.specs.HeadEnd.{is_line_byte, from_first_line, place_after, ends_head, after_head, ended_line, line_count, first_after, scan_after, begun, IsScanOf, IsHeadWith}

-- nothing was looked at
pub scan_start : IsScanOf [] (record { at = 0; first = 0; place = Before; lines = 0 })
scan_start = record {
  at = refl;
  few = omega arith;
  first = omega arith;
  going = λ rest. refl;
  counted = λ rest. omega arith;
  lined = λ rest. refl;
}

few_more : (p : Place) (b : ℕ) → ended_line p b ≤ 1
few_more Before b = omega arith
few_more LineStart b = omega arith
few_more AfterCr b = omega arith
few_more InLine b = go (eqb b 10)
  where
    go : (t : Bool) → cond t 1 0 ≤ 1
    go true = omega arith
    go false = omega arith

first_in : (p : Place) (b at first : ℕ) → first ≤ at → first_after p b at first ≤ at + 1
first_in Before b at first le = go (is_line_byte b)
  where
    go : (t : Bool) → cond t (at + 1) at ≤ at + 1
    go true = omega arith
    go false = omega arith
first_in LineStart b at first le = omega arith
first_in AfterCr b at first le = omega arith
first_in InLine b at first le = omega arith

goes_past : (p : Place) (b : ℕ) (rest : List ℕ) (t : Bool) → ends_head p b ≡ t → t ≡ false → after_head p (b ∷ rest) ≡ after_head (place_after p b) rest
goes_past p b rest t e f = ap (λ v. cond v (Some rest) (after_head (place_after p b) rest)) (e ∙ f)

-- the lines after one more byte
lined_more : (p : Place) (seen : List ℕ) (b at first : ℕ) (rest : List ℕ) → at ≡ length seen → first ≤ at
    → from_first_line (seen ++ (b ∷ rest)) ≡ begun p (drop first seen) (b ∷ rest)
    → from_first_line (seen ++ (b ∷ rest)) ≡ begun (place_after p b) (drop (first_after p b at first) (seen ++ b ∷ [])) rest
lined_more Before seen b at first rest here le e = e ∙ go (is_line_byte b) refl
  where
    go : (t : Bool) → is_line_byte b ≡ t → cond t (from_first_line rest) (b ∷ rest) ≡ begun (cond t Before InLine) (drop (cond t (at + 1) at) (seen ++ b ∷ [])) rest
    go true is = refl
    go false is = sym (ap (λ n. drop n (seen ++ b ∷ []) ++ rest) here ∙ ap (λ l. l ++ rest) (drop-append_seam seen (b ∷ [])))
lined_more LineStart seen b at first rest here le e = e ∙ go (eqb b 13)
  where
    go : (t : Bool) → drop first seen ++ (b ∷ rest) ≡ begun (cond t AfterCr InLine) (drop first (seen ++ b ∷ [])) rest
    go true = sym (ap (λ l. l ++ rest) (drop-append-le first seen (b ∷ []) (omega arith)) ∙ append_assoc (drop first seen) (b ∷ []) rest)
    go false = sym (ap (λ l. l ++ rest) (drop-append-le first seen (b ∷ []) (omega arith)) ∙ append_assoc (drop first seen) (b ∷ []) rest)
lined_more AfterCr seen b at first rest here le e = e ∙ sym (ap (λ l. l ++ rest) (drop-append-le first seen (b ∷ []) (omega arith)) ∙ append_assoc (drop first seen) (b ∷ []) rest)
lined_more InLine seen b at first rest here le e = e ∙ go (eqb b 10)
  where
    go : (t : Bool) → drop first seen ++ (b ∷ rest) ≡ begun (cond t LineStart InLine) (drop first (seen ++ b ∷ [])) rest
    go true = sym (ap (λ l. l ++ rest) (drop-append-le first seen (b ∷ []) (omega arith)) ∙ append_assoc (drop first seen) (b ∷ []) rest)
    go false = sym (ap (λ l. l ++ rest) (drop-append-le first seen (b ∷ []) (omega arith)) ∙ append_assoc (drop first seen) (b ∷ []) rest)

-- one more byte, which doesn't end the head
pub scan_more : (seen : List ℕ) (s : Scan) (b : ℕ) → IsScanOf seen s → ends_head s.place b ≡ false → IsScanOf (seen ++ b ∷ []) (scan_after s b)
scan_more seen s b k on = record {
  at = let e = k.at in omega (arith, length_push seen b);
  few = let e = k.few in omega (arith, few_more s.place b);
  first = first_in s.place b s.at s.first k.first;
  going = λ rest. ap (after_head Before) (append_assoc seen (b ∷ []) rest) ∙ k.going (b ∷ rest) ∙ goes_past s.place b rest (ends_head s.place b) refl on;
  counted = λ rest. ap (line_count Before) (append_assoc seen (b ∷ []) rest) ∙ k.counted (b ∷ rest) ∙ sym (add_assoc s.lines (ended_line s.place b) (line_count (place_after s.place b) rest));
  lined = λ rest. ap from_first_line (append_assoc seen (b ∷ []) rest) ∙ lined_more s.place seen b s.at s.first rest k.at k.first (k.lined (b ∷ rest));
}

pub no_line : (p : Place) (b : ℕ) → ends_head p b ≡ true → ended_line p b + 0 ≡ 0
no_line Before b e = refl
no_line LineStart b e = refl
no_line AfterCr b e = refl
no_line InLine b e = cc

at_lines : (p : Place) (b : ℕ) (line : List ℕ) → ends_head p b ≡ true → begun p line (b ∷ []) ≡ line ++ b ∷ []
at_lines Before b line e = cc
at_lines LineStart b line e = refl
at_lines AfterCr b line e = refl
at_lines InLine b line e = cc

-- one more byte, which ends the head
pub head_ends : (seen : List ℕ) (s : Scan) (b : ℕ) → IsScanOf seen s → ends_head s.place b ≡ true → IsHeadWith (seen ++ b ∷ []) s.first s.lines
head_ends seen s b k end = record {
  ends = k.going (b ∷ []) ∙ ap (λ v. cond v (Some []) (after_head (place_after s.place b) [])) end;
  within = let e = k.at in let f = k.first in omega (arith, length_push seen b);
  lined = k.lined (b ∷ []) ∙ at_lines s.place b (drop s.first seen) end ∙ sym (drop-append-le s.first seen (b ∷ []) (let e = k.at in let f = k.first in omega arith));
  counted = k.counted (b ∷ []) ∙ ap (λ n. s.lines + n) (no_line s.place b end) ∙ omega arith;
}
