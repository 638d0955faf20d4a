-- Signs of a text, as they are cut.
use Rattle.std.proofs.Common.{◌≡◌, ℕ, ◌≤◌, ◌<◌, Bool, true, false, cond, List, [], ◌∷◌, length, drop, take, get_or, ◌-◌, ◌+◌, Some, None, refl, sym, ap, ◌∙◌, arith}
use Rattle.std.proofs.lemmas.List.{take_rest}
use Rattle.parse_rules.specs.declared.samples.sign.Sign.{Sign}
use Rattle.parse_rules.specs.Tokens.{head, tail}
use Rattle.parse_rules.specs.Lazy.{is_blank, sign_of, passed, signs}

-- the signs of a text that begins with none or with no blank
abbrev pub shown : List ℕ → List Sign
shown [] = []
shown (byte ∷ text) = sign_of byte ∷ signs text

pub signs_passed : (text : List ℕ) → signs text ≡ shown (passed text)
signs_passed [] = refl
signs_passed (byte ∷ text) =
    let go : (c : Bool) → is_blank byte ≡ c → signs (byte ∷ text) ≡ shown (passed (byte ∷ text)) =
    elim [
      | true ↦ λ e. ap (λ (c : Bool). cond c (signs text) (sign_of byte ∷ signs text)) e ∙ signs_passed text ∙ sym (ap (λ (c : Bool). shown (cond c (passed text) (byte ∷ text))) e)
      | false ↦ λ e. ap (λ (c : Bool). cond c (signs text) (sign_of byte ∷ signs text)) e ∙ sym (ap (λ (c : Bool). shown (cond c (passed text) (byte ∷ text))) e)
    ] in
    go (is_blank byte) refl

pub signs_bound : (text : List ℕ) → length (signs text) ≤ length text
signs_bound [] = omega arith
signs_bound (byte ∷ text) =
    let go : (c : Bool) → is_blank byte ≡ c → length (signs (byte ∷ text)) ≤ length (byte ∷ text) =
    elim [
      | true ↦ λ e. (let h = signs_bound text in omega (arith, h, ap (λ (c : Bool). length (cond c (signs text) (sign_of byte ∷ signs text))) e))
      | false ↦ λ e. (let h = signs_bound text in omega (arith, h, ap (λ (c : Bool). length (cond c (signs text) (sign_of byte ∷ signs text))) e))
    ] in
    go (is_blank byte) refl

-- ---- the first byte

pub passed_empty : (text : List ℕ) → length text < 1 → text ≡ passed text
passed_empty [] lt = refl
passed_empty (byte ∷ text) lt = absurd (omega arith)

pub passed_sign : (text : List ℕ) (blank : Bool) → 1 ≤ length text → blank ≡ is_blank (get_or text 0 0) → blank ≡ false → text ≡ passed text
passed_sign [] blank le is e = absurd (omega arith)
passed_sign (byte ∷ text) blank le is e = sym (ap (λ (c : Bool). cond c (passed text) (byte ∷ text)) (sym is ∙ e))

pub passed_on : (text : List ℕ) (blank : Bool) → 1 ≤ length text → blank ≡ is_blank (get_or text 0 0) → blank ≡ true → passed text ≡ passed (drop 1 text)
passed_on [] blank le is e = absurd (omega arith)
passed_on (byte ∷ text) blank le is e = ap (λ (c : Bool). cond c (passed text) (byte ∷ text)) (sym is ∙ e)

pub shorter_on : (text : List ℕ) (n at : ℕ) → 1 ≤ length text → length text ≤ n - at → length (take (length text - 1) (drop 1 text)) ≤ n - (at + 1)
shorter_on [] n at le left = absurd (omega arith)
shorter_on (byte ∷ text) n at le left = let e = ap (λ (w : List ℕ). length w) (take_rest (byte ∷ text) 1) in omega (arith, e, left)

-- ---- what is read of a text, by its rest from the first byte on that is no blank

module _ (text rest : List ℕ) (ts : List Sign) (view : signs text ≡ ts) (cut : rest ≡ passed text) where
  are_shown : ts ≡ shown rest
  are_shown = sym view ∙ signs_passed text ∙ ap (λ (w : List ℕ). shown w) (sym cut)

  pub head_empty : length rest < 1 → None ≡ head ts
  head_empty lt = none_of rest lt ∙ ap (λ (w : List Sign). head w) (sym are_shown)
    where
      none_of : (w : List ℕ) → length w < 1 → None ≡ head (shown w)
      none_of [] lt = refl
      none_of (byte ∷ w) lt = absurd (omega arith)

  pub head_sign : (s : Sign) → 1 ≤ length rest → s ≡ sign_of (get_or rest 0 0) → Some s ≡ head ts
  head_sign s le is = some_of rest le is ∙ ap (λ (w : List Sign). head w) (sym are_shown)
    where
      some_of : (w : List ℕ) → 1 ≤ length w → s ≡ sign_of (get_or w 0 0) → Some s ≡ head (shown w)
      some_of [] le is = absurd (omega arith)
      some_of (byte ∷ w) le is = ap (λ (t : Sign). Some t) is

  pub tail_empty : length rest < 1 → ts ≡ tail ts
  tail_empty lt = are_shown ∙ none_of rest lt ∙ ap (λ (w : List Sign). tail w) (sym are_shown)
    where
      none_of : (w : List ℕ) → length w < 1 → shown w ≡ tail (shown w)
      none_of [] lt = refl
      none_of (byte ∷ w) lt = absurd (omega arith)

  pub tail_sign : 1 ≤ length rest → signs (drop 1 rest) ≡ tail ts
  tail_sign le = some_of rest le ∙ ap (λ (w : List Sign). tail w) (sym are_shown)
    where
      some_of : (w : List ℕ) → 1 ≤ length w → signs (drop 1 w) ≡ tail (shown w)
      some_of [] le = absurd (omega arith)
      some_of (byte ∷ w) le = refl
