-- A text that is cut off before a byte beyond ASCII: what the lexer reads of the front, and what of all.
use Rattle.std.proofs.Common.{◌≡◌, ◌≢◌, ◌⊎◌, inl, inr, ℕ, suc, ◌+◌, ◌-◌, ◌<◌, ◌≤◌, Bool, true, false, cond, ◌&&◌, ◌==◌, List, [], ◌∷◌, ◌++◌, length, length-append, refl, sym, ap, subst, ◌∙◌, arith, Result, Ok, Err}
use borrow.Author.Tests.{ne_eqb}
use Rattle.std.specs.List.{prefix_len}
use Rattle.std.proofs.lemmas.Bool.Decides.{nat_tests}
use Rattle.sql_lex.specs.declared.token.TokenKind.{TokenKind}
use Rattle.sql_lex.specs.declared.token.TokenKind.TheVariants.{Word, Quoted, Str, EscStr}
use Rattle.sql_lex.specs.Bytes.{is_blank, is_line_end, is_word_start, is_word_byte, is_digit, is_sign, is_escape_mark, is_escape, after_run, before}
use Rattle.sql_lex.specs.Faults.{unterminated_text, unterminated_comment, stray_byte}
use Rattle.sql_lex.specs.Separators.{Stop, unterminated, stray, after_separators, after_line, after_comment}
use Rattle.sql_lex.specs.Quoted.{after_quoted, after_quote, after_backslash}
use Rattle.sql_lex.specs.Lex.{Found, found, string_at, name_at, number_at, word_at, token_at, token_after}
use Rattle.sql_lex.specs.Grammar.{AreSeparators, HasNoToken, open_text, open_comment, no_token, empty_name, word_after_number, zero_in_text, zero_in_line, zero_in_comment, no_escape, IsCutOff, in_separators, in_text, in_comment}
use Rattle.sql_lex.proofs.Shapes.{err_ok}
use Rattle.sql_lex.proofs.Separating.{HasFront, front_more, stays_front, IsPassed, separators_passed, separators_stopped}
use Rattle.sql_lex.proofs.Quoting.{quoted_closed}
use Rattle.sql_lex.proofs.Spelled.{takes_one, token_stopped}

-- where the fault stands is a rest of the text
pub reason_front : (which : ℕ) (z rest : List ℕ) → HasNoToken which z rest → HasFront z rest
reason_front _ _ _ (open_text text h) = ([], refl)
reason_front _ _ _ (open_comment text h) = ([], refl)
reason_front _ _ _ (no_token b rest s t) = ([], refl)
reason_front _ _ _ (empty_name rest h) = ([], refl)
reason_front _ _ _ (word_after_number digits b rest n w) = (digits, refl)
reason_front _ _ _ (zero_in_text text rest h) = (text, refl)
reason_front _ _ _ (zero_in_line line rest h) = (45 ∷ 45 ∷ line, refl)
reason_front _ _ _ (zero_in_comment text rest h) = front_more 47 _ _ (front_more 42 _ _ (stays_front text (0 ∷ rest) h))
reason_front _ _ _ (no_escape mark text value rest m h n) = (mark ∷ 39 ∷ text, refl)

-- what has no end in a text is open there
cut_of : (which : ℕ) (next stands : List ℕ) → HasNoToken which next stands → which ≢ stray_byte → (z : List ℕ) → AreSeparators z next → IsCutOff z
cut_of _ _ _ (open_text text h) n z s = in_text z text s h
cut_of _ _ _ (open_comment text h) n z s = in_comment z text s h
cut_of _ _ _ (no_token b rest p q) n z s = absurd (n refl)
cut_of _ _ _ (empty_name rest h) n z s = absurd (n refl)
cut_of _ _ _ (word_after_number digits b rest p w) n z s = absurd (n refl)
cut_of _ _ _ (zero_in_text text rest h) n z s = absurd (n refl)
cut_of _ _ _ (zero_in_line line rest h) n z s = absurd (n refl)
cut_of _ _ _ (zero_in_comment text rest h) n z s = absurd (n refl)
cut_of _ _ _ (no_escape mark text value rest m h p) n z s = absurd (n refl)

-- ---- how much is left

-- how much of the text no one looked at
abbrev left : Result (List ℕ) Stop → ℕ
left (Ok rest) = length rest
left (Err s) = length s.unread

-- the same where a token is read
abbrev pub left_after : Result Found Stop → ℕ
left_after (Ok f) = length f.after
left_after (Err s) = length s.unread

left_cond : (n : ℕ) (b : Bool) (x y : Result (List ℕ) Stop) → left x ≤ n → left y ≤ n → left (cond b x y) ≤ n
left_cond n true x y p q = p
left_cond n false x y p q = q

less : (m n k : ℕ) → m ≤ n → n ≤ k → m ≤ k
less m n k p q = omega arith

mutual
  unfolding after_separators

  separators_left : (z : List ℕ) → left (after_separators z) ≤ length z
  separators_left [] = omega arith
  separators_left (b ∷ []) = left_cond (length (b ∷ [])) (is_blank b) _ _ (omega arith) (omega arith)
  separators_left (b ∷ d ∷ z) =
      let n = length (b ∷ d ∷ z) in
      left_cond n (is_blank b) _ _ (less _ (length (d ∷ z)) n (separators_left (d ∷ z)) (omega arith))
      (left_cond n ((b == 45) && (d == 45)) _ _ (less _ (length z) n (line_left z) (omega arith))
      (left_cond n ((b == 47) && (d == 42)) _ _ (less _ (length z) n (comment_left z (b ∷ d ∷ z) 0) (omega arith)) (omega arith)))

  line_left : (z : List ℕ) → left (after_line z) ≤ length z
  line_left [] = omega arith
  line_left (b ∷ z) =
      let n = length (b ∷ z) in
      left_cond n (is_line_end b) _ _ (less _ (length z) n (separators_left z) (omega arith)) (left_cond n (b == 0) _ _ (omega arith) (less _ (length z) n (line_left z) (omega arith)))

  comment_left : (z whole : List ℕ) (depth : ℕ) → left (after_comment whole depth z) ≤ length z
  comment_left [] whole depth = omega arith
  comment_left (b ∷ []) whole depth = left_cond (length (b ∷ [])) (b == 0) _ _ (omega arith) (omega arith)
  comment_left (b ∷ d ∷ z) whole depth =
      let n = length (b ∷ d ∷ z) in
      left_cond n (b == 0) _ _ (omega arith)
      (left_cond n ((b == 42) && (d == 47)) _ _
      (left_cond n (depth == 0) _ _ (less _ (length z) n (separators_left z) (omega arith)) (less _ (length z) n (comment_left z whole (depth - 1)) (omega arith)))
      (left_cond n ((b == 47) && (d == 42)) _ _ (less _ (length z) n (comment_left z whole (suc depth)) (omega arith)) (less _ (length (d ∷ z)) n (comment_left (d ∷ z) whole depth) (omega arith))))

module _ (whole : List ℕ) (esc : Bool) (q : ℕ) where
  mutual
    unfolding after_quoted

    quoted_left : (z : List ℕ) → left (after_quoted whole esc q z) ≤ length z
    quoted_left [] = omega arith
    quoted_left (b ∷ z) =
        let n = length (b ∷ z) in
        left_cond n (b == 0) _ _ (omega arith)
        (left_cond n (b == q) _ _ (less _ (length z) n (quote_left z) (omega arith))
        (left_cond n (esc && (b == 92)) _ _ (less _ (length z) n (backslash_left z b) (omega arith)) (less _ (length z) n (quoted_left z) (omega arith))))

    quote_left : (z : List ℕ) → left (after_quote whole esc q z) ≤ length z
    quote_left [] = omega arith
    quote_left (b ∷ z) =
        let n = length (b ∷ z) in
        left_cond n (b == q) _ _ (less _ (length z) n (quoted_left z) (omega arith)) (omega arith)

    backslash_left : (z : List ℕ) (b : ℕ) → left (after_backslash whole esc q b z) ≤ length z
    backslash_left [] b = omega arith
    backslash_left (d ∷ z) b =
        let n = length (d ∷ z) in
        left_cond n (is_escape d) _ _ (less _ (length z) n (quoted_left z) (omega arith)) (omega arith)

-- a token takes no less than the separators before it
read_left : (z : List ℕ) (n : ℕ) (r : Result (List ℕ) Stop) → after_separators z ≡ r → left r ≤ n → (o : Result Found Stop) → token_after r ≡ o → left_after o ≤ n
read_left z n (Ok rest) e le (Ok f) h = let short = takes_one f rest h in omega arith
read_left z n (Ok rest) e le (Err s) h =
    let p = token_stopped rest s (separators_passed z rest e).over h in
    let front = reason_front s.which rest s.stands p.reason in
    let short = p.short in
    omega (arith, ap length front.1, length-append front.0 s.stands)
read_left z n (Err s) e le (Ok f) h = absurd (err_ok _ _ h)
read_left z n (Err s) e le (Err t) h = let same = ap left_after h in omega arith

-- ---- what is read of a front, and what of all

right_false : (x y : Bool) → y ≡ false → (x && y) ≡ false
right_false true y e = e
right_false false y e = refl

left_false : (x y : Bool) → x ≡ false → (x && y) ≡ false
left_false x y e = ap (λ (v : Bool). v && y) e

text_no_stray : unterminated_text ≢ stray_byte
text_no_stray e = absurd (omega arith)

comment_no_stray : unterminated_comment ≢ stray_byte
comment_no_stray e = absurd (omega arith)

abbrev pub stop_on : Stop → List ℕ → Stop
stop_on s tail = record { which = s.which; stands = s.stands ++ tail; unread = s.unread ++ tail }

abbrev pub found_on : Found → List ℕ → Found
found_on f tail = record { kind = f.kind; front = f.front ++ tail; after = f.after ++ tail }

module _ (c : ℕ) (t : List ℕ) (high : 128 ≤ c) where
  not_byte : (k : ℕ) → k < 128 → (c == k) ≡ false
  not_byte k lt = ne_eqb c k (λ (e : c ≡ k). absurd (omega arith))

  no_second : (b a k : ℕ) → k < 128 → ((b == a) && (c == k)) ≡ false
  no_second b a k lt = right_false (b == a) (c == k) (not_byte k lt)

  no_blank : is_blank c ≡ false
  no_blank = grind (arith, nat_tests)

  no_line_end : is_line_end c ≡ false
  no_line_end = grind (arith, nat_tests)

  no_start : is_word_start c ≡ false
  no_start = grind (arith, nat_tests)

  no_digit : is_digit c ≡ false
  no_digit = grind (arith, nat_tests)

  no_word_byte : is_word_byte c ≡ false
  no_word_byte = grind (arith, nat_tests)

  no_sign : is_sign c ≡ false
  no_sign = grind (arith, nat_tests)

  no_meaning : is_escape c ≡ false
  no_meaning = grind (arith, nat_tests)

  -- a stray byte is the same of all, and what has no end goes on after the byte
  AsStop : Stop → Result (List ℕ) Stop → Type 0
  AsStop s r = ((s.which ≡ stray_byte) × (r ≡ Err (stop_on s (c ∷ t)))) ⊎ ((s.which ≢ stray_byte) × (left r ≤ length t))

  -- no token begins in the front
  abbrev Past : Result (List ℕ) Stop → Type 0
  Past r = (r ≡ Ok (c ∷ t)) ⊎ (left r ≤ length t)

  abbrev ReadsAs : Result (List ℕ) Stop → Result (List ℕ) Stop → Type 0
  ReadsAs (Ok []) r = Past r
  ReadsAs (Ok (b ∷ w)) r = r ≡ Ok (b ∷ (w ++ c ∷ t))
  ReadsAs (Err s) r = AsStop s r

  both_cond : (b : Bool) (x y v w : Result (List ℕ) Stop) → ReadsAs x v → ReadsAs y w → ReadsAs (cond b x y) (cond b v w)
  both_cond true x y v w p q = p
  both_cond false x y v w p q = q

  is_stray : (b : ℕ) (u : List ℕ) → AsStop (stray b u) (Err (stray b (u ++ c ∷ t)))
  unfolding AsStop
  is_stray b u = inl (refl, refl)

  is_open : (number : ℕ) (whole : List ℕ) (r : Result (List ℕ) Stop) → number ≢ stray_byte → left r ≤ length t → AsStop (unterminated number whole) r
  unfolding AsStop
  is_open number whole r n le = inr (n, le)

separators_end : (c : ℕ) (t : List ℕ) → 128 ≤ c → after_separators (c ∷ t) ≡ Ok (c ∷ t)
unfolding after_separators
separators_end c [] high = rw (no_blank c [] high) refl
separators_end c (d ∷ t) high = rw (no_blank c t high, left_false (c == 45) (d == 45) (not_byte c t high 45 (omega arith)), left_false (c == 47) (d == 42) (not_byte c t high 47 (omega arith))) refl

line_past : (c : ℕ) (t : List ℕ) → 128 ≤ c → left (after_line (c ∷ t)) ≤ length t
unfolding after_separators
line_past c t high = rw (no_line_end c t high, not_byte c t high 0 (omega arith)) (line_left t)

comment_past : (c : ℕ) (t : List ℕ) → 128 ≤ c → (whole : List ℕ) (depth : ℕ) → left (after_comment whole depth (c ∷ t)) ≤ length t
unfolding after_separators
comment_past c [] high whole depth = left_cond 0 (c == 0) _ _ (omega arith) (omega arith)
comment_past c (d ∷ t) high whole depth =
    rw (not_byte c t high 0 (omega arith), left_false (c == 42) (d == 47) (not_byte c t high 42 (omega arith)), left_false (c == 47) (d == 42) (not_byte c t high 47 (omega arith))) (comment_left (d ∷ t) whole depth)

module _ (c : ℕ) (t : List ℕ) (high : 128 ≤ c) where
  abbrev As : Result (List ℕ) Stop → Result (List ℕ) Stop → Type 0
  As x y = ReadsAs c t high x y

  mutual
    unfolding after_separators

    separators_as : (u : List ℕ) → As (after_separators u) (after_separators (u ++ c ∷ t))
    separators_as [] = inl (separators_end c t high)
    separators_as (b ∷ []) =
        rw (no_second c t high b 45 45 (omega arith), no_second c t high b 47 42 (omega arith)) (both_cond c t high (is_blank b) _ _ _ _ (inl (separators_end c t high)) refl)
    separators_as (b ∷ d ∷ u) =
        both_cond c t high (is_blank b) _ _ _ _ (separators_as (d ∷ u))
        (both_cond c t high ((b == 45) && (d == 45)) _ _ _ _ (line_as u)
        (both_cond c t high ((b == 47) && (d == 42)) _ _ _ _ (comment_as u (b ∷ d ∷ u) (b ∷ d ∷ (u ++ c ∷ t)) 0) refl))

    line_as : (u : List ℕ) → As (after_line u) (after_line (u ++ c ∷ t))
    line_as [] = inr (line_past c t high)
    line_as (b ∷ u) = both_cond c t high (is_line_end b) _ _ _ _ (separators_as u) (both_cond c t high (b == 0) _ _ _ _ (is_stray c t high b u) (line_as u))

    comment_as : (u whole all : List ℕ) (depth : ℕ) → As (after_comment whole depth u) (after_comment all depth (u ++ c ∷ t))
    comment_as [] whole all depth = is_open c t high unterminated_comment whole _ comment_no_stray (comment_past c t high all depth)
    comment_as (b ∷ []) whole all depth =
        rw (no_second c t high b 42 47 (omega arith), no_second c t high b 47 42 (omega arith))
        (both_cond c t high (b == 0) _ _ _ _ (is_stray c t high b []) (is_open c t high unterminated_comment whole _ comment_no_stray (comment_past c t high all depth)))
    comment_as (b ∷ d ∷ u) whole all depth =
        both_cond c t high (b == 0) _ _ _ _ (is_stray c t high b (d ∷ u))
        (both_cond c t high ((b == 42) && (d == 47)) _ _ _ _
        (both_cond c t high (depth == 0) _ _ _ _ (separators_as u) (comment_as u whole all (depth - 1)))
        (both_cond c t high ((b == 47) && (d == 42)) _ _ _ _ (comment_as u whole all (suc depth)) (comment_as (d ∷ u) whole all depth)))

-- ---- texts between quotes

module _ (c : ℕ) (t : List ℕ) (high : 128 ≤ c) where
  abbrev TextAs : Result (List ℕ) Stop → Result (List ℕ) Stop → Type 0
  TextAs (Ok rest) r = r ≡ Ok (rest ++ c ∷ t)
  TextAs (Err s) r = AsStop c t high s r

  both_texts : (b : Bool) (x y v w : Result (List ℕ) Stop) → TextAs x v → TextAs y w → TextAs (cond b x y) (cond b v w)
  both_texts true x y v w p q = p
  both_texts false x y v w p q = q

  module _ (whole all : List ℕ) (esc : Bool) (q : ℕ) (plain : q < 128) where
    quoted_past : left (after_quoted all esc q (c ∷ t)) ≤ length t
    unfolding after_quoted
    quoted_past = rw (not_byte c t high 0 (omega arith), not_byte c t high q plain, right_false esc (c == 92) (not_byte c t high 92 (omega arith))) (quoted_left all esc q t)

    mutual
      unfolding after_quoted

      quoted_as : (u : List ℕ) → TextAs (after_quoted whole esc q u) (after_quoted all esc q (u ++ c ∷ t))
      quoted_as [] = is_open c t high unterminated_text whole _ text_no_stray quoted_past
      quoted_as (b ∷ u) =
          both_texts (b == 0) _ _ _ _ (is_stray c t high b u)
          (both_texts (b == q) _ _ _ _ (quote_as u) (both_texts (esc && (b == 92)) _ _ _ _ (backslash_as u b) (quoted_as u)))

      quote_as : (u : List ℕ) → TextAs (after_quote whole esc q u) (after_quote all esc q (u ++ c ∷ t))
      quote_as [] = rw (not_byte c t high q plain) refl
      quote_as (d ∷ u) = both_texts (d == q) _ _ _ _ (quoted_as u) refl

      backslash_as : (u : List ℕ) (b : ℕ) → TextAs (after_backslash whole esc q b u) (after_backslash all esc q b (u ++ c ∷ t))
      backslash_as [] b = rw (no_meaning c t high) (is_stray c t high b [])
      backslash_as (d ∷ u) b = both_texts (is_escape d) _ _ _ _ (quoted_as u) (is_stray c t high b (d ∷ u))

-- ---- tokens

module _ (p : ℕ → Bool) where
  run_more : (b : ℕ) (z : List ℕ) → p b ≡ true → after_run p (b ∷ z) ≡ after_run p z
  run_more b z e = let one : 1 + prefix_len p z ≡ suc (prefix_len p z) = omega arith in rw (e, one) refl

  run_none : (b : ℕ) (z : List ℕ) → p b ≡ false → after_run p (b ∷ z) ≡ b ∷ z
  run_none b z e = rw e refl

  run_as : (c : ℕ) (t : List ℕ) → p c ≡ false → (u : List ℕ) → after_run p (u ++ c ∷ t) ≡ after_run p u ++ c ∷ t
  run_as c t over [] = run_none c t over
  run_as c t over (b ∷ u) = chosen (p b) refl (run_as c t over u)
    where
      chosen : (v : Bool) → p b ≡ v → after_run p (u ++ c ∷ t) ≡ after_run p u ++ c ∷ t → after_run p (b ∷ (u ++ c ∷ t)) ≡ after_run p (b ∷ u) ++ c ∷ t
      chosen true e ih = run_more b (u ++ c ∷ t) e ∙ ih ∙ ap (λ (w : List ℕ). w ++ c ∷ t) (sym (run_more b u e))
      chosen false e ih = run_none b (u ++ c ∷ t) e ∙ ap (λ (w : List ℕ). w ++ c ∷ t) (sym (run_none b u e))

-- before the byte stands a quote, and another after it
name_long : (c : ℕ) (t : List ℕ) → 128 ≤ c → (z inner after : List ℕ) → z ++ c ∷ t ≡ inner ++ 34 ∷ after → length after ≤ length t → length after ≡ length z + length t → ⊥
name_long c t high [] [] after e le k = let same : c ≡ 34 = cc in absurd (omega arith)
name_long c t high [] (b ∷ inner) after e le k = absurd (omega (arith, ap length e, length-append inner (34 ∷ after)))
name_long c t high (b ∷ z) inner after e le k = absurd (omega arith)

string_left : (n : ℕ) (kind : TokenKind) (front : List ℕ) (r : Result (List ℕ) Stop) → left r ≤ n → left_after (string_at kind front r) ≤ n
string_left n kind front (Ok after) le = le
string_left n kind front (Err s) le = le

-- a name that is open before the byte isn't empty after it
name_left : (c : ℕ) (t : List ℕ) → 128 ≤ c → (b : ℕ) (z whole : List ℕ) (r : Result (List ℕ) Stop) → after_quoted whole false 34 (z ++ c ∷ t) ≡ r → left r ≤ length t → left_after (name_at b (z ++ c ∷ t) r) ≤ length t
name_left c t high b z whole (Ok after) e le =
    let k = quoted_closed false 34 whole (z ++ c ∷ t) after e in
    let test = before (b ∷ (z ++ c ∷ t)) after == 2 in
    let long : test ≡ false = ne_eqb (before (b ∷ (z ++ c ∷ t)) after) 2 (λ (two : before (b ∷ (z ++ c ∷ t)) after ≡ 2). name_long c t high z k.inner after k.split le (omega (arith, length-append z (c ∷ t)))) in
    subst (λ (v : Bool). left_after (cond v (Err (stray b (z ++ c ∷ t))) (found Quoted (b ∷ (z ++ c ∷ t)) after)) ≤ length t) (sym long) le
name_left c t high b z whole (Err s) e le = le

module _ (c : ℕ) (t : List ℕ) (high : 128 ≤ c) where
  TokenStop : Stop → Result Found Stop → Type 0
  TokenStop s r = ((s.which ≡ stray_byte) × (r ≡ Err (stop_on s (c ∷ t)))) ⊎ ((s.which ≢ stray_byte) × (left_after r ≤ length t))

  abbrev TokenAs : Result Found Stop → Result Found Stop → Type 0
  TokenAs (Ok f) r = r ≡ Ok (found_on f (c ∷ t))
  TokenAs (Err s) r = TokenStop s r

  both_tokens : (b : Bool) (x y v w : Result Found Stop) → TokenAs x v → TokenAs y w → TokenAs (cond b x y) (cond b v w)
  both_tokens true x y v w p q = p
  both_tokens false x y v w p q = q

  stray_token : (b : ℕ) (u : List ℕ) → TokenStop (stray b u) (Err (stray b (u ++ c ∷ t)))
  unfolding TokenStop
  stray_token b u = inl (refl, refl)

  string_as : (kind : TokenKind) (front : List ℕ) (r s : Result (List ℕ) Stop) → TextAs c t high r s → TokenAs (string_at kind front r) (string_at kind (front ++ c ∷ t) s)
  unfolding TokenStop AsStop
  string_as kind front (Ok rest) s e = ap (string_at kind (front ++ c ∷ t)) e
  string_as kind front (Err stop) s (inl h) = inl (h.0, ap (string_at kind (front ++ c ∷ t)) h.1)
  string_as kind front (Err stop) s (inr h) = inr (h.0, string_left (length t) kind (front ++ c ∷ t) s h.1)

  name_as : (b : ℕ) (z whole : List ℕ) (r s : Result (List ℕ) Stop) → after_quoted whole false 34 (z ++ c ∷ t) ≡ s → TextAs c t high r s → TokenAs (name_at b z r) (name_at b (z ++ c ∷ t) s)
  unfolding TokenStop AsStop
  name_as b z whole (Ok rest) s k e =
      let all = z ++ c ∷ t in
      let test = before (b ∷ z) rest == 2 in
      let x : Result Found Stop = Err (stray b z) in
      let y : Result Found Stop = found Quoted (b ∷ z) rest in
      let v : Result Found Stop = Err (stray b all) in
      let w : Result Found Stop = found Quoted (b ∷ all) (rest ++ c ∷ t) in
      let same : before (b ∷ all) (rest ++ c ∷ t) ≡ before (b ∷ z) rest = omega (arith, length-append z (c ∷ t), length-append rest (c ∷ t)) in
      let one : name_at b all s ≡ cond (before (b ∷ all) (rest ++ c ∷ t) == 2) v w = ap (name_at b all) e in
      let two : cond (before (b ∷ all) (rest ++ c ∷ t) == 2) v w ≡ cond test v w = ap (λ (n : ℕ). cond (n == 2) v w) same in
      subst (λ (o : Result Found Stop). TokenAs (cond test x y) o) (sym (one ∙ two)) (both_tokens test x y v w (stray_token b z) refl)
  name_as b z whole (Err stop) s k (inl h) = inl (h.0, ap (name_at b (z ++ c ∷ t)) h.1)
  name_as b z whole (Err stop) s k (inr h) = inr (h.0, name_left c t high b z whole s k h.1)

  number_as : (front rest : List ℕ) → TokenAs (number_at front rest) (number_at (front ++ c ∷ t) (rest ++ c ∷ t))
  number_as front [] = rw (no_start c t high) refl
  number_as front (b ∷ rest) = both_tokens (is_word_start b) _ _ _ _ (stray_token b rest) refl

  digits_as : (b : ℕ) (z : List ℕ) → TokenAs (number_at (b ∷ z) (after_run is_digit z)) (number_at (b ∷ (z ++ c ∷ t)) (after_run is_digit (z ++ c ∷ t)))
  digits_as b z =
      subst (λ (w : List ℕ). TokenAs (number_at (b ∷ z) (after_run is_digit z)) (number_at (b ∷ (z ++ c ∷ t)) w)) (sym (run_as is_digit c t (no_digit c t high) z)) (number_as (b ∷ z) (after_run is_digit z))

  word_as : (b : ℕ) (u : List ℕ) → TokenAs (word_at b u) (word_at b (u ++ c ∷ t))
  word_as b [] =
      let escape : (is_escape_mark b && (c == 39)) ≡ false = right_false (is_escape_mark b) (c == 39) (not_byte c t high 39 (omega arith)) in
      let x = string_at EscStr (b ∷ c ∷ t) (after_quoted (b ∷ c ∷ t) true 39 t) in
      let y = found Word (b ∷ c ∷ t) (after_run is_word_byte (c ∷ t)) in
      let one : word_at b (c ∷ t) ≡ y = ap (λ (v : Bool). cond v x y) escape in
      one ∙ ap (λ (w : List ℕ). found Word (b ∷ c ∷ t) w) (run_none is_word_byte c t (no_word_byte c t high))
  word_as b (d ∷ u) =
      both_tokens (is_escape_mark b && (d == 39)) _ _ _ _
      (string_as EscStr (b ∷ d ∷ u) _ _ (quoted_as c t high (b ∷ d ∷ u) (b ∷ d ∷ (u ++ c ∷ t)) true 39 (omega arith) u))
      (ap (λ (w : List ℕ). found Word (b ∷ d ∷ (u ++ c ∷ t)) w) (run_as is_word_byte c t (no_word_byte c t high) (d ∷ u)))

  token_as : (b : ℕ) (u : List ℕ) → TokenAs (token_at (b ∷ u)) (token_at (b ∷ (u ++ c ∷ t)))
  unfolding token_at
  token_as b u =
      let all = b ∷ (u ++ c ∷ t) in
      both_tokens (is_word_start b) _ _ _ _ (word_as b u)
      (both_tokens (b == 34) _ _ _ _ (name_as b u all _ _ refl (quoted_as c t high (b ∷ u) all false 34 (omega arith) u))
      (both_tokens (b == 39) _ _ _ _ (string_as Str (b ∷ u) _ _ (quoted_as c t high (b ∷ u) all false 39 (omega arith) u))
      (both_tokens (is_digit b) _ _ _ _ (digits_as b u) (both_tokens (is_sign b) _ _ _ _ refl (stray_token b u)))))

  token_high : token_at (c ∷ t) ≡ Err (stray c t)
  unfolding token_at
  token_high = rw (no_sign c t high, no_start c t high, not_byte c t high 34 (omega arith), not_byte c t high 39 (omega arith), no_digit c t high) refl

  -- ---- the front that is cut off

  -- what is read of all, by what the front is
  pub data IsCut (u : List ℕ) (r : Result Found Stop) : Type 0 where
    goes_past : IsCutOff u → left_after r ≤ length t → IsCut u r
    is_found : (f : Found) → r ≡ Ok (found_on f (c ∷ t)) → IsCut u r
    is_stopped : (s : Stop) (next : List ℕ) → AreSeparators u next → HasNoToken stray_byte next s.stands → s.which ≡ stray_byte → r ≡ Err (stop_on s (c ∷ t)) → IsCut u r

  cut_stopped : (u : List ℕ) (s : Stop) (next : List ℕ) → AreSeparators u next → HasNoToken s.which next s.stands → (r : Result Found Stop) → TokenStop s r → IsCut u r
  unfolding TokenStop
  cut_stopped u s next seps reason r (inl h) = is_stopped s next seps (subst (λ (n : ℕ). HasNoToken n next s.stands) h.0 reason) h.0 h.1
  cut_stopped u s next seps reason r (inr h) = goes_past (cut_of s.which next s.stands reason h.0 u seps) h.1

  cut_token : (u : List ℕ) (b : ℕ) (w : List ℕ) → IsPassed u (b ∷ w) → (o : Result Found Stop) → token_at (b ∷ w) ≡ o → (r : Result Found Stop) → TokenAs o r → IsCut u r
  cut_token u b w p (Ok f) e r same = is_found f same
  cut_token u b w p (Err s) e r same = cut_stopped u s (b ∷ w) p.separators (token_stopped (b ∷ w) s p.over e).reason r same

  past_left : (z : List ℕ) (r : Result (List ℕ) Stop) → after_separators z ≡ r → Past c t high r → left_after (token_after r) ≤ length t
  past_left z r e (inl h) = let one : token_after r ≡ Err (stray c t) = ap token_after h ∙ token_high in let same = ap left_after one in omega arith
  past_left z r e (inr h) = read_left z (length t) r e h (token_after r) refl

  cut_when : (u : List ℕ) (o : Result (List ℕ) Stop) → after_separators u ≡ o → (r : Result (List ℕ) Stop) → after_separators (u ++ c ∷ t) ≡ r → ReadsAs c t high o r → IsCut u (token_after r)
  unfolding AsStop TokenStop
  cut_when u (Ok []) e r k past = goes_past (in_separators u (separators_passed u [] e).separators) (past_left (u ++ c ∷ t) r k past)
  cut_when u (Ok (b ∷ w)) e r k same = cut_token u b w (separators_passed u (b ∷ w) e) _ refl (token_after r) (subst (λ (x : Result (List ℕ) Stop). TokenAs (token_at (b ∷ w)) (token_after x)) (sym same) (token_as b w))
  cut_when u (Err s) e r k (inl h) =
      let stopped = separators_stopped u s e in
      cut_stopped u s stopped.next stopped.separators stopped.here.reason (token_after r) (inl (h.0, ap token_after h.1))
  cut_when u (Err s) e r k (inr h) =
      let stopped = separators_stopped u s e in
      cut_stopped u s stopped.next stopped.separators stopped.here.reason (token_after r) (inr (h.0, read_left (u ++ c ∷ t) (length t) r k h.1 (token_after r) refl))

  pub cut : (u : List ℕ) → IsCut u (token_after (after_separators (u ++ c ∷ t)))
  cut u = cut_when u _ refl _ refl (separators_as c t high u)
