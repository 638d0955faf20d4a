-- What stands at the front of a text, by the grammar.
use Rattle.std.proofs.Common.{◌≡◌, ◌≢◌, ◌⊎◌, inl, inr, ℕ, suc, ◌+◌, ◌<◌, ◌≤◌, Bool, true, false, if◌then◌else◌, ◌||◌, ◌==◌, List, [], ◌∷◌, ◌++◌, Option, Some, None, length, take, drop, codes, refl, sym, ap, subst, ◌∙◌, append_assoc, append-nil, length-append, arith}
use borrow.Author.Tests.{eqb-true, eqb-false, ne_eqb}
use Rattle.std.specs.Str.{bytes_eq}
use Rattle.std.proofs.Math.Seq.{drop-append_seam, take-append_seam}
use Rattle.std.proofs.lemmas.Bool.{false≢true, or_cases, or_parts}
use Rattle.std.proofs.lemmas.Bool.Decides.{nat_tests}
use Rattle.std.proofs.lemmas.Slice.Eq.{bytes_eq-Decides}
use Rattle.pg_base.specs.Lists.{Each}
use Rattle.gql_lex.specs.declared.token.Punctuator.{Punctuator}
use Rattle.gql_lex.specs.declared.token.Punctuator.TheVariants as p
use Rattle.gql_lex.specs.declared.token.Word.{Word}
use Rattle.gql_lex.specs.declared.token.Word.TheVariants as w
use Rattle.gql_lex.specs.declared.token.TokenKind.{TokenKind}
use Rattle.gql_lex.specs.declared.token.TokenKind.TheVariants as k
use Rattle.gql_lex.specs.declared.string.Scan.{Scan}
use Rattle.gql_lex.specs.declared.string.Scan.TheVariants as s
use Rattle.gql_lex.specs.declared.front.Front.{Front}
use Rattle.gql_lex.specs.declared.front.Front.TheVariants as f
use Rattle.gql_lex.specs.Bytes.{is_digit, is_name_start, is_name_byte, is_blank, is_plain}
use Rattle.gql_lex.specs.Number.{number_at}
use Rattle.gql_lex.specs.Strings.{opens_block, string_scan, block_scan}
use Rattle.gql_lex.specs.Front.{comment_len, name_len, is_byte_order_mark, is_spread, punctuator, one_byte_token, punctuator_at, is_type_system, word, name_at, string_token, string_at, front_of}
use Rattle.gql_lex.specs.Grammar.{IsWhiteSpace, IsLineTerminator, IsCommentCharacter, IsDigit, IsNameStart, IsNameContinue, BeginsSo, Begins, byte_order_mark, IsIgnored, mark, white_space, line_terminator, comma, comment, BeginsIgnored, punctuator_text, BeginsPunctuator, IsName, IsTypeSystemWord, HasText, IsWordOf, zero_alone, digits, IsIntegerPart, plain, negative, IsNumber, three_quotes, Spells, MayFollow, HasNoToken, no_character, no_spread, no_number, no_string_character, no_escape, no_block_character, IsStringText, string_end, string_character, string_escape, IsInBlock, IsOpenString, open_string, open_escape, open_block}
use Rattle.gql_lex.specs.Block.{block_string_value}
use Rattle.gql_lex.proofs.BlockValues.{block_value_is}
use Rattle.gql_lex.specs.Laws.{IsLongest}
use Rattle.gql_lex.proofs.Classes.{digit_decides, name_start_decides, name_byte_decides, plain_decides, blank_is, blank_is_not}
use Rattle.gql_lex.proofs.Numbers.{cond_is, run_is, run_over, IsNumberToken, number_found, number_none, number_longest, number_not_ignored, number_not_open}
use Rattle.gql_lex.proofs.StringTexts.{StringIs, string_closed, string_cut, string_no_escape, string_open, string_open_escape, string_cases, string_scan_is, BlockIs, block_closed, block_cut, block_open, block_cases, block_scan_is, quotes_begin, begins_quotes}
use Rattle.gql_lex.proofs.Shapes.{front_shape}
use Rattle.gql_lex.proofs.TokenTexts.{shape_within}

-- ---- tokens that are found

-- a token of this length at the front
pub record IsToken (z : List ℕ) (kind : TokenKind) (n : ℕ) : Type 0 where
  pub text : List ℕ
  pub value : List ℕ
  pub rest : List ℕ
  pub split : z ≡ text ++ rest
  pub long : length text ≡ n
  pub spelled : Spells kind text value
  pub word : IsWordOf kind text
  pub follows : MayFollow kind rest

-- ---- words

equal_texts : (xs ys : List ℕ) → bytes_eq xs ys ≡ true → xs ≡ ys
equal_texts xs ys e = (bytes_eq-Decides xs ys).0 e

type_system_word : (name : List ℕ) → is_type_system name ≡ true → IsTypeSystemWord name
unfolding is_type_system
type_system_word name h =
    let t = λ (text : List ℕ). bytes_eq name text in
    elim (or_cases _ _ h) [
      | inr e ↦ inr (inr (inr (inr (inr (inr (inr (inr (equal_texts name _ e))))))))
      | inl h ↦ elim (or_cases _ _ h) [
        | inr e ↦ inr (inr (inr (inr (inr (inr (inr (inl (equal_texts name _ e))))))))
        | inl h ↦ elim (or_cases _ _ h) [
          | inr e ↦ inr (inr (inr (inr (inr (inr (inl (equal_texts name _ e)))))))
          | inl h ↦ elim (or_cases _ _ h) [
            | inr e ↦ inr (inr (inr (inr (inr (inl (equal_texts name _ e))))))
            | inl h ↦ elim (or_cases _ _ h) [
              | inr e ↦ inr (inr (inr (inr (inl (equal_texts name _ e)))))
              | inl h ↦ elim (or_cases _ _ h) [
                | inr e ↦ inr (inr (inr (inl (equal_texts name _ e))))
                | inl h ↦ elim (or_cases _ _ h) [
                  | inr e ↦ inr (inr (inl (equal_texts name _ e)))
                  | inl h ↦ elim (or_cases _ _ h) [ inr e ↦ inr (inl (equal_texts name _ e)) | inl e ↦ inl (equal_texts name _ e) ]
                ]
              ]
            ]
          ]
        ]
      ]
    ]

has_word : (name : List ℕ) (v : Word) → word name ≡ v → v ≢ w.Other → HasText v name
unfolding word
has_word name v e n = elim (cond_is (bytes_eq name (codes "query")) _ _ _ e) [
  | inl h ↦ subst (λ (x : Word). HasText x name) h.1 (equal_texts name _ h.0)
  | inr h ↦ elim (cond_is (bytes_eq name (codes "mutation")) _ _ _ h.1) [
    | inl h ↦ subst (λ (x : Word). HasText x name) h.1 (equal_texts name _ h.0)
    | inr h ↦ elim (cond_is (bytes_eq name (codes "subscription")) _ _ _ h.1) [
      | inl h ↦ subst (λ (x : Word). HasText x name) h.1 (equal_texts name _ h.0)
      | inr h ↦ elim (cond_is (bytes_eq name (codes "fragment")) _ _ _ h.1) [
        | inl h ↦ subst (λ (x : Word). HasText x name) h.1 (equal_texts name _ h.0)
        | inr h ↦ elim (cond_is (bytes_eq name (codes "on")) _ _ _ h.1) [
          | inl h ↦ subst (λ (x : Word). HasText x name) h.1 (equal_texts name _ h.0)
          | inr h ↦ elim (cond_is (bytes_eq name (codes "true")) _ _ _ h.1) [
            | inl h ↦ subst (λ (x : Word). HasText x name) h.1 (equal_texts name _ h.0)
            | inr h ↦ elim (cond_is (bytes_eq name (codes "false")) _ _ _ h.1) [
              | inl h ↦ subst (λ (x : Word). HasText x name) h.1 (equal_texts name _ h.0)
              | inr h ↦ elim (cond_is (bytes_eq name (codes "null")) _ _ _ h.1) [
                | inl h ↦ subst (λ (x : Word). HasText x name) h.1 (equal_texts name _ h.0)
                | inr h ↦ elim (cond_is (is_type_system name) _ _ _ h.1) [
                  | inl h ↦ subst (λ (x : Word). HasText x name) h.1 (type_system_word name h.0)
                  | inr h ↦ absurd (n (sym h.1))
                ]
              ]
            ]
          ]
        ]
      ]
    ]
  ]
]

word_is : (name : List ℕ) (v : Word) → HasText v name → word name ≡ v
unfolding word is_type_system
word_is name w.Query h = ap word h
word_is name w.Mutation h = ap word h
word_is name w.Subscription h = ap word h
word_is name w.Fragment h = ap word h
word_is name w.On h = ap word h
word_is name w.True h = ap word h
word_is name w.False h = ap word h
word_is name w.Null h = ap word h
word_is name w.TypeSystem (inl h) = ap word h
word_is name w.TypeSystem (inr (inl h)) = ap word h
word_is name w.TypeSystem (inr (inr (inl h))) = ap word h
word_is name w.TypeSystem (inr (inr (inr (inl h)))) = ap word h
word_is name w.TypeSystem (inr (inr (inr (inr (inl h))))) = ap word h
word_is name w.TypeSystem (inr (inr (inr (inr (inr (inl h)))))) = ap word h
word_is name w.TypeSystem (inr (inr (inr (inr (inr (inr (inl h))))))) = ap word h
word_is name w.TypeSystem (inr (inr (inr (inr (inr (inr (inr (inl h)))))))) = ap word h
word_is name w.TypeSystem (inr (inr (inr (inr (inr (inr (inr (inr h)))))))) = ap word h
word_is name w.Other h = absurd h

word_of : (name : List ℕ) → IsWordOf (k.Name (word name)) name
word_of name = (λ other h. word_is name other h, λ n. has_word name (word name) refl n)

-- ---- punctuators

abbrev IsSpelledBy : Punctuator → ℕ → Type 0
IsSpelledBy x b = (b ∷ [] ≡ punctuator_text x) × BeginsPunctuator b

one_is : (b : ℕ) (x : Punctuator) → punctuator b ≡ Some x → b ∷ [] ≡ punctuator_text x
one_is b x e = elim (cond_is (b == 33) _ _ _ e) [
  | inl h ↦ by_code 33 p.Bang h.0 h.1 refl
  | inr h ↦ elim (cond_is (b == 36) _ _ _ h.1) [
    | inl h ↦ by_code 36 p.Dollar h.0 h.1 refl
    | inr h ↦ elim (cond_is (b == 38) _ _ _ h.1) [
      | inl h ↦ by_code 38 p.Ampersand h.0 h.1 refl
      | inr h ↦ elim (cond_is (b == 40) _ _ _ h.1) [
        | inl h ↦ by_code 40 p.OpenParen h.0 h.1 refl
        | inr h ↦ elim (cond_is (b == 41) _ _ _ h.1) [
          | inl h ↦ by_code 41 p.CloseParen h.0 h.1 refl
          | inr h ↦ elim (cond_is (b == 58) _ _ _ h.1) [
            | inl h ↦ by_code 58 p.Colon h.0 h.1 refl
            | inr h ↦ elim (cond_is (b == 61) _ _ _ h.1) [
              | inl h ↦ by_code 61 p.Equals h.0 h.1 refl
              | inr h ↦ elim (cond_is (b == 64) _ _ _ h.1) [
                | inl h ↦ by_code 64 p.At h.0 h.1 refl
                | inr h ↦ elim (cond_is (b == 91) _ _ _ h.1) [
                  | inl h ↦ by_code 91 p.OpenBracket h.0 h.1 refl
                  | inr h ↦ elim (cond_is (b == 93) _ _ _ h.1) [
                    | inl h ↦ by_code 93 p.CloseBracket h.0 h.1 refl
                    | inr h ↦ elim (cond_is (b == 123) _ _ _ h.1) [
                      | inl h ↦ by_code 123 p.OpenBrace h.0 h.1 refl
                      | inr h ↦ elim (cond_is (b == 124) _ _ _ h.1) [
                        | inl h ↦ by_code 124 p.Pipe h.0 h.1 refl
                        | inr h ↦ elim (cond_is (b == 125) _ _ _ h.1) [ inl h ↦ by_code 125 p.CloseBrace h.0 h.1 refl | inr h ↦ absurd (none_some x h.1) ]
                      ]
                    ]
                  ]
                ]
              ]
            ]
          ]
        ]
      ]
    ]
  ]
]
  where
    none_some : (x : Punctuator) → (let o : Option Punctuator = None in o) ≡ Some x → ⊥
    none_some x h = cc

    by_code : (c : ℕ) (y : Punctuator) → (b == c) ≡ true → Some y ≡ Some x → c ∷ [] ≡ punctuator_text y → b ∷ [] ≡ punctuator_text x
    by_code c y t same is = let q : y ≡ x = cc in ap (λ (n : ℕ). n ∷ []) (eqb-true b c t) ∙ is ∙ ap punctuator_text q

no_punctuator : (b : ℕ) → punctuator b ≡ None → BeginsPunctuator b → ⊥
no_punctuator b e h = some_none (found h)
  where
    some_none : (x : Punctuator) × (punctuator b ≡ Some x) → ⊥
    some_none h = let s : None ≡ Some h.0 = sym e ∙ h.1 in cc s

    found : BeginsPunctuator b → (x : Punctuator) × (punctuator b ≡ Some x)
    found (inl h) = (p.Bang, ap punctuator h)
    found (inr (inl h)) = (p.Dollar, ap punctuator h)
    found (inr (inr (inl h))) = (p.Ampersand, ap punctuator h)
    found (inr (inr (inr (inl h)))) = (p.OpenParen, ap punctuator h)
    found (inr (inr (inr (inr (inl h))))) = (p.CloseParen, ap punctuator h)
    found (inr (inr (inr (inr (inr (inl h)))))) = (p.Colon, ap punctuator h)
    found (inr (inr (inr (inr (inr (inr (inl h))))))) = (p.Equals, ap punctuator h)
    found (inr (inr (inr (inr (inr (inr (inr (inl h)))))))) = (p.At, ap punctuator h)
    found (inr (inr (inr (inr (inr (inr (inr (inr (inl h))))))))) = (p.OpenBracket, ap punctuator h)
    found (inr (inr (inr (inr (inr (inr (inr (inr (inr (inl h)))))))))) = (p.CloseBracket, ap punctuator h)
    found (inr (inr (inr (inr (inr (inr (inr (inr (inr (inr (inl h))))))))))) = (p.OpenBrace, ap punctuator h)
    found (inr (inr (inr (inr (inr (inr (inr (inr (inr (inr (inr (inl h)))))))))))) = (p.Pipe, ap punctuator h)
    found (inr (inr (inr (inr (inr (inr (inr (inr (inr (inr (inr (inr (inl h))))))))))))) = (p.CloseBrace, ap punctuator h)
    found (inr (inr (inr (inr (inr (inr (inr (inr (inr (inr (inr (inr (inr h))))))))))))) = absurd h

-- ---- what is at the front, kind by kind

-- after what is ignored comes the rest, by its length
record IsIgnoredFront (z : List ℕ) (n : ℕ) : Type 0 where
  some : 0 < n
  within : n ≤ length z
  ignored : IsIgnored z (drop n z)

mark_at : (z : List ℕ) → is_byte_order_mark z ≡ true → IsIgnoredFront z 3
mark_at [] h = absurd (false≢true h)
mark_at (a ∷ []) h = absurd (false≢true h)
mark_at (a ∷ b ∷ []) h = absurd (false≢true h)
mark_at (a ∷ b ∷ c ∷ z) h =
    let p : a ≡ 0xef = grind (arith, nat_tests) in
    let q : b ≡ 0xbb = grind (arith, nat_tests) in
    let r : c ≡ 0xbf = grind (arith, nat_tests) in
    record { some = omega arith; within = omega arith; ignored = rw (p, q, r) (mark z) }

no_mark_at : (z : List ℕ) → is_byte_order_mark z ≡ false → Begins byte_order_mark z → ⊥
no_mark_at z h g = false≢true (sym h ∙ ap is_byte_order_mark g.1)

blank_at : (b : ℕ) (z : List ℕ) → is_blank b ≡ true → IsIgnoredFront (b ∷ z) 1
blank_at b z h = record { some = omega arith; within = omega arith; ignored = chosen (blank_is b h) }
  where
    chosen : IsWhiteSpace b ⊎ (IsLineTerminator b ⊎ (b ≡ 44)) → IsIgnored (b ∷ z) z
    chosen (inl h) = white_space b z h
    chosen (inr (inl h)) = line_terminator b z h
    chosen (inr (inr h)) = subst (λ (x : ℕ). IsIgnored (x ∷ z) z) (sym h) (comma z)

comment_at : (b : ℕ) (z : List ℕ) → b ≡ 35 → IsIgnoredFront (b ∷ z) (1 + comment_len z)
comment_at b z e =
    let r = run_is is_plain IsCommentCharacter plain_decides z in
    let count : 1 + comment_len z ≡ suc (length r.run) = omega (arith, r.long) in
    let tail : drop (1 + comment_len z) (b ∷ z) ≡ r.rest = ap (λ (n : ℕ). drop n (b ∷ z)) count ∙ ap (λ (w : List ℕ). drop (length r.run) w) r.split ∙ drop-append_seam r.run r.rest in
    let whole : 35 ∷ (r.run ++ r.rest) ≡ b ∷ z = ap (λ (x : ℕ). x ∷ (r.run ++ r.rest)) (sym e) ∙ ap (λ (w : List ℕ). b ∷ w) (sym r.split) in
    record {
      some = omega arith;
      within = omega (arith, r.long, ap length r.split, length-append r.run r.rest);
      ignored = subst (λ (w : List ℕ). IsIgnored (b ∷ z) w) (sym tail) (subst (λ (w : List ℕ). IsIgnored w r.rest) whole (comment r.run r.rest r.passes r.stops));
    }

name_token : (b : ℕ) (z : List ℕ) → is_name_start b ≡ true → IsToken (b ∷ z) (k.Name (word (take (name_len (b ∷ z)) (b ∷ z)))) (name_len (b ∷ z))
name_token b z h =
    let r = run_is is_name_byte IsNameContinue name_byte_decides (b ∷ z) in
    let same : take (name_len (b ∷ z)) (b ∷ z) ≡ r.run = ap (λ (n : ℕ). take n (b ∷ z)) (sym r.long) ∙ ap (λ (w : List ℕ). take (length r.run) w) r.split ∙ take-append_seam r.run r.rest in
    subst (λ (w : List ℕ). IsToken (b ∷ z) (k.Name (word w)) (name_len (b ∷ z))) (sym same) (record {
      text = r.run;
      value = r.run;
      rest = r.rest;
      split = r.split;
      long = r.long;
      spelled = (name_of r.run r.rest r.split r.passes r.stops, refl);
      word = word_of r.run;
      follows = tt;
    })
  where
    name_of : (run rest : List ℕ) → b ∷ z ≡ run ++ rest → Each IsNameContinue run → (BeginsSo IsNameContinue rest → ⊥) → IsName run
    name_of [] rest e each stops = absurd (stops (subst (BeginsSo IsNameContinue) e (inl ((name_start_decides b).0 h))))
    name_of (c ∷ run) rest e each stops = let same : b ≡ c = cc in (subst IsNameStart same ((name_start_decides b).0 h), each.1)

number_token : (z : List ℕ) (kind : TokenKind) (n : ℕ) → IsNumberToken z kind n → IsToken z kind n
number_token z kind n h = record { text = h.text; value = h.text; rest = h.rest; split = h.split; long = h.long; spelled = h.spelled; word = h.word; follows = h.follows }

-- a token, none, or a string that isn't closed
data FrontPart (z : List ℕ) : Front → Type 0 where
  part_token : (kind : TokenKind) (n : ℕ) → IsToken z kind n → FrontPart z (f.Token kind n)
  part_invalid : HasNoToken z → FrontPart z f.Invalid
  part_open : IsOpenString z → FrontPart z f.Unterminated

text_after : (z text rest : List ℕ) (q : ℕ) → z ≡ text ++ q ∷ rest → q ∷ z ≡ (q ∷ (text ++ q ∷ [])) ++ rest
text_after z text rest q h = ap (λ (w : List ℕ). q ∷ w) (h ∙ sym (append_assoc text (q ∷ []) rest))

module _ (z : List ℕ) (single : opens_block (34 ∷ z) ≡ false) where
  no_block : (w : List ℕ) → 34 ∷ z ≡ w → Begins three_quotes w → ⊥
  no_block w e g = false≢true (sym single ∙ begins_quotes (34 ∷ z) (subst (Begins three_quotes) (sym e) g))

  string_front : (x : Scan) → StringIs z x → FrontPart (34 ∷ z) (string_token k.String 1 x)
  string_front _ (string_closed text value rest n h l t) =
      part_token k.String (1 + n) (record { text = 34 ∷ (text ++ 34 ∷ []); value = value; rest = rest; split = text_after z text rest 34 h; long = omega (arith, l, length-append text (34 ∷ [])); spelled = (text, (t, refl)); word = tt; follows = tt })
  string_front _ (string_cut text value b rest h t n) =
      let e = ap (λ (w : List ℕ). 34 ∷ w) h in
      part_invalid (subst HasNoToken (sym e) (no_string_character text value b rest (no_block (34 ∷ (text ++ b ∷ rest)) e) t n))
  string_front _ (string_no_escape text value rest h t n) = part_invalid (subst HasNoToken (sym (ap (λ (w : List ℕ). 34 ∷ w) h)) (no_escape text value rest t n))
  string_front _ (string_open value t) = part_open (open_string z value t)
  string_front _ (string_open_escape text value rest h t n) = part_open (subst IsOpenString (sym (ap (λ (w : List ℕ). 34 ∷ w) h)) (open_escape text value rest t n))

block_front : (z : List ℕ) (x : Scan) → BlockIs z x → FrontPart (34 ∷ 34 ∷ 34 ∷ z) (string_token k.BlockString 3 x)
block_front z _ (block_closed inner raw rest n h l t) =
    part_token k.BlockString (3 + n) (record {
      text = 34 ∷ 34 ∷ 34 ∷ inner;
      value = block_string_value raw;
      rest = rest;
      split = ap (λ (w : List ℕ). 34 ∷ 34 ∷ 34 ∷ w) h;
      long = omega (arith, l);
      spelled = (inner, raw, (t, (block_value_is raw, refl)));
      word = tt;
      follows = tt;
    })
block_front z _ (block_cut raw b rest t n) = part_invalid (no_block_character z raw b rest t n)
block_front z _ (block_open raw t) = part_open (open_block z raw t)

string_at_front : (b : ℕ) (z : List ℕ) → b ≡ 34 → FrontPart (b ∷ z) (string_at (b ∷ z))
string_at_front b z e = subst (λ (c : ℕ). FrontPart (c ∷ z) (string_at (c ∷ z))) (sym e) (chosen (opens_block (34 ∷ z)) refl)
  where
    chosen : (t : Bool) → opens_block (34 ∷ z) ≡ t → FrontPart (34 ∷ z) (if t then string_token k.BlockString 3 (block_scan 0 (drop 3 (34 ∷ z))) else string_token k.String 1 (string_scan 0 z))
    chosen true h =
        let q = quotes_begin (34 ∷ z) h in
        let tail : drop 3 (34 ∷ z) ≡ q.0 = ap (λ (w : List ℕ). drop 3 w) q.1 in
        subst (λ (w : List ℕ). FrontPart w (string_token k.BlockString 3 (block_scan 0 (drop 3 (34 ∷ z))))) (sym q.1)
        (subst (λ (w : List ℕ). FrontPart (34 ∷ 34 ∷ 34 ∷ q.0) (string_token k.BlockString 3 (block_scan 0 w))) (sym tail) (block_front q.0 (block_scan 0 q.0) (block_cases q.0)))
    chosen false h = string_front z h (string_scan 0 z) (string_cases z)

spread_at : (z : List ℕ) → is_spread z ≡ true → (rest : List ℕ) × (z ≡ 46 ∷ 46 ∷ 46 ∷ rest)
spread_at [] h = absurd (false≢true h)
spread_at (a ∷ []) h = absurd (false≢true h)
spread_at (a ∷ b ∷ []) h = absurd (false≢true h)
spread_at (a ∷ b ∷ c ∷ z) h =
    let p : a ≡ 46 = grind (arith, nat_tests) in
    let q : b ≡ 46 = grind (arith, nat_tests) in
    let r : c ≡ 46 = grind (arith, nat_tests) in
    (z, rw (p, q, r) refl)

number_first : (b : ℕ) → (b == 45 || is_digit b) ≡ true → IsDigit b ⊎ (b ≡ 45)
number_first b h = elim (or_cases (b == 45) (is_digit b) h) [ inl e ↦ inr (eqb-true b 45 e) | inr e ↦ inl ((digit_decides b).0 e) ]

module _ (b : ℕ) (z : List ℕ) (no_name : is_name_start b ≡ false) (no_digit : (b == 45 || is_digit b) ≡ false) (no_quote : (b == 34) ≡ false) where
  nothing_at : is_spread (b ∷ z) ≡ false → punctuator b ≡ None → (t : Bool) → (b == 46) ≡ t → HasNoToken (b ∷ z)
  nothing_at n o true dot =
      let e = eqb-true b 46 dot in
      subst (λ (x : ℕ). HasNoToken (x ∷ z)) (sym e) (no_spread z (λ g. false≢true (sym n ∙ ap (λ (x : ℕ). is_spread (x ∷ z)) e ∙ ap (λ (w : List ℕ). is_spread (46 ∷ w)) g.1)))
  nothing_at n o false dot =
      let d = or_parts (b == 45) (is_digit b) no_digit in
      no_character b z (λ h. false≢true (sym no_name ∙ (name_start_decides b).1 h)) (λ h. false≢true (sym d.1 ∙ (digit_decides b).1 h)) (no_punctuator b o) (eqb-false b 34 no_quote) (eqb-false b 45 d.0) (eqb-false b 46 dot)

  one_at : is_spread (b ∷ z) ≡ false → (o : Option Punctuator) → punctuator b ≡ o → FrontPart (b ∷ z) (one_byte_token o)
  one_at n None o = part_invalid (nothing_at n o (b == 46) refl)
  one_at n (Some x) o = part_token (k.Punctuator x) 1 (record { text = b ∷ []; value = b ∷ []; rest = z; split = refl; long = refl; spelled = (one_is b x o, refl); word = tt; follows = tt })

  punctuator_front : FrontPart (b ∷ z) (punctuator_at (b ∷ z))
  punctuator_front = chosen (is_spread (b ∷ z)) refl
    where
      spread : (w : List ℕ) → FrontPart (46 ∷ 46 ∷ 46 ∷ w) (f.Token (k.Punctuator p.Spread) 3)
      spread w = part_token (k.Punctuator p.Spread) 3 (record { text = 46 ∷ 46 ∷ 46 ∷ []; value = 46 ∷ 46 ∷ 46 ∷ []; rest = w; split = refl; long = refl; spelled = (refl, refl); word = tt; follows = tt })

      chosen : (t : Bool) → is_spread (b ∷ z) ≡ t → FrontPart (b ∷ z) (if t then f.Token (k.Punctuator p.Spread) 3 else one_byte_token (punctuator b))
      chosen true h = let q = spread_at (b ∷ z) h in subst (λ (w : List ℕ). FrontPart w (f.Token (k.Punctuator p.Spread) 3)) (sym q.1) (spread q.0)
      chosen false h = one_at h (punctuator b) refl

number_front : (b : ℕ) (z : List ℕ) → (b == 45 || is_digit b) ≡ true → FrontPart (b ∷ z) (number_at (b ∷ z))
number_front b z h = chosen (number_at (b ∷ z)) refl
  where
    chosen : (x : Front) → number_at (b ∷ z) ≡ x → FrontPart (b ∷ z) x
    chosen (f.Ignored n) e = absurd (number_not_ignored (b ∷ z) n e)
    chosen (f.Token kind n) e = part_token kind n (number_token (b ∷ z) kind n (number_found (b ∷ z) kind n e))
    chosen f.Invalid e = part_invalid (no_number b z (number_first b h) (λ front after split number. number_none (b ∷ z) front after e split number))
    chosen f.Unterminated e = absurd (number_not_open (b ∷ z) e)

-- ---- whatever stands at the front

pub data FrontIs (z : List ℕ) : Front → Type 0 where
  front_ignored : (n : ℕ) → 0 < n → n ≤ length z → IsIgnored z (drop n z) → FrontIs z (f.Ignored n)
  front_token : (kind : TokenKind) (n : ℕ) → (BeginsIgnored z → ⊥) → IsToken z kind n → FrontIs z (f.Token kind n)
  front_invalid : (BeginsIgnored z → ⊥) → HasNoToken z → FrontIs z f.Invalid
  front_open : IsOpenString z → FrontIs z f.Unterminated

ignored_is : (z : List ℕ) (n : ℕ) → IsIgnoredFront z n → FrontIs z (f.Ignored n)
ignored_is z n h = front_ignored n h.some h.within h.ignored

part_is : (z : List ℕ) (x : Front) → (BeginsIgnored z → ⊥) → FrontPart z x → FrontIs z x
part_is z _ n (part_token kind m h) = front_token kind m n h
part_is z _ n (part_invalid h) = front_invalid n h
part_is z _ n (part_open h) = front_open h

not_ignored : (b : ℕ) (z : List ℕ) → is_blank b ≡ false → (b == 35) ≡ false → is_byte_order_mark (b ∷ z) ≡ false → BeginsIgnored (b ∷ z) → ⊥
not_ignored b z h g m (inl x) = no_mark_at (b ∷ z) m x
not_ignored b z h g m (inr (inl x)) = blank_is_not b h (inl x)
not_ignored b z h g m (inr (inr (inl x))) = blank_is_not b h (inr (inl x))
not_ignored b z h g m (inr (inr (inr (inl x)))) = blank_is_not b h (inr (inr (inl x)))
not_ignored b z h g m (inr (inr (inr (inr (inl x))))) = blank_is_not b h (inr (inr (inr (inl x))))
not_ignored b z h g m (inr (inr (inr (inr (inr (inl x)))))) = blank_is_not b h (inr (inr (inr (inr (inl x)))))
not_ignored b z h g m (inr (inr (inr (inr (inr (inr (inl x))))))) = eqb-false b 35 g x
not_ignored b z h g m (inr (inr (inr (inr (inr (inr (inr x))))))) = x

step : (b : ℕ) (z : List ℕ) (blank hash bom name number quote : Bool)
    → is_blank b ≡ blank → (b == 35) ≡ hash → is_byte_order_mark (b ∷ z) ≡ bom → is_name_start b ≡ name → (b == 45 || is_digit b) ≡ number → (b == 34) ≡ quote
    → FrontIs (b ∷ z) (if blank then f.Ignored 1 else (if hash then f.Ignored (1 + comment_len z) else (if bom then f.Ignored 3 else (if name then name_at (b ∷ z) else (if number then number_at (b ∷ z) else (if quote then string_at (b ∷ z) else punctuator_at (b ∷ z)))))))
step b z true hash bom name number quote h g m n d q = ignored_is (b ∷ z) 1 (blank_at b z h)
step b z false true bom name number quote h g m n d q = ignored_is (b ∷ z) (1 + comment_len z) (comment_at b z (eqb-true b 35 g))
step b z false false true name number quote h g m n d q = ignored_is (b ∷ z) 3 (mark_at (b ∷ z) m)
step b z false false false true number quote h g m n d q = front_token _ (name_len (b ∷ z)) (not_ignored b z h g m) (name_token b z n)
step b z false false false false true quote h g m n d q = part_is (b ∷ z) _ (not_ignored b z h g m) (number_front b z d)
step b z false false false false false true h g m n d q = part_is (b ∷ z) _ (not_ignored b z h g m) (string_at_front b z (eqb-true b 34 q))
step b z false false false false false false h g m n d q = part_is (b ∷ z) _ (not_ignored b z h g m) (punctuator_front b z n d q)

pub front_is : (b : ℕ) (z : List ℕ) → FrontIs (b ∷ z) (front_of (b ∷ z))
unfolding front_of
front_is b z = step b z (is_blank b) (b == 35) (is_byte_order_mark (b ∷ z)) (is_name_start b) (b == 45 || is_digit b) (b == 34) refl refl refl refl refl refl

-- ---- no longer token stands there

second_is : (b : ℕ) (z rest : List ℕ) → 34 ∷ b ∷ z ≡ 34 ∷ 34 ∷ 34 ∷ rest → b ≡ 34
second_is b z rest e = cc

no_slash_quote : (z : List ℕ) → Begins three_quotes (34 ∷ 92 ∷ z) → ⊥
no_slash_quote z h = absurd (omega (arith, second_is 92 z h.0 h.1))

block_long : (z : List ℕ) (kind : TokenKind) (n : ℕ) → opens_block z ≡ true → string_at z ≡ f.Token kind n → 3 ≤ n
block_long z kind n o e = chosen (block_scan 0 (drop 3 z)) (at ∙ e)
  where
    at : string_token k.BlockString 3 (block_scan 0 (drop 3 z)) ≡ string_at z
    at = rw o refl

    chosen : (x : Scan) → string_token k.BlockString 3 x ≡ f.Token kind n → 3 ≤ n
    chosen (s.Closed m) g = let same : 3 + m ≡ n = cc in omega arith
    chosen s.Invalid g = absurd (let q : f.Invalid ≡ f.Token kind n = g in cc q)
    chosen s.Unterminated g = absurd (let q : f.Unterminated ≡ f.Token kind n = g in cc q)

module _ (kind : TokenKind) (n : ℕ) where
  some_byte : (z : List ℕ) → front_of z ≡ f.Token kind n → 1 ≤ n
  some_byte z e = (shape_within kind z n (front_shape z kind n e)).0

  long_is : (kind' : TokenKind) (m : ℕ) → (let x : Front = f.Token kind' m in x) ≡ f.Token kind n → m ≡ n
  long_is kind' m e = cc

  no_mark_first : (b : ℕ) (z : List ℕ) → b < 128 → is_byte_order_mark (b ∷ z) ≡ false
  no_mark_first b [] h = refl
  no_mark_first b (c ∷ []) h = refl
  no_mark_first b (c ∷ d ∷ z) h = let no : (b == 0xef) ≡ false = ne_eqb b 0xef (λ (e : b ≡ 0xef). absurd (omega arith)) in rw no refl

  longest_name : (text rest : List ℕ) → IsName text → front_of (text ++ rest) ≡ f.Token kind n → length text ≤ n
  unfolding front_of
  longest_name [] rest h e = absurd h
  longest_name (b ∷ text) rest h e =
      let start = (name_start_decides b).1 h.0 in
      let low : b < 128 = grind (arith, nat_tests) in
      let no_blank : is_blank b ≡ false = grind (arith, nat_tests) in
      let no_hash : (b == 35) ≡ false = grind (arith, nat_tests) in
      let at : front_of (b ∷ (text ++ rest)) ≡ name_at (b ∷ (text ++ rest)) = rw (no_blank, no_hash, no_mark_first b (text ++ rest) low, start) refl in
      let len = long_is (k.Name (word (take (name_len (b ∷ (text ++ rest))) (b ∷ (text ++ rest))))) (name_len (b ∷ (text ++ rest))) (sym at ∙ e) in
      omega (arith, len, run_over is_name_byte IsNameContinue name_byte_decides (b ∷ text) rest (inl h.0, h.1))

  number_begins : (text rest : List ℕ) → IsNumber text → (b : ℕ) × ((z : List ℕ) × ((text ++ rest ≡ b ∷ z) × ((b == 45 || is_digit b) ≡ true)))
  number_begins text rest h = begins h.integer (h.fractional ++ h.exponential ++ rest) h.is_integer (ap (λ (w : List ℕ). w ++ rest) h.parts ∙ append_assoc h.integer (h.fractional ++ h.exponential) rest)
    where
      begins : (i tail : List ℕ) → IsIntegerPart i → text ++ rest ≡ i ++ tail → (b : ℕ) × ((z : List ℕ) × ((text ++ rest ≡ b ∷ z) × ((b == 45 || is_digit b) ≡ true)))
      begins _ tail (plain _ zero_alone) e = (48, (_, (e, refl)))
      begins _ tail (plain _ (digits b t g o)) e = let low : 49 ≤ b = g.0 in let high : b ≤ 57 = g.1 in (b, (_, (e, grind (arith, nat_tests))))
      begins _ tail (negative t g) e = (45, (_, (e, refl)))

  number_at_front : (b : ℕ) (z : List ℕ) → (b == 45 || is_digit b) ≡ true → front_of (b ∷ z) ≡ number_at (b ∷ z)
  unfolding front_of
  number_at_front b z d =
      let low : b < 128 = grind (arith, nat_tests) in
      let no_blank : is_blank b ≡ false = grind (arith, nat_tests) in
      let no_hash : (b == 35) ≡ false = grind (arith, nat_tests) in
      let no_name : is_name_start b ≡ false = grind (arith, nat_tests) in
      rw (no_blank, no_hash, no_mark_first b z low, no_name, d) refl

  longest_number : (text rest : List ℕ) → IsNumber text → front_of (text ++ rest) ≡ f.Token kind n → length text ≤ n
  longest_number text rest h e =
      let b = number_begins text rest h in
      let z = text ++ rest in
      let at : front_of z ≡ number_at z = ap front_of b.1.1.0 ∙ number_at_front b.0 b.1.0 b.1.1.1 ∙ ap number_at (sym b.1.1.0) in
      omega (arith, (number_found z kind n (sym at ∙ e)).number, number_longest text rest h)

  quote_at_front : (z : List ℕ) → front_of (34 ∷ z) ≡ string_at (34 ∷ z)
  unfolding front_of
  quote_at_front z = rw (no_mark_first 34 z (omega arith)) refl

  longest_string : (text value rest : List ℕ) → IsStringText text value → front_of (34 ∷ (text ++ 34 ∷ rest)) ≡ f.Token kind n → length text + 2 ≤ n
  longest_string text value rest h e = chosen (opens_block (34 ∷ (text ++ 34 ∷ rest))) refl
    where
      z : List ℕ
      z = text ++ 34 ∷ rest

      empty : (text value : List ℕ) → IsStringText text value → opens_block (34 ∷ (text ++ 34 ∷ rest)) ≡ true → length text ≡ 0
      empty _ _ string_end o = refl
      empty _ _ (string_character b text value g t) o = absurd (g.1.0 (let q = quotes_begin (34 ∷ b ∷ (text ++ 34 ∷ rest)) o in let same : b ∷ (text ++ 34 ∷ rest) ≡ 34 ∷ 34 ∷ q.0 = cc q.1 in cc same))
      empty _ _ (string_escape escape c text value g t) o = absurd (no_slash_quote ((escape ++ text) ++ 34 ∷ rest) (quotes_begin (34 ∷ 92 ∷ ((escape ++ text) ++ 34 ∷ rest)) o))

      three : front_of (34 ∷ (text ++ 34 ∷ rest)) ≡ f.Token kind n → opens_block (34 ∷ (text ++ 34 ∷ rest)) ≡ true → 3 ≤ n
      three e o = block_long (34 ∷ (text ++ 34 ∷ rest)) kind n o (sym (quote_at_front (text ++ 34 ∷ rest)) ∙ e)

      chosen : (t : Bool) → opens_block (34 ∷ (text ++ 34 ∷ rest)) ≡ t → length text + 2 ≤ n
      chosen true o = omega (arith, empty text value h o, three e o)
      chosen false o =
          let at : string_at (34 ∷ (text ++ 34 ∷ rest)) ≡ f.Token k.String (1 + (length text + 1)) = rw o (ap (string_token k.String 1) (string_scan_is text value rest h)) in
          omega (arith, long_is k.String (1 + (length text + 1)) (sym at ∙ sym (quote_at_front (text ++ 34 ∷ rest)) ∙ e))

  longest_block : (inner raw rest : List ℕ) → IsInBlock inner raw three_quotes → front_of (34 ∷ 34 ∷ 34 ∷ (inner ++ rest)) ≡ f.Token kind n → length inner + 3 ≤ n
  longest_block inner raw rest h e =
      let at : string_at (34 ∷ 34 ∷ 34 ∷ (inner ++ rest)) ≡ f.Token k.BlockString (3 + length inner) = ap (string_token k.BlockString 3) (block_scan_is inner raw rest h) in
      omega (arith, long_is k.BlockString (3 + length inner) (sym at ∙ sym (quote_at_front (34 ∷ 34 ∷ (inner ++ rest))) ∙ e))

  spread_long : (rest : List ℕ) → front_of (46 ∷ 46 ∷ 46 ∷ rest) ≡ f.Token kind n → 3 ≤ n
  unfolding front_of
  spread_long rest e = omega (arith, long_is (k.Punctuator p.Spread) 3 e)

  one_long : (text rest : List ℕ) (b : ℕ) → text ≡ b ∷ [] → front_of (text ++ rest) ≡ f.Token kind n → length text ≤ n
  one_long text rest b h e = omega (arith, ap length h, some_byte (text ++ rest) e)

  punctuator_long : (x : Punctuator) (text rest : List ℕ) → text ≡ punctuator_text x → front_of (text ++ rest) ≡ f.Token kind n → length text ≤ n
  punctuator_long p.Bang text rest h e = one_long text rest _ h e
  punctuator_long p.Dollar text rest h e = one_long text rest _ h e
  punctuator_long p.Ampersand text rest h e = one_long text rest _ h e
  punctuator_long p.OpenParen text rest h e = one_long text rest _ h e
  punctuator_long p.CloseParen text rest h e = one_long text rest _ h e
  punctuator_long p.Spread text rest h e = omega (arith, ap length h, spread_long rest (ap (λ (w : List ℕ). front_of (w ++ rest)) (sym h) ∙ e))
  punctuator_long p.Colon text rest h e = one_long text rest _ h e
  punctuator_long p.Equals text rest h e = one_long text rest _ h e
  punctuator_long p.At text rest h e = one_long text rest _ h e
  punctuator_long p.OpenBracket text rest h e = one_long text rest _ h e
  punctuator_long p.CloseBracket text rest h e = one_long text rest _ h e
  punctuator_long p.OpenBrace text rest h e = one_long text rest _ h e
  punctuator_long p.Pipe text rest h e = one_long text rest _ h e
  punctuator_long p.CloseBrace text rest h e = one_long text rest _ h e

  integer_number : (text : List ℕ) → IsIntegerPart text → IsNumber text
  integer_number text h = record { integer = text; fractional = []; exponential = []; is_integer = h; is_fractional = inl refl; is_exponential = inl refl; parts = sym (append-nil text) }

  spelled_long : (kind' : TokenKind) (text value rest : List ℕ) → Spells kind' text value → front_of (text ++ rest) ≡ f.Token kind n → length text ≤ n
  spelled_long (k.Punctuator x) text value rest h e = punctuator_long x text rest h.0 e
  spelled_long (k.Name x) text value rest h e = longest_name text rest h.0 e
  spelled_long k.Int text value rest h e = longest_number text rest (integer_number text h.0) e
  spelled_long k.Float text value rest h e = longest_number text rest h.0.0 e
  spelled_long k.String text value rest h e =
      let split : text ++ rest ≡ 34 ∷ (h.0 ++ 34 ∷ rest) = ap (λ (w : List ℕ). w ++ rest) h.1.1 ∙ ap (λ (w : List ℕ). 34 ∷ w) (append_assoc h.0 (34 ∷ []) rest) in
      omega (arith, longest_string h.0 value rest h.1.0 (ap front_of (sym split) ∙ e), ap length h.1.1, length-append h.0 (34 ∷ []))
  spelled_long k.BlockString text value rest h e =
      let split : text ++ rest ≡ 34 ∷ 34 ∷ 34 ∷ (h.0 ++ rest) = ap (λ (w : List ℕ). w ++ rest) h.2.1.1 in
      omega (arith, longest_block h.0 h.1 rest h.2.0 (ap front_of (sym split) ∙ e), ap length h.2.1.1)

  pub front_longest : (z : List ℕ) → front_of z ≡ f.Token kind n → IsLongest z n
  front_longest z e kind' front rest split h = spelled_long kind' front h.0 rest h.1 (ap front_of (sym split) ∙ e)
