-- The case of a label by its bytes is the one by its characters.
use Rattle.std.proofs.Common.{◌≡◌, ℕ, ◌+◌, ◌/◌, ◌<◌, ◌≤◌, Bool, true, false, List, [], ◌∷◌, ◌++◌, map, IsUtf8, refl, sym, ap, ap₂, ◌∙◌, arith, ltb}
use Rattle.std.specs.Prelude.{if◌then◌else◌}
use Rattle.std.proofs.lemmas.Bool.{cond_both, ltb-true, ltb-false}
use Rattle.std.proofs.lemmas.Bool.Decides.{nat_tests}
use Rattle.std.proofs.lemmas.Str.{chars-encodes}
use Rattle.std.specs.Str.{chars}
use Rattle.std.specs.Char.{to_ascii_uppercase}
use lib.Utf8.{encode, encodes, next}
use Rattle.name_rules.specs.Names.{is_name_character, name_character, separated, begun, enum_case_of}
use Rattle.pg_base.specs.Pos.{is_continuation}
use Rattle.pg_base.specs.EnumCases.{name_characters, case_of_label}

step : (b : ℕ) (rest : List ℕ) (n v : Bool) → is_name_character b ≡ n → is_continuation b ≡ v
    → name_characters (b ∷ rest) ≡ (if n then b ∷ name_characters rest else (if v then name_characters rest else 95 ∷ name_characters rest))
step b rest n v e f = ap₂ (λ (n v : Bool). if n then b ∷ name_characters rest else (if v then name_characters rest else 95 ∷ name_characters rest)) e f

high_name : (b : ℕ) → 128 ≤ b → is_name_character b ≡ false
high_name b h = grind (arith, nat_tests)

high_first : (b : ℕ) → 192 ≤ b → is_continuation b ≡ false
high_first b h = grind (arith, nat_tests)

low_first : (b : ℕ) → b < 128 → is_continuation b ≡ false
low_first b h = grind (arith, nat_tests)

inside : (b : ℕ) → 128 ≤ b → b < 192 → is_continuation b ≡ true
inside b h k = grind (arith, nat_tests)

first : (b : ℕ) (rest : List ℕ) → 192 ≤ b → name_characters (b ∷ rest) ≡ 95 ∷ name_characters rest
first b rest h = step b rest false false (high_name b (omega arith)) (high_first b h)

later : (bits : ℕ) (rest : List ℕ) → name_characters (next bits ∷ rest) ≡ name_characters rest
later bits rest = step (next bits) rest false true (high_name (next bits) (omega arith)) (inside (next bits) (omega arith) (omega arith))

low : (c : ℕ) (rest : List ℕ) (n : Bool) → c < 128 → is_name_character c ≡ n → name_characters (c ∷ rest) ≡ (if n then c else 95) ∷ name_characters rest
low c rest true h e = step c rest true false e (low_first c h)
low c rest false h e = step c rest false false e (low_first c h)

wide : (c : ℕ) (rest : List ℕ) (bytes : List ℕ) → 128 ≤ c → name_characters bytes ≡ 95 ∷ name_characters rest → name_characters bytes ≡ name_character c ∷ name_characters rest
wide c rest bytes h e = e ∙ ap (λ (n : Bool). (if n then c else 95) ∷ name_characters rest) (sym (high_name c h))

one_char : (c : ℕ) (rest : List ℕ) → name_characters (encode c ++ rest) ≡ name_character c ∷ name_characters rest
unfolding encode
one_char c rest =
    let Kept = λ (bytes : List ℕ). name_characters (bytes ++ rest) ≡ name_character c ∷ name_characters rest in
    let last = later c rest in
    let two = later (c / 64) (next c ∷ rest) ∙ last in
    let three = later (c / 4096) (next (c / 64) ∷ next c ∷ rest) ∙ two in
    cond_both (ltb c 128) (c ∷ []) _ Kept (λ e. low c rest (is_name_character c) (ltb-true c 128 e) refl)
    (λ big. let far : 128 ≤ c = ltb-false c 128 big in cond_both (ltb c 2048) ((192 + c / 64) ∷ next c ∷ []) _ Kept
    (λ _. wide c rest ((192 + c / 64) ∷ next c ∷ rest) far (first (192 + c / 64) (next c ∷ rest) (omega arith) ∙ ap (λ z. 95 ∷ z) last))
    (λ _. cond_both (ltb c 65536) ((224 + c / 4096) ∷ next (c / 64) ∷ next c ∷ []) ((240 + c / 262144) ∷ next (c / 4096) ∷ next (c / 64) ∷ next c ∷ []) Kept
    (λ _. wide c rest ((224 + c / 4096) ∷ next (c / 64) ∷ next c ∷ rest) far (first (224 + c / 4096) (next (c / 64) ∷ next c ∷ rest) (omega arith) ∙ ap (λ z. 95 ∷ z) two))
    (λ _. wide c rest ((240 + c / 262144) ∷ next (c / 4096) ∷ next (c / 64) ∷ next c ∷ rest) far (first (240 + c / 262144) (next (c / 4096) ∷ next (c / 64) ∷ next c ∷ rest) (omega arith) ∙ ap (λ z. 95 ∷ z) three))))

all_chars : (cs : List ℕ) → name_characters (encodes cs) ≡ map name_character cs
all_chars [] = refl
all_chars (c ∷ cs) = one_char c (encodes cs) ∙ ap (λ z. name_character c ∷ z) (all_chars cs)

pub case_of_label-is : (label : List ℕ) → IsUtf8 label → case_of_label label ≡ enum_case_of label
unfolding case_of_label enum_case_of
case_of_label-is label u =
    ap (λ cs. begun (map to_ascii_uppercase (separated cs)))
    (sym (ap name_characters u.1.1) ∙ all_chars u.0 ∙ ap (map name_character) (sym (chars-encodes u.0 u.1.0) ∙ ap chars u.1.1))
