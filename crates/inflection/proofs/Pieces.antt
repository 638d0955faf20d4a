-- A name with a changed ending is three slices in a row, two of them of the name.
use Rattle.std.proofs.Common.{◌≡◌, ◌≢◌, ℕ, ◌+◌, ◌-◌, ◌<◌, ◌≤◌, true, false, List, [], ◌∷◌, ◌++◌, length, take, drop, refl, sym, ap, ◌∙◌, arith, append_assoc, length-take, length-drop}
use Rattle.std.proofs.Math.Seq.{take-add}
use Rattle.std.proofs.lemmas.Bool.{cond-true, cond-false}
use Rattle.std.proofs.lemmas.List.{length-map, take-take, nil_from_length}
use Rattle.std.specs.Char.{to_ascii_lowercase}
use Rattle.std.specs.Str.{str_to_ascii_lowercase}
use Rattle.name_rules.specs.Inflection.{Ending, singular_of, plural_of}
use Rattle.name_rules.specs.Parts.{has_some, last_part, last_part_start, last_part_end}
use Rattle.name_rules.proofs.Endings.{singular_cut-le, plural_cut-le}
use Rattle.name_rules.proofs.LastPart.{last_part_start-le, last_part_end-le}
use Rattle.inflection.specs.declared.number.Number.{Number}
use Rattle.inflection.specs.declared.number.Number.TheVariants.{Singular, Plural}
use Rattle.inflection.specs.Number.{ending_of, name_of}

pub length-last_part : (name : List ℕ) → length (last_part name) + last_part_start name ≡ last_part_end name
length-last_part name =
    let ordered = last_part_start-le name in
    let within = last_part_end-le name in
    omega (arith, length-take (last_part_end name - last_part_start name) (drop (last_part_start name) name), length-drop (last_part_start name) name)

-- the ending that the code looks for
abbrev pub ending_in : Number → List ℕ → Ending
ending_in number name = ending_of number (str_to_ascii_lowercase (last_part name))

cut-le : (number : Number) (word : List ℕ) → (ending_of number word).cut ≤ length word
cut-le Singular word = singular_cut-le word
cut-le Plural word = plural_cut-le word

pub ending_in_fits : (number : Number) (name : List ℕ) → (ending_in number name).cut + last_part_start name ≤ last_part_end name
ending_in_fits number name = omega (arith, cut-le number (str_to_ascii_lowercase (last_part name)), length-map (last_part name) to_ascii_lowercase, length-last_part name)

some_or_none : (xs : List ℕ) → 0 < length xs → has_some xs ≡ true
some_or_none [] h = absurd (omega arith)
some_or_none (x ∷ xs) h = refl

-- what stays of the name before its end
front_is : (name : List ℕ) (cut : ℕ) → cut + last_part_start name ≤ last_part_end name
    → take (last_part_start name) name ++ take (length (last_part name) - cut) (last_part name) ≡ take (last_part_end name - cut) name
front_is name cut fits =
    let start = last_part_start name in
    let len = length-last_part name in
    let kept : length (last_part name) - cut ≤ last_part_end name - start = omega arith in
    let place : start + (length (last_part name) - cut) ≡ last_part_end name - cut = omega arith in
    ap (λ l. take start name ++ l) (take-take (length (last_part name) - cut) (last_part_end name - start) (drop start name) kept)
    ∙ sym (take-add start (length (last_part name) - cut) name)
    ∙ ap (λ n. take n name) place

pieces : (name : List ℕ) (e : Ending) → e.cut + last_part_start name ≤ last_part_end name
    → take (last_part_start name) name ++ (take (length (last_part name) - e.cut) (last_part name) ++ e.added) ++ drop (last_part_end name) name
    ≡ take (last_part_end name - e.cut) name ++ e.added ++ drop (last_part_end name) name
pieces name e fits =
    ap (λ l. l ++ drop (last_part_end name) name)
    (sym (append_assoc (take (last_part_start name) name) (take (length (last_part name) - e.cut) (last_part name)) e.added) ∙ ap (λ l. l ++ e.added) (front_is name e.cut fits))

pub name_of_pieces : (number : Number) (name : List ℕ) → last_part_start name ≢ last_part_end name
    → name_of number name ≡ take (last_part_end name - (ending_in number name).cut) name ++ (ending_in number name).added ++ drop (last_part_end name) name
unfolding singular_of plural_of
name_of_pieces Singular name apart =
    let some = some_or_none (last_part name) (omega (arith, length-last_part name, last_part_start-le name)) in
    cond-true (has_some (last_part name)) _ name some ∙ pieces name (ending_in Singular name) (ending_in_fits Singular name)
name_of_pieces Plural name apart =
    let some = some_or_none (last_part name) (omega (arith, length-last_part name, last_part_start-le name)) in
    cond-true (has_some (last_part name)) _ name some ∙ pieces name (ending_in Plural name) (ending_in_fits Plural name)

none : (name : List ℕ) → last_part_start name ≡ last_part_end name → has_some (last_part name) ≡ false
none name same = ap has_some (nil_from_length (last_part name) (omega (arith, length-last_part name)))

-- a name with no part
pub name_of_same : (number : Number) (name : List ℕ) → last_part_start name ≡ last_part_end name → name_of number name ≡ name
unfolding singular_of plural_of
name_of_same Singular name same = cond-false (has_some (last_part name)) _ name (none name same)
name_of_same Plural name same = cond-false (has_some (last_part name)) _ name (none name same)

-- the same at numbers and letters that are known to be those of the ending
pub put_together : (number : Number) (name : List ℕ) (end : ℕ) (e : Ending) → last_part_start name ≢ last_part_end name → end ≡ last_part_end name → e ≡ ending_in number name
    → take (end - e.cut) name ++ e.added ++ drop end name ≡ name_of number name
put_together number name end e apart end_is e_is =
    ap (λ n. take (n - e.cut) name ++ e.added ++ drop n name) end_is ∙ ap (λ f. take (last_part_end name - f.cut) name ++ f.added ++ drop (last_part_end name) name) e_is
    ∙ sym (name_of_pieces number name apart)
