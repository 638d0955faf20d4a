-- Both directions of inflection, for code that goes either way.
use Rattle.std.specs.Prelude.{ℕ, List, ◌++◌, length, Option, option_map, find}
use Rattle.std.specs.Str.{bytes_eq}
use Rattle.name_rules.specs.Inflection.{Irregular, Ending, ending, singular_ending, plural_ending, singular_of, plural_of, regular_singular, regular_plural}
use Rattle.inflection.specs.declared.number.Number.{Number}
use Rattle.inflection.specs.declared.number.Number.TheVariants.{Singular, Plural}

abbrev pub ending_of : Number → List ℕ → Ending
ending_of Singular word = singular_ending word
ending_of Plural word = plural_ending word

abbrev pub regular_of : Number → List ℕ → Ending
regular_of Singular word = regular_singular word
regular_of Plural word = regular_plural word

abbrev pub name_of : Number → List ℕ → List ℕ
name_of Singular name = singular_of name
name_of Plural name = plural_of name

-- the end that goes and the one that comes
abbrev pub old_end : Number → Irregular → List ℕ
old_end Singular w = w.many
old_end Plural w = w.one

abbrev pub new_end : Number → Irregular → List ℕ
new_end Singular w = w.one
new_end Plural w = w.many

-- the ending of a word of irregular form
abbrev pub irregular_of : Number → List ℕ → List Irregular → Option Ending
irregular_of number word words =
    option_map (λ w. ending (length (old_end number w)) (new_end number w))
    (find (λ w. bytes_eq word (w.front ++ old_end number w)) words)
