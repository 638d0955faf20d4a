-- The messages of the rules of validation, by their numbers: the section of the GraphQL specification (October 2021)
-- and the rule's name there.
use Rattle.std.specs.Prelude.{ℕ, List, codes, ◌==◌, nat_lt, if◌then◌else◌}

-- sections 5.1 and 5.2, of documents and operations
abbrev pub on_executables : ℕ → List ℕ
on_executables rule =
    if rule == 1 then codes "rule 5.1.1: executable definitions"
    else (if rule == 2 then codes "rule 5.2.1.1: unique operation names"
    else (if rule == 3 then codes "rule 5.2.2.1: lone anonymous operation"
    else codes "rule 5.2.3.1: single root field"))

-- section 5.3
abbrev pub on_fields : ℕ → List ℕ
on_fields rule =
    if rule == 5 then codes "rule 5.3.1: field selections"
    else (if rule == 6 then codes "rule 5.3.2: field selection merging"
    else codes "rule 5.3.3: leaf field selections")

-- section 5.4
abbrev pub on_arguments : ℕ → List ℕ
on_arguments rule =
    if rule == 8 then codes "rule 5.4.1: argument names"
    else (if rule == 9 then codes "rule 5.4.2: argument uniqueness"
    else codes "rule 5.4.2.1: required arguments")

-- section 5.5
abbrev pub on_fragments : ℕ → List ℕ
on_fragments rule =
    if rule == 11 then codes "rule 5.5.1.1: unique fragment names"
    else (if rule == 12 then codes "rule 5.5.1.2: fragment spread type existence"
    else (if rule == 13 then codes "rule 5.5.1.3: fragments on composite types"
    else (if rule == 14 then codes "rule 5.5.1.4: fragments must be used"
    else (if rule == 15 then codes "rule 5.5.2.1: fragment spread target defined"
    else (if rule == 16 then codes "rule 5.5.2.2: fragment spreads must not form cycles"
    else codes "rule 5.5.2.3: fragment spread is possible")))))

-- section 5.6
abbrev pub on_values : ℕ → List ℕ
on_values rule =
    if rule == 18 then codes "rule 5.6.1: values of correct type"
    else (if rule == 19 then codes "rule 5.6.2: input object field names"
    else (if rule == 20 then codes "rule 5.6.3: input object field uniqueness"
    else codes "rule 5.6.4: input object required fields"))

-- section 5.7
abbrev pub on_directives : ℕ → List ℕ
on_directives rule =
    if rule == 22 then codes "rule 5.7.1: directives are defined"
    else (if rule == 23 then codes "rule 5.7.2: directives are in valid locations"
    else codes "rule 5.7.3: directives are unique per location")

-- section 5.8
abbrev pub on_variables : ℕ → List ℕ
on_variables rule =
    if rule == 25 then codes "rule 5.8.1: variable uniqueness"
    else (if rule == 26 then codes "rule 5.8.2: variables are input types"
    else (if rule == 27 then codes "rule 5.8.3: all variable uses defined"
    else (if rule == 28 then codes "rule 5.8.4: all variables used"
    else codes "rule 5.8.5: all variable usages are allowed")))

-- of the rule of the number, from 1 to 29
abbrev pub rule_message : ℕ → List ℕ
rule_message rule =
    if nat_lt rule 5 then on_executables rule
    else (if nat_lt rule 8 then on_fields rule
    else (if nat_lt rule 11 then on_arguments rule
    else (if nat_lt rule 18 then on_fragments rule
    else (if nat_lt rule 22 then on_values rule
    else (if nat_lt rule 25 then on_directives rule
    else on_variables rule)))))
