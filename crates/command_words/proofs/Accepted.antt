-- Words that are accepted are those of a command.
use Rattle.std.proofs.Common.{◌≡◌, ◌∙◌, Bool, cond, true, false, is_some, refl, sym, ap, List, [], ◌∷◌, Option, Some, None, ◌&&◌, ◌||◌, not, option_map, option_and_then, length, codes, arith, eqb-true}
use Rattle.std.specs.Option.{option_map_or}
use Rattle.clap.specs.Walk.{Row, Rule, Text, first_of, is_empty, nothing_held, rows_after, stop_after}
use Rattle.clap.specs.Simple.{App, HasMatchesOf, Shape, is_simple, subcommand_of, subcommand_rows_of, built, built_leaf, entered, inherited, marked_built, names_of, rows_at, with_leaf_noted}
use Rattle.clap.specs.Kinds.{check_kinds}
use Rattle.clap.specs.Takes.{is_given}
use Rattle.clap.specs.Faults.{entered_fault, fault_of, level_fault}
use Rattle.clap.specs.declared.error.kind.ErrorKind.{ErrorKind}
use Rattle.clap.specs.declared.error.kind.ErrorKind.TheVariants.{MissingRequiredArgument, MissingSubcommand}
use Rattle.std.specs.Str.{bytes_eq}
use Rattle.clap.specs.declared.parser.matches.ArgMatches.{ArgMatches}
use Rattle.command_words.specs.Commands.{Command, accepts, check, schema, query, explain, command_at, command_of, commands, named, request_of, request_with, script_of, command, request, script_only}
use Rattle.command_words.proofs.Full.{Ones, choose, given_first, level_full}

-- ---- what a level with no fault has

one_is_given : (g : Bool) (k : ErrorKind) → cond (not g || false) (k ∷ []) [] ≡ [] → g ≡ true
one_is_given true k e = refl
one_is_given false k e = absurd (let bad : k ∷ [] ≡ [] = e in cc)

two_are_given : (g f : Bool) (k : ErrorKind) → cond (not g || (not f || false)) (k ∷ []) [] ≡ [] → (g ≡ true) × (f ≡ true)
two_are_given true true k e = (refl, refl)
two_are_given true false k e = absurd (let bad : k ∷ [] ≡ [] = e in cc)
two_are_given false f k e = absurd (let bad : k ∷ [] ≡ [] = e in cc)

mapped : {A B : Type 0} (f : A → B) (o : Option A) → is_some o ≡ true → is_some (option_map f o) ≡ true
mapped f None e = e
mapped f (Some x) e = refl

request_at : (rows : List Row) (script document : Option Text) → is_some script ≡ true → is_some document ≡ true
    → is_some (option_and_then (λ s. option_map (request_with rows s) document) script) ≡ true
request_at rows None document e f = e
request_at rows (Some s) document e f = mapped (request_with rows s) document f

-- ---- each command

abbrev above : Shape
above = with_leaf_noted (marked_built commands.top)

-- a command as it stands in the set that is built
abbrev leaf : Text → List Rule → Shape
leaf name rules = built_leaf (inherited above (command name rules))

script_ones : (name : Text) → Ones (leaf name script_only).rules
script_ones name = (record { action = refl; least = refl; most = refl }, tt)

request_ones : (name : Text) → Ones (leaf name request).rules
request_ones name = (
  record { action = refl; least = refl; most = refl },
  (
    record { action = refl; least = refl; most = refl },
    (record { action = refl; least = refl; most = refl }, (record { action = refl; least = refl; most = refl }, tt)),
  ),
)

script_there : (name : Text) (words : List Text) → level_fault (leaf name script_only) [] nothing_held words false [] ≡ []
    → is_some (script_of (rows_after (leaf name script_only).rules [] words)) ≡ true
script_there name words e =
    let rows = rows_after (leaf name script_only).rules [] words in
    let level = level_full (leaf name script_only) [] words false [] (script_ones name) e in
    given_first (codes "script") rows level.1 (one_is_given (is_given (codes "script") rows) MissingRequiredArgument level.2)

request_there : (name : Text) (words : List Text) → level_fault (leaf name request) [] nothing_held words false [] ≡ []
    → is_some (request_of (rows_after (leaf name request).rules [] words)) ≡ true
request_there name words e =
    let rows = rows_after (leaf name request).rules [] words in
    let level = level_full (leaf name request) [] words false [] (request_ones name) e in
    let given = two_are_given (is_given (codes "script") rows) (is_given (codes "document") rows) MissingRequiredArgument level.2 in
    request_at rows (first_of (codes "script") rows) (first_of (codes "document") rows) (given_first (codes "script") rows level.1 given.0)
    (given_first (codes "document") rows level.1 given.1)

abbrev command_from : Option (Text × List Row) → Option Command
command_from = option_and_then (λ p. command_at p.0 p.1)

-- where the command s, if any, is entered with no fault, what it needs stands there
abbrev Good : List Text → Option Shape → Type 0
Good words o = option_map_or (λ s. level_fault s [] nothing_held words false []) o [] ≡ [] → is_some (option_map (λ s. rows_at s words) o) ≡ true
    → is_some (command_from (option_map (λ s. rows_at s words) o)) ≡ true

good_check : (words : List Text) → Good words (Some (leaf (codes "check") script_only))
good_check words e _ = mapped check (script_of (rows_after (leaf (codes "check") script_only).rules [] words)) (script_there (codes "check") words e)

good_schema : (words : List Text) → Good words (Some (leaf (codes "schema") script_only))
good_schema words e _ = mapped schema (script_of (rows_after (leaf (codes "schema") script_only).rules [] words)) (script_there (codes "schema") words e)

good_query : (words : List Text) → Good words (Some (leaf (codes "query") request))
good_query words e _ = mapped query (request_of (rows_after (leaf (codes "query") request).rules [] words)) (request_there (codes "query") words e)

good_explain : (words : List Text) → Good words (Some (leaf (codes "explain") request))
good_explain words e _ = mapped explain (request_of (rows_after (leaf (codes "explain") request).rules [] words)) (request_there (codes "explain") words e)

-- ---- the set

entered_good : (stop : Option (Text × List Text)) → entered_fault (built commands) stop ≡ [] → is_some (entered (built commands) stop) ≡ true
    → is_some (command_from (entered (built commands) stop)) ≡ true
entered_good None e there = there
entered_good (Some p) e there =
    let words = p.1 in
    choose (Good words) (bytes_eq (codes "check") p.0 || false) _ _ (good_check words)
    (choose (Good words) (bytes_eq (codes "schema") p.0 || false) _ _ (good_schema words)
    (choose (Good words) (bytes_eq (codes "query") p.0 || false) _ _ (good_query words)
    (choose (Good words) (bytes_eq (codes "explain") p.0 || false) (Some (leaf (codes "explain") request)) None (good_explain words) (λ _ bad. bad)))) e there

is_entered : (b wants : Bool) → check_kinds (not b && false) (not b && true) wants ≡ [] → b ≡ true
is_entered true wants e = refl
is_entered false wants e = absurd (let bad : MissingSubcommand ∷ [] ≡ [] = e in cc)

no_fault_good : (words : List Text) → fault_of commands words ≡ [] → is_some (named words) ≡ true
no_fault_good words e =
    let stop = stop_after (built commands).top.rules (names_of (built commands)) words in
    let none : Ones (built commands).top.rules = tt in
    let level = level_full (built commands).top (names_of (built commands)) words (is_some (entered (built commands) stop))
    (entered_fault (built commands) stop) none e in
    entered_good stop level.0 (is_entered (is_some (entered (built commands) stop)) false level.2)

empty_is : {A : Type 0} (xs : List A) → is_empty xs ≡ true → xs ≡ []
empty_is [] e = refl
empty_is (x ∷ xs) e = absurd (let same = eqb-true (length (x ∷ xs)) 0 e in omega arith)

accepted_at : (words : List Text) (b : Bool) → accepts words ≡ b → is_some (cond b (named words) None) ≡ b
accepted_at words true e = no_fault_good words (empty_is (fault_of commands words) e)
accepted_at words false e = refl

pub accepted_named : (words : List Text) → is_some (command_of words) ≡ accepts words
accepted_named words = accepted_at words (accepts words) refl

-- where the words name no command that is whole, they aren't accepted
unnamed : (words : List Text) (b : Bool) → named words ≡ None → is_some (cond b (named words) None) ≡ b → b ≡ false
unnamed words true e some = absurd (let bad : false ≡ true = sym (ap is_some e) ∙ some in cc)
unnamed words false e some = refl

refused_at : (words : List Text) → None ≡ named words → accepts words ≡ false
refused_at words e = unnamed words (accepts words) (sym e) (accepted_named words)

-- ---- what a parse gives

as_named : (a : App) (words : List Text) (m : ArgMatches) (r : Option Command) → a ≡ commands → HasMatchesOf a words m
    → r ≡ command_from (subcommand_rows_of m) → r ≡ named words
as_named a words m r same has e =
    let of_set : subcommand_of a words ≡ subcommand_of commands words = ap (λ x. subcommand_of x words) same in
    e ∙ ap command_from ((has (ap is_simple same)).1 ∙ of_set)

pub refused_when : (a : App) (words : List Text) (m : ArgMatches) → a ≡ commands → HasMatchesOf a words m
    → None ≡ command_from (subcommand_rows_of m) → accepts words ≡ false
refused_when a words m same has e = refused_at words (as_named a words m None same has e)
