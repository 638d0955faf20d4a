-- Which selections `skip` and `include` leave in (GraphQL October 2021, section 6.3.2), and the variables that this
-- asks.
use Rattle.std.specs.Prelude.{ℕ, Bool, true, false, if◌then◌else◌, List, [], ◌∷◌, ◌++◌, Option, Some, None, codes}
use Rattle.std.specs.Str.{bytes_eq}
use Rattle.indexmap.specs.IndexSet.{insert_key}
use Rattle.gql_reader.specs.declared.tree.Argument.{Argument}
use Rattle.gql_reader.specs.declared.tree.Directive.{Directive}
use Rattle.gql_reader.specs.declared.tree.Value as written
use Rattle.gql_reader.specs.declared.tree.ValueKind.{ValueKind}
use Rattle.gql_reader.specs.declared.tree.ValueKind.TheVariants as kind
use Rattle.pg_base.specs.declared.value.Value as held
use Rattle.pg_base.specs.declared.value.Value.TheVariants as value
use Rattle.pg_base.specs.declared.vars.Vars.{Vars}
use Rattle.pg_base.specs.Vars.{variable}

-- the value of the first argument with the name
abbrev pub argument_in : List Argument → List ℕ → Option written.Value
argument_in [] name = None
argument_in (a ∷ arguments) name = if bytes_eq a.name name then Some a.value else argument_in arguments name

-- the first directive with the name
abbrev pub directive_in : List Directive → List ℕ → Option Directive
directive_in [] name = None
directive_in (d ∷ directives) name = if bytes_eq d.name name then Some d else directive_in directives name

abbrev pub if_of : Directive → Option written.Value
if_of d = argument_in d.arguments (codes "if")

-- ---- an `if`

abbrev pub is_true : Option held.Value → Bool
is_true (Some (value.Bool b)) = b
is_true _ = false

-- whether it is true: a null, and a variable without a value, count as false
abbrev pub kind_holds : Vars → ValueKind → Bool
kind_holds vars (kind.Boolean b) = b
kind_holds vars (kind.Variable name) = is_true (variable vars name)
kind_holds vars _ = false

abbrev pub holds : Vars → Option written.Value → Bool
holds vars None = false
holds vars (Some v) = kind_holds vars v.kind

abbrev pub kind_asks : ValueKind → List (List ℕ)
kind_asks (kind.Variable name) = name ∷ []
kind_asks _ = []

-- the variable that it asks
abbrev pub asks : Option written.Value → List (List ℕ)
asks None = []
asks (Some v) = kind_asks v.kind

-- ---- a selection's directives

-- whether a selection is left in, and the variables that were asked
pub record Choice : Type 0 where
  pub kept : Bool
  pub asked : List (List ℕ)

abbrev pub by_include : Vars → Option Directive → Choice
by_include vars None = record { kept = true; asked = [] }
by_include vars (Some d) = record { kept = holds vars (if_of d); asked = asks (if_of d) }

-- `include` is asked only where `skip` left the selection in
abbrev pub after_skip : Bool → List (List ℕ) → Choice → Choice
after_skip true asked choice = record { kept = false; asked = asked }
after_skip false asked choice = record { kept = choice.kept; asked = asked ++ choice.asked }

abbrev pub by_skip : Vars → Option Directive → Choice → Choice
by_skip vars None choice = choice
by_skip vars (Some d) choice = after_skip (holds vars (if_of d)) (asks (if_of d)) choice

abbrev pub included : Vars → List Directive → Choice
included vars directives = by_include vars (directive_in directives (codes "include"))

abbrev pub chosen : Vars → List Directive → Choice
chosen vars directives = by_skip vars (directive_in directives (codes "skip")) (included vars directives)

-- ---- the variables that were asked, each once

abbrev pub with_names : List (List ℕ) → List (List ℕ) → List (List ℕ)
with_names known [] = known
with_names known (name ∷ names) = with_names (insert_key bytes_eq known name) names
