-- The set of commands, as the crate `clap` reads a command with subcommands, and what the words of one ask for.
use Rattle.std.specs.Prelude.{Bool, true, false, if◌then◌else◌, List, [], ◌∷◌, Option, Some, None}
use Rattle.std.specs.Prelude.{option_map, option_and_then, codes}
use Rattle.std.specs.Str.{bytes_eq}
use Rattle.clap.specs.Walk.{Row, Rule, Text, first_of, is_empty}
use Rattle.clap.specs.Simple.{App, Shape, new_rule, new_shape, subcommand_of}
use Rattle.clap.specs.Faults.{fault_of}

-- ---- the set

-- a positional that has to stand there
abbrev pub positional : Text → Rule
positional name = record (new_rule name) { required = true }

-- `--name VALUE` or `--name=VALUE`
abbrev pub option : Text → Rule
option name = record (new_rule name) { long = Some name }

-- SCRIPT
abbrev pub script_only : List Rule
script_only = positional (codes "script") ∷ []

-- SCRIPT DOC [--operation NAME] [--variables FILE]
abbrev pub request : List Rule
request = positional (codes "script") ∷ positional (codes "document")
    ∷ option (codes "operation") ∷ option (codes "variables") ∷ []

abbrev pub command : Text → List Rule → Shape
command name rules = record (new_shape name) { rules = rules }

-- the program, before its commands are there: one of them has to be named, and neither help nor a version is asked for
abbrev pub program : App
program = record {
  top = record (new_shape (codes "graphile_prog")) {
    no_binary_name = true;
    disable_help_flag = true;
    disable_help_subcommand = true;
    disable_version_flag = true;
    subcommand_required = true;
  };
  subs = [];
}

-- the program with its commands, one level deep
abbrev pub commands : App
commands = record {
  top = record program.top { is_leaf = false };
  subs = command (codes "check") script_only ∷ command (codes "schema") script_only
      ∷ command (codes "query") request ∷ command (codes "explain") request ∷ [];
}

-- no step of reading the words as a command of the set fails
abbrev pub accepts : List Text → Bool
accepts words = is_empty (fault_of commands words)

-- ---- what the words of a command ask for

-- the files of the script and of the document, and where they are given the operation and the file of the variables
pub record Request : Type 0 where
  pub script : Text
  pub document : Text
  pub operation : Option Text
  pub variables : Option Text

pub data Command : Type 0 where
  check : Text → Command
  schema : Text → Command
  query : Request → Command
  explain : Request → Command

abbrev pub script_of : List Row → Option Text
script_of = first_of (codes "script")

abbrev pub request_with : List Row → Text → Text → Request
request_with rows script document = record {
  script = script;
  document = document;
  operation = first_of (codes "operation") rows;
  variables = first_of (codes "variables") rows;
}

abbrev pub request_of : List Row → Option Request
request_of rows = option_and_then (λ script. option_map (request_with rows script) (first_of (codes "document") rows))
    (script_of rows)

-- the command of this name, with the values that were found for it
abbrev pub command_at : Text → List Row → Option Command
command_at name rows = if bytes_eq name (codes "check") then option_map check (script_of rows)
    else (if bytes_eq name (codes "schema") then option_map schema (script_of rows)
    else (if bytes_eq name (codes "query") then option_map query (request_of rows)
    else (if bytes_eq name (codes "explain") then option_map explain (request_of rows) else None)))

-- the command that the words name, with its values
abbrev pub named : List Text → Option Command
named words = option_and_then (λ p. command_at p.0 p.1) (subcommand_of commands words)

-- the command of the words, where they are accepted
abbrev pub command_of : List Text → Option Command
command_of words = if accepts words then named words else None
