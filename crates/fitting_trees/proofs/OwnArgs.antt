-- The arguments that are collected for a field are its own.
use Rattle.std.proofs.Common.{ℕ, ◌+◌, ◌<◌, ◌≤◌, List, [], ◌∷◌, length, Option, Some, None, arith}
use Rattle.std.specs.Prelude.{Ok, Err}
use Rattle.gql_collect.specs.Asking.{argument_in}
use Rattle.gql_collect.specs.Growing.{with_literal, with_arg, args_from}
use Rattle.gql_input.specs.Coercions.{Coercion}
use Rattle.gql_input.specs.declared.argument.ArgValue.{ArgValue}
use Rattle.gql_reader.specs.declared.tree.Argument.{Argument}
use Rattle.gql_reader.specs.declared.tree.Value as tree
use Rattle.pg_base.specs.Lists.{Each}
use Rattle.pg_base.specs.Schema.{SchemaParts}
use Rattle.pg_base.specs.declared.schema.ArgDef.{ArgDef}
use Rattle.place_tree.specs.declared.place.PlaceArg.{PlaceArg}

abbrev AreBelow : ℕ → List PlaceArg → Type 0
AreBelow n args = Each (λ (a : PlaceArg). a.arg < n) args

literal_below : (k n : ℕ) (c : Coercion ArgValue) (args : List PlaceArg) → k < n → AreBelow n args → AreBelow n (with_literal k c args)
literal_below k n (Ok v) args lt h = (lt, h)
literal_below k n (Err fault) args lt h = h

arg_below : (schema : SchemaParts) (k n : ℕ) (d : ArgDef) (o : Option tree.Value) (args : List PlaceArg) → k < n → AreBelow n args → AreBelow n (with_arg schema k d o args)
arg_below schema k n d None args lt h = h
arg_below schema k n d (Some v) args lt h = literal_below k n _ args lt h

pub args_below : (schema : SchemaParts) (arguments : List Argument) (k n : ℕ) (defs : List ArgDef) → k + length defs ≤ n → AreBelow n (args_from schema arguments k defs)
args_below schema arguments k n [] le = tt
args_below schema arguments k n (d ∷ defs) le =
    arg_below schema k n d (argument_in arguments d.name) (args_from schema arguments (k + 1) defs) (omega (arith, le)) (args_below schema arguments (k + 1) n defs (omega (arith, le)))
