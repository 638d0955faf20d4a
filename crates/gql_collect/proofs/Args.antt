-- Arguments, appended one by one.
use Rattle.std.proofs.Common.{◌≡◌, ℕ, ◌+◌, ◌<◌, List, [], ◌++◌, length, get_or, drop, Option, Some, None, Ok, Err, refl, sym, ap, ◌∙◌, append_assoc}
use Rattle.pg_base.proofs.ListSteps.{drop-item}
use Rattle.pg_base.specs.Schema.{SchemaParts}
use Rattle.pg_base.specs.declared.schema.ArgDef.{ArgDef}
use Rattle.gql_reader.specs.declared.tree.Argument.{Argument}
use Rattle.gql_reader.specs.declared.tree.Value as written
use Rattle.gql_input.specs.declared.argument.ArgValue.{ArgValue}
use Rattle.gql_input.specs.Coercions.{Coercion}
use Rattle.place_tree.specs.declared.place.PlaceArg.{PlaceArg}
use Rattle.gql_types.specs.Types.{ty_of}
use Rattle.gql_input.specs.Literals.{literal_at}
use Rattle.gql_collect.specs.Asking.{argument_in}
use Rattle.gql_collect.specs.Growing.{with_literal, with_arg, args_from}

literal_seam : (k : ℕ) (c : Coercion ArgValue) (rest : List PlaceArg) → with_literal k c rest ≡ with_literal k c [] ++ rest
literal_seam k (Ok v) rest = refl
literal_seam k (Err fault) rest = refl

arg_seam : (schema : SchemaParts) (k : ℕ) (d : ArgDef) (o : Option written.Value) (rest : List PlaceArg) → with_arg schema k d o rest ≡ with_arg schema k d o [] ++ rest
arg_seam schema k d None rest = refl
arg_seam schema k d (Some v) rest = literal_seam k (literal_at schema v.kind (ty_of d.ty)) rest

module _ (schema : SchemaParts) (arguments : List Argument) (defs : List ArgDef) (i : ℕ) (args total : List PlaceArg)
    (so_far : (args ++ args_from schema arguments i (drop i defs)) ≡ total) where
  pub arg_turn : (d : ArgDef) (new : List PlaceArg) → i < length defs → d ≡ get_or defs i d
      → new ≡ args ++ with_arg schema i d (argument_in arguments d.name) [] → (new ++ args_from schema arguments (i + 1) (drop (i + 1) defs)) ≡ total
  arg_turn d new lt is put =
      let rest : List PlaceArg = args_from schema arguments (i + 1) (drop (i + 1) defs) in
      ap (λ (l : List PlaceArg). l ++ rest) put
      ∙ append_assoc args (with_arg schema i d (argument_in arguments d.name) []) rest
      ∙ ap (λ (l : List PlaceArg). args ++ l) (sym (arg_seam schema i d (argument_in arguments d.name) rest))
      ∙ ap (λ (l : List ArgDef). args ++ args_from schema arguments i l) (sym (drop-item defs i d lt is))
      ∙ so_far
