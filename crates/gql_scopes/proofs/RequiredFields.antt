-- The fields of an object, as a list.
use Rattle.std.proofs.Common.{◌≡◌, ℕ, Bool, ◌&&◌, ◌||◌, not, List, [], ◌∷◌, Option, Some, None, refl, sym, ap, ◌∙◌}
use Rattle.std.specs.List.{list_any}
use Rattle.std.specs.Str.{bytes_eq}
use Rattle.pg_base.specs.Schema.{SchemaParts}
use Rattle.pg_base.specs.declared.schema.ArgDef.{ArgDef}
use Rattle.gql_reader.specs.declared.tree.ObjectField.{ObjectField}
use Rattle.gql_reader.specs.declared.tree.ValueKind.{ValueKind}
use Rattle.gql_reader.specs.declared.tree.ValueKind.TheVariants as made
use Rattle.gql_reader.specs.declared.tree.ValueKind.TheBlock.{hidden-the_row-ObjectField-1}
use Rattle.gql_types.specs.Types.{Ty, inputs_at}
use Rattle.gql_scopes.specs.Conditions.{if_some}
use Rattle.gql_scopes.specs.GivenFields.{is_given_as, is_lacking}
use Rattle.gql_scopes.specs.InputObjectRequiredFields.{is_null, gives, lacks, lacks_field}

gives_row : (fields : List ObjectField) (name : List ℕ) → gives (hidden-the_row-ObjectField-1 fields) name ≡ list_any (is_given_as name) fields
unfolding hidden-the_row-ObjectField-1 denote.Hole.Carrier.hidden
gives_row [] name = refl
gives_row (f ∷ fields) name = ap (λ b. (bytes_eq f.name name && not (is_null f.value.kind)) || b) (gives_row fields name)

lacks_row : (fields : List ObjectField) (defs : List ArgDef) → lacks (hidden-the_row-ObjectField-1 fields) defs ≡ list_any (is_lacking fields) defs
lacks_row fields [] = refl
lacks_row fields (d ∷ defs) =
    ap (λ b. (d.ty.not_null && not b) || lacks (hidden-the_row-ObjectField-1 fields) defs) (gives_row fields d.name)
    ∙ ap (λ b. is_lacking fields d || b) (lacks_row fields defs)

lacks_if : (fields : List ObjectField) (o : Option (List ArgDef)) → if_some (lacks (hidden-the_row-ObjectField-1 fields)) o ≡ if_some (λ d. list_any (is_lacking fields) d) o
lacks_if fields None = refl
lacks_if fields (Some defs) = lacks_row fields defs

made_lacks : (schema : SchemaParts) (ty : Option Ty) (fields : List ObjectField) → lacks_field schema ty (made.Object fields) ≡ if_some (λ d. list_any (is_lacking fields) d) (inputs_at schema ty)
unfolding hidden-the_row-ObjectField-1 denote.Hole.Carrier.hidden
made_lacks schema ty fields = lacks_if fields (inputs_at schema ty)

pub lacks_is : (schema : SchemaParts) (ty : Option Ty) (kind : ValueKind) (fields slice : List ObjectField) (defs : Option (List ArgDef)) (r : Bool)
    → kind ≡ made.Object fields → slice ≡ fields → defs ≡ inputs_at schema ty → r ≡ if_some (λ d. list_any (is_lacking slice) d) defs → r ≡ lacks_field schema ty kind
lacks_is schema ty kind fields slice defs r is same at e =
    e
    ∙ ap (λ o. if_some (λ d. list_any (is_lacking slice) d) o) at
    ∙ ap (λ l. if_some (λ d. list_any (is_lacking l) d) (inputs_at schema ty)) same
    ∙ sym (made_lacks schema ty fields)
    ∙ sym (ap (lacks_field schema ty) is)
