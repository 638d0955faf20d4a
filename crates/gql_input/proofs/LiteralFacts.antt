-- Literals at their types, as the code reads them.
use Rattle.std.proofs.Common.{◌≡◌, List, [], ◌∷◌, Option, Some, None, refl, sym, ap, ◌∙◌}
use Rattle.gql_reader.specs.declared.tree.Value as tree
use Rattle.gql_reader.specs.declared.tree.ObjectField.{ObjectField}
use Rattle.gql_reader.specs.declared.tree.ValueKind.{ValueKind}
use Rattle.gql_reader.specs.declared.tree.ValueKind.TheVariants as made
use Rattle.gql_reader.specs.declared.tree.ValueKind.TheBlock.{hidden-the_row-Value-0, hidden-the_row-ObjectField-1}
use Rattle.pg_base.specs.Schema.{SchemaParts}
use Rattle.gql_types.specs.Types.{Ty, innermost, item_of}
use Rattle.gql_input.specs.Coercions.{Coercion, map_ok, and_more, in_lists, list_at}
use Rattle.gql_input.specs.Inputs.{Reads, reads_at}
use Rattle.gql_input.specs.Listed.{each_literal, each_field}
use Rattle.gql_input.specs.Literals.{many, one, literal_at, literals_at, literal_fields, object_at}

-- ---- rows and lists

pub items_row : (schema : SchemaParts) (items : List tree.Value) (ty : Ty) → literals_at schema (hidden-the_row-Value-0 items) ty ≡ each_literal schema items ty
unfolding hidden-the_row-Value-0 denote.Hole.Carrier.hidden
items_row schema [] ty = refl
items_row schema (v ∷ items) ty = ap (and_more (literal_at schema v.kind ty)) (items_row schema items ty)

fields_row : (schema : SchemaParts) (fields : List ObjectField) → literal_fields schema (hidden-the_row-ObjectField-1 fields) ≡ each_field schema fields
unfolding hidden-the_row-ObjectField-1 denote.Hole.Carrier.hidden
fields_row schema [] = refl
fields_row schema (f ∷ fields) = ap (λ gs. record { name = f.name; at = literal_at schema f.value.kind } ∷ gs) (fields_row schema fields)

-- ---- lists

same_list : {V : Type 0} (wrap : List V → V) (at : Option Ty) (f g : Ty → Coercion (List V)) → ((t : Ty) → f t ≡ g t) → list_at wrap at f ≡ list_at wrap at g
same_list wrap None f g e = refl
same_list wrap (Some t) f g e = ap (map_ok wrap) (e t)

list_made : (schema : SchemaParts) (items : List tree.Value) (ty : Ty) → literal_at schema (made.List items) ty ≡ list_at many (item_of ty) (each_literal schema items)
unfolding hidden-the_row-Value-0 denote.Hole.Carrier.hidden
list_made schema items ty = same_list many (item_of ty) (literals_at schema (hidden-the_row-Value-0 items)) (each_literal schema items) (items_row schema items)

pub list_is : (schema : SchemaParts) (kind : ValueKind) (items slice : List tree.Value) (ty : Ty) (at : Option Ty)
    → kind ≡ made.List items → slice ≡ items → at ≡ item_of ty → list_at many at (each_literal schema slice) ≡ literal_at schema kind ty
list_is schema kind items slice ty at is same inner =
    ap (λ o. list_at many o (each_literal schema slice)) inner
    ∙ ap (λ l. list_at many (item_of ty) (each_literal schema l)) same
    ∙ sym (list_made schema items ty)
    ∙ sym (ap (λ k. literal_at schema k ty) is)

-- ---- objects

object_made : (schema : SchemaParts) (fields : List ObjectField) (ty : Ty)
    → literal_at schema (made.Object fields) ty ≡ map_ok (in_lists one ty) (object_at (reads_at schema (innermost ty)) (each_field schema fields))
unfolding hidden-the_row-ObjectField-1 denote.Hole.Carrier.hidden
object_made schema fields ty = ap (λ g. map_ok (in_lists one ty) (object_at (reads_at schema (innermost ty)) g)) (fields_row schema fields)

pub object_is : (schema : SchemaParts) (kind : ValueKind) (fields slice : List ObjectField) (ty : Ty) (reads : Reads)
    → kind ≡ made.Object fields → slice ≡ fields → reads ≡ reads_at schema (innermost ty)
    → map_ok (in_lists one ty) (object_at reads (each_field schema slice)) ≡ literal_at schema kind ty
object_is schema kind fields slice ty reads is same of =
    ap (λ r. map_ok (in_lists one ty) (object_at r (each_field schema slice))) of
    ∙ ap (λ l. map_ok (in_lists one ty) (object_at (reads_at schema (innermost ty)) (each_field schema l))) same
    ∙ sym (object_made schema fields ty)
    ∙ sym (ap (λ k. literal_at schema k ty) is)
