-- What is given in JSON, as the code reads it.
use Rattle.std.proofs.Common.{◌≡◌, Option, String, Vec, BTreeMap, Global, sym, ap, ◌∙◌}
use Rattle.serde_json.specs.View.{view, items_view, members_view}
use Rattle.serde_json.specs.declared.value.Value as json
use Rattle.serde_json.proofs.Views.{view-Array, view-Object}
use Rattle.pg_base.specs.Schema.{SchemaParts}
use Rattle.gql_types.specs.Types.{Ty, innermost, item_of}
use Rattle.gql_input.specs.Coercions.{map_ok, in_lists, list_at}
use Rattle.gql_input.specs.Inputs.{Reads, reads_at}
use Rattle.gql_input.specs.Given.{many, one, given_at, items_at, given_fields, object_at}

pub list_is : (schema : SchemaParts) (given : json.Value) (items : Vec json.Value Global) (ty : Ty) (at : Option Ty)
    → given ≡ json.Array items → at ≡ item_of ty → list_at many at (items_at schema (items_view items.items)) ≡ given_at schema (view given) ty
list_is schema given items ty at is inner =
    ap (λ o. list_at many o (items_at schema (items_view items.items))) inner
    ∙ ap (λ d. given_at schema d ty) (sym (view-Array items) ∙ sym (ap view is))

pub object_is : (schema : SchemaParts) (given : json.Value) (members : BTreeMap (String Global) json.Value) (ty : Ty) (reads : Reads)
    → given ≡ json.Object members → reads ≡ reads_at schema (innermost ty)
    → map_ok (in_lists one ty) (object_at reads (given_fields schema (members_view members.entries))) ≡ given_at schema (view given) ty
object_is schema given members ty reads is of =
    ap (λ r. map_ok (in_lists one ty) (object_at r (given_fields schema (members_view members.entries)))) of
    ∙ ap (λ d. given_at schema d ty) (sym (view-Object members) ∙ sym (ap view is))
