-- The items of a list and the fields of an object, as the code goes through them.
use Rattle.std.proofs.Common.{◌≡◌, Bool, ◌||◌, List, [], ◌∷◌, refl, sym, ap, ◌∙◌}
use Rattle.pg_base.specs.declared.value.Value.{Value}
use Rattle.pg_base.specs.declared.value.Value.TheVariants as made
use Rattle.pg_base.specs.declared.value.Value.TheBlock.{hidden-the_row-Value-0, hidden-the_row-Member-1}
use Rattle.pg_base.specs.declared.value.Member.{Member}
use Rattle.pg_base.specs.declared.schema.TypeRef.{TypeRef}
use Rattle.pg_base.specs.declared.schema.ArgDef.{ArgDef}
use Rattle.pg_base.specs.Schema.{SchemaParts, kind_at, inputs_of}
use Rattle.pg_base.specs.Value.{item_list, member_list, items_of, members_of}
use Rattle.place_tree.specs.Arguments.{has_null, item_has_null, member_has_null, item_type, type_in}
use Rattle.list_execution.specs.Listed.{some_null, some_member_null}

items_row : (items : List Value) → item_list (hidden-the_row-Value-0 items) ≡ items
unfolding hidden-the_row-Value-0 denote.Hole.Carrier.hidden
items_row [] = refl
items_row (v ∷ items) = ap (λ vs. v ∷ vs) (items_row items)

members_row : (members : List Member) → member_list (hidden-the_row-Member-1 members) ≡ members
unfolding hidden-the_row-Member-1 denote.Hole.Carrier.hidden
members_row [] = refl
members_row (m ∷ members) = ap (λ ms. m ∷ ms) (members_row members)

list_made : (items : List Value) → items_of (made.List items) ≡ items
unfolding hidden-the_row-Value-0 denote.Hole.Carrier.hidden
list_made items = items_row items

object_made : (members : List Member) → members_of (made.Object members) ≡ members
unfolding hidden-the_row-Member-1 denote.Hole.Carrier.hidden
object_made members = members_row members

pub items_are : (v : Value) (items slice : List Value) → v ≡ made.List items → slice ≡ items → slice ≡ items_of v
items_are v items slice is same = same ∙ sym (list_made items) ∙ sym (ap items_of is)

pub members_are : (v : Value) (members slice : List Member) → v ≡ made.Object members → slice ≡ members → slice ≡ members_of v
members_are v members slice is same = same ∙ sym (object_made members) ∙ sym (ap members_of is)

-- ---- nulls

nulls_row : (schema : SchemaParts) (ty : TypeRef) (items : List Value) → item_has_null schema ty (hidden-the_row-Value-0 items) ≡ some_null schema ty items
unfolding hidden-the_row-Value-0 denote.Hole.Carrier.hidden
nulls_row schema ty [] = refl
nulls_row schema ty (v ∷ items) = ap (λ b. has_null schema ty v || b) (nulls_row schema ty items)

member_nulls_row : (schema : SchemaParts) (inputs : List ArgDef) (members : List Member) → member_has_null schema inputs (hidden-the_row-Member-1 members) ≡ some_member_null schema inputs members
unfolding hidden-the_row-Member-1 denote.Hole.Carrier.hidden
member_nulls_row schema inputs [] = refl
member_nulls_row schema inputs (m ∷ members) = ap (λ b. has_null schema (type_in inputs m.name) m.value || b) (member_nulls_row schema inputs members)

null_list : (schema : SchemaParts) (ty : TypeRef) (items : List Value) → has_null schema ty (made.List items) ≡ some_null schema (item_type ty) items
unfolding hidden-the_row-Value-0 denote.Hole.Carrier.hidden
null_list schema ty items = nulls_row schema (item_type ty) items

null_object : (schema : SchemaParts) (ty : TypeRef) (members : List Member) → has_null schema ty (made.Object members) ≡ some_member_null schema (inputs_of (kind_at schema ty.name)) members
unfolding hidden-the_row-Member-1 denote.Hole.Carrier.hidden
null_object schema ty members = member_nulls_row schema (inputs_of (kind_at schema ty.name)) members

pub null_in_list : (schema : SchemaParts) (ty item : TypeRef) (v : Value) (items slice : List Value) (b : Bool)
    → v ≡ made.List items → slice ≡ items → item ≡ item_type ty → b ≡ some_null schema item slice → b ≡ has_null schema ty v
null_in_list schema ty item v items slice b is same of e =
    e ∙ ap (λ t. some_null schema t slice) of ∙ ap (some_null schema (item_type ty)) same ∙ sym (null_list schema ty items) ∙ sym (ap (has_null schema ty) is)

pub null_in_object : (schema : SchemaParts) (ty : TypeRef) (v : Value) (inputs : List ArgDef) (members slice : List Member) (b : Bool)
    → v ≡ made.Object members → slice ≡ members → inputs ≡ inputs_of (kind_at schema ty.name) → b ≡ some_member_null schema inputs slice → b ≡ has_null schema ty v
null_in_object schema ty v inputs members slice b is same of e =
    e ∙ ap (λ l. some_member_null schema l slice) of ∙ ap (some_member_null schema (inputs_of (kind_at schema ty.name))) same ∙ sym (null_object schema ty members) ∙ sym (ap (has_null schema ty) is)
