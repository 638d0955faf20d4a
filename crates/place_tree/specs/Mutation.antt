-- The data of a mutation, from what each of its fields gave.
use Rattle.std.specs.Prelude.{ℕ, ◌==◌, if◌then◌else◌, is_none, List, [], ◌∷◌}
use Rattle.pg_base.specs.Base.{BaseParts}
use Rattle.pg_base.specs.Schema.{type_name_at}
use Rattle.place_tree.specs.Fields.{typename}
use Rattle.place_tree.specs.declared.place.Place.{Place}
use Rattle.place_tree.specs.Fold.{text}
use Rattle.place_tree.specs.Response.{Value, leaf, failed, object, Members, no_members, member}

-- a payload, or the message of a refusal
pub data Done : Type 0 where
  Gave : Members → Done
  Refused : List ℕ → Done

abbrev pub done_value : Place → Done → Value
done_value p (Gave members) = object members
done_value p (Refused message) = failed message p.pos

abbrev pub type_name : BaseParts → Place → Value
type_name base p = leaf (text (type_name_at base.schema p.ty))

-- the members of the fields at the root, in their order; `__typename` gives the name of its type
abbrev pub mutation_data : BaseParts → List Place → List Done → Members
mutation_data base [] gave = no_members
mutation_data base (p ∷ places) [] =
    if is_none p.parent then
    (if p.field == typename then member p.key (type_name base p) (mutation_data base places []) else no_members)
    else mutation_data base places []
mutation_data base (p ∷ places) (d ∷ gave) =
    if is_none p.parent then
    (if p.field == typename then member p.key (type_name base p) (mutation_data base places (d ∷ gave))
    else member p.key (done_value p d) (mutation_data base places gave))
    else mutation_data base places (d ∷ gave)
