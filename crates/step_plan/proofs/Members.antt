-- The fields of an object that is written, as the code goes through them.
use Rattle.std.proofs.Common.{◌≡◌, ℕ, List, [], ◌∷◌, Some, refl, sym, ap, ◌∙◌}
use Rattle.std.specs.List.{cons_option}
use Rattle.std.specs.Prelude.{if◌then◌else◌}
use Rattle.std.specs.Str.{bytes_eq}
use Rattle.gql_input.specs.declared.argument.ArgMember.{ArgMember}
use Rattle.gql_input.specs.declared.argument.ArgValue.{ArgValue}
use Rattle.gql_input.specs.declared.argument.ArgValue.TheVariants as arg
use Rattle.gql_input.specs.declared.argument.ArgValue.TheBlock.{hidden-the_row-ArgMember-1}
use Rattle.pg_base.specs.Schema.{SchemaParts}
use Rattle.pg_base.specs.declared.schema.ArgDef.{ArgDef}
use Rattle.pg_base.specs.declared.vars.Vars.{Vars}
use Rattle.step_plan.specs.Added.{written_in, id_name, id_in, id_written}
use Rattle.step_plan.specs.Listed.{written_slots, written_among}
use Rattle.step_plan.specs.Slots.{member_slot, member_slots, condition_over}

slots_row : (schema : SchemaParts) (vars : Vars) (inputs : List ArgDef) (columns : List ℕ) (members : List ArgMember)
    → member_slots schema vars inputs columns (hidden-the_row-ArgMember-1 members) ≡ written_slots schema vars inputs columns members
unfolding hidden-the_row-ArgMember-1 denote.Hole.Carrier.hidden
slots_row schema vars inputs columns [] = refl
slots_row schema vars inputs columns (m ∷ members) =
    ap (cons_option (member_slot schema vars inputs columns m.name m.value)) (slots_row schema vars inputs columns members)

pub slots_over : (schema : SchemaParts) (vars : Vars) (inputs : List ArgDef) (columns : List ℕ) (a : ArgValue) (members slice : List ArgMember)
    → a ≡ arg.Object members → slice ≡ members → written_slots schema vars inputs columns slice ≡ condition_over schema vars inputs columns (Some a)
slots_over schema vars inputs columns a members slice is same =
    ap (written_slots schema vars inputs columns) same
    ∙ sym (slots_row schema vars inputs columns members)
    ∙ ap (λ c. condition_over schema vars inputs columns (Some c)) (sym is)

among_row : (members : List ArgMember) (name : List ℕ) → written_in (hidden-the_row-ArgMember-1 members) name ≡ written_among members name
unfolding hidden-the_row-ArgMember-1 denote.Hole.Carrier.hidden
among_row [] name = refl
among_row (m ∷ members) name = ap (λ o. if bytes_eq m.name name then Some m.value else o) (among_row members name)

pub id_among_in : (a : ArgValue) (members slice : List ArgMember) → a ≡ arg.Object members → slice ≡ members
    → id_written (written_among slice id_name) ≡ id_in (Some a)
id_among_in a members slice is same =
    ap (λ l. id_written (written_among l id_name)) same
    ∙ sym (ap id_written (among_row members id_name))
    ∙ ap (λ c. id_in (Some c)) (sym is)
