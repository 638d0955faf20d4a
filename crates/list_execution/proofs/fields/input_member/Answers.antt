use Rattle.std.proofs.Common.{ap, ◌∙◌}
use Rattle.pg_base.specs.Value.{member_in}
use Rattle.list_execution.proofs.Held.{members_are}
use Rattle.list_execution.proofs.fields.input_member.Goals as goal

pub returns-in-Object : goal.returns-in-Object
returns-in-Object c =
    c.member_in.ensures ∙ ap (λ l. member_in l c.args.name.now) (members_are c.args.input.now _ _ c.in-Object.is c.as_slice.ensures)
