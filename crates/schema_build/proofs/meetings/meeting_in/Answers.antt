use Rattle.std.proofs.Common.{◌≡◌, ◌∙◌, sym, ap, Some, [], rules}
use Rattle.pg_base.specs.Listing.{map_at}
use Rattle.pg_base.specs.SchemaFaults.{named, part, part_meetings, parts_of}
use Rattle.pg_base.specs.declared.build_fault.Origin.TheVariants as origin
use Rattle.pg_base.specs.declared.schema.TypeKind.TheVariants as kind
use Rattle.schema_build.specs.Looking.{first}
use Rattle.schema_build.proofs.Looking.{plain_meetings}
use Rattle.schema_build.proofs.meetings.meeting_in.Goals as goal

pub returns-in_ok-found-in-Enum : goal.returns-in_ok-found-in-Enum
returns-in_ok-found-in-Enum c =
    let is : kind.Enum c.in-Enum.cases ≡ c.args.kind.now = search rules in
    c.in_ok-found-in-Enum.ensures
    ∙ sym (ap first (plain_meetings (Some c.args.owner.now) [] (λ i a. named a (origin.Field c.args.ty i)) 0 c.as_slice-in-Enum.result.now))
    ∙ ap (λ l. first (part_meetings (Some c.args.owner.now) [] (map_at (λ i a. part (named a (origin.Field c.args.ty i)) []) 0 l))) c.as_slice-in-Enum.ensures
    ∙ ap (λ k. first (part_meetings (Some c.args.owner.now) [] (parts_of c.args.ty k))) is

pub returns-in_ok-found-in-Input : goal.returns-in_ok-found-in-Input
returns-in_ok-found-in-Input c =
    let is : kind.Input c.in-Input.args ≡ c.args.kind.now = search rules in
    c.in_ok-found-in-Input.ensures
    ∙ sym (ap first (plain_meetings (Some c.args.owner.now) [] (λ i a. named a.name (origin.Field c.args.ty i)) 0 c.as_slice-in-Input.result.now))
    ∙ ap (λ l. first (part_meetings (Some c.args.owner.now) [] (map_at (λ i a. part (named a.name (origin.Field c.args.ty i)) []) 0 l))) c.as_slice-in-Input.ensures
    ∙ ap (λ k. first (part_meetings (Some c.args.owner.now) [] (parts_of c.args.ty k))) is
