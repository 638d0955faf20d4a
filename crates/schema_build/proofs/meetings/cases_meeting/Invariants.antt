use Rattle.std.proofs.Common.{◌≡◌, Some, drop}
use Rattle.pg_base.specs.Listing.{map_at}
use Rattle.pg_base.specs.SchemaFaults.{named}
use Rattle.pg_base.specs.declared.build_fault.Origin.TheVariants as origin
use Rattle.schema_build.proofs.Looking.{AreMet}
use Rattle.schema_build.proofs.meetings.cases_meeting.Given as goal

abbrev pub invariant-loop-case : goal.invariant-loop-case
invariant-loop-case l = record {
  place : l.at ≡ l.case-index;
  met : AreMet (Some l.owner) (map_at (λ at c. named c (origin.Field l.ty at)) 0 l.cases) (map_at (λ at c. named c (origin.Field l.ty at)) l.at (drop l.case-index l.cases)) l.names;
}
