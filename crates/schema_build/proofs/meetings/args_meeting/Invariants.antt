use Rattle.std.proofs.Common.{◌≡◌, Some, drop}
use Rattle.pg_base.specs.Listing.{map_at}
use Rattle.pg_base.specs.SchemaFaults.{named}
use Rattle.schema_build.specs.Looking.{place_in}
use Rattle.schema_build.proofs.Looking.{AreMet}
use Rattle.schema_build.proofs.meetings.args_meeting.Given as goal

abbrev pub invariant-loop-arg : goal.invariant-loop-arg
invariant-loop-arg l = record {
  place : l.at ≡ l.arg-index;
  met : AreMet (Some l.owner) (map_at (λ at a. named a.name (place_in l.holder at)) 0 l.args) (map_at (λ at a. named a.name (place_in l.holder at)) l.at (drop l.arg-index l.args)) l.names;
}
