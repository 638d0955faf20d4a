use Rattle.std.proofs.Common.{◌≡◌, Some, drop}
use Rattle.pg_base.specs.Listing.{map_at}
use Rattle.pg_base.specs.SchemaFaults.{field_part}
use Rattle.pg_base.specs.Lists.{Each}
use Rattle.schema_build.specs.Looking.{HasFewArgs}
use Rattle.schema_build.proofs.Looking.{FieldsMet}
use Rattle.schema_build.proofs.meetings.fields_meeting.Given as goal

abbrev pub invariant-loop-field : goal.invariant-loop-field
invariant-loop-field l = record {
  place : l.at ≡ l.field-index;
  few_args : Each HasFewArgs (drop l.field-index l.fields);
  met : FieldsMet (Some l.owner) (map_at (field_part l.ty) 0 l.fields) (map_at (field_part l.ty) l.at (drop l.field-index l.fields)) l.names;
}
