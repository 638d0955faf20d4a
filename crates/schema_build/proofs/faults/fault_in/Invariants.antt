use Rattle.std.proofs.Common.{◌≡◌, drop}
use Rattle.pg_base.specs.Lists.{Each}
use Rattle.schema_build.specs.Looking.{HasFew}
use Rattle.schema_build.proofs.Looking.{AreLooked}
use Rattle.schema_build.proofs.faults.fault_in.Given as goal

abbrev pub invariant-loop-t : goal.invariant-loop-t
invariant-loop-t l = record {
  place : l.ty ≡ l.t-index;
  few : Each HasFew (drop l.t-index l.types);
  looked : AreLooked l.types l.ty l.fields (drop l.t-index l.types) l.names;
}
