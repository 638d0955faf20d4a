use Rattle.std.proofs.Common.{◌≡◌, take, drop}
use Rattle.pg_base.specs.Lists.{EachPair}
use Rattle.ddl_reader.specs.Script.{first_fault}
use Rattle.ddl_reader.specs.Destinations.{IsDestination}
use Rattle.ddl_reader.proofs.resolving.look_up_all.Given as goal

abbrev pub invariant-loop-insert : goal.invariant-loop-insert
invariant-loop-insert l = record {
  fault : first_fault l.catalog (drop l.insert-index l.inserts) ≡ first_fault l.catalog l.inserts;
  found : EachPair (IsDestination l.catalog) (take l.insert-index l.inserts) l.found;
}
