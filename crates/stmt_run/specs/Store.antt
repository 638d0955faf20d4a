-- What the stores in memory hold and count.
use Rattle.std.specs.Prelude.{ℕ, List, Bool, true, false, Result, Ok, Err, ⊤}
use Rattle.stmt_tree.specs.declared.found.Batch.{Batch}
use Rattle.stmt_tree.specs.declared.found.RunFault.{RunFault}
use Rattle.stmt_tree.specs.declared.found.RunFault.TheVariants.{Store, TooMany, Memory}
use Rattle.pg_base.specs.Catalog.{CatalogParts}
use Rattle.rel_model.specs.Tables.{AreValidTables}
use Rattle.row_tables.specs.Set.{SetParts, IsSetOf}

-- a set of tables at the moment of a number
pub record SnapshotParts : Type 0 where
  pub number : ℕ
  pub set : SetParts

-- the snapshot's tables are valid for the catalog, and its set is one of this catalog
abbrev pub HoldsFor : CatalogParts → SnapshotParts → Type 0
HoldsFor c s = AreValidTables c s.set.tables × IsSetOf c s.set

-- how many statements were sent, and how many rows they got
pub record Counts : Type 0 where
  pub sent : ℕ
  pub got : ℕ

-- the same, with the numbers of the calls that are to fail, the number of the next call, and how many failed
pub record FaultyCounts : Type 0 where
  pub sent : ℕ
  pub got : ℕ
  pub failing : List ℕ
  pub calls : ℕ
  pub faults : ℕ

-- a call fails exactly where it is planned to
abbrev pub FailsAsPlanned : Bool → Result Batch RunFault → Type 0
FailsAsPlanned true (Ok batch) = ⊥
FailsAsPlanned true (Err Store) = ⊤
FailsAsPlanned true (Err TooMany) = ⊥
FailsAsPlanned true (Err Memory) = ⊥
FailsAsPlanned false (Ok batch) = ⊤
FailsAsPlanned false (Err Store) = ⊥
FailsAsPlanned false (Err TooMany) = ⊤
FailsAsPlanned false (Err Memory) = ⊤
