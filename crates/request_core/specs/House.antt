-- A house: the tables that requests are answered over, and the plans that are kept for them.
use Rattle.std.specs.Prelude.{◌≡◌, ℕ, None, []}
use Rattle.pg_base.specs.Base.{BaseParts}
use Rattle.pg_base.specs.SchemaFaults.{build_fault}
use Rattle.row_tables.specs.Set.{SetParts}
use Rattle.stmt_run.specs.Store.{SnapshotParts, HoldsFor}
use Rattle.plan_cache.specs.Shelf.{Shelved, shelved, Shows}
use Rattle.kept_responses.specs.Kept.{KeptParts}

-- the catalog with its schema, the tables at the moment of a number, the plans that are kept, and how many changes the
-- journal has at most
pub record HouseParts : Type 0 where
  pub base : BaseParts
  pub opened : SnapshotParts
  pub shelf : Shelved KeptParts
  pub limit : ℕ

abbrev pub house_parts : BaseParts → SnapshotParts → Shelved KeptParts → ℕ → HouseParts
house_parts base opened shelf limit = record { base = base; opened = opened; shelf = shelf; limit = limit }

-- the tables at the moment of the number 0, and no plan
abbrev pub new_house : BaseParts → SetParts → ℕ → HouseParts
new_house base set limit = house_parts base (record { number = 0; set = set }) (shelved base []) limit

-- what every house keeps
pub record IsHouse (house : HouseParts) : Type 0 where
  -- requests over the base can be answered
  pub faultless : build_fault house.base.catalog ≡ None
  pub holds : HoldsFor house.base.catalog house.opened
  -- the plans are the base's, and no more than serve
  pub shelf_base : house.shelf.base ≡ house.base
  pub shows : Shows house.shelf house.shelf.entries

-- all but the plans stays
pub record KeepsHouse (before now : HouseParts) : Type 0 where
  pub base_ : now.base ≡ before.base
  pub opened_ : now.opened ≡ before.opened
  pub limit_ : now.limit ≡ before.limit
