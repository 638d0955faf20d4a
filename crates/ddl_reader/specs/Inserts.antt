-- INSERTs as they are kept: of those that name the same, the first one stands for the others.
use Rattle.std.specs.Prelude.{◌≡◌, ℕ, ◌<◌, List, [], map, length, Option, None, Some, slice_get}
use Rattle.pg_base.specs.Lists.{Each}
use Rattle.pg_base.specs.Catalog.{CatalogParts}
use Rattle.pg_base.specs.declared.pos.Pos.{Pos}
use Rattle.ddl_reader.specs.declared.inserts.InsertPlace.{InsertPlace}
use Rattle.ddl_reader.specs.declared.statement.InsertStatement.{InsertStatement}
use Rattle.ddl_reader.specs.InsertNames.{first_fault}

-- the INSERT with its table's name at another place
abbrev pub moved : InsertStatement → Pos → InsertStatement
moved i pos = record { table = record { text = i.table.text; pos = pos }; columns = i.columns }

-- one that names what this one names
abbrev pub like : Option InsertStatement → Pos → InsertStatement
like None pos = record { table = record { text = []; pos = pos }; columns = None }
like (Some first) pos = moved first pos

abbrev pub insert_of : List InsertStatement → InsertPlace → InsertStatement
insert_of firsts place = like (slice_get firsts place.first) place.pos

abbrev pub inserts_in : List InsertStatement → List InsertPlace → List InsertStatement
inserts_in firsts places = map (insert_of firsts) places

-- each INSERT has its first one, and the first fault of all is the first fault of those
pub record AreFirsts (firsts : List InsertStatement) (places : List InsertPlace) : Type 0 where
  pub within : Each (λ place. place.first < length firsts) places
  pub faults : (c : CatalogParts) → first_fault c (inserts_in firsts places) ≡ first_fault c firsts

-- the first INSERT at the place names what this one names
pub record IsLike (firsts : List InsertStatement) (insert : InsertStatement) (place : ℕ) : Type 0 where
  pub first : InsertStatement
  pub found : slice_get firsts place ≡ Some first
  pub same : moved first insert.table.pos ≡ insert
