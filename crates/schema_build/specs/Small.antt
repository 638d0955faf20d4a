-- Tables whose columns, keys and links can be numbered with 32 bits.
use Rattle.std.specs.Prelude.{◌<◌, ◌^◌, length}
use Rattle.pg_base.specs.declared.table_def.TableDef.{TableDef}

pub record IsSmall (t : TableDef) : Type 0 where
  pub columns : length t.columns < 2 ^ 32
  pub keys : length t.keys < 2 ^ 32
  pub links : length t.links < 2 ^ 32
