use Rattle.std.proofs.Common.{◌^◌, ◌<◌, List, length, subst, sym}
use Rattle.pg_base.specs.declared.table_def.ColumnDef.{ColumnDef}
use Rattle.step_plan.proofs.Few.{few_columns}
use Rattle.step_plan.proofs.lookups.columns_of.Goals as goal

pub returns-clause-few : goal.returns-clause-few
returns-clause-few c = subst (λ (l : List ColumnDef). length l < 2 ^ 32) (sym c.columns_there.ensures) (few_columns c.args.catalog.now c.args.table c.know.ensures)
