use Rattle.std.proofs.Common.{rules}
use Rattle.row_tables.proofs.Parts.{set_is}
use Rattle.row_tables.proofs.set.TableSet.of.Goals as goal

pub returns : goal.returns
returns c = set_is c.args.catalog.now c.args.tables.now _ (search rules) c.requires
