use Rattle.std.proofs.Common.{sym}
use Rattle.ddl_reader.proofs.FirstPlaces.{length-below}
use Rattle.ddl_reader.proofs.columns.count_of_first.Goals as goal

pub returns : goal.returns
returns c = sym (length-below c.args.count)
