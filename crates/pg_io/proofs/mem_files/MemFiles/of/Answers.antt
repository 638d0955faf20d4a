use Rattle.std.proofs.Common.{List, ap, ◌∙◌}
use Rattle.pg_io.specs.declared.counts.NameCount.{NameCount}
use Rattle.pg_io.specs.Counts.{count_of}
use Rattle.pg_io.proofs.ByName.{count_of-none}
use Rattle.pg_io.proofs.mem_files.MemFiles.of.Goals as goal

pub returns-clause-faults : goal.returns-clause-faults
returns-clause-faults c name = ap (λ (counts : List NameCount). count_of counts name) c.none.ensures ∙ count_of-none name
