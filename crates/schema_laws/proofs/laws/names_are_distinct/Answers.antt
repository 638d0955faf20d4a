use Rattle.schema_laws.proofs.Distinct.{build_fault-none}
use Rattle.schema_laws.proofs.laws.names_are_distinct.Goals as goal

pub returns : goal.returns
returns c = build_fault-none c.args.catalog.now c.requires
