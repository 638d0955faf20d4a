use Rattle.std.proofs.Common.{subst}
use Rattle.pg_base.specs.Catalog.{IsValidCatalog}
use Rattle.request_core.proofs.AskedTrees.{may_serve}
use Rattle.request_core.proofs.Refused.{if_ok}
use Rattle.request_core.specs.Asked.{asked_parts}
use Rattle.request_core.proofs.preparing.prepare_asked.Goals as goal

pub returns-clause-may : goal.returns-clause-may
returns-clause-may c =
    let catalog = subst IsValidCatalog c.catalog.ensures c.know-2.ensures in
    if_ok c.with_asked.result _ _
    (may_serve c.args.base.now c.know.ensures catalog c.requires.faultless c.valid_trees_are_plannable.ensures c.query_trees_have_no_mutations.ensures (asked_parts c.args.asked.now)) c.with_asked.ensures
