use Rattle.std.proofs.Common.{subst}
use Rattle.pg_base.specs.Catalog.{IsValidCatalog}
use Rattle.request_core.proofs.Answered.{may_follow}
use Rattle.request_core.proofs.Refused.{if_ok}
use Rattle.request_core.specs.Request.{request_of}
use Rattle.request_core.proofs.preparing.prepare.Goals as goal

pub returns-clause-may : goal.returns-clause-may
returns-clause-may c =
    let catalog = subst IsValidCatalog c.catalog.ensures c.know-2.ensures in
    if_ok c.with_request.result _ _
    (may_follow c.args.base.now c.know.ensures catalog c.requires.faultless c.valid_trees_are_plannable.ensures c.query_trees_have_no_mutations.ensures (request_of c.args.request)) c.with_request.ensures
