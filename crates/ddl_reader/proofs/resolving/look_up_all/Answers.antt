use Rattle.ddl_reader.proofs.ResolvedRows.{fault_on, found_on}
use Rattle.ddl_reader.proofs.resolving.look_up_all.Goals as goal

pub loop-insert-preserved : goal.loop-insert-preserved
loop-insert-preserved c =
    let l = c.loop-insert in
    record {
      fault = fault_on c.args.catalog.now c.args.inserts.now l.insert-index c.insert-item.result _ c.loop-insert-test.true c.insert-item.is c.in_ok-into.ensures.fault l.invariant.fault;
      found = found_on c.args.catalog.now c.args.inserts.now l.insert-index c.insert-item.result l.found c.push.new.self c.in_ok-into.into c.loop-insert-test.true c.insert-item.is l.invariant.found c.in_ok-into.ensures.found c.in_ok-push.ensures.ok;
    }
