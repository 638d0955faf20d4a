use Rattle.ddl_reader.proofs.FirstInserts.{pushed_kept, pushed_inserts}
use Rattle.ddl_reader.proofs.inserts.push_first.Goals as goal

pub returns-in_default-clause-kept : goal.returns-in_default-clause-kept
returns-in_default-clause-kept c = pushed_kept c.args.firsts.now c.args.places.now c.requires c.args.insert c.len.result c.len.ensures c.push.new.self c.push-2.new.self c.in_ok-push.ensures.ok c.in_default.ensures.ok

pub returns-in_default-clause-more : goal.returns-in_default-clause-more
returns-in_default-clause-more c = pushed_inserts c.args.firsts.now c.args.places.now c.requires c.args.insert c.len.result c.len.ensures c.push.new.self c.push-2.new.self c.in_ok-push.ensures.ok c.in_default.ensures.ok
