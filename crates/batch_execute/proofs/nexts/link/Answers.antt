use Rattle.batch_execute.proofs.FirstsPut.{firsts_on}
use Rattle.batch_execute.proofs.nexts.link.Goals as goal

pub returns-clause-firsts : goal.returns-clause-firsts
returns-clause-firsts c =
    firsts_on c.args.places.now c.args.i c.index-places-i.result c.requires.here c.index-places-i.is
    c.args.firsts.now.items c.put_first.new.firsts.items c.requires.firsts c.put_first.ensures
