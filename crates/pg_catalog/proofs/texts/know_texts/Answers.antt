use Rattle.std.proofs.Common.{arith}
use Rattle.std.specs.Str.{IsUtf8}
use Rattle.pg_catalog.proofs.EachFacts.{Each-more, Each-all}
use Rattle.pg_catalog.proofs.texts.know_texts.Goals as goal

pub loop-text-preserved : goal.loop-text-preserved
loop-text-preserved c = Each-more IsUtf8 c.args.texts.now c.loop-text.text-index c.text-item.result c.loop-text-test.true c.text-item.is c.loop-text.invariant c.know_text.ensures

pub returns : goal.returns
returns c = Each-all IsUtf8 c.args.texts.now c.loop-text.text-index (omega arith) c.loop-text.invariant
