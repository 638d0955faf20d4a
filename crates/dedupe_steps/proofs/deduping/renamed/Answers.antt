use Rattle.std.proofs.Common.{refl}
use Rattle.dedupe_steps.proofs.Rebuilt.{rebuilt}
use Rattle.dedupe_steps.proofs.deduping.renamed.Goals as goal

pub returns : goal.returns
returns c =
    rebuilt c.args.plan.now _ c.in_ok-laid.laid c.args.to.now c.args.firsts.now c.args.to_layer.now c.args.layer_firsts.now c.in_ok-lists.lists.items
    c.as_slice-3.result.now c.as_slice-2.result.now c.as_slice.result.now c.as_slice-over.result.now c.as_slice-4.result.now _ _
    c.requires.firsts c.requires.numbers c.len.ensures c.as_slice.ensures c.in_ok-laid.ensures refl c.in_ok-lists.ensures c.as_slice-2.ensures c.in_ok-new.ensures
    c.as_slice-over.ensures c.as_slice-3.ensures.value c.in_ok-below.ensures c.as_slice-4.ensures c.in_ok-out.ensures
