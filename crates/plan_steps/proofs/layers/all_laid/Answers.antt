use Rattle.std.proofs.Common.{◌≡◌, true, false, rules}
use Rattle.plan_steps.specs.Check as spec
use Rattle.plan_steps.proofs.Tests.{not_laid, laid_on}
use Rattle.plan_steps.proofs.layers.all_laid.Goals as goal

pub returns-then-not-is_laid : goal.returns-then-not-is_laid
returns-then-not-is_laid c =
    let told : spec.is_laid c.args.layers.now c.loop-k.k ≡ false = search rules in
    not_laid c.args.layers.now c.loop-k.k c.args.steps.now _ c.loop-k-test.true told c.loop-k.invariant

pub loop-k-preserved : goal.loop-k-preserved
loop-k-preserved c =
    let told : spec.is_laid c.args.layers.now c.loop-k.k ≡ true = search rules in
    laid_on c.args.layers.now c.loop-k.k c.args.steps.now _ c.loop-k-test.true told c.loop-k.invariant
