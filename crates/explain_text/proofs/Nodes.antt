-- How many fetches the tree of a fetch has.
use Rattle.std.proofs.Common.{◌≡◌, ℕ, ◌+◌, List, map, sum, ap, arith}
use Rattle.plan_steps.specs.declared.plan.FetchStep.{FetchStep, out-FetchStep, fold_out-FetchStep}
use Rattle.explain_text.specs.Explained.{nodes, nodes_from}

pub nodes_are : (f : FetchStep) → nodes f ≡ sum (map nodes (out-FetchStep f).children) + 1
nodes_are f = fold_out-FetchStep ℕ nodes_from f

-- the fetch itself is counted first, and then its children
pub nodes_counted : (f : FetchStep) (children : List FetchStep) (count own before : ℕ) → own ≡ before + 1 → children ≡ (out-FetchStep f).children
    → count ≡ own + sum (map nodes children) → count ≡ before + nodes f
nodes_counted f children count own before itself are below =
    let same : sum (map nodes children) ≡ sum (map nodes (out-FetchStep f).children) = ap (λ fs. sum (map nodes fs)) are in
    omega (arith, nodes_are f)
