-- A call that isn't planned to fail doesn't, where its store never does.
use Rattle.std.proofs.Common.{◌≡◌, Bool, true, false, Result, Ok, Err, arith}
use Rattle.stmt_tree.specs.declared.found.Batch.{Batch}
use Rattle.stmt_tree.specs.declared.found.RunFault.{RunFault}
use Rattle.stmt_tree.specs.declared.found.RunFault.TheVariants.{Store, TooMany, Memory}
use Rattle.stmt_tree.specs.Form.{IsStoreFault, Rose}
use Rattle.stmt_run.specs.Store.{FailsAsPlanned}

pub not_planned : (b : Bool) (r : Result Batch RunFault) → b ≡ false → (IsStoreFault r → Rose 0 0) → FailsAsPlanned b r
not_planned true r e cause = absurd (cc)
not_planned false (Ok batch) e cause = tt
not_planned false (Err Store) e cause = let k = cause tt in absurd (omega (arith, k))
not_planned false (Err TooMany) e cause = tt
not_planned false (Err Memory) e cause = tt
