use Rattle.std.proofs.Common.{Err, sym, subst}
use Rattle.planned_response.specs.declared.fault.RespondFault.{RespondFault}
use Rattle.request_core.specs.Refusals.{storage_fault, too_large}
use Rattle.request_core.specs.Replied.{TellsAs}
use Rattle.request_core.proofs.replies.told_of_fault.Goals as goal

pub returns-in-Store : goal.returns-in-Store
returns-in-Store c =
    subst (λ (f : RespondFault). TellsAs (Err f) c.text_or_memory.result) (sym c.in-Store.is) (c.text_or_memory.ensures storage_fault c.storage_fault.ensures)

pub returns-in-TooLarge : goal.returns-in-TooLarge
returns-in-TooLarge c =
    subst (λ (f : RespondFault). TellsAs (Err f) c.text_or_memory-in-TooLarge.result) (sym c.in-TooLarge.is) (c.text_or_memory-in-TooLarge.ensures too_large c.too_large.ensures)
