use Rattle.std.proofs.Common.{List, sym, subst}
use Rattle.parse_rules.specs.declared.samples.sign.Sign.{Sign}
use Rattle.parse_rules.specs.declared.samples.inserts.InsertFault.TheVariants as faults
use Rattle.parse_rules.specs.Inserts.{IsText, IsTextFault}
use Rattle.parse_rules.proofs.InsertsExact.{text_reads}
use Rattle.parse_rules.proofs.samples.inserts.read_insert_text.Goals as goal

pub returns-in-Ok-clause-found : goal.returns-in-Ok-clause-found
returns-in-Ok-clause-found c = subst (λ (ts : List Sign). IsText ts c.in-Ok.insert) c.new-tokens.ensures (text_reads.found _ _ _ c.in-Ok.ensures)

pub returns-in-Err-Unexpected-clause-fault : goal.returns-in-Err-Unexpected-clause-fault
returns-in-Err-Unexpected-clause-fault c =
    let stopped = rw c.in-Err-Unexpected.field-0-is at c.in-Err-Unexpected.ensures in
    let stop = text_reads.fault _ _ stopped in
    let here : IsTextFault c.new-tokens.result (faults.At c.peek.result) = (stop.0, c.read_whole.new.tokens, stop.1, sym c.peek.ensures) in
    subst (λ (ts : List Sign). IsTextFault ts (faults.At c.peek.result)) c.new-tokens.ensures here
