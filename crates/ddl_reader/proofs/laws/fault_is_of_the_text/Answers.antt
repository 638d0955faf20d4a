use Rattle.std.proofs.Common.{refl}
use Rattle.ddl_reader.specs.declared.fault.ScriptFault.TheVariants as fault
use Rattle.ddl_reader.proofs.NoMemory.{text_not}
use Rattle.ddl_reader.proofs.laws.fault_is_of_the_text.Goals as goal

pub returns : goal.returns
returns c = λ bytes h. text_not bytes fault.Memory h refl
