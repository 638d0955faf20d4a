use Rattle.ddl_reader.proofs.ScriptSentences.{script-spelled, script-read, script-fault, script-told}
use Rattle.ddl_reader.proofs.laws.script_is_by_the_grammar.Goals as goal

pub returns : goal.returns
returns c = record { spelled = script-spelled; read = script-read; fault = script-fault; told = script-told }
