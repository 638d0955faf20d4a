use Rattle.ddl_reader.proofs.Sentences.{statement-spelled, statement-read, statement-stops, statement-stopped}
use Rattle.ddl_reader.proofs.laws.statement_is_by_the_grammar.Goals as goal

pub returns : goal.returns
returns c = record { spelled = statement-spelled; read = statement-read; stops = statement-stops; stopped = statement-stopped }
