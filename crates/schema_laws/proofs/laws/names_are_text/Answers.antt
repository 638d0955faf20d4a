use Rattle.schema_laws.proofs.Texts.{are_texts}
use Rattle.schema_laws.proofs.laws.names_are_text.Goals as goal

pub returns : goal.returns
returns c = are_texts c.args.catalog.now c.know.ensures
