use Rattle.rows_reader.proofs.Valid.{rows_valid}
use Rattle.rows_reader.proofs.laws.loaded_tables_are_valid.Goals as goal

pub returns : goal.returns
returns c = λ tables e. rows_valid c.args.catalog.now c.know.ensures c.args.rows.now tables c.requires.rows c.requires.texts e
