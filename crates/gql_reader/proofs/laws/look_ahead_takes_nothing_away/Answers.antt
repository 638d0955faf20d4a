use Rattle.gql_reader.proofs.SameProductions.{same_documents}
use Rattle.gql_reader.proofs.laws.look_ahead_takes_nothing_away.Goals as goal

pub returns : goal.returns
returns c = same_documents
