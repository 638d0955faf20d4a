use Rattle.gql_lex.specs.Lex.{lexed}
use Rattle.gql_reader.specs.Document.{lexemes}
use Rattle.gql_reader.proofs.Documents.{one_fault}
use Rattle.gql_reader.proofs.laws.text_has_one_fault.Goals as goal

pub returns : goal.returns
returns c bytes = one_fault (lexemes bytes) (lexed bytes).ending
