use Rattle.gql_lex.specs.Lex.{lexed}
use Rattle.gql_reader.specs.Document.{lexemes}
use Rattle.gql_reader.proofs.Documents.{one_document}
use Rattle.gql_reader.proofs.laws.text_has_one_document.Goals as goal

pub returns : goal.returns
returns c bytes = one_document (lexemes bytes) (lexed bytes).ending
