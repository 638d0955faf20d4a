use Rattle.gql_lex.specs.Lex.{lexed}
use Rattle.gql_reader.specs.Document.{lexemes}
use Rattle.gql_reader.proofs.Documents.{never_document_and_fault}
use Rattle.gql_reader.proofs.laws.document_has_no_fault.Goals as goal

pub returns : goal.returns
returns c bytes = never_document_and_fault (lexemes bytes) (lexed bytes).ending
