-- What is asked of a house.
use Rattle.std.specs.Prelude.{◌≡◌, ℕ, List, Option, None}
use Rattle.serde_json.specs.Data.{Data}
use Rattle.serde_json.specs.View.{view}
use Rattle.pg_base.specs.Base.{BaseParts}
use Rattle.pg_base.specs.Schema.{SchemaParts}
use Rattle.pg_base.specs.declared.vars.Vars.{Vars}
use Rattle.gql_reader.specs.declared.tree.Document.{Document}
use Rattle.rel_model.specs.declared.tables.Tables.{Tables}
use Rattle.plan_cache.specs.Shelf as shelf
use Rattle.request_core.specs.Answer.{Executes}
use Rattle.request_core.specs.Request.{Request, asked, AreGiven, AfterBody}
use Rattle.request_core.specs.declared.asked.Asked as code

-- the text of a document, the name of the operation where one is named, and what is given for the variables
pub record AskedParts : Type 0 where
  pub text : List ℕ
  pub operation : Option (List ℕ)
  pub given : Data

-- what the code has
abbrev pub asked_parts : code.Asked → AskedParts
asked_parts a = record { text = a.query; operation = a.operation; given = view a.variables }

-- the request asks this, where its variables' bytes spell some
pub record IsAskedBy (request : Request) (a : AskedParts) : Type 0 where
  pub text_ : a.text ≡ request.document
  pub operation_ : a.operation ≡ request.operation
  pub gives : AreGiven request.variables a.given

-- how it ends: it is refused with a response of which the one holds, or accepted, and the other holds of its document,
-- the place of its operation in it, and its variables
abbrev pub EndsAsked : SchemaParts → AskedParts → (List ℕ → Type 0) → (Document → ℕ → Vars → Type 0) → Type 0
EndsAsked schema a Refused Accepted = AfterBody schema (asked a.text a.operation None) Refused Accepted a.given

-- with these variables a plan is looked for
abbrev pub wanted_with : AskedParts → Vars → shelf.Asked
wanted_with a vars = shelf.asked_for a.text a.operation vars

-- the text is the answer to what is asked, over tables
abbrev pub IsAnswerTo : BaseParts → Tables → AskedParts → List ℕ → Type 0
IsAnswerTo base tables a text = EndsAsked base.schema a (λ refused. text ≡ refused) (Executes base tables text)
