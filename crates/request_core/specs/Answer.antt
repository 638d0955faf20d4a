-- The answer to a request over a catalog with its schema and its tables.
use Rattle.std.specs.Prelude.{◌≡◌, ℕ, nat_lt, if◌then◌else◌, List, length}
use Rattle.pg_base.specs.Base.{BaseParts}
use Rattle.pg_base.specs.Limits.{most_places, most_visited_rows, most_response_bytes}
use Rattle.pg_base.specs.declared.vars.Vars.{Vars}
use Rattle.gql_reader.specs.declared.tree.Document.{Document}
use Rattle.rel_model.specs.declared.tables.Tables.{Tables}
use Rattle.place_tree.specs.declared.place.Tree.{Tree}
use Rattle.place_tree.specs.Exec.{executed, visited}
use Rattle.place_tree.specs.Response.{response_text}
use Rattle.gql_collect.specs.Trees.{tree_of}
use Rattle.request_core.specs.Refusals.{too_large, too_many}
use Rattle.request_core.specs.Request.{Request, Ends}

-- ---- a query that isn't refused (GraphQL October 2021, section 6)

-- the text has few enough bytes
abbrev pub sized : List ℕ → List ℕ
sized text = if nat_lt most_response_bytes (length text) then too_large else text

-- few enough rows are visited
abbrev pub executed_answer : BaseParts → Tables → Vars → Tree → List ℕ
executed_answer base tables vars tree =
    if nat_lt most_visited_rows (visited base tables vars tree) then too_large
    else sized (response_text (executed base tables vars tree))

-- the tree has few enough places
abbrev pub tree_answer : BaseParts → Tables → Vars → Tree → List ℕ
tree_answer base tables vars tree =
    if nat_lt most_places (length tree.places) then too_many else executed_answer base tables vars tree

-- the text is the response to the operation at a place of the document
abbrev pub Executes : BaseParts → Tables → List ℕ → Document → ℕ → Vars → Type 0
Executes base tables text read place vars =
    text ≡ tree_answer base tables vars (tree_of base.schema read place vars)

-- ---- requests

-- the text is the answer to the request: its first refusal, or the response to its query
abbrev pub IsAnswer : BaseParts → Tables → Request → List ℕ → Type 0
IsAnswer base tables request text =
    Ends base.schema request (λ refused. text ≡ refused) (Executes base tables text)
