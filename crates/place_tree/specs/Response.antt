-- A response as a tree, its errors and its text (GraphQL, section 7).
use Rattle.std.specs.Prelude.{ℕ, ◌+◌, Bool, true, false, List, [], ◌∷◌, ◌++◌, Option, codes, decimal}
use Rattle.json_out.specs.JsonText.{json_text, json_int, json_key}
use Rattle.pg_base.specs.declared.pos.Pos.{Pos}
use Rattle.place_tree.specs.declared.place.Place.{Place}
use Rattle.place_tree.specs.Fold.{Leaf, null, int, truth, text, Answer, Shows, Fails, One, Many, fold}

mutual
  pub data Value : Type 0 where
    leaf : Leaf → Value
    failed : List ℕ → Pos → Value
    array : Elements → Value
    object : Members → Value

  pub data Elements : Type 0 where
    no_elements : Elements
    element : Value → Elements → Elements

  pub data Members : Type 0 where
    no_members : Members
    member : List ℕ → Value → Members → Members

-- ---- from places

abbrev pub objects : List Members → Elements
objects [] = no_elements
objects (m ∷ ms) = element (object m) (objects ms)

-- the value at a place
abbrev pub value_of : Place → Answer Members → Value
value_of p (Shows l) = leaf l
value_of p (Fails message) = failed message p.pos
value_of p (One members) = object members
value_of p (Many members) = array (objects members)

-- the members that the places of a parent give at a state
abbrev pub members_of : {S : Type 0} → (ℕ → Place → S → Answer S) → List Place → ℕ → Option ℕ → S → Members
members_of ask places i parent s =
    fold ask (λ i p s a rest. member p.key (value_of p a) rest) no_members places i parent s

-- ---- errors

-- a part of a path: a response key, or a place in a list
pub data PathPart : Type 0 where
  key : List ℕ → PathPart
  index : ℕ → PathPart

pub record FieldError : Type 0 where
  pub message : List ℕ
  pub pos : Pos
  pub path : List PathPart

-- the errors below a path, in the order of the response
abbrev mutual
  pub errors_in : Value → List PathPart → List FieldError
  errors_in (leaf l) path = []
  errors_in (failed message pos) path = record { message = message; pos = pos; path = path } ∷ []
  errors_in (array es) path = element_errors es 0 path
  errors_in (object ms) path = member_errors ms path

  pub element_errors : Elements → ℕ → List PathPart → List FieldError
  element_errors no_elements i path = []
  element_errors (element v es) i path = errors_in v (path ++ index i ∷ []) ++ element_errors es (i + 1) path

  pub member_errors : Members → List PathPart → List FieldError
  member_errors no_members path = []
  member_errors (member name v ms) path = errors_in v (path ++ key name ∷ []) ++ member_errors ms path

-- ---- the text, with no space, members in their order

abbrev pub truth_text : Bool → List ℕ
truth_text true = codes "true"
truth_text false = codes "false"

abbrev pub leaf_text : Leaf → List ℕ
leaf_text null = codes "null"
leaf_text (int n) = json_int n
leaf_text (truth b) = truth_text b
leaf_text (text t) = json_text t

abbrev mutual
  pub value_text : Value → List ℕ
  value_text (leaf l) = leaf_text l
  value_text (failed message pos) = codes "null"
  value_text (array es) = codes "[" ++ (elements_text es ++ codes "]")
  value_text (object ms) = codes "{" ++ (members_text ms ++ codes "}")

  pub elements_text : Elements → List ℕ
  elements_text no_elements = []
  elements_text (element v es) = value_text v ++ more_elements es

  pub more_elements : Elements → List ℕ
  more_elements no_elements = []
  more_elements (element v es) = codes "," ++ (value_text v ++ more_elements es)

  pub members_text : Members → List ℕ
  members_text no_members = []
  members_text (member name v ms) = json_key name ++ (value_text v ++ more_members ms)

  pub more_members : Members → List ℕ
  more_members no_members = []
  more_members (member name v ms) = codes "," ++ (json_key name ++ (value_text v ++ more_members ms))

abbrev pub part_text : PathPart → List ℕ
part_text (key name) = json_text name
part_text (index i) = decimal i

abbrev pub more_parts : List PathPart → List ℕ
more_parts [] = []
more_parts (p ∷ path) = codes "," ++ (part_text p ++ more_parts path)

abbrev pub path_text : List PathPart → List ℕ
path_text [] = []
path_text (p ∷ path) = part_text p ++ more_parts path

-- an error (7.1.2): the message, the place of the field, and the path from the root of the data
abbrev pub error_text : FieldError → List ℕ
error_text e =
    codes "{\"message\":" ++ (json_text e.message ++ (codes ",\"locations\":[{\"line\":" ++ (decimal e.pos.line
    ++ (codes ",\"column\":" ++ (decimal e.pos.column ++ (codes "}],\"path\":[" ++ (path_text e.path
    ++ codes "]}")))))))

abbrev pub more_errors : List FieldError → List ℕ
more_errors [] = []
more_errors (e ∷ errors) = codes "," ++ (error_text e ++ more_errors errors)

-- the member `errors`, with its comma, where there are some
abbrev pub errors_text : List FieldError → List ℕ
errors_text [] = []
errors_text (e ∷ errors) = codes "\"errors\":[" ++ (error_text e ++ (more_errors errors ++ codes "],"))

-- the response: `errors` before `data`
unfoldable pub response_text : Members → List ℕ
response_text data_ =
    codes "{" ++ (errors_text (member_errors data_ []) ++ (codes "\"data\":{" ++ (members_text data_ ++ codes "}}")))
