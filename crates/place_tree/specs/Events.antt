-- A response written out as events, and its text and errors from these.
use Rattle.std.specs.Prelude.{ℕ, ◌+◌, Bool, true, false, List, [], ◌∷◌, ◌++◌, codes}
use Rattle.json_out.specs.JsonText.{json_text, json_int, json_key}
use Rattle.place_tree.specs.declared.event.Event.{Event}
use Rattle.place_tree.specs.declared.event.Event.TheVariants as event
use Rattle.place_tree.specs.Fold.{Leaf, null, int, truth, text}
use Rattle.place_tree.specs.Response.{Value, leaf, failed, array, object, Elements, no_elements, element, Members, no_members, member, PathPart, key, index, FieldError, truth_text}

abbrev pub leaf_event : Leaf → Event
leaf_event null = event.Null
leaf_event (int n) = event.Int n
leaf_event (truth b) = event.Bool b
leaf_event (text t) = event.Text t

abbrev mutual
  pub value_events : Value → List Event
  value_events (leaf l) = leaf_event l ∷ []
  value_events (failed message p) = event.Failed message p ∷ []
  value_events (array es) = event.OpenList ∷ (element_events es ++ event.CloseList ∷ [])
  value_events (object ms) = event.OpenObject ∷ (member_events ms ++ event.CloseObject ∷ [])

  pub element_events : Elements → List Event
  element_events no_elements = []
  element_events (element v es) = value_events v ++ element_events es

  pub member_events : Members → List Event
  member_events no_members = []
  member_events (member name v ms) = event.Key name ∷ (value_events v ++ member_events ms)

-- ---- the text: a comma is due behind a value, and not behind a key or an opening

abbrev pub comma : Bool → List ℕ
comma true = codes ","
comma false = []

abbrev pub event_text : Event → List ℕ
event_text (event.Key name) = json_key name
event_text event.Null = codes "null"
event_text (event.Int n) = json_int n
event_text (event.Bool b) = truth_text b
event_text (event.Text t) = json_text t
event_text (event.Failed message p) = codes "null"
event_text event.OpenList = codes "["
event_text event.CloseList = codes "]"
event_text event.OpenObject = codes "{"
event_text event.CloseObject = codes "}"

abbrev pub is_close : Event → Bool
is_close event.CloseList = true
is_close event.CloseObject = true
is_close _ = false

-- whether a comma is due behind the event
abbrev pub is_due : Event → Bool
is_due (event.Key name) = false
is_due event.OpenList = false
is_due event.OpenObject = false
is_due _ = true

abbrev pub comma_before : Bool → Event → List ℕ
comma_before due e = comma_unless (is_close e) due
  where
    comma_unless : Bool → Bool → List ℕ
    comma_unless true due = []
    comma_unless false due = comma due

abbrev pub events_text : Bool → List Event → List ℕ
events_text due [] = []
events_text due (e ∷ es) = comma_before due e ++ (event_text e ++ events_text (is_due e) es)

-- ---- the errors: the path to where the events stand is kept, its innermost part first

-- the path from the root on
abbrev pub from_root : List PathPart → List PathPart
from_root [] = []
from_root (p ∷ path) = from_root path ++ p ∷ []

-- behind a value
abbrev pub behind_value : List PathPart → List PathPart
behind_value [] = []
behind_value (key name ∷ path) = key name ∷ path
behind_value (index i ∷ path) = index (i + 1) ∷ path

abbrev pub outer : List PathPart → List PathPart
outer [] = []
outer (p ∷ path) = path

abbrev pub path_behind : Event → List PathPart → List PathPart
path_behind (event.Key name) path = key name ∷ outer path
path_behind event.OpenList path = index 0 ∷ path
path_behind event.OpenObject path = key [] ∷ path
path_behind event.CloseList path = behind_value (outer path)
path_behind event.CloseObject path = behind_value (outer path)
path_behind _ path = behind_value path

abbrev pub error_at : Event → List PathPart → List FieldError → List FieldError
error_at (event.Failed message p) path errors = record { message = message; pos = p; path = from_root path } ∷ errors
error_at _ path errors = errors

abbrev pub events_errors : List PathPart → List Event → List FieldError
events_errors path [] = []
events_errors path (e ∷ es) = error_at e path (events_errors (path_behind e path) es)
