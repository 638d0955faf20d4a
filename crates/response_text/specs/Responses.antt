-- The text of a response from its events.
use Rattle.std.specs.Prelude.{◌≡◌, ◌<◌, ◌≤◌, ℕ, List, [], ◌∷◌, ◌++◌, false, codes, length, ⊤}
use Rattle.pg_base.specs.Limits.{most_response_bytes}
use Rattle.place_tree.specs.declared.event.Event.{Event}
use Rattle.place_tree.specs.Response.{key, errors_text}
use Rattle.place_tree.specs.Events.{events_text, events_errors}
use Rattle.response_text.specs.declared.fault.ResponseFault.{ResponseFault}
use Rattle.response_text.specs.declared.fault.ResponseFault.TheVariants as fault

-- errors before data
abbrev pub events_response : List Event → List ℕ
events_response events =
    codes "{" ++ (errors_text (events_errors (key [] ∷ []) events)
    ++ (codes "\"data\":{" ++ (events_text false events ++ codes "}}")))

-- the text is the response, and not too large
pub record IsResponse (events : List Event) (text : List ℕ) : Type 0 where
  pub shown : text ≡ events_response events
  pub fits : length text ≤ most_response_bytes

-- why there is none; out of memory alone has no cause
abbrev pub IsCause : List Event → ResponseFault → Type 0
IsCause events fault.TooLarge = most_response_bytes < length (events_response events)
IsCause events fault.Memory = ⊤
