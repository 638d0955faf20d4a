-- The response of the events of data is the response of the data.
use Rattle.std.proofs.Common.{◌≡◌, [], ◌++◌, codes, false, ap, ◌∙◌}
use Rattle.place_tree.specs.Response.{Members, member_errors, errors_text, response_text}
use Rattle.place_tree.specs.Events.{member_events, events_text}
use Rattle.place_tree.proofs.EventErrors.{data_errors}
use Rattle.place_tree.proofs.Events.{data_printed}
use Rattle.response_text.specs.Responses.{events_response}

pub response_same : (members : Members) → events_response (member_events members) ≡ response_text members
unfolding response_text
response_same members =
    ap (λ e. codes "{" ++ (errors_text e ++ (codes "\"data\":{" ++ (events_text false (member_events members) ++ codes "}}")))) (data_errors members)
    ∙ ap (λ t. codes "{" ++ (errors_text (member_errors members []) ++ (codes "\"data\":{" ++ (t ++ codes "}}")))) (data_printed members)
