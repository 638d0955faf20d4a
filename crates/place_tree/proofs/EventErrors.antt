-- The errors of events are the errors of the response.
use Rattle.std.proofs.Common.{◌≡◌, ℕ, ◌+◌, List, [], ◌∷◌, ◌++◌, refl, sym, ap, ◌∙◌, append_assoc, append-nil}
use Rattle.place_tree.specs.declared.event.Event.{Event}
use Rattle.place_tree.specs.declared.event.Event.TheVariants as event
use Rattle.place_tree.specs.Fold.{Leaf, null, int, truth, text}
use Rattle.place_tree.specs.Response.{Value, leaf, failed, array, object, Elements, no_elements, element, Members, no_members, member, PathPart, key, index, errors_in, element_errors, member_errors}
use Rattle.place_tree.specs.Events.{leaf_event, value_events, element_events, member_events, behind_value, from_root, events_errors}

-- the innermost part behind members
top_behind : PathPart → Members → PathPart
top_behind top no_members = top
top_behind top (member name v ms) = top_behind (key name) ms

place_behind : ℕ → Elements → ℕ
place_behind i no_elements = i
place_behind i (element v es) = place_behind (i + 1) es

leaf_errors : (path : List PathPart) (l : Leaf) (es : List Event) → events_errors path (leaf_event l ∷ es) ≡ events_errors (behind_value path) es
leaf_errors path null es = refl
leaf_errors path (int n) es = refl
leaf_errors path (truth b) es = refl
leaf_errors path (text t) es = refl

mutual
  unfolding top_behind place_behind

  pub value_same : (path : List PathPart) (v : Value) (es : List Event) → events_errors path (value_events v ++ es) ≡ errors_in v (from_root path) ++ events_errors (behind_value path) es
  value_same path (leaf l) es = leaf_errors path l es
  value_same path (failed message p) es = refl
  value_same path (array xs) es =
      ap (events_errors (index 0 ∷ path)) (append_assoc (element_events xs) (event.CloseList ∷ []) es)
      ∙ elements_same path 0 xs (event.CloseList ∷ es)
  value_same path (object ms) es =
      ap (events_errors (key [] ∷ path)) (append_assoc (member_events ms) (event.CloseObject ∷ []) es)
      ∙ members_same path (key []) ms (event.CloseObject ∷ es)

  elements_same : (path : List PathPart) (i : ℕ) (xs : Elements) (es : List Event) → events_errors (index i ∷ path) (element_events xs ++ es) ≡ element_errors xs i (from_root path) ++ events_errors (index (place_behind i xs) ∷ path) es
  elements_same path i no_elements es = refl
  elements_same path i (element v xs) es =
      ap (events_errors (index i ∷ path)) (append_assoc (value_events v) (element_events xs) es)
      ∙ value_same (index i ∷ path) v (element_events xs ++ es)
      ∙ ap (λ l. errors_in v (from_root path ++ index i ∷ []) ++ l) (elements_same path (i + 1) xs es)
      ∙ sym (append_assoc (errors_in v (from_root path ++ index i ∷ [])) (element_errors xs (i + 1) (from_root path)) (events_errors (index (place_behind (i + 1) xs) ∷ path) es))

  members_same : (path : List PathPart) (top : PathPart) (ms : Members) (es : List Event) → events_errors (top ∷ path) (member_events ms ++ es) ≡ member_errors ms (from_root path) ++ events_errors (top_behind top ms ∷ path) es
  members_same path top no_members es = refl
  members_same path top (member name v ms) es =
      ap (events_errors (key name ∷ path)) (append_assoc (value_events v) (member_events ms) es)
      ∙ value_same (key name ∷ path) v (member_events ms ++ es)
      ∙ ap (λ l. errors_in v (from_root path ++ key name ∷ []) ++ l) (members_same path (key name) ms es)
      ∙ sym (append_assoc (errors_in v (from_root path ++ key name ∷ [])) (member_errors ms (from_root path)) (events_errors (top_behind (key name) ms ∷ path) es))

-- the errors of the data
pub data_errors : (ms : Members) → events_errors (key [] ∷ []) (member_events ms) ≡ member_errors ms []
data_errors ms =
    ap (events_errors (key [] ∷ [])) (sym (append-nil (member_events ms)))
    ∙ members_same [] (key []) ms []
    ∙ append-nil (member_errors ms [])
