-- The text of events is the text of the response, and events are made by the recursion over places.
use Rattle.std.proofs.Common.{◌≡◌, ℕ, Bool, true, false, List, [], ◌∷◌, ◌++◌, refl, sym, ap, ◌∙◌, append_assoc, append-nil}
use Rattle.std.specs.Prelude.{codes}
use Rattle.json_out.specs.JsonText.{json_key}
use Rattle.place_tree.specs.declared.event.Event.{Event}
use Rattle.place_tree.specs.declared.event.Event.TheVariants as event
use Rattle.place_tree.specs.Fold.{Leaf, null, int, truth, text}
use Rattle.place_tree.specs.Response.{Value, leaf, failed, array, object, Elements, no_elements, element, Members, no_members, member, value_text, elements_text, more_elements, members_text, more_members, leaf_text}
use Rattle.place_tree.specs.Events.{leaf_event, value_events, element_events, member_events, comma, events_text}

-- whether a comma is due behind members or elements
abbrev due_members : Bool → Members → Bool
due_members due no_members = due
due_members due (member name v ms) = true

abbrev due_elements : Bool → Elements → Bool
due_elements due no_elements = due
due_elements due (element v es) = true

-- the text of members, with a comma before where one is due
abbrev members_from : Bool → Members → List ℕ
members_from true ms = more_members ms
members_from false ms = members_text ms

abbrev elements_from : Bool → Elements → List ℕ
elements_from true es = more_elements es
elements_from false es = elements_text es

comma_member : (due : Bool) (name : List ℕ) (v : Value) (ms : Members) → members_from due (member name v ms) ≡ comma due ++ (json_key name ++ (value_text v ++ more_members ms))
comma_member true name v ms = refl
comma_member false name v ms = refl

comma_element : (due : Bool) (v : Value) (es : Elements) → elements_from due (element v es) ≡ comma due ++ (value_text v ++ more_elements es)
comma_element true v es = refl
comma_element false v es = refl

leaf_printed : (due : Bool) (l : Leaf) (es : List Event) → events_text due (leaf_event l ∷ es) ≡ comma due ++ (leaf_text l ++ events_text true es)
leaf_printed due null es = refl
leaf_printed due (int n) es = refl
leaf_printed due (truth b) es = refl
leaf_printed due (text t) es = refl

still_elements : (xs : Elements) → due_elements true xs ≡ true
still_elements no_elements = refl
still_elements (element v xs) = refl

still_members : (ms : Members) → due_members true ms ≡ true
still_members no_members = refl
still_members (member name v ms) = refl

behind_two : {A : Type 0} (a b c d : List A) → a ++ (b ++ (c ++ d)) ≡ (a ++ (b ++ c)) ++ d
behind_two a b c d = ap (λ l. a ++ l) (sym (append_assoc b c d)) ∙ sym (append_assoc a (b ++ c) d)

behind_three : {A : Type 0} (a b c d e : List A) → a ++ (b ++ (c ++ (d ++ e))) ≡ (a ++ (b ++ (c ++ d))) ++ e
behind_three a b c d e = ap (λ l. a ++ l) (behind_two b c d e) ∙ sym (append_assoc a (b ++ (c ++ d)) e)

mutual
  pub value_printed : (due : Bool) (v : Value) (es : List Event) → events_text due (value_events v ++ es) ≡ comma due ++ (value_text v ++ events_text true es)
  value_printed due (leaf l) es = leaf_printed due l es
  value_printed due (failed message p) es = refl
  value_printed due (array xs) es =
      ap (λ l. comma due ++ (codes "[" ++ events_text false l)) (append_assoc (element_events xs) (event.CloseList ∷ []) es)
      ∙ ap (λ l. comma due ++ (codes "[" ++ l)) (elements_printed false xs (event.CloseList ∷ es))
      ∙ ap (λ l. comma due ++ (codes "[" ++ l)) (sym (append_assoc (elements_text xs) (codes "]") (events_text true es)))
  value_printed due (object ms) es =
      ap (λ l. comma due ++ (codes "{" ++ events_text false l)) (append_assoc (member_events ms) (event.CloseObject ∷ []) es)
      ∙ ap (λ l. comma due ++ (codes "{" ++ l)) (members_printed false ms (event.CloseObject ∷ es))
      ∙ ap (λ l. comma due ++ (codes "{" ++ l)) (sym (append_assoc (members_text ms) (codes "}") (events_text true es)))

  elements_printed : (due : Bool) (xs : Elements) (es : List Event) → events_text due (element_events xs ++ es) ≡ elements_from due xs ++ events_text (due_elements due xs) es
  elements_printed true no_elements es = refl
  elements_printed false no_elements es = refl
  elements_printed due (element v xs) es =
      ap (events_text due) (append_assoc (value_events v) (element_events xs) es)
      ∙ value_printed due v (element_events xs ++ es)
      ∙ ap (λ l. comma due ++ (value_text v ++ l)) (elements_printed true xs es)
      ∙ ap (λ b. comma due ++ (value_text v ++ (more_elements xs ++ events_text b es))) (still_elements xs)
      ∙ behind_two (comma due) (value_text v) (more_elements xs) (events_text true es)
      ∙ ap (λ l. l ++ events_text true es) (sym (comma_element due v xs))

  members_printed : (due : Bool) (ms : Members) (es : List Event) → events_text due (member_events ms ++ es) ≡ members_from due ms ++ events_text (due_members due ms) es
  members_printed true no_members es = refl
  members_printed false no_members es = refl
  members_printed due (member name v ms) es =
      ap (λ l. comma due ++ (json_key name ++ events_text false l)) (append_assoc (value_events v) (member_events ms) es)
      ∙ ap (λ l. comma due ++ (json_key name ++ l)) (value_printed false v (member_events ms ++ es))
      ∙ ap (λ l. comma due ++ (json_key name ++ (value_text v ++ l))) (members_printed true ms es)
      ∙ ap (λ b. comma due ++ (json_key name ++ (value_text v ++ (more_members ms ++ events_text b es)))) (still_members ms)
      ∙ behind_three (comma due) (json_key name) (value_text v) (more_members ms) (events_text true es)
      ∙ ap (λ l. l ++ events_text true es) (sym (comma_member due name v ms))

-- the text of the data
pub data_printed : (ms : Members) → events_text false (member_events ms) ≡ members_text ms
data_printed ms =
    ap (events_text false) (sym (append-nil (member_events ms)))
    ∙ members_printed false ms []
    ∙ append-nil (members_text ms)
