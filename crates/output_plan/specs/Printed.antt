-- The text of what places show, in parts: of the place at i, with the places after it.
use Rattle.std.specs.Prelude.{ℕ, ◌+◌, Bool, true, false, List, [], ◌∷◌, ◌++◌, Option, Some, codes}
use Rattle.place_tree.specs.declared.place.Place.{Place}
use Rattle.place_tree.specs.Events.{comma}
use Rattle.place_tree.specs.declared.answer.Answer.{Answer}
use Rattle.place_tree.specs.declared.answer.Answer.TheVariants.{Shows, Fails, One, Many}
use Rattle.place_tree.specs.Response.{Members, members_of, members_text, more_members, leaf_text}
use Rattle.batch_execute.specs.Reading.{Trail}
use Rattle.output_plan.specs.Laid.{Laid, shown_on, shown_there}

-- the text of members, where some stand before them or none do
abbrev pub members_left : Bool → Members → List ℕ
members_left false members = members_text members
members_left true members = more_members members

-- the members that the places of this parent show
abbrev pub members_at : Laid → List Place → ℕ → Option ℕ → Trail → Members
members_at x places i parent trail = members_of (shown_there x) places i parent trail

abbrev pub object_text : Laid → List Place → ℕ → Trail → List ℕ
object_text x after i trail = codes "{" ++ (members_text (members_at x after (i + 1) (Some i) trail) ++ codes "}")

abbrev pub objects_text : Laid → List Place → ℕ → Bool → List Trail → List ℕ
objects_text x after i due [] = []
objects_text x after i due (s ∷ ss) = comma due ++ (object_text x after i s ++ objects_text x after i true ss)

abbrev pub list_text : Laid → List Place → ℕ → List Trail → List ℕ
list_text x after i ss = codes "[" ++ (objects_text x after i false ss ++ codes "]")

abbrev pub answer_text : Laid → List Place → ℕ → Answer Trail → List ℕ
answer_text x after i (Shows l) = leaf_text l
answer_text x after i (Fails message) = codes "null"
answer_text x after i (One s) = object_text x after i s
answer_text x after i (Many ss) = list_text x after i ss

-- the member of the place at i, behind a comma where one is due
abbrev pub member_text : Laid → List Place → ℕ → Bool → List ℕ → Trail → List ℕ
member_text x after i due label trail = (comma due ++ label) ++ answer_text x after i (shown_on x i trail)
