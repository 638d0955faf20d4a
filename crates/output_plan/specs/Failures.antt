-- The errors of what places show, in parts: of the place at i, with the places after it.
use Rattle.std.specs.Prelude.{ℕ, ◌+◌, Bool, true, false, List, [], ◌∷◌, ◌++◌, Option, Some, None, slice_get}
use Rattle.pg_base.specs.declared.pos.Pos.{Pos}
use Rattle.place_tree.specs.declared.place.Place.{Place}
use Rattle.place_tree.specs.declared.answer.Answer.{Answer}
use Rattle.place_tree.specs.declared.answer.Answer.TheVariants.{Shows, Fails, One, Many}
use Rattle.place_tree.specs.Response.{PathPart, index, FieldError, member_errors}
use Rattle.batch_execute.specs.declared.role.Role.{Role}
use Rattle.batch_execute.specs.declared.role.Role.TheVariants.{Failed, OfList, OfRow, Each, Same, OfLeaf}
use Rattle.batch_execute.specs.Reading.{Trail}
use Rattle.output_plan.specs.Laid.{Laid}
use Rattle.output_plan.specs.Printed.{members_at}

abbrev pub object_errors : Laid → List Place → ℕ → Trail → List PathPart → List FieldError
object_errors x after i trail path = member_errors (members_at x after (i + 1) (Some i) trail) path

abbrev pub objects_errors : Laid → List Place → ℕ → ℕ → List Trail → List PathPart → List FieldError
objects_errors x after i n [] path = []
objects_errors x after i n (s ∷ ss) path =
    object_errors x after i s (path ++ index n ∷ []) ++ objects_errors x after i (n + 1) ss path

abbrev pub error_here : List ℕ → Pos → List PathPart → FieldError
error_here message pos path = record { message = message; pos = pos; path = path }

abbrev pub answer_errors : Laid → List Place → ℕ → Pos → Answer Trail → List PathPart → List FieldError
answer_errors x after i pos (Shows l) path = []
answer_errors x after i pos (Fails message) path = error_here message pos path ∷ []
answer_errors x after i pos (One s) path = object_errors x after i s path
answer_errors x after i pos (Many ss) path = objects_errors x after i 0 ss path

-- ---- of the place at i, and nothing where there is none

abbrev pub pos_or : Option Place → Pos
pos_or None = record { line = 0; column = 0 }
pos_or (Some p) = p.pos

abbrev pub key_or : Option Place → List ℕ
key_or None = []
key_or (Some p) = p.key

abbrev pub pos_at : List Place → ℕ → Pos
pos_at places i = pos_or (slice_get places i)

abbrev pub key_at : List Place → ℕ → List ℕ
key_at places i = key_or (slice_get places i)

-- ---- roles

abbrev pub is_failed : Role → Bool
is_failed (Failed message) = true
is_failed (OfList shown) = false
is_failed OfRow = false
is_failed Each = false
is_failed Same = false
is_failed OfLeaf = false
