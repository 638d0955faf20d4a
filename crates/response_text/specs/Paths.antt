-- Paths as the code keeps them, outermost part first.
use Rattle.std.specs.Prelude.{ℕ, ◌<◌, Bool, true, false, List, [], ◌++◌, map, reverse, codes, decimal, ⊤}
use Rattle.std.specs.List.{All}
use Rattle.json_out.specs.JsonText.{json_text}
use Rattle.pg_base.specs.declared.pos.Pos.{Pos}
use Rattle.place_tree.specs.Response.{PathPart, key, index, FieldError, path_text, more_parts, errors_text, more_errors}
use Rattle.response_text.specs.declared.path.Part.{Part}
use Rattle.response_text.specs.declared.path.Part.TheVariants as part

abbrev pub part_of : Part → PathPart
part_of part.Member = key []
part_of (part.Key name) = key name.now
part_of (part.Index place) = index place

-- the path, innermost part first, as definitions keep it
abbrev pub path_of : List Part → List PathPart
path_of parts = map part_of (reverse parts)

-- ---- each place in a list lies below a number

abbrev pub IsBelow : ℕ → Part → Type 0
IsBelow n part.Member = ⊤
IsBelow n (part.Key name) = ⊤
IsBelow n (part.Index place) = place < n

abbrev pub AreBelow : ℕ → List Part → Type 0
AreBelow n parts = All (IsBelow n) parts

-- ---- what is still to be written, where a part has been written or none has

abbrev pub parts_left : Bool → List PathPart → List ℕ
parts_left false path = path_text path
parts_left true path = more_parts path

-- the same of errors, with their end
abbrev pub errors_left : Bool → List FieldError → List ℕ
errors_left false errors = errors_text errors
errors_left true errors = more_errors errors ++ codes "],"

-- what stands before an error
abbrev pub before_error : Bool → List ℕ
before_error false = codes "\"errors\":["
before_error true = codes ","

-- ---- an error in three pieces

unfoldable pub message_piece : List ℕ → List ℕ
message_piece message = codes "{\"message\":" ++ json_text message

unfoldable pub place_piece : Pos → List ℕ
place_piece pos =
    (codes ",\"locations\":[{\"line\":" ++ decimal pos.line) ++ (codes ",\"column\":" ++ decimal pos.column)

unfoldable pub path_piece : List PathPart → List ℕ
path_piece path = codes "}],\"path\":[" ++ (path_text path ++ codes "]}")

abbrev pub error_pieces : List ℕ → Pos → List PathPart → List ℕ
error_pieces message pos path = message_piece message ++ (place_piece pos ++ path_piece path)
