-- What tells types apart, and where types are found by it.
use Rattle.std.specs.Prelude.{◌≡◌, ◌<◌, ◌^◌, ℕ, suc, if◌then◌else◌, Bool, List, [], ◌∷◌, Option, Some, None, length}
use Rattle.std.specs.HashMap.{HashMap, get}
use Rattle.pg_base.specs.declared.role.Role.{Role}
use Rattle.pg_base.specs.declared.role.Role.TheVariants as role
use Rattle.schema_build.specs.declared.marks.Marks.{Marks}
use Rattle.schema_build.specs.contracts.marks.MarksPartialEq.TheImpl as marks_eq

abbrev pub marks : ℕ → ℕ → ℕ → Marks
marks purpose table key = record { purpose = purpose; table = table; key = key }

-- the marks of each type are its own
abbrev pub marks_of : Role → Marks
marks_of role.BigInt = marks 0 0 0
marks_of role.Cursor = marks 1 0 0
marks_of role.PageInfo = marks 2 0 0
marks_of role.Query = marks 3 0 0
marks_of role.Mutation = marks 4 0 0
marks_of (role.Enum place) = marks 5 place 0
marks_of (role.Row table) = marks 6 table 0
marks_of (role.Connection table) = marks 7 table 0
marks_of (role.Edge table) = marks 8 table 0
marks_of (role.Order table) = marks 9 table 0
marks_of (role.Condition table) = marks 10 table 0
marks_of (role.Input table) = marks 11 table 0
marks_of (role.Patch table) = marks 12 table 0
marks_of (role.CreateInput table) = marks 13 table 0
marks_of (role.CreatePayload table) = marks 14 table 0
marks_of (role.UpdatePayload table) = marks 15 table 0
marks_of (role.DeletePayload table) = marks 16 table 0
marks_of (role.UpdateInput table key) = marks 17 table key
marks_of (role.DeleteInput table key) = marks 18 table key

abbrev pub same_marks : Marks → Marks → Bool
same_marks = (marks_eq.ghosts).eq

-- the first place, counted from a number on, of a type with the marks
abbrev pub found_from : ℕ → List Role → Marks → Option ℕ
found_from place [] m = None
found_from place (r ∷ roles) m = if same_marks (marks_of r) m then Some place else found_from (suc place) roles m

-- the map has the first place of each of the types, of which there are few enough that 32 bits number them
pub record AreFound {S : Type 0} (roles : List Role) (places : HashMap Marks ℕ S) : Type 0 where
  pub few : length roles < 2 ^ 32
  pub found : (m : Marks) → get same_marks places m ≡ found_from 0 roles m
