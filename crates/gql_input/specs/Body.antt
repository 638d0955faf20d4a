-- Variables as a text of JSON.
use Rattle.std.specs.Prelude.{◌≡◌, ℕ, Bool, true, false, List, Some}
use Rattle.std.specs.Str.{IsUtf8}
use Rattle.serde_json.specs.Data.{Data, null, boolean, number, string, array, object}
use Rattle.serde_json.specs.Read.{read}

-- an object, or null, which has no members
abbrev pub is_variables : Data → Bool
is_variables null = true
is_variables (boolean b) = false
is_variables (number n) = false
is_variables (string s) = false
is_variables (array _) = false
is_variables (object _) = true

-- The bytes are JSON (RFC 8259) in UTF-8 that nests at most 127 deep, as `serde_json` reads it: of members with one
-- name the last counts, and a number too large for a float is none.
pub record AreVariablesOf (bytes : List ℕ) (d : Data) : Type 0 where
  pub utf8 : IsUtf8 bytes
  pub read_as : read bytes ≡ Some d
  pub shape : is_variables d ≡ true
