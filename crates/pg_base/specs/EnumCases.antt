-- The enum case of a label by its bytes, so that it computes. A law says that it is the one by characters.
use Rattle.std.specs.Prelude.{ℕ, ◌&&◌, nat_le, Bool, if◌then◌else◌, List, [], ◌∷◌, map}
use Rattle.std.specs.Char.{to_ascii_uppercase}
use Rattle.name_rules.specs.Names.{is_name_character, separated, begun}
use Rattle.pg_base.specs.Pos.{is_continuation}

-- the characters of a text, with `_` in place of each that is in no name
abbrev pub name_characters : List ℕ → List ℕ
name_characters [] = []
name_characters (b ∷ bytes) =
    if is_name_character b then b ∷ name_characters bytes else
    (if is_continuation b then name_characters bytes else 95 ∷ name_characters bytes)

unfoldable pub case_of_label : List ℕ → List ℕ
case_of_label label = begun (map to_ascii_uppercase (separated (name_characters label)))
