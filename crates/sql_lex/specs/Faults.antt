-- The numbers of the faults.
use Rattle.std.specs.Prelude.{ℕ}

-- a string or a quoted name has no end
abbrev pub unterminated_text : ℕ
unterminated_text = 1

-- a comment has none
abbrev pub unterminated_comment : ℕ
unterminated_comment = 2

-- a byte can't stand where it does
abbrev pub stray_byte : ℕ
stray_byte = 3

-- a byte belongs to no character of UTF-8
abbrev pub not_utf8 : ℕ
not_utf8 = 4
