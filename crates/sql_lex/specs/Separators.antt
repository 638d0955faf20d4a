-- What separates tokens: blanks, comments from two dashes to the end of the line, and nesting comments.
use Rattle.std.specs.Prelude.{ℕ, suc, ◌-◌, ◌&&◌, ◌==◌, if◌then◌else◌, List, [], ◌∷◌, Result, Ok, Err}
use Rattle.sql_lex.specs.Bytes.{is_blank, is_line_end}
use Rattle.sql_lex.specs.Faults.{unterminated_comment, stray_byte}

-- Why no token can be read: the number of the fault, the rest of the text at which it stands, and the rest that was not
-- looked at before it was found.
pub record Stop : Type 0 where
  pub which : ℕ
  pub stands : List ℕ
  pub unread : List ℕ

-- what begins here has no end, which is this fault
abbrev pub unterminated : ℕ → List ℕ → Stop
unterminated fault whole = record { which = fault; stands = whole; unread = [] }

-- the byte in front is one that cannot stand there
abbrev pub stray : ℕ → List ℕ → Stop
stray b rest = record { which = stray_byte; stands = b ∷ rest; unread = rest }

-- What stands after all separators; the same from within the line of a comment; and from within a nesting comment, so
-- many levels deep in the one that begins at `whole`.
unfoldable mutual
  pub after_separators : List ℕ → Result (List ℕ) Stop
  after_separators [] = Ok []
  after_separators (b ∷ []) = if is_blank b then Ok [] else Ok (b ∷ [])
  after_separators (b ∷ c ∷ z) =
      if is_blank b then after_separators (c ∷ z)
      else (if b == 45 && c == 45 then after_line z
      else (if b == 47 && c == 42 then after_comment (b ∷ c ∷ z) 0 z
      else Ok (b ∷ c ∷ z)))

  pub after_line : List ℕ → Result (List ℕ) Stop
  after_line [] = Ok []
  after_line (b ∷ z) = if is_line_end b then after_separators z else (if b == 0 then Err (stray b z) else after_line z)

  pub after_comment : List ℕ → ℕ → List ℕ → Result (List ℕ) Stop
  after_comment whole depth [] = Err (unterminated unterminated_comment whole)
  after_comment whole depth (b ∷ []) = if b == 0 then Err (stray b [])
      else Err (unterminated unterminated_comment whole)
  after_comment whole depth (b ∷ c ∷ z) =
      if b == 0 then Err (stray b (c ∷ z))
      else (if b == 42 && c == 47 then (if depth == 0 then after_separators z else after_comment whole (depth - 1) z)
      else (if b == 47 && c == 42 then after_comment whole (suc depth) z
      else after_comment whole depth (c ∷ z)))
