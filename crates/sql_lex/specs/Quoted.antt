-- Texts between quotes, in which two quotes stand for one.
use Rattle.std.specs.Prelude.{ℕ, Bool, ◌&&◌, ◌==◌, if◌then◌else◌, List, [], ◌∷◌, Result, Ok, Err}
use Rattle.sql_lex.specs.Bytes.{is_escape}
use Rattle.sql_lex.specs.Separators.{Stop, unterminated, stray}
use Rattle.sql_lex.specs.Faults.{unterminated_text}

-- What stands after the closing quote of a text whose opening one has been read, where the token begins at `whole`.
-- With
-- escapes, a backslash and the byte after it are one of these.
unfoldable mutual
  pub after_quoted : List ℕ → Bool → ℕ → List ℕ → Result (List ℕ) Stop
  after_quoted whole escapes quote [] = Err (unterminated unterminated_text whole)
  after_quoted whole escapes quote (b ∷ z) =
      if b == 0 then Err (stray b z)
      else (if b == quote then after_quote whole escapes quote z
      else (if escapes && b == 92 then after_backslash whole escapes quote b z
      else after_quoted whole escapes quote z))

  pub after_quote : List ℕ → Bool → ℕ → List ℕ → Result (List ℕ) Stop
  after_quote whole escapes quote [] = Ok []
  after_quote whole escapes quote (b ∷ z) = if b == quote then after_quoted whole escapes quote z else Ok (b ∷ z)

  pub after_backslash : List ℕ → Bool → ℕ → ℕ → List ℕ → Result (List ℕ) Stop
  after_backslash whole escapes quote b [] = Err (stray b [])
  after_backslash whole escapes quote b (c ∷ z) = if is_escape c then after_quoted whole escapes quote z
      else Err (stray b (c ∷ z))
