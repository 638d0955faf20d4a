-- What tokens spell.
use Rattle.std.specs.Prelude.{ℕ, ◌-◌, Bool, true, false, ◌&&◌, ◌==◌, if◌then◌else◌, List, [], ◌∷◌, take, drop, map}
use Rattle.std.specs.Char.{to_ascii_lowercase}
use Rattle.sql_lex.specs.declared.token.Token.{Token}
use Rattle.sql_lex.specs.declared.token.TokenKind.{TokenKind}
use Rattle.sql_lex.specs.declared.token.TokenKind.TheVariants.{EscStr}

-- the bytes of the token
abbrev pub spelling : List ℕ → Token → List ℕ
spelling text t = take (t.«to» - t.from) (drop t.from text)

-- what the byte after a backslash stands for
abbrev pub escaped : ℕ → ℕ
escaped b = if b == 110 then 10 else (if b == 116 then 9 else b)

-- what stands between quotes, from after the opening one on
unfoldable mutual
  pub unquoted : Bool → ℕ → List ℕ → List ℕ
  unquoted escapes quote [] = []
  unquoted escapes quote (b ∷ z) =
      if b == quote then unquoted_quote escapes quote z
      else (if escapes && b == 92 then unquoted_escape escapes quote z
      else b ∷ unquoted escapes quote z)

  pub unquoted_quote : Bool → ℕ → List ℕ → List ℕ
  unquoted_quote escapes quote [] = []
  unquoted_quote escapes quote (b ∷ z) = if b == quote then quote ∷ unquoted escapes quote z else []

  pub unquoted_escape : Bool → ℕ → List ℕ → List ℕ
  unquoted_escape escapes quote [] = []
  unquoted_escape escapes quote (b ∷ z) = escaped b ∷ unquoted escapes quote z

-- a word in lower case
abbrev pub folded : List ℕ → Token → List ℕ
folded text t = map to_ascii_lowercase (spelling text t)

-- a quoted name without its quotes
abbrev pub unquoted_name : List ℕ → Token → List ℕ
unquoted_name text t = unquoted false 34 (drop 1 (spelling text t))

-- a string without its quotes and escapes
abbrev pub string_value_of : TokenKind → List ℕ → List ℕ
string_value_of EscStr bytes = unquoted true 39 (drop 2 bytes)
string_value_of _ bytes = unquoted false 39 (drop 1 bytes)

abbrev pub string_value : List ℕ → Token → List ℕ
string_value text t = string_value_of t.kind (spelling text t)
