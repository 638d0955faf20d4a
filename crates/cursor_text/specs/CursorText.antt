-- The text of cursors: RFC 4648's base64 of a JSON text that has one spelling.
use Rattle.std.specs.Prelude.{◌≡◌, ◌<◌, ◌^◌, ℕ, Bool, true, false, List, [], ◌∷◌, ◌++◌, length, flat_map, codes, decimal, ⊤}
use Rattle.std.specs.Str.{IsUtf8}
use Rattle.std.specs.Int.{w64}
use Rattle.std.specs.Int.RustNames.{FitsSigned}
use Rattle.base64.specs.Engines.{standard}
use Rattle.base64.specs.GeneralPurpose.{encode_of}
use Rattle.json_out.specs.JsonText.{json_text, json_int}
use Rattle.pg_base.specs.Lists.{Each}
use Rattle.pg_base.specs.declared.value.Value.{Value, Null, Int, Bool as BoolOf, Text, Case, List', Object'}
use Rattle.cursor_text.specs.declared.cursor.Cursor.{Cursor}

-- ---- JSON (RFC 8259), with no space

-- the items that follow, each after a comma, and the bracket that closes the list (section 5)
abbrev pub later_json : {A : Type 0} → (A → List ℕ) → List A → List ℕ
later_json json xs = flat_map (λ x. 44 ∷ json x) xs ++ 93 ∷ []

-- a list
abbrev pub list_json : {A : Type 0} → (A → List ℕ) → List A → List ℕ
list_json json [] = codes "[]"
list_json json (x ∷ xs) = 91 ∷ (json x ++ later_json json xs)

abbrev pub bool_json : Bool → List ℕ
bool_json true = codes "true"
bool_json false = codes "false"

-- a value of an order; a cursor holds no case, list or object
abbrev pub value_json : Value → List ℕ
value_json Null = codes "null"
value_json (Int n) = json_int n
value_json (BoolOf b) = bool_json b
value_json (Text t) = json_text t
value_json (Case t) = []
value_json (List' _ xs) = []
value_json (Object' _ ms) = []

-- `[ORDER,VALUES,NUMBER]`
abbrev pub cursor_json : Cursor → List ℕ
cursor_json c =
    91 ∷ (list_json json_text c.order ++ 44 ∷ (list_json value_json c.values ++ 44 ∷ (decimal c.number ++ 93 ∷ [])))

-- ---- cursors

-- in base64 with the standard alphabet and padding (RFC 4648, section 4)
abbrev pub cursor_text : Cursor → List ℕ
cursor_text c = encode_of standard (cursor_json c)

-- null, an integer of 64 bits, true, false, or a text, which stands for an enum's label too
abbrev pub IsMarkValue : Value → Type 0
IsMarkValue Null = ⊤
IsMarkValue (Int n) = FitsSigned w64 n
IsMarkValue (BoolOf b) = ⊤
IsMarkValue (Text t) = IsUtf8 t
IsMarkValue (Case t) = ⊥
IsMarkValue (List' _ xs) = ⊥
IsMarkValue (Object' _ ms) = ⊥

-- rows are numbered from 1
abbrev pub IsRowNumber : ℕ → Type 0
IsRowNumber n = (0 < n) × (n < 2 ^ 64)

-- one value for each name
pub record IsValidCursor (c : Cursor) : Type 0 where
  pub order : Each IsUtf8 c.order
  pub values : Each IsMarkValue c.values
  pub pairs : length c.values ≡ length c.order
  pub number : IsRowNumber c.number

-- the text is that of the cursor
pub record IsCursor (text : List ℕ) (c : Cursor) : Type 0 where
  pub spelled : text ≡ cursor_text c
  pub valid : IsValidCursor c

-- the text is that of no cursor
abbrev pub IsNoCursor : List ℕ → Type 0
IsNoCursor text = (c : Cursor) → IsCursor text c → ⊥
