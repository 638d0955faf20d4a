-- The reader of cursors, and of the JSON in them.
use Rattle.std.specs.Prelude.{ℕ, ◌+◌, ◌-◌, ◌*◌, ◌^◌, zero, suc, ℤ, pos, negsuc, Bool, true, false, not, ◌&&◌, ◌||◌, ◌==◌, nat_lt, if◌then◌else◌}
use Rattle.std.specs.Prelude.{List, [], ◌∷◌, length, take_while, Option, Some, None, Result, Ok, Err}
use Rattle.std.specs.Option.{option_and_then}
use Rattle.std.specs.Char.{is_ascii_digit}
use Rattle.std.specs.Str.{is_utf8}
use Rattle.std.specs.Str.Parse.{digits_value}
use Rattle.base64.specs.Engines.{standard}
use Rattle.base64.specs.GeneralPurpose.{decode_of}
use Rattle.pg_base.specs.declared.value.Value.{Value}
use Rattle.pg_base.specs.declared.value.Value.TheVariants as value
use Rattle.cursor_text.specs.declared.cursor.Cursor.{Cursor}
use Rattle.cursor_text.specs.Reader.{Reader, ◌>>=◌, pure, given, fails, any_byte, byte, after_byte, past, until}

-- ---- numbers

-- one digit, or several of which the first isn't a zero
abbrev pub is_spelled : List ℕ → Bool
is_spelled [] = false
is_spelled (b ∷ []) = true
is_spelled (b ∷ c ∷ digits) = not (b == 48)

abbrev pub natural_of : List ℕ → Option ℕ
natural_of digits =
    if is_spelled digits && nat_lt (digits_value 10 digits) (2 ^ 64) then Some (digits_value 10 digits) else None

-- an unsigned integer of 64 bits
unfoldable pub natural : Reader ℕ
natural = λ bytes. given (natural_of (take_while is_ascii_digit bytes)) (past is_ascii_digit bytes)

-- there is no `-0`
abbrev pub negative_of : ℕ → Option ℤ
negative_of zero = None
negative_of (suc n) = if nat_lt n (2 ^ 63) then Some (negsuc n) else None

abbrev pub positive_of : ℕ → Option ℤ
positive_of n = if nat_lt n (2 ^ 63) then Some (pos n) else None

unfoldable pub negative : Reader ℤ
negative = natural >>= λ n. given (negative_of n)

unfoldable pub positive : Reader ℤ
positive = natural >>= λ n. given (positive_of n)

-- a signed integer of 64 bits
unfoldable pub integer : Reader ℤ
integer = after_byte 45 negative positive

-- ---- texts

-- what a hexadecimal digit in lower case stands for
abbrev pub hex_value : ℕ → Option ℕ
hex_value d =
    if nat_lt d 48 then None else (if nat_lt d 58 then Some (d - 48) else
    (if nat_lt d 97 then None else (if nat_lt d 103 then Some (d - 87) else None)))

-- a byte that has no shorter escape and needs one
abbrev pub is_numbered : ℕ → Bool
is_numbered b = nat_lt b 32 && not ((b == 8 || (b == 9 || b == 10)) || (b == 12 || b == 13))

abbrev pub numbered_of : ℕ → ℕ → Option ℕ
numbered_of high low = if is_numbered (16 * high + low) then Some (16 * high + low) else None

-- the byte of two hexadecimal digits
abbrev pub control_of : ℕ → ℕ → Option ℕ
control_of high low = option_and_then (λ h. option_and_then (λ l. numbered_of h l) (hex_value low)) (hex_value high)

-- what stands after `\u`
unfoldable pub numbered : Reader ℕ
numbered = do
  first_zero ← byte 48
  second_zero ← byte 48
  high ← any_byte
  low ← any_byte
  given (control_of high low)

-- the byte that a letter after `\` stands for
abbrev pub lettered : ℕ → Option ℕ
lettered c =
    if c == 34 then Some 34 else (if c == 92 then Some 92 else (if c == 98 then Some 8 else
    (if c == 116 then Some 9 else (if c == 110 then Some 10 else (if c == 102 then Some 12 else
    (if c == 114 then Some 13 else None))))))

-- what stands after `\`
unfoldable pub escape : Reader ℕ
escape = any_byte >>= λ c. if c == 117 then numbered else given (lettered c)

-- one byte of a text
unfoldable pub text_byte : Reader ℕ
text_byte =
    any_byte >>= λ b. if b == 92 then escape else (if b == 34 then fails else (if nat_lt b 32 then fails else pure b))

abbrev pub utf8_of : List ℕ → Option (List ℕ)
utf8_of bytes = if is_utf8 bytes then Some bytes else None

-- what stands after a text's first quote
unfoldable pub text_rest : Reader (List ℕ)
text_rest = until 34 text_byte >>= λ bytes. given (utf8_of bytes)

unfoldable pub text : Reader (List ℕ)
text = byte 34 >>= λ quote. text_rest

-- ---- values

unfoldable pub null_rest : Reader Value
null_rest = do
  u ← byte 117
  l ← byte 108
  again ← byte 108
  pure value.Null

unfoldable pub true_rest : Reader Value
true_rest = do
  r ← byte 114
  u ← byte 117
  e ← byte 101
  pure (value.Bool true)

unfoldable pub false_rest : Reader Value
false_rest = do
  a ← byte 97
  l ← byte 108
  s ← byte 115
  e ← byte 101
  pure (value.Bool false)

unfoldable pub text_value : Reader Value
text_value = text_rest >>= λ t. pure (value.Text t)

unfoldable pub int_value : Reader Value
int_value = integer >>= λ n. pure (value.Int n)

unfoldable pub text_or_int : Reader Value
text_or_int = after_byte 34 text_value int_value

unfoldable pub mark_value : Reader Value
mark_value = after_byte 110 null_rest (after_byte 116 true_rest (after_byte 102 false_rest text_or_int))

-- ---- lists

-- an item after a comma
unfoldable pub later : {A : Type 0} → Reader A → Reader A
later item = byte 44 >>= λ comma. item

unfoldable pub some_items : {A : Type 0} → Reader A → Reader (List A)
some_items item = item >>= λ x. until 93 (later item) >>= λ xs. pure (x ∷ xs)

unfoldable pub list : {A : Type 0} → Reader A → Reader (List A)
list item = byte 91 >>= λ open_bracket. after_byte 93 (pure []) (some_items item)

-- ---- cursors

unfoldable pub cursor : Reader Cursor
cursor = do
  open_bracket ← byte 91
  order ← list text
  first_comma ← byte 44
  values ← list mark_value
  second_comma ← byte 44
  number ← natural
  close_bracket ← byte 93
  pure (record { order = order; values = values; number = number })

-- one value for each name, a row's number from 1, and nothing after it
abbrev pub is_whole : Cursor → List ℕ → Bool
is_whole c [] = (length c.values == length c.order) && nat_lt 0 c.number
is_whole c (b ∷ bytes) = false

abbrev pub whole : Option (Cursor × List ℕ) → Option Cursor
whole None = None
whole (Some x) = if is_whole x.0 x.1 then Some x.0 else None

-- the cursor that the JSON spells
unfoldable pub cursor_in : List ℕ → Option Cursor
cursor_in bytes = whole (cursor bytes)

abbrev pub decoded_cursor : {E : Type 0} → Result (List ℕ) E → Option Cursor
decoded_cursor (Ok json) = cursor_in json
decoded_cursor (Err fault) = None

-- the cursor that the text is, and none where it is no cursor's
unfoldable pub cursor_at : List ℕ → Option Cursor
cursor_at text = decoded_cursor (decode_of standard text)
