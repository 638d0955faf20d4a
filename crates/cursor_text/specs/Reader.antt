-- Readers: functions from the bytes that are left to what they read and the bytes after it.
use Rattle.std.specs.Prelude.{◌≡◌, ℕ, zero, suc, Bool, ◌==◌, if◌then◌else◌, List, [], ◌∷◌, ◌++◌, length, drop, take_while, Option, Some, None, Result, Ok, Err, ⊤}
use Rattle.cursor_text.specs.declared.fault.ReadFault.{ReadFault}
use Rattle.cursor_text.specs.declared.fault.ReadFault.TheVariants as fault

abbrev pub Reader : Type 0 → Type 0
Reader A = List ℕ → Option (A × List ℕ)

abbrev pub and_then : {A B : Type 0} → Option (A × List ℕ) → (A → Reader B) → Option (B × List ℕ)
and_then (Some x) f = f x.0 x.1
and_then None f = None

infixl 10 ◌>>=◌
abbrev pub ◌>>=◌ : {A B : Type 0} → Reader A → (A → Reader B) → Reader B
r >>= f = λ bytes. and_then (r bytes) f

abbrev pub pure : {A : Type 0} → A → Reader A
pure a = λ bytes. Some (a, bytes)

-- a value that there may be
abbrev pub given : {A : Type 0} → Option A → Reader A
given None = λ bytes. None
given (Some a) = pure a

-- the next byte
abbrev pub any_byte : Reader ℕ
any_byte [] = None
any_byte (b ∷ bytes) = Some (b, bytes)

-- this byte
abbrev pub byte : ℕ → Reader (Unit {0})
byte wanted [] = None
byte wanted (b ∷ bytes) = if b == wanted then Some (tt, bytes) else None

abbrev pub fails : {A : Type 0} → Reader A
fails = λ bytes. None

abbrev pub by_byte : {A : Type 0} → Option (Unit {0} × List ℕ) → Reader A → Reader A → Reader A
by_byte (Some x) p q = λ bytes. p x.1
by_byte None p q = q

-- the first reader after the byte where it is there, and else the second
abbrev pub after_byte : {A : Type 0} → ℕ → Reader A → Reader A → Reader A
after_byte b p q = λ bytes. by_byte (byte b bytes) p q bytes

-- what stands after the longest run of bytes that pass the test
abbrev pub past : (ℕ → Bool) → List ℕ → List ℕ
past test bytes = drop (length (take_while test bytes)) bytes

-- items up to the byte that closes them. The number bounds the turns: each takes a byte.
unfoldable pub items_until : {A : Type 0} → ℕ → Reader A → ℕ → Reader (List A)
items_until close item zero = fails
items_until close item (suc n) =
    after_byte close (pure []) (item >>= λ x. items_until close item n >>= λ xs. pure (x ∷ xs))

unfoldable pub until : {A : Type 0} → ℕ → Reader A → Reader (List A)
until close item = λ bytes. items_until close item (length bytes) bytes

-- items after those that were found
abbrev pub after_items : {A : Type 0} → List A → Reader (List A) → Reader (List A)
after_items found r = r >>= λ xs. pure (found ++ xs)

-- ---- what the functions that read ensure

-- what the reader gives, unless memory runs out
abbrev pub Reads : {A : Type 0} → Option (A × List ℕ) → Result A ReadFault → List ℕ → Type 0
Reads outcome (Ok a) new = outcome ≡ Some (a, new)
Reads outcome (Err fault.NoCursor) new = outcome ≡ None
Reads outcome (Err fault.Memory) new = ⊤
