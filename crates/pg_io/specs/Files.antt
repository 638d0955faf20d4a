-- What a call that reads a file does.
use Rattle.std.specs.Prelude.{◌≡◌, ◌≢◌, ℕ, ◌<◌, ◌≤◌, List, length, Option, Some, None, IfSome, Result, Ok, Err, ⊤}
use Rattle.pg_io.specs.declared.files.FileFault.{FileFault}
use Rattle.pg_io.specs.declared.files.FileFault.TheVariants as fault
use Rattle.pg_io.specs.Streams.{Rose}

-- what is told of the file of a name: nothing, that there is none, or its bytes
pub data Told : Type 0 where
  Untold : Told
  Absent : Told
  Holds : List ℕ → Told

-- a file that is there is too large exactly where it passes the limit, unless the call failed; else its bytes come
abbrev pub HoldsFor : List ℕ → Result (List ℕ) FileFault → ℕ → Type 0
HoldsFor bytes (Ok got) limit = (got ≡ bytes) × (length bytes ≤ limit)
HoldsFor bytes (Err fault.TooLarge) limit = limit < length bytes
HoldsFor bytes (Err fault.Failed) limit = ⊤
HoldsFor bytes (Err (fault.Memory e)) limit = ⊤

abbrev pub FailsOrWants : Result (List ℕ) FileFault → Type 0
FailsOrWants (Err fault.Failed) = ⊤
FailsOrWants (Err (fault.Memory e)) = ⊤
FailsOrWants _ = ⊥

abbrev pub FileIs : Told → Result (List ℕ) FileFault → ℕ → Type 0
FileIs Untold result limit = ⊤
FileIs Absent result limit = FailsOrWants result
FileIs (Holds bytes) result limit = HoldsFor bytes result limit

-- a file whose bytes are known is read
abbrev pub ReadsFile : Option (List ℕ) → Result (List ℕ) FileFault → ℕ → Type 0
ReadsFile None result limit = ⊤
ReadsFile (Some bytes) result limit = HoldsFor bytes result limit

-- all of the bytes, where they are known, and none where they pass the limit
abbrev pub ReadsUpTo : Option (List ℕ) → ℕ → Option (List ℕ) → Type 0
ReadsUpTo known limit (Some got) = (length got ≤ limit) × IfSome known (λ bytes. got ≡ bytes)
ReadsUpTo known limit None = IfSome known (λ bytes. limit < length bytes)

-- a call fails only where the count of its name rises, and else leaves it
abbrev pub HasFileCause : ℕ → ℕ → Result (List ℕ) FileFault → Type 0
HasFileCause before now (Err fault.Failed) = Rose before now
HasFileCause before now _ = now ≡ before

-- the counts of other names stay
abbrev pub OthersStay : (List ℕ → ℕ) → (List ℕ → ℕ) → List ℕ → Type 0
OthersStay before now name = (other : List ℕ) → other ≢ name → now other ≡ before other
