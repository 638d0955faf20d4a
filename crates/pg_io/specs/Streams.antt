-- What a call of a source or a sink does.
use Rattle.std.specs.Prelude.{◌≡◌, ℕ, ◌+◌, ◌-◌, ◌^◌, ◌<◌, ◌≤◌, min, List, [], ◌++◌, length, take, drop, Option, Some, None, Result, Ok, Err, ⊤}
use Rattle.pg_io.specs.declared.streams.Failed.{Failed}

-- a count of faults has risen, or stands at the end of its type
abbrev pub Rose : ℕ → ℕ → Type 0
Rose before now = (before ≤ now) × (min (before + 1) (2 ^ 64 - 1) ≤ now)

-- a call fails only where the count of faults rises, and else leaves it
abbrev pub HasCause : {A : Type 0} → ℕ → ℕ → Result A Failed → Type 0
HasCause before now (Ok a) = now ≡ before
HasCause before now (Err e) = Rose before now

abbrev pub ReadsWithin : Result ℕ Failed → List ℕ → Type 0
ReadsWithin (Ok n) into = n ≤ length into
ReadsWithin (Err e) into = ⊤

-- what a read does to bytes that are told: those that it gives are the next ones, and over some room none come at the
-- end alone
pub record TakesNext (left now : List ℕ) (n : ℕ) (into : List ℕ) : Type 0 where
  pub given : take n into ≡ take n left
  pub rest : now ≡ drop n left
  pub within : n ≤ length left
  pub ended : n ≡ 0 → 0 < length into → left ≡ []

abbrev pub ReadTakes : Option (List ℕ) → Option (List ℕ) → Result ℕ Failed → List ℕ → Type 0
ReadTakes None now result into = now ≡ None
ReadTakes (Some left) None result into = ⊥
ReadTakes (Some left) (Some now) (Ok n) into = TakesNext left now n into
ReadTakes (Some left) (Some now) (Err e) into = now ≡ left

abbrev pub WritesSome : Result ℕ Failed → List ℕ → Type 0
WritesSome (Ok n) from = (n ≤ length from) × (0 < length from → 0 < n)
WritesSome (Err e) from = ⊤

-- bytes that are told, of what passed so far: the first n of the piece come after them, and none where the call failed
abbrev pub Gains : Option (List ℕ) → Option (List ℕ) → Result ℕ Failed → List ℕ → Type 0
Gains None now result piece = now ≡ None
Gains (Some passed) now (Ok n) piece = now ≡ Some (passed ++ take n piece)
Gains (Some passed) now (Err e) piece = now ≡ Some passed

-- all of the bytes come after those that were taken, or where a call failed some of the first ones
abbrev pub Delivers : {A : Type 0} → Option (List ℕ) → Option (List ℕ) → Result A Failed → List ℕ → Type 0
Delivers None now result bytes = now ≡ None
Delivers (Some taken) now (Ok a) bytes = now ≡ Some (taken ++ bytes)
Delivers (Some taken) now (Err e) bytes = (n : ℕ) × (n ≤ length bytes) × (now ≡ Some (taken ++ take n bytes))
