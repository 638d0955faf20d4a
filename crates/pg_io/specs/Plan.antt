-- Which calls of a fake fail.
use Rattle.std.specs.Prelude.{◌≡◌, ℕ, ◌+◌, ◌-◌, ◌^◌, min, Bool, true, false, List, nat_eq, Result, Ok, Err, ⊤}
use Rattle.std.specs.List.{list_any}
use Rattle.pg_io.specs.declared.files.FileFault.{FileFault}
use Rattle.pg_io.specs.declared.files.FileFault.TheVariants as fault
use Rattle.pg_io.specs.Files.{Told, Holds, FailsOrWants}

-- how many calls were made, and the numbers, from 1, of those that fail
pub record Plan : Type 0 where
  pub calls : ℕ
  pub numbers : List ℕ

abbrev pub next_call : Plan → ℕ
next_call plan = min (plan.calls + 1) (2 ^ 64 - 1)

abbrev pub after_call : Plan → Plan
after_call plan = record { calls = next_call plan; numbers = plan.numbers }

-- whether the next call is one that fails
abbrev pub fails_next : Plan → Bool
fails_next plan = list_any (λ number. nat_eq number (next_call plan)) plan.numbers

-- no call was made yet
abbrev pub fresh : List ℕ → Plan
fresh numbers = record { calls = 0; numbers = numbers }

-- a call that is to fail fails, and no other does
abbrev pub FailsAsPlanned : {A E : Type 0} → Bool → Result A E → Type 0
FailsAsPlanned fails (Ok a) = fails ≡ false
FailsAsPlanned fails (Err e) = fails ≡ true

-- a call that is to fail fails; another may, where memory runs out
abbrev pub FailsWherePlanned : {A E : Type 0} → Bool → Result A E → Type 0
FailsWherePlanned fails (Ok a) = fails ≡ false
FailsWherePlanned fails (Err e) = ⊤

-- a call that is to fail fails, or finds no memory; no other fails at a file that is there
abbrev pub ReadsAsPlanned : Bool → Told → Result (List ℕ) FileFault → Type 0
ReadsAsPlanned true told result = FailsOrWants result
ReadsAsPlanned false (Holds bytes) (Err fault.Failed) = ⊥
ReadsAsPlanned false told result = ⊤
