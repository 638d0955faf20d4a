-- What a call gives that has room for a number of row trees.
use Rattle.std.specs.Prelude.{◌≡◌, ℕ, ◌+◌, ◌<◌, Result, Ok, Err, ⊤}
use Rattle.stmt_tree.specs.declared.found.RunFault.{RunFault}
use Rattle.stmt_tree.specs.declared.found.RunFault.TheVariants.{Store, TooMany, Memory}

-- why a number of rows isn't given: there is less room than that, or memory ran out
abbrev pub IsCause : ℕ → ℕ → RunFault → Type 0
IsCause count room Store = ⊥
IsCause count room TooMany = room < count
IsCause count room Memory = ⊤

-- what is due, taken from the room that was left; or that it needs more room than there was
abbrev pub Gives : {A : Type 0} → (A → ℕ) → ℕ → ℕ → Result A RunFault → A → Type 0
Gives count before after (Ok x) due = (x ≡ due) × (after + count due ≡ before)
Gives count before after (Err fault) due = IsCause (count due) before fault

-- room is taken for a number of rows, or there is less
abbrev pub IsTaken : {A : Type 0} → ℕ → ℕ → ℕ → Result A RunFault → Type 0
IsTaken count before after (Ok x) = after + count ≡ before
IsTaken count before after (Err fault) = IsCause count before fault
