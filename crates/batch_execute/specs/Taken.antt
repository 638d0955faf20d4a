-- What is taken from what is left.
use Rattle.std.specs.Prelude.{◌≡◌, ℕ, ◌+◌, ◌<◌, Bool, true, false}

-- so many are taken, or there are fewer
abbrev pub Takes : ℕ → ℕ → ℕ → Bool → Type 0
Takes before now count true = now + count ≡ before
Takes before now count false = before < count
