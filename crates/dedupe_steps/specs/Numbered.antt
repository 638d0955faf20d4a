-- Things that are numbered anew: those of one key get one number, in the order of their first ones.
use Rattle.std.specs.Prelude.{◌≡◌, ◌<◌, ◌≤◌, ℕ, List, length, Some, slice_get, unwrap_or}

-- the number at a place of a list
abbrev pub at : List ℕ → ℕ → ℕ
at numbers k = unwrap_or (slice_get numbers k) 0

pub record Renaming : Type 0 where
  -- the new number of each
  pub to : List ℕ
  -- and the first that has each new number
  pub firsts : List ℕ

pub record IsNumbered {K : Type 0} (count : ℕ) (key : ℕ → K) (r : Renaming) : Type 0 where
  pub all : length r.to ≡ count
  pub named : (k : ℕ) → k < count → at r.to k < length r.firsts
  -- two have one number exactly where they have one key
  pub one_key : (j k : ℕ) → j < count → k < count → at r.to j ≡ at r.to k → key j ≡ key k
  pub one_number : (j k : ℕ) → j < count → k < count → key j ≡ key k → at r.to j ≡ at r.to k
  -- numbers are given in the order of the first ones
  pub first : (m k : ℕ) → slice_get r.firsts m ≡ Some k → (k < count) × (at r.to k ≡ m)
  pub least : (m j k : ℕ) → slice_get r.firsts m ≡ Some k → j < count → at r.to j ≡ m → k ≤ j
  pub rising : (l m j k : ℕ) → slice_get r.firsts l ≡ Some j → slice_get r.firsts m ≡ Some k → l < m → j < k
