-- Lists that are changed at a place, and that are split in two by a test.
use Rattle.std.specs.Prelude.{◌≡◌, ℕ, ◌+◌, ◌^◌, ◌<◌, ◌≤◌, Bool, true, List, ◌++◌, take, drop, length, slice_index_or}
use Rattle.std.specs.List.{flat_map, slice_get}
use Rattle.std.specs.Prelude.{Option, None, Some, ⊤}

-- the list with `gone` items taken out at the place, and others put there
abbrev pub splice : {T : Type 0} → List T → ℕ → ℕ → List T → List T
splice xs at gone more = take at xs ++ (more ++ drop (at + gone) xs)

-- the items that pass stand before those that don't
pub record Splits {T : Type 0} (p : T → Bool) (xs : List T) : Type 0 where
  pub lower : (i j : ℕ) (d : T) → i ≤ j → j < length xs
      → p (slice_index_or xs j d) ≡ true → p (slice_index_or xs i d) ≡ true

-- the place lies in the k-th part, at another place there, with `gone` items after it
pub record IsSeat {C T : Type 0} (items : C → List T) (parts : List C) (at gone k rest : ℕ) : Type 0 where
  pub within : k < length parts
  pub passed : length (flat_map items (take k parts)) + rest ≡ at
  pub fits : (c : C) → rest + gone ≤ length (items (slice_index_or parts k c))

-- the first parts begin before the place, and the others at it or after
pub record IsBegun {C T : Type 0} (items : C → List T) (parts : List C) (count place : ℕ) : Type 0 where
  pub within : count ≤ length parts
  pub before : (k : ℕ) → k + 1 ≡ count → length (flat_map items (take k parts)) < place
  pub after : count < length parts → place ≤ length (flat_map items (take count parts))

-- these items stand in the list from the place on
pub record IsRun {T : Type 0} (xs : List T) (at : ℕ) (run : List T) : Type 0 where
  pub rest : drop at xs ≡ run ++ drop (at + length run) xs

-- from 1 to 32 parts, of `len` items in all
pub record IsBranch {C T : Type 0} (items : C → List T) (parts : List C) (len : ℕ) : Type 0 where
  pub parts_some : 0 < length parts
  pub parts_few : length parts ≤ 32
  pub sum : len ≡ length (flat_map items parts)
  pub some : 0 < len
  pub fits : len < 2 ^ 64

-- a search has come so far: the place lies after the begin of the part before low, and not after that of the part at
-- high
pub record IsNarrowed {C T : Type 0} (items : C → List T) (parts : List C) (low high place : ℕ) : Type 0 where
  pub order : low ≤ high
  pub within : high ≤ length parts
  pub before : (k : ℕ) → k + 1 ≡ low → length (flat_map items (take k parts)) < place
  pub after : high < length parts → place ≤ length (flat_map items (take high parts))

-- parts of `len` items in all
pub record IsTop {C T : Type 0} (items : C → List T) (parts : List C) (len : ℕ) : Type 0 where
  pub sum : len ≡ length (flat_map items parts)
  pub fits : len < 2 ^ 64

-- what a mark tells of the items that have it
abbrev pub Tells : {T : Type 0} → (T → ℕ) → (T → Bool) → ℕ → Option Bool → Type 0
Tells mark p m None = ⊤
Tells {T} mark p m (Some told) = (x : T) → mark x ≡ m → p x ≡ told

-- the mark of the first item
pub record IsFirstMark {T : Type 0} (mark : T → ℕ) (xs : List T) (m : ℕ) : Type 0 where
  pub first : (x : T) → slice_get xs 0 ≡ Some x → mark x ≡ m

-- whether the first item passes
pub record IsFirstBefore {T : Type 0} (p : T → Bool) (xs : List T) (told : Bool) : Type 0 where
  pub first : (x : T) → slice_get xs 0 ≡ Some x → p x ≡ told
