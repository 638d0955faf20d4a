-- What a source gave, and what a reader gives to its end.
use Rattle.std.proofs.Common.{◌≡◌, ℕ, ◌+◌, ◌-◌, ◌^◌, ◌<◌, ◌≤◌, min, List, [], ◌++◌, length, take, drop, Option, Some, None, sym, ap, subst, ◌∙◌, take_all, arith}
use Rattle.std.specs.Prelude.{IfSome}
use Rattle.std.proofs.Math.Seq.{take-add}
use Rattle.std.proofs.lemmas.List.{take_min, length-take, take_rest, take-append-le}
use Rattle.std.specs.Option.{option_map}
use Rattle.pg_io.specs.Files.{ReadsUpTo}

-- the next bytes come after those that were given
pub given_more : (z piece : List ℕ) (at from n : ℕ) → from ≡ min at (length z) → take n piece ≡ take n (drop from z) → Some (take (from + n) z) ≡ Some (take at z ++ take n piece)
given_more z piece at from n start copied =
    ap (λ (l : List ℕ). Some l) (take-add from n z ∙ ap (λ (l : List ℕ). l ++ take n (drop from z)) (ap (λ (k : ℕ). take k z) start ∙ take_min at z) ∙ ap (λ (l : List ℕ). take at z ++ l) (sym copied))

-- what was copied to the front of the room
pub copied_front : (z copy old : List ℕ) (from n : ℕ) → copy ≡ take n (take (length z - from) (drop from z)) → n ≤ length (take (length z - from) (drop from z)) → take n (copy ++ old) ≡ take n (drop from z)
copied_front z copy old from n is within =
    let count : length copy ≡ min n (length (take (length z - from) (drop from z))) = ap (λ (l : List ℕ). length l) is ∙ length-take n (take (length z - from) (drop from z)) in
    let short : length copy ≤ n = omega (arith, count) in
    let long : n ≤ length copy = omega (arith, count, within) in
    take-append-le n copy old long ∙ take_all n copy short ∙ is ∙ ap (λ (l : List ℕ). take n l) (take_rest z from)

-- all bytes came, where fewer came than there was room for
pub whole_read : (known : Option (List ℕ)) (limit room : ℕ) (got : List ℕ) → room ≡ min (limit + 1) (2 ^ 64 - 1) → length got < 2 ^ 64 - 1
    → IfSome (option_map (take room) known) (λ xs. got ≡ xs) → length got ≤ limit → ReadsUpTo known limit (Some got)
whole_read None limit room got room_is small read within = (within, tt)
whole_read (Some xs) limit room got room_is small read within =
    let count : length got ≡ min room (length xs) = ap (λ (l : List ℕ). length l) read ∙ length-take room xs in
    let short : length xs ≤ room = omega (arith, count, room_is, small, within) in
    (within, read ∙ take_all room xs short)

-- what was read into an empty buffer
pub read_is : (known before : Option (List ℕ)) (room limit : ℕ) (start items got : List ℕ) → before ≡ known → limit ≡ room → start ≡ [] → got ≡ items
    → IfSome (option_map (take limit) before) (λ xs. items ≡ start ++ xs) → IfSome (option_map (take room) known) (λ xs. got ≡ xs)
read_is known before room limit start items got known_is limit_is empty got_is read = go known (subst (λ (k : Option (List ℕ)). IfSome (option_map (take limit) k) (λ xs. items ≡ start ++ xs)) known_is read)
  where
    go : (k : Option (List ℕ)) → IfSome (option_map (take limit) k) (λ xs. items ≡ start ++ xs) → IfSome (option_map (take room) k) (λ xs. got ≡ xs)
    go None r = tt
    go (Some xs) r = got_is ∙ r ∙ ap (λ (l : List ℕ). l ++ take limit xs) empty ∙ ap (λ (n : ℕ). take n xs) limit_is
