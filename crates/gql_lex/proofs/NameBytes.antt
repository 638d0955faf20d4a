-- The table of the bytes of names.
use Rattle.std.proofs.Common.{◌≡◌, ℕ, zero, suc, ◌+◌, ◌<◌, Bool, true, false, ◌&&◌, List, [], ◌∷◌, length, get_or, slice_index_or, refl, sym, ap, ◌∙◌, arith}
use Rattle.std.proofs.lemmas.Bool.{and_parts, false≢true}
use Rattle.gql_lex.specs.Bytes.{is_name_byte}

abbrev same : Bool → Bool → Bool
same true x = x
same false true = false
same false false = true

same_is : (x y : Bool) → same x y ≡ true → x ≡ y
same_is true y e = sym e
same_is false true e = absurd (false≢true e)
same_is false false e = refl

-- the list from a byte on says of each whether names go on with it
abbrev pub agrees : List Bool → ℕ → Bool
agrees [] i = true
agrees (x ∷ xs) i = same x (is_name_byte i) && agrees xs (i + 1)

pub at_byte : (xs : List Bool) (i n : ℕ) → agrees xs i ≡ true → n < length xs → get_or xs n false ≡ is_name_byte (i + n)
at_byte [] i n e lt = absurd (omega arith)
at_byte (x ∷ xs) i zero e lt = let k : i ≡ i + 0 = omega arith in same_is x (is_name_byte i) (and_parts (same x (is_name_byte i)) (agrees xs (i + 1)) e).0 ∙ ap is_name_byte k
at_byte (x ∷ xs) i (suc n) e lt = let k : i + 1 + n ≡ i + suc n = omega arith in at_byte xs (i + 1) n (and_parts (same x (is_name_byte i)) (agrees xs (i + 1)) e).1 (omega arith) ∙ ap is_name_byte k

pub in_table : (xs : List Bool) (n : ℕ) → agrees xs 0 ≡ true → length xs ≡ 256 → n < 256 → slice_index_or xs n false ≡ is_name_byte n
in_table xs n e k lt = at_byte xs 0 n e (omega arith) ∙ ap is_name_byte (let z : 0 + n ≡ n = omega arith in z)
