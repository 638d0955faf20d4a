-- Integers as they are spelled: IntValue, section 2.9.1 of the GraphQL specification (October 2021).
use Rattle.std.specs.Prelude.{ℕ, ◌-◌, ◌^◌, nat_le, nat_lt, ◌==◌, ℤ, pos, negsuc, neg_ℤ, Bool, false, ◌&&◌, not, if◌then◌else◌}
use Rattle.std.specs.Prelude.{List, [], ◌∷◌, Ok, Err}
use Rattle.std.specs.List.{list_all}
use Rattle.std.specs.Str.Parse.{digits_value}
use Rattle.gql_input.specs.Coercions.{Coercion, wrong_kind, out_of_range}

abbrev pub is_digit : ℕ → Bool
is_digit c = nat_le 48 c && nat_le c 57

-- `0`, or digits of which the first isn't 0
abbrev pub are_digits : List ℕ → Bool
are_digits [] = false
are_digits (c ∷ []) = is_digit c
are_digits (c ∷ d ∷ cs) = not (c == 48) && list_all is_digit (c ∷ d ∷ cs)

-- digits, perhaps after a `-`
abbrev pub is_int_value : List ℕ → Bool
is_int_value [] = false
is_int_value (c ∷ cs) = if c == 45 then are_digits cs else are_digits (c ∷ cs)

-- at least -2^(bits - 1) and below 2^(bits - 1)
abbrev pub is_within : ℕ → ℤ → Bool
is_within bits (pos n) = nat_lt n (2 ^ (bits - 1))
is_within bits (negsuc n) = nat_lt n (2 ^ (bits - 1))

abbrev pub of_digits : List ℕ → Coercion ℤ
of_digits digits =
    if nat_lt (digits_value 10 digits) (2 ^ 63) then Ok (pos (digits_value 10 digits)) else Err out_of_range

abbrev pub of_minus : List ℕ → Coercion ℤ
of_minus digits =
    if nat_le (digits_value 10 digits) (2 ^ 63) then Ok (neg_ℤ (pos (digits_value 10 digits))) else Err out_of_range

abbrev pub signed_digits : List ℕ → Coercion ℤ
signed_digits [] = Err wrong_kind
signed_digits (c ∷ cs) = if c == 45 then of_minus cs else of_digits (c ∷ cs)

-- the integer of 64 bits that the text spells
abbrev pub integer_spelled : List ℕ → Coercion ℤ
integer_spelled text = if is_int_value text then signed_digits text else Err wrong_kind
