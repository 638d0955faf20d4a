-- Whether two values are the same.
use Rattle.std.specs.Prelude.{ℕ, Bool, true, false, ◌&&◌, List, [], ◌∷◌}
use Rattle.std.specs.Ordering.{int_eq}
use Rattle.std.specs.Bool.{beq}
use Rattle.std.specs.Str.{bytes_eq}
use Rattle.pg_base.specs.declared.value.Member.{Member}
use Rattle.pg_base.specs.declared.value.Value.{Value, Null, Int, Bool as BoolOf, Text, Case, List', Object'}
use Rattle.pg_base.specs.declared.value.Value.{Row_of-Value, end_of-Value, more_of-Value, Row_of-Member, end_of-Member}
use Rattle.pg_base.specs.declared.value.Value.{more_of-Member}

-- by cases; lists and objects item by item. The last line of each needs no cases: values that are the same are equal,
-- and a value is the same as itself, both by the contract of `is_same`.
abbrev mutual
  pub same_value : Value → Value → Bool
  same_value Null Null = true
  same_value (Int m) (Int n) = int_eq m n
  same_value (BoolOf a) (BoolOf b) = beq a b
  same_value (Text s) (Text t) = bytes_eq s t
  same_value (Case s) (Case t) = bytes_eq s t
  same_value (List' _ xs) (List' _ ys) = same_value_items xs ys
  same_value (Object' _ xs) (Object' _ ys) = same_value_members xs ys
  same_value _ _ = false

  pub same_value_items : {m : _} {n : _} → Row_of-Value m → Row_of-Value n → Bool
  same_value_items end_of-Value end_of-Value = true
  same_value_items (more_of-Value a xs) (more_of-Value b ys) = same_value a b && same_value_items xs ys
  same_value_items _ _ = false

  pub same_value_members : {m : _} {n : _} → Row_of-Member m → Row_of-Member n → Bool
  same_value_members end_of-Member end_of-Member = true
  same_value_members (more_of-Member s a xs) (more_of-Member t b ys) =
      bytes_eq s t && (same_value a b && same_value_members xs ys)
  same_value_members _ _ = false

-- the same of one field
abbrev pub same_value_member : Member → Member → Bool
same_value_member m n = bytes_eq m.name n.name && same_value m.value n.value
