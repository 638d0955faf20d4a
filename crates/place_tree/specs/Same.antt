-- Whether two arguments are written alike.
use Rattle.std.specs.Prelude.{Bool, true, false, ◌&&◌}
use Rattle.std.specs.Ordering.{int_eq}
use Rattle.std.specs.Bool.{beq}
use Rattle.std.specs.Str.{bytes_eq}
use Rattle.gql_input.specs.declared.argument.ArgMember.{ArgMember}
use Rattle.gql_input.specs.declared.argument.ArgValue.{ArgValue, Null, Int, Bool as BoolOf, Text, Case, List', Object', Variable, Row_of-ArgValue, end_of-ArgValue, more_of-ArgValue, Row_of-ArgMember, end_of-ArgMember, more_of-ArgMember}

-- by cases; lists and objects item by item
abbrev mutual
  pub same_arg : ArgValue → ArgValue → Bool
  same_arg Null Null = true
  same_arg (Int m) (Int n) = int_eq m n
  same_arg (BoolOf a) (BoolOf b) = beq a b
  same_arg (Text s) (Text t) = bytes_eq s t
  same_arg (Case s) (Case t) = bytes_eq s t
  same_arg (List' _ xs) (List' _ ys) = same_items xs ys
  same_arg (Object' _ xs) (Object' _ ys) = same_members xs ys
  same_arg (Variable s) (Variable t) = bytes_eq s t
  same_arg _ _ = false

  pub same_items : {m : _} {n : _} → Row_of-ArgValue m → Row_of-ArgValue n → Bool
  same_items end_of-ArgValue end_of-ArgValue = true
  same_items (more_of-ArgValue a xs) (more_of-ArgValue b ys) = same_arg a b && same_items xs ys
  same_items _ _ = false

  pub same_members : {m : _} {n : _} → Row_of-ArgMember m → Row_of-ArgMember n → Bool
  same_members end_of-ArgMember end_of-ArgMember = true
  same_members (more_of-ArgMember s a xs) (more_of-ArgMember t b ys) =
      bytes_eq s t && (same_arg a b && same_members xs ys)
  same_members _ _ = false

-- the same of one field
abbrev pub same_member : ArgMember → ArgMember → Bool
same_member m n = bytes_eq m.name n.name && same_arg m.value n.value
