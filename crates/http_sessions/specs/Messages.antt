-- Messages at the front of the input (RFC 9112, sections 2, 6 and 8).
use Rattle.std.specs.Prelude.{◌≡◌, ℕ, ◌+◌, ◌<◌, ◌≤◌, Bool, true, false, List, [], ◌∷◌, ◌++◌, length, take, Option, Some, None, ⊤}
use Rattle.std.specs.List.{list_all}
use Rattle.httparse.specs.Grammar.{RequestHead, ReadsRequest, HasNoRequest}
use Rattle.pg_base.specs.Limits.{most_head_bytes, most_head_lines, most_body_bytes}
use Rattle.http_sessions.specs.declared.refusal.Refusal.{Refusal}
use Rattle.http_sessions.specs.declared.refusal.Refusal.TheVariants.{HeadTooLarge, BadHead}
use Rattle.http_sessions.specs.declared.wants.Wants.{Wants}
use Rattle.http_sessions.specs.declared.wants.Wants.TheVariants.{Refuses, Body}
use Rattle.http_sessions.specs.declared.scan.Place.TheVariants.{Before}
use Rattle.http_sessions.specs.HeadEnd.{IsHead, after_head, line_count, is_line_byte, from_first_line}
use Rattle.http_sessions.specs.HeadTests.{wants}

-- how a head is read by the grammar of `httparse`; bytes are no head where no front of them reads as one
abbrev pub IsReadAs : List ℕ → Option RequestHead → Type 0
IsReadAs lines None = HasNoRequest lines
IsReadAs lines (Some h) = (rest : List ℕ) × ReadsRequest lines h rest

abbrev pub by_read : Option RequestHead → Wants
by_read None = Refuses BadHead
by_read (Some h) = wants h

-- what the lines of a head ask for
pub record WantsOf (lines : List ℕ) (w : Wants) : Type 0 where
  pub read : Option RequestHead
  pub is_read : IsReadAs lines read
  pub is_wanted : w ≡ by_read read

-- what a head asks for; more than 64 lines between the first and the empty one are too many
pub data Asks : List ℕ → Wants → Type 0 where
  too_many : (head : List ℕ) → IsHead head → most_head_lines + 1 < line_count Before head
      → Asks head (Refuses HeadTooLarge)
  by_lines : (head : List ℕ) (w : Wants) → IsHead head → line_count Before head ≤ most_head_lines + 1
      → WantsOf (from_first_line head) w → Asks head w

-- a body within the limit
abbrev pub IsSmall : Wants → Type 0
IsSmall (Refuses refusal) = ⊤
IsSmall (Body size closes continues) = size ≤ most_body_bytes

-- a message that is answered: its body, whether the session ends after the reply, whether a word is written before
pub record Message : Type 0 where
  pub body : List ℕ
  pub closes : Bool
  pub continues : Bool

pub record IsMessage (bytes : List ℕ) (m : Message) : Type 0 where
  pub head : List ℕ
  pub asks : Asks head (Body (length m.body) m.closes m.continues)
  pub bytes_are : bytes ≡ head ++ m.body

-- the input begins with a head that is refused
pub data IsRefused : List ℕ → Refusal → Type 0 where
  no_end : (input : List ℕ) → most_head_bytes ≤ length input → after_head Before (take most_head_bytes input) ≡ None
      → IsRefused input HeadTooLarge
  by_head : (input head rest : List ℕ) (refusal : Refusal) → input ≡ head ++ rest → Asks head (Refuses refusal)
      → IsRefused input refusal

-- the input has no byte of a message
pub record IsBlank (input : List ℕ) : Type 0 where
  pub size : length input < most_head_bytes
  pub blank : list_all is_line_byte input ≡ true

-- the input ends inside a message, and whether a word is written before its body
pub data IsCut : List ℕ → Bool → Type 0 where
  in_head : (input : List ℕ) → length input < most_head_bytes → after_head Before input ≡ None
      → list_all is_line_byte input ≡ false → IsCut input false
  in_body : (input head part : List ℕ) (size : ℕ) (closes continues : Bool) → input ≡ head ++ part
      → Asks head (Body size closes continues) → length part < size → IsCut input continues

-- a head asks for the word before its body
pub record AsksForWord (input : List ℕ) : Type 0 where
  pub head : List ℕ
  pub rest : List ℕ
  pub size : ℕ
  pub closes : Bool
  pub asks : Asks head (Body size closes true)
  pub input_is : input ≡ head ++ rest
