-- Sessions over any responder: message after message, and an end.
use Rattle.std.specs.Prelude.{◌≡◌, ℕ, ◌+◌, ◌≤◌, Bool, true, false, ◌||◌, ◌==◌, List, [], ◌∷◌, ◌++◌, length, take, if◌then◌else◌, Option, Some, None, IfSome}
use Rattle.pg_base.specs.Limits.{most_replies}
use Rattle.pg_io.specs.Streams.{Rose}
use Rattle.http_sessions.specs.declared.refusal.Refusal.{Refusal}
use Rattle.http_sessions.specs.declared.reply.Reply.{Reply}
use Rattle.http_sessions.specs.declared.reply.Note.{Note}
use Rattle.http_sessions.specs.declared.report.SessionEnd.{SessionEnd}
use Rattle.http_sessions.specs.declared.report.SessionEnd.TheVariants.{Closed, Spent, Truncated, Refused, ReadFault, WriteFault, Memory}
use Rattle.http_sessions.specs.Messages.{Message, IsMessage, IsRefused, IsBlank, IsCut, AsksForWord}
use Rattle.http_sessions.specs.ReplyText.{IsReplyStatus, reply_of, refusal_text, status_of, note_of, continue_text, if_so}

-- ---- what passed a source or a sink

-- bytes that are told, and what they are after more have passed
abbrev pub Passed : Option (List ℕ) → Option (List ℕ) → List ℕ → Type 0
Passed None now more = now ≡ None
Passed (Some before) now more = now ≡ Some (before ++ more)

-- bytes that are still to come, where that is told, before and after some came
abbrev pub Leaves : Option (List ℕ) → Option (List ℕ) → List ℕ → Type 0
Leaves None now more = now ≡ None
Leaves (Some before) None more = ⊥
Leaves (Some before) (Some now) more = before ≡ more ++ now

-- no byte is still to come, where that is told
abbrev pub IsAtEnd : Option (List ℕ) → Type 0
IsAtEnd left = IfSome left (λ bytes. bytes ≡ [])

-- ---- steps of a responder

-- one step of a responder: its reply to a body, whose version is the one seen last and hasn't fallen
pub record Step {S : Type 0} (front : S → ℕ) (responds : S → List ℕ → Reply → S → Type 0)
    (s : S) (body : List ℕ) (r : Reply) (t : S) : Type 0 where
  pub responds_so : responds s body r t
  pub front_is : front t ≡ r.front
  pub rises : front s ≤ front t
  pub status : IsReplyStatus r.status

-- the reply after a number of them is the last, by its message or by the limit
abbrev pub is_last : ℕ → Message → Bool
is_last given m = (given + 1 == most_replies) || m.closes

abbrev pub last_end : ℕ → SessionEnd
last_end given = if given + 1 == most_replies then Spent else Closed

-- the bytes are some of the first ones of the text
pub record IsFrontOf (bytes text : List ℕ) : Type 0 where
  pub count : ℕ
  pub bytes_are : bytes ≡ take count text

module _ {S : Type 0} (front : S → ℕ) (responds : S → List ℕ → Reply → S → Type 0) where
  -- messages that were answered one after the other, and the session went on: the responder, the bytes of the
  -- messages, what was written, the notes, and the responder afterwards
  pub data Exchanges : S → List ℕ → List ℕ → List Note → S → Type 0 where
    none : (s : S) → Exchanges s [] [] [] s
    more : (s t u : S) (bytes message output : List ℕ) (notes : List Note) (m : Message) (r : Reply)
        → Exchanges s bytes output notes t
        → IsMessage message m → Step front responds t m.body r u → is_last (length notes) m ≡ false
        → Exchanges s (bytes ++ message) (output ++ (if_so m.continues continue_text ++ reply_of false r))
        (notes ++ note_of r ∷ []) u

  -- How a session ends after a number of replies: the responder, the input after the last message that was answered,
  -- and whether no more came; what is still written, the notes, the end, and the responder afterwards.
  pub data Ends (given : ℕ) (s : S) (input : List ℕ) (left : Option (List ℕ)) :
      List ℕ → List Note → SessionEnd → S → Type 0 where
    at_end : IsBlank input → IsAtEnd left → Ends given s input left [] [] Closed s
    inside : (continues : Bool) → IsCut input continues → IsAtEnd left
        → Ends given s input left (if_so continues continue_text) [] Truncated s
    unread : IsBlank input → Ends given s input left [] [] ReadFault s
    unread_inside : (continues : Bool) → IsCut input continues
        → Ends given s input left (if_so continues continue_text) [] ReadFault s
    refused : (refusal : Refusal) → IsRefused input refusal
        → Ends given s input left (refusal_text (front s) refusal) [] (Refused (status_of refusal)) s
    last_reply : (t : S) (message rest : List ℕ) (m : Message) (r : Reply) → input ≡ message ++ rest
        → IsMessage message m → Step front responds s m.body r t → is_last given m ≡ true
        → Ends given s input left (if_so m.continues continue_text ++ reply_of true r) (note_of r ∷ [])
        (last_end given) t
    -- before a message, with no cause
    memory : Ends given s input left [] [] Memory s
    -- a write fails: of the word before a body, of a refusal, of a reply
    unwritten_word : (output : List ℕ) → AsksForWord input → IsFrontOf output continue_text
        → Ends given s input left output [] WriteFault s
    unwritten_refusal : (refusal : Refusal) (output : List ℕ) → IsRefused input refusal
        → IsFrontOf output (refusal_text (front s) refusal) → Ends given s input left output [] WriteFault s
    unwritten_reply : (t : S) (message rest output : List ℕ) (m : Message) (r : Reply) → input ≡ message ++ rest
        → IsMessage message m → Step front responds s m.body r t → IsFrontOf output (reply_of (is_last given m) r)
        → Ends given s input left (if_so m.continues continue_text ++ output) (note_of r ∷ []) WriteFault t

  -- A session: the responder, the input, whether no more of it came; the output, the notes, the end, and the
  -- responder afterwards.
  pub record Session (s : S) (input : List ℕ) (left : Option (List ℕ)) (output : List ℕ) (notes : List Note)
      (end : SessionEnd) (t : S) : Type 0 where
    pub middle : S
    pub answered : List ℕ
    pub pending : List ℕ
    pub written : List ℕ
    pub noted : List Note
    pub last : List ℕ
    pub last_notes : List Note
    pub exchanges : Exchanges s answered written noted middle
    pub ends : Ends (length noted) middle pending left last last_notes end t
    pub input_is : input ≡ answered ++ pending
    pub output_is : output ≡ written ++ last
    pub notes_are : notes ≡ noted ++ last_notes

-- ---- causes

-- a read failed only where the source's count of faults rose, and else it stays
abbrev pub HasReadCause : SessionEnd → ℕ → ℕ → Type 0
HasReadCause ReadFault before now = Rose before now
HasReadCause Closed before now = now ≡ before
HasReadCause Spent before now = now ≡ before
HasReadCause Truncated before now = now ≡ before
HasReadCause (Refused status) before now = now ≡ before
HasReadCause WriteFault before now = now ≡ before
HasReadCause Memory before now = now ≡ before

-- the same of a write and the sink
abbrev pub HasWriteCause : SessionEnd → ℕ → ℕ → Type 0
HasWriteCause WriteFault before now = Rose before now
HasWriteCause Closed before now = now ≡ before
HasWriteCause Spent before now = now ≡ before
HasWriteCause Truncated before now = now ≡ before
HasWriteCause (Refused status) before now = now ≡ before
HasWriteCause ReadFault before now = now ≡ before
HasWriteCause Memory before now = now ≡ before
