-- One turn of a session: a message that is answered, or an end.
use Rattle.std.specs.Prelude.{◌≡◌, ℕ, ◌+◌, ◌-◌, ◌<◌, ◌≤◌, Bool, true, false, ◌||◌, ◌==◌, if◌then◌else◌, List, [], ◌∷◌, ◌++◌, length, take, drop, Option, Some, None}
use Rattle.pg_base.specs.Limits.{most_replies}
use Rattle.http_sessions.specs.declared.reply.Reply.{Reply}
use Rattle.http_sessions.specs.declared.reply.Note.{Note}
use Rattle.http_sessions.specs.declared.report.SessionEnd.{SessionEnd}
use Rattle.http_sessions.specs.declared.report.SessionEnd.TheVariants.{Closed, Spent, Truncated, Refused, ReadFault, WriteFault, Memory}
use Rattle.http_sessions.specs.declared.reading.Halt.{Halt}
use Rattle.http_sessions.specs.declared.reading.Halt.TheVariants.{End, Fault}
use Rattle.http_sessions.specs.Messages.{Message, IsMessage}
use Rattle.http_sessions.specs.ReplyText.{reply_of, note_of, continue_text, if_so}
use Rattle.http_sessions.specs.SessionRuns.{Passed, IsFrontOf, Step, is_last, Ends, HasReadCause, HasWriteCause, Exchanges, Session}
use Rattle.http_sessions.specs.Windows.{Came}

-- some of the first bytes of a text were taken
pub record TookFront (taken now : Option (List ℕ)) (text : List ℕ) : Type 0 where
  pub front : List ℕ
  pub is_front : IsFrontOf front text
  pub passed : Passed taken now front

-- a refusal was written, or a front of it
abbrev pub RefuseIs : Option (List ℕ) → Option (List ℕ) → ℕ → List ℕ → SessionEnd → Type 0
RefuseIs taken now status text (Refused n) = (n ≡ status) × Passed taken now text
RefuseIs taken now status text WriteFault = TookFront taken now text
RefuseIs taken now status text Closed = ⊥
RefuseIs taken now status text Spent = ⊥
RefuseIs taken now status text Truncated = ⊥
RefuseIs taken now status text ReadFault = ⊥
RefuseIs taken now status text Memory = ⊥

-- a reply was written, or a front of it
abbrev pub ReplyIs : Option (List ℕ) → Option (List ℕ) → Reply → Bool → ℕ → Option SessionEnd → Type 0
ReplyIs taken now r closes count None =
    ((count == most_replies || closes) ≡ false) × Passed taken now (reply_of false r)
ReplyIs taken now r closes count (Some WriteFault) = TookFront taken now (reply_of (count == most_replies || closes) r)
ReplyIs taken now r closes count (Some Spent) = ((count == most_replies) ≡ true) × Passed taken now (reply_of true r)
ReplyIs taken now r closes count (Some Closed) =
    ((count == most_replies) ≡ false) × (closes ≡ true) × Passed taken now (reply_of true r)
ReplyIs taken now r closes count (Some Truncated) = ⊥
ReplyIs taken now r closes count (Some (Refused n)) = ⊥
ReplyIs taken now r closes count (Some ReadFault) = ⊥
ReplyIs taken now r closes count (Some Memory) = ⊥

abbrev pub HasSentCause : Option SessionEnd → ℕ → ℕ → Type 0
HasSentCause None before now = now ≡ before
HasSentCause (Some end) before now = HasWriteCause end before now

abbrev pub HasGotCause : Option SessionEnd → ℕ → ℕ → Type 0
HasGotCause None before now = now ≡ before
HasGotCause (Some end) before now = HasReadCause end before now

-- how a session ends where no more of a head comes, and whether a message has begun
abbrev pub before_end : Halt → Bool → SessionEnd
before_end Fault blank = ReadFault
before_end End blank = if blank then Closed else Truncated

-- and where no more of a body comes
abbrev pub inside_end : Halt → SessionEnd
inside_end Fault = ReadFault
inside_end End = Truncated

module _ {S : Type 0} (front : S → ℕ) (responds : S → List ℕ → Reply → S → Type 0) where
  -- a message was answered, and the session goes on with what is left
  pub record GoesOn (given : ℕ) (s : S) (pending left output : List ℕ) (notes : List Note) (t : S) : Type 0 where
    pub bytes : List ℕ
    pub message : Message
    pub reply : Reply
    pub pending_is : pending ≡ bytes ++ left
    pub is_message : IsMessage bytes message
    pub step : Step front responds s message.body reply t
    pub goes_on : is_last given message ≡ false
    pub output_is : output ≡ if_so message.continues continue_text ++ reply_of false reply
    pub notes_are : notes ≡ note_of reply ∷ []

  abbrev pub TurnIs : Option SessionEnd → ℕ → S → List ℕ → List ℕ → Option (List ℕ) → List ℕ → List Note → S → Type 0
  TurnIs None given s pending window left output notes t = GoesOn given s pending window output notes t
  TurnIs (Some end) given s pending window left output notes t =
      Ends front responds given s pending left output notes end t

  -- a body that stands after a head was answered
  pub record Answered (result : Option SessionEnd) (s t : S) (taken taken_now : Option (List ℕ))
      (before now : List ℕ) (noted noted_now : List Note) (head size : ℕ) (closes : Bool) : Type 0 where
    pub reply : Reply
    pub step : Step front responds s (take size (drop head before)) reply t
    pub left_is : now ≡ drop (head + size) before
    pub notes_are : noted_now ≡ noted ++ note_of reply ∷ []
    pub is_reply : ReplyIs taken taken_now reply closes (length noted + 1) result

  -- one turn: what came, what was written, and what it was
  pub record Turn (result : Option SessionEnd) (s t : S)
      (given given_now left left_now taken taken_now : Option (List ℕ))
      (before now : List ℕ) (noted noted_now : List Note) : Type 0 where
    pub pending : List ℕ
    pub output : List ℕ
    pub notes : List Note
    pub came : Came given given_now left left_now before pending
    pub passed : Passed taken taken_now output
    pub notes_are : noted_now ≡ noted ++ notes
    pub is : TurnIs result (length noted) s pending now left_now output notes t

  -- messages that were answered so far, and what is left of the input that came
  pub record SoFar (s t : S) (given given_now left left_now taken taken_now : Option (List ℕ)) (window : List ℕ)
      (notes : List Note) : Type 0 where
    pub answered : List ℕ
    pub output : List ℕ
    pub came : Came given given_now left left_now [] (answered ++ window)
    pub passed : Passed taken taken_now output
    pub exchanges : Exchanges front responds s answered output notes t

  -- a whole session of a source and a sink
  pub record Ran (end : SessionEnd) (notes : List Note) (s t : S)
      (given given_now left left_now taken taken_now : Option (List ℕ)) : Type 0 where
    pub input : List ℕ
    pub output : List ℕ
    pub came : Came given given_now left left_now [] input
    pub passed : Passed taken taken_now output
    pub session : Session front responds s input left_now output notes end t
