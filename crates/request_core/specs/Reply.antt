-- What a request is replied, and what it takes: it is refused, or a plan serves it that is found among those that are
-- kept, or made and entered. Nothing here speaks of where the plans are kept: of the history, the list of all that was
-- ever entered, it says what the look saw and what the request entered.
use Rattle.std.specs.Prelude.{◌≡◌, ◌⊎◌, ℕ, ◌+◌, nat_lt, Bool, true, false, List, [], ◌++◌, length, Option, Result, Ok, Err}
use Rattle.pg_base.specs.Base.{BaseParts}
use Rattle.pg_base.specs.Limits.{most_places}
use Rattle.pg_base.specs.declared.vars.Vars.{Vars}
use Rattle.gql_collect.specs.Trees.{tree_of}
use Rattle.gql_reader.specs.declared.tree.Document.{Document}
use Rattle.rel_model.specs.declared.tables.Tables.{Tables}
use Rattle.place_tree.specs.declared.place.Tree.{Tree}
use Rattle.plan_cache.specs.Shelf.{Asked, Shows}
use Rattle.planned_response.specs.declared.fault.RespondFault.{RespondFault}
use Rattle.planned_response.specs.declared.fault.RespondFault.TheVariants as fault
use Rattle.kept_responses.specs.Counts.{Counts}
use Rattle.kept_responses.specs.Kept.{KeptParts}
use Rattle.kept_responses.specs.Served.{Serves}
use Rattle.kept_responses.specs.declared.response.KeptResponse.{KeptResponse}
use Rattle.http_sessions.specs.declared.reply.Reply.{Reply}
use Rattle.http_sessions.specs.declared.reply.ReplyBytes.{ReplyBytes}
use Rattle.http_sessions.specs.declared.reply.ReplyBytes.TheVariants.{Made, NoMemory}
use Rattle.request_core.specs.Asked.{AskedParts, EndsAsked, wanted_with}
use Rattle.request_core.specs.House.{HouseParts}
use Rattle.request_core.specs.Refusals.{storage_fault, too_large, too_many}

-- ---- what is told of a response (RFC 9110, section 15)

abbrev pub status_of : Result (List ℕ) RespondFault → ℕ
status_of (Ok text) = 200
status_of (Err fault.Store) = 500
status_of (Err fault.TooLarge) = 200
status_of (Err fault.Memory) = 503

abbrev pub bytes_of : Result (List ℕ) RespondFault → ReplyBytes
bytes_of (Ok text) = Made text
bytes_of (Err fault.Store) = Made storage_fault
bytes_of (Err fault.TooLarge) = Made too_large
bytes_of (Err fault.Memory) = NoMemory

-- at the version of the data, after so many statements
abbrev pub reply_of : ℕ → ℕ → KeptResponse → Reply
reply_of front statements response = record {
  status = status_of response.answer;
  bytes = bytes_of response.answer;
  front = front;
  planned = response.planned;
  statements = statements;
}

-- a refusal, and out of memory before a plan is looked for, are told alike: nothing was planned or sent
abbrev pub answer_reply : ℕ → Result (List ℕ) RespondFault → Reply
answer_reply front answer = reply_of front 0 (record { answer = answer; planned = false })

-- ---- one request

-- the history before it, what it entered, what was counted before it and afterwards, and its reply
pub record Service : Type 0 where
  pub history : List KeptParts
  pub entered : List KeptParts
  pub before : Counts
  pub now : Counts
  pub reply : Reply

-- the reply is this, and nothing was entered, planned, or asked of the store
pub record IsUnserved (front : ℕ) (s : Service) (answer : Result (List ℕ) RespondFault) : Type 0 where
  pub told : s.reply ≡ answer_reply front answer
  pub none_entered : s.entered ≡ []
  pub still : s.now ≡ s.before

-- the request is refused with this response
abbrev pub IsRefusedWith : ℕ → Service → List ℕ → Type 0
IsRefusedWith front s refused = IsUnserved front s (Ok refused)

-- a plan serves it: the reply tells its response, and how many statements were sent
pub record IsServed (base : BaseParts) (held : Option Tables) (wanted : Asked) (tree : Tree) (front : ℕ) (s : Service)
    : Type 0 where
  pub response : KeptResponse
  pub statements : ℕ
  pub serves : Serves base held wanted tree s.history s.entered s.before s.now response
  pub sent : s.now.sent ≡ s.before.sent + statements
  pub told : s.reply ≡ reply_of front statements response

-- the tree has too many places, or a plan serves it
abbrev pub RepliesBy : Bool → BaseParts → Option Tables → Asked → Tree → ℕ → Service → Type 0
RepliesBy true base held wanted tree front s = IsRefusedWith front s too_many
RepliesBy false base held wanted tree front s = IsServed base held wanted tree front s

-- the same of the operation at a place of the document
abbrev pub Replies : BaseParts → Option Tables → AskedParts → ℕ → Service → Document → ℕ → Vars → Type 0
Replies base held a front s read place vars =
    let tree = tree_of base.schema read place vars in
    RepliesBy (nat_lt most_places (length tree.places)) base held (wanted_with a vars) tree front s

-- A reply: the first refusal of what is asked, or the response by a plan, over a store that tells these tables, or
-- none; or memory ran out before a plan was looked for.
abbrev pub IsReply : BaseParts → Option Tables → AskedParts → ℕ → Service → Type 0
IsReply base held a front s =
    IsUnserved front s (Err fault.Memory)
    ⊎ EndsAsked base.schema a (IsRefusedWith front s) (Replies base held a front s)

abbrev pub service : List KeptParts → List KeptParts → Counts → Counts → Reply → Service
service history entered before now reply =
    record { history = history; entered = entered; before = before; now = now; reply = reply }

-- ---- on a house of one's own, whose shelf shows the history before, and with what was entered afterwards

pub record RepliesOn (house after : HouseParts) (held : Option Tables) (a : AskedParts) (front : ℕ)
    (history : List KeptParts) (before now : Counts) (reply : Reply) : Type 0 where
  pub entered : List KeptParts
  pub shows : Shows after.shelf (history ++ entered)
  pub replies : IsReply house.base held a front (service history entered before now reply)

-- the same of a request that a plan serves
pub record ServedOn (house after : HouseParts) (held : Option Tables) (wanted : Asked) (tree : Tree) (front : ℕ)
    (history : List KeptParts) (before now : Counts) (reply : Reply) : Type 0 where
  pub entered : List KeptParts
  pub shows : Shows after.shelf (history ++ entered)
  pub served : IsServed house.base held wanted tree front (service history entered before now reply)
