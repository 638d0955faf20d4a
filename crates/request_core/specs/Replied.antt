-- What the parts of a reply owe to one another.
use Rattle.std.specs.Prelude.{◌≡◌, ◌⊎◌, ℕ, List, ◌++◌, Option, Result, Err}
use Rattle.rel_model.specs.declared.tables.Tables.{Tables}
use Rattle.place_tree.specs.declared.place.Tree.{Tree}
use Rattle.plan_cache.specs.Shelf.{Asked, Shows}
use Rattle.planned_response.specs.declared.fault.RespondFault.{RespondFault}
use Rattle.planned_response.specs.declared.fault.RespondFault.TheVariants as fault
use Rattle.kept_responses.specs.Counts.{Counts}
use Rattle.kept_responses.specs.Kept.{KeptParts}
use Rattle.kept_responses.specs.Served.{Serves}
use Rattle.kept_responses.specs.declared.response.KeptResponse.{KeptResponse}
use Rattle.http_sessions.specs.declared.reply.Reply.{Reply}
use Rattle.http_sessions.specs.declared.reply.ReplyBytes.TheVariants.{Made}
use Rattle.request_core.specs.declared.replies.Told.{Told}
use Rattle.request_core.specs.House.{HouseParts}
use Rattle.request_core.specs.Reply.{status_of, bytes_of, reply_of}

-- what is told of a response
abbrev pub told_as : Result (List ℕ) RespondFault → Told
told_as answer = record { status = status_of answer; bytes = bytes_of answer }

-- a text under a status
abbrev pub told_text : ℕ → List ℕ → Told
told_text status text = record { status = status; bytes = Made text }

-- the response is told, or that memory ran out for that
abbrev pub TellsAs : Result (List ℕ) RespondFault → Told → Type 0
TellsAs answer told = (told ≡ told_as answer) ⊎ (told ≡ told_as (Err fault.Memory))

-- the same request, where memory ran out for what is told of its response
abbrev pub untold : KeptResponse → KeptResponse
untold response = record { answer = Err fault.Memory; planned = response.planned }

-- the reply tells the response, or that memory ran out for that
abbrev pub RepliesAs : ℕ → KeptResponse → Reply → Type 0
RepliesAs statements response reply =
    (reply ≡ reply_of 0 statements response) ⊎ (reply ≡ reply_of 0 statements (untold response))

-- the house's shelf shows the history before, and with what was entered afterwards, where the request is served so
pub record ServesFor (house after : HouseParts) (held : Option Tables) (wanted : Asked) (tree : Tree)
    (history : List KeptParts) (before now : Counts) (response : KeptResponse) : Type 0 where
  pub entered : List KeptParts
  pub shows : Shows after.shelf (history ++ entered)
  pub serves : Serves house.base held wanted tree history entered before now response
