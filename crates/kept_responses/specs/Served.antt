-- How a query is served by a plan: by one that is found, or by one that is made and entered.
use Rattle.std.specs.Prelude.{◌≡◌, ◌⊎◌, ◌+◌, ◌≤◌, true, false, List, [], ◌∷◌, ◌++◌, ℕ, Option, Some, None, option_map, OnOk, Result, Err}
use Rattle.pg_base.specs.Base.{BaseParts}
use Rattle.pg_base.specs.declared.vars.Vars.{Vars}
use Rattle.rel_model.specs.declared.tables.Tables.{Tables}
use Rattle.place_tree.specs.Needs.{needed_statements}
use Rattle.place_tree.specs.declared.place.Tree.{Tree}
use Rattle.stmt_tree.specs.Form.{Rose}
use Rattle.plan_cache.specs.Shelf.{Asked, asked_for, key_of, Look, Shelved, Shows}
use Rattle.plan_constraints.specs.Noted.{noted}
use Rattle.plan_steps.specs.declared.plan.Root.TheVariants as root
use Rattle.plan_steps.specs.Sent.{sent_count, one_if}
use Rattle.plan_steps.specs.View.{Planned, IsSoundFor}
use Rattle.batch_execute.specs.Execution.{SendsAsked}
use Rattle.planned_response.specs.declared.fault.RespondFault.{RespondFault}
use Rattle.planned_response.specs.declared.fault.RespondFault.TheVariants as fault
use Rattle.planned_response.specs.Responses.{AreTold, GetsFew, IsStoreFault, RespondsOver}
use Rattle.kept_responses.specs.Counts.{Counts}
use Rattle.kept_responses.specs.Kept.{KeptParts, key_for, Fits}
use Rattle.kept_responses.specs.declared.response.KeptResponse.{KeptResponse}
use Rattle.kept_responses.specs.declared.wanted.Wanted as code

-- what the code looks for
abbrev pub asked_of : code.Wanted → Asked
asked_of w = asked_for w.text.now (option_map (λ name. name.now) w.operation) w.vars.now

-- ---- the run of a plan

-- The plan of a tree over a base was run for the variables, over a store that tells these tables, or none: the
-- response, and what it took.
pub record IsRun (planned : Planned) (held : Option Tables) (vars : Vars) (before now : Counts)
    (answer : Result (List ℕ) RespondFault) : Type 0 where
  -- over told tables the text of execution, or that this is too large
  pub response : (tables : Tables) → AreTold planned.base.catalog held tables
      → RespondsOver planned.base tables vars planned.tree answer
  pub got : (tables : Tables) → AreTold planned.base.catalog held tables
      → GetsFew planned.base tables vars planned.tree before.got now.got
  pub rises : before.sent ≤ now.sent
  -- no more statements than the plan sends, and than are needed; over told tables, with a text, one for each asked step
  pub sent : now.sent ≤ before.sent + sent_count planned.tree planned.plan root.Query
  pub needs : now.sent ≤ before.sent + needed_statements planned.base vars planned.tree
  pub asked : (tables : Tables) → AreTold planned.base.catalog held tables
      → OnOk answer (SendsAsked planned tables vars root.Query before.sent now.sent)
  pub faults : before.faults ≤ now.faults
  pub cause : IsStoreFault answer → Rose before.faults now.faults

-- ---- a request

-- it is run by this kept plan, which fits and is one of the tree over the base
pub record IsRunBy (base : BaseParts) (held : Option Tables) (asked : Asked) (tree : Tree) (kept : KeptParts)
    (before now : Counts) (answer : Result (List ℕ) RespondFault) : Type 0 where
  pub base_ : kept.planned.base ≡ base
  pub tree_ : kept.planned.tree ≡ tree
  pub fits : Fits kept
  pub sound : IsSoundFor kept.planned
  pub run : IsRun kept.planned held asked.vars before now answer

-- the plan that is run was found, nothing is planned, and nothing entered
pub record IsFound (base : BaseParts) (held : Option Tables) (asked : Asked) (tree : Tree)
    (history entered : List KeptParts) (before now : Counts) (response : KeptResponse) : Type 0 where
  pub kept : KeptParts
  pub look : Look key_for asked history (Some kept)
  pub none_planned : response.planned ≡ false
  pub none_made : now.plans ≡ before.plans
  pub none_entered : entered ≡ []
  pub run : IsRunBy base held asked tree kept before now response.answer

-- none was found: one is made, which is kept under what is asked for and what is noted of the tree and the variables;
-- it is entered, and then run
pub record IsMade (base : BaseParts) (held : Option Tables) (asked : Asked) (tree : Tree)
    (history entered : List KeptParts) (before now : Counts) (response : KeptResponse) : Type 0 where
  pub kept : KeptParts
  pub look : Look key_for asked history None
  pub planned_ : response.planned ≡ true
  pub made : now.plans ≡ before.plans + 1
  pub entered_ : entered ≡ kept ∷ []
  pub key : key_for kept ≡ key_of asked.text asked.operation (noted base asked.vars tree)
  pub run : IsRunBy base held asked tree kept before now response.answer

-- memory ran out before a plan could be run: the store isn't asked and nothing is entered; where a plan was made, none
-- was found
pub record IsStopped (asked : Asked) (history entered : List KeptParts) (before now : Counts)
    (response : KeptResponse) : Type 0 where
  pub memory : response.answer ≡ Err fault.Memory
  pub look : response.planned ≡ true → Look key_for asked history None
  pub made : now.plans ≡ before.plans + one_if response.planned
  pub none_entered : entered ≡ []
  pub none_sent : now.sent ≡ before.sent
  pub none_got : now.got ≡ before.got
  pub none_failed : now.faults ≡ before.faults

-- how a request is served whose operation asks for the tree, where its look saw the history, and what it entered
abbrev pub Serves : BaseParts → Option Tables → Asked → Tree → List KeptParts → List KeptParts → Counts → Counts
    → KeptResponse → Type 0
Serves base held asked tree history entered before now response =
    IsFound base held asked tree history entered before now response
    ⊎ IsMade base held asked tree history entered before now response
    ⊎ IsStopped asked history entered before now response

-- the same on a shelf of its own, which shows the history before and with what was entered afterwards
pub record ServesOn (shelf after : Shelved KeptParts) (held : Option Tables) (asked : Asked) (tree : Tree)
    (history : List KeptParts) (before now : Counts) (response : KeptResponse) : Type 0 where
  pub entered : List KeptParts
  pub shows : Shows after (history ++ entered)
  pub serves : Serves shelf.base held asked tree history entered before now response
