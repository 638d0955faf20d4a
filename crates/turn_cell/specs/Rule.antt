-- The rule of a cell: what holds between any two steps, of the words, of the slot and of what each seat knows.
-- Word 0 is the length of the history, word 1 counts the tickets that were taken, and word 2 those that were served.
-- The slot is at home where no seat has the turn.
use Rattle.std.specs.Prelude.{◌≡◌, ℕ, ◌+◌, ◌%◌, ◌<◌, ◌≤◌, ◌⊎◌, List}
use Rattle.std.specs.Prelude.{[], ◌∷◌, ◌++◌, length, Option, Some, None, option_map}
use Rattle.std.specs.List.{All}
use mathlib.Core.Option.{some}
use mathlib.Core.List.{IsPrefix}
use lib.ListN.{get_elem?}
use Rattle.atomic_table.specs.Table.{State, Me}
use Rattle.atomic_table.specs.Seated.{TableId}
use Rattle.turn_cell.specs.declared.view.Entry.{Entry}
use Rattle.turn_cell.specs.declared.view.JoinedSeat.{JoinedSeat}
use Rattle.turn_cell.specs.declared.view.View.{View}
use Rattle.turn_cell.specs.declared.view.Stage.{Stage}
use Rattle.turn_cell.specs.declared.view.Stage.TheVariants.{Idle, Waiting, Holding, Fresh}
use Rattle.turn_cell.specs.Histories.{marked, made_by, plain}
use Rattle.turn_cell.specs.Seats.{SeatFacts, IsSeat}

-- a word's values
abbrev pub wide : ℕ
wide = 18446744073709551616

-- one for a seat that has a ticket
abbrev pub waits_at : Stage → ℕ
waits_at Idle = 0
waits_at (Waiting t) = 1
waits_at (Holding t) = 1
waits_at Fresh = 0

-- the seat has this ticket
abbrev pub Has : ℕ → Stage → Type 0
Has t Idle = ⊥
Has t (Waiting u) = t ≡ u
Has t (Holding u) = t ≡ u
Has t Fresh = ⊥

-- the slot is out with the seat
abbrev pub IsOut : Stage → Type 0
IsOut Idle = ⊥
IsOut (Waiting t) = ⊥
IsOut (Holding t) = Unit {0}
IsOut Fresh = ⊥

-- the seat has read the opening list
abbrev pub HasBegun : Stage → Type 0
HasBegun Idle = Unit {0}
HasBegun (Waiting t) = Unit {0}
HasBegun (Holding t) = Unit {0}
HasBegun Fresh = ⊥

module _ {A : Type 0} where
  abbrev pub total : (A → ℕ) → List A → ℕ
  total f [] = 0
  total f (v ∷ vs) = f v + total f vs

module _ {E : Type 0} where
  -- the history is the opening list, and entries of seats whose numbers are at most n
  pub record Rest (opening : List E) (n : ℕ) (log : List (Entry E)) : Type 0 where
    pub more : List (Entry E)
    pub is : log ≡ marked 0 opening ++ more
    pub makers : All (λ (e : Entry E). (0 < e.maker) × (e.maker ≤ n)) more

module _ {E B : Type 0} where
  abbrev pub waits : View E B → ℕ
  waits v = waits_at v.stage

  abbrev pub parts : View E B → ℕ
  parts v = v.parts

  -- the seat with this number was joined into another
  abbrev pub Gone : List (View E B) → ℕ → Type 0
  Gone vs n = (k : ℕ) × (u : View E B) × (n ≡ k + 1) × (get_elem? vs k ≡ some u) × (u.parts ≡ 0)

  -- the seat tells what the seat of this number did
  abbrev pub TellsOf : View E B → ℕ → Type 0
  TellsOf u n = (n ≡ u.number) ⊎ ((i : ℕ) × (c : JoinedSeat E) × (get_elem? u.joined i ≡ some c) × (n ≡ c.number))

  -- of each seat that was made, one tells
  abbrev pub Covered : List (View E B) → Type 0
  Covered vs = (k : ℕ) → k < length vs
      → (j : ℕ) × (u : View E B) × (get_elem? vs j ≡ some u) × (0 < u.parts) × TellsOf u (k + 1)

  -- no two seats have one ticket
  abbrev pub Apart : List (View E B) → Type 0
  Apart vs = (t j k : ℕ) (v w : View E B) → get_elem? vs j ≡ some v → get_elem? vs k ≡ some w
      → Has t v.stage → Has t w.stage → j ≡ k

  -- what a seat's stage says of the table
  abbrev pub AtStage : State (Option B) (View E B) → List E → List (Entry E) → ℕ → ℕ → ℕ → View E B → Stage → Type 0
  AtStage s opening log ticket serving j v Idle = Unit {0}
  AtStage s opening log ticket serving j v (Waiting t) = (serving ≤ t) × (t < ticket)
  AtStage s opening log ticket serving j v (Holding t) = (t ≡ serving) × (t < ticket) × (v.held ≡ log)
  AtStage s opening log ticket serving j v Fresh = (j ≡ 0) × (length s.views ≡ 1) × (log ≡ marked 0 opening)

  -- What the seat at place j knows is so. Of a seat that was joined into another, which has no parts, little is said
  pub record Knows (body : B) (s : State (Option B) (View E B)) (opening : List E) (log : List (Entry E))
      (ticket serving j : ℕ) (v : View E B) : Type 0 where
    pub stage : AtStage s opening log ticket serving j v v.stage
    pub share : waits_at v.stage ≤ v.parts
    pub number : 0 < v.parts → v.number ≡ j + 1
    pub opened : 0 < v.parts → v.opened ≡ Some body
    pub begun : 0 < v.parts → HasBegun v.stage → v.opening ≡ opening
    pub seen : IsPrefix v.seen log
    pub held : IsPrefix v.held log
    pub newest : 0 < v.parts → 0 < v.made → (v.made ≡ length s.views) × (v.number ≡ v.made)
    pub joined : (i : ℕ) (c : JoinedSeat E) → get_elem? v.joined i ≡ some c
        → (made_by c.number log ≡ c.own) × IsPrefix c.seen log × Gone s.views c.number
    pub own : 0 < v.parts → (made_by v.number log ≡ v.own) × (made_by v.number v.seen ≡ v.own)

module _ {B E F : Type 0} (stands : B → List E → Type 0) (fixed_of : B → F) (body : B) (seats : ℕ) where
  -- where the slot is
  abbrev pub Place : State (Option B) (View E B) → List (Entry E) → Option ℕ → Type 0
  Place s log None = (b : B) × (s.homes ≡ some (Some b) ∷ []) × stands b (plain log) × (fixed_of b ≡ fixed_of body)
  Place s log (Some j) = (v : View E B) × (get_elem? s.views j ≡ some v) × IsOut v.stage

  pub record Kept (s : State (Option B) (View E B)) : Type 0 where
    pub log : List (Entry E)
    pub opening : List E
    pub opens : stands body opening
    pub ticket : ℕ
    pub serving : ℕ
    pub holder : Option ℕ
    pub words : s.words ≡ length log ∷ ticket % wide ∷ serving % wide ∷ []
    pub small : length log < wide
    pub place : Place s log holder
    pub each : (j : ℕ) (v : View E B) → get_elem? s.views j ≡ some v → Knows body s opening log ticket serving j v
    pub apart : Apart s.views
    pub queue : serving + total waits s.views ≡ ticket
    pub shared : total parts s.views ≡ seats
    pub few : seats < wide
    pub makers : (k : ℕ) → length s.views < k → made_by k log ≡ []
    pub rest : Rest opening (length s.views) log
    pub covered : Covered s.views

module _ {E B : Type 0} where
  -- what the first seat knows before it has read anything
  abbrev pub first_view : B → ℕ → View E B
  first_view body seats = record {
    number = 1;
    made = 1;
    parts = seats;
    stage = Fresh;
    opened = Some body;
    opening = [];
    seen = [];
    held = [];
    own = [];
    joined = [];
    turns = [];
  }

-- What contracts see of a seat
module _ {B E F : Type 0} (fixed_of : B → F) where
  abbrev pub fixed_in : View E B → Option F
  fixed_in v = option_map fixed_of v.opened

  abbrev pub facts_of : TableId → View E B → SeatFacts E F
  facts_of cell v = record {
    cell = cell;
    number = v.number;
    fixed = fixed_in v;
    opening = v.opening;
    seen = v.seen;
    own = v.own;
    turns = v.turns;
    joined = v.joined;
  }

  -- a seat between two turns, and the length of what it has seen
  pub record IsAtRest (front : ℕ) (cell : TableId) (m : Me (Option B) (View E B)) : Type 0 where
    pub front_is : front ≡ length m.0.seen
    pub idle : m.0.stage ≡ Idle
    pub bare : m.1 ≡ []
    pub parts : m.0.parts ≡ length m.0.joined + 1
    pub seat : IsSeat (facts_of cell m.0)
