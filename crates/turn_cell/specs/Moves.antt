-- What each step tells the seat that takes it.
use Rattle.std.specs.Prelude.{◌≡◌, ℕ, ◌+◌, ◌-◌, ◌%◌, ◌<◌, ◌==◌, ltb, cond}
use Rattle.std.specs.Prelude.{List, [], ◌∷◌, ◌++◌, length, Option, Some, None, MatchBool}
use mathlib.Core.Option.{some}
use mathlib.Core.List.{IsPrefix}
use lib.ListN.{get_elem?}
use Rattle.atomic_table.specs.Table.{Me, Step}
use Rattle.turn_cell.specs.declared.view.Entry.{Entry}
use Rattle.turn_cell.specs.declared.view.JoinedSeat.{JoinedSeat}
use Rattle.turn_cell.specs.declared.view.View.{View}
use Rattle.turn_cell.specs.declared.view.Stage.{Stage}
use Rattle.turn_cell.specs.declared.view.Stage.TheVariants.{Idle, Waiting, Holding, Fresh}
use Rattle.turn_cell.specs.Histories.{entry, plain, marked, made_by}
use Rattle.turn_cell.specs.Rule.{wide, fixed_in}

module _ {A : Type 0} where
  -- the longer list
  abbrev pub longer : List A → List A → List A
  longer xs ys = cond (ltb (length xs) (length ys)) ys xs

module _ {S E B : Type 0} where
  -- a ticket
  abbrev pub takes_ticket : Step S → Me S (View E B) → ℕ → Me S (View E B) → Type 0
  takes_ticket st m n w = (t : ℕ) × (n ≡ t % wide) × (w ≡ (record m.0 { stage = Waiting t }, m.1))

  -- the count is the length of the history that the seat holds
  abbrev pub counts : Step S → Me S (View E B) → ℕ → Me S (View E B) → Type 0
  counts st m n w = (n ≡ length m.0.held) × (n < wide) × (w ≡ m)

  -- the event of a turn that adds nothing
  abbrev pub passes : Step S → Me S (View E B) → ℕ → Me S (View E B) → Type 0
  passes st m n w = (n ≡ length m.0.held)
      × (w ≡ (record m.0 { seen = m.0.held; turns = m.0.turns ++ length m.0.held ∷ [] }, m.1))

  -- the turn is over
  abbrev pub releases : Step S → Me S (View E B) → ℕ → Me S (View E B) → Type 0
  releases st m n w = w ≡ (record m.0 { stage = Idle }, [])

module _ {E B : Type 0} where
  -- There is a history that begins with what the seat has seen now, with what it had seen before a join,
  -- and with what each joined seat had seen
  pub record Known (v : View E B) : Type 0 where
    pub log : List (Entry E)
    pub seen : IsPrefix v.seen log
    pub held : IsPrefix v.held log
    pub own : made_by v.number log ≡ v.own
    pub joined : (i : ℕ) (c : JoinedSeat E) → get_elem? v.joined i ≡ some c → IsPrefix c.seen log

  abbrev pub tells : {S : Type 0} → Step S → Me S (View E B) → ℕ → Me S (View E B) → Type 0
  tells st m n w = (w ≡ m) × Known m.0

  -- the view after a turn that added an entry
  abbrev pub raised : View E B → E → View E B
  raised v e = let log = v.held ++ entry v.number e ∷ [] in
      record v { seen = log; held = log; own = v.own ++ e ∷ []; turns = v.turns ++ length log ∷ [] }

  -- the view after a turn that added none
  abbrev pub passed : View E B → View E B
  passed v = record v { seen = v.held; turns = v.turns ++ length v.held ∷ [] }

  abbrev pub rested : View E B → View E B
  rested v = record v { stage = Idle }

  -- the first seat has read the opening list
  abbrev pub begun_with : View E B → List E → View E B
  begun_with v l = record v { stage = Idle; opening = l; seen = marked 0 l }

  -- the seat that stays keeps one part
  abbrev pub left_of : View E B → View E B
  left_of v = record v { parts = 1; made = 0 }

  -- the new seat: a number of its own, what was seen, no entries, and the other parts
  abbrev pub right_of : View E B → View E B
  right_of v = record v {
    number = v.made + 1;
    made = v.made + 1;
    parts = v.parts - 1;
    stage = Idle;
    held = [];
    own = [];
    joined = [];
    turns = [];
  }

  -- what is kept of a seat that is joined into another
  abbrev pub cover_of : View E B → JoinedSeat E
  cover_of w = record { number = w.number; own = w.own; seen = w.seen }

  abbrev pub both_of : View E B → View E B → View E B
  both_of v w = record v {
    parts = v.parts + w.parts;
    seen = longer v.seen w.seen;
    held = v.seen;
    joined = v.joined ++ cover_of w ∷ w.joined;
  }

  abbrev pub spent : View E B
  spent = record {
    number = 0;
    made = 0;
    parts = 0;
    stage = Idle;
    opened = None;
    opening = [];
    seen = [];
    held = [];
    own = [];
    joined = [];
    turns = [];
  }

module _ {B E : Type 0} (stands : B → List E → Type 0) where
  -- the opening list, for which the body stands with which the cell was made
  abbrev pub begins : Step (Option B) → Me (Option B) (View E B) → ℕ → Me (Option B) (View E B) → Type 0
  begins st m n w = (b : B) × (l : List E) × (m.0.opened ≡ Some b) × stands b l × (w ≡ (begun_with m.0 l, m.1))

  -- the event of a turn that adds an entry: where the slot holds a body, it stands for the history after the entry
  abbrev pub raises : Step (Option B) → Me (Option B) (View E B) → ℕ → Me (Option B) (View E B) → Type 0
  raises st m n w = (e : E) × (b : B) × (m.1 ≡ (0, Some b) ∷ []) × stands b (plain m.0.held ++ e ∷ [])
      × (w ≡ (raised m.0 e, m.1))

  module _ {F : Type 0} (fixed_of : B → F) where
    -- the seat has the turn: the slot, with a body that stands for the history, and the history itself
    abbrev pub Called : Me (Option B) (View E B) → ℕ → Me (Option B) (View E B) → Type 0
    Called m t w = (b : B) × (log : List (Entry E))
        × (w ≡ (record m.0 { stage = Holding t; held = log }, (0, Some b) ∷ [])) × stands b (plain log)
        × (fixed_in fixed_of m.0 ≡ Some (fixed_of b)) × IsPrefix m.0.seen log × (made_by m.0.number log ≡ m.0.own)

    abbrev pub calls_at : Me (Option B) (View E B) → ℕ → Me (Option B) (View E B) → Stage → Type 0
    calls_at m n w Idle = Unit {0}
    calls_at m n w (Waiting t) = MatchBool (n == t % wide) (Called m t w) (w ≡ m)
    calls_at m n w (Holding t) = Unit {0}
    calls_at m n w Fresh = Unit {0}

    abbrev pub calls : Step (Option B) → Me (Option B) (View E B) → ℕ → Me (Option B) (View E B) → Type 0
    calls st m n w = calls_at m n w m.0.stage
