-- What contracts see of a cell and of its seats, and what each call says of them.
-- A history begins with the opening list; each entry after it has the number of the seat that made it.
use Rattle.std.specs.Prelude.{◌≡◌, ℕ, ◌+◌, ◌<◌, ◌≤◌, ◌⊎◌, Bool, List}
use Rattle.std.specs.Prelude.{[], ◌∷◌, ◌++◌, map, length, Option, MatchBool}
use Rattle.std.specs.List.{All, Contains}
use Rattle.std.specs.List.Sorted.{IsNonDecreasing}
use mathlib.Core.Option.{some}
use mathlib.Core.List.{IsPrefix}
use lib.ListN.{get_elem?}
use Rattle.atomic_table.specs.Seated.{TableId}
use Rattle.turn_cell.specs.declared.view.Entry.{Entry}
use Rattle.turn_cell.specs.declared.view.JoinedSeat.{JoinedSeat}
use Rattle.turn_cell.specs.Histories.{entry, plain, marked, made_by}

-- Of a cell: which it is, what no job changes in it, and how many seats it was made with
pub record CellFacts (F : Type 0) : Type 0 where
  pub id : TableId
  pub fixed : F
  pub seats : ℕ

-- Of a seat: its cell, its number, what no job changes, the opening list, the history that it has seen, its own
-- entries, the lengths of the history after its turns, and the seats that were joined into it
pub record SeatFacts (E F : Type 0) : Type 0 where
  pub cell : TableId
  pub number : ℕ
  pub fixed : Option F
  pub opening : List E
  pub seen : List (Entry E)
  pub own : List E
  pub turns : List ℕ
  pub joined : List (JoinedSeat E)

module _ {B E : Type 0} where
  -- the body stands for one list and for no other, and that has n entries
  abbrev pub StandsForOne : (B → List E → Type 0) → B → ℕ → Type 0
  StandsForOne stands b n = (l : List E) × stands b l × (n ≡ length l) × ((m : List E) → stands b m → m ≡ l)

module _ {E F : Type 0} where
  -- What holds of each seat at any time
  pub record IsSeat (s : SeatFacts E F) : Type 0 where
    pub numbered : 0 < s.number
    pub begins : IsPrefix (marked 0 s.opening) s.seen
    -- its own entries are those of its number in what it has seen, in order
    pub own : made_by s.number s.seen ≡ s.own
    -- the lengths after its turns never fall, and lie between those of the opening list and of what it has seen
    pub rising : IsNonDecreasing s.turns
    pub within : All (λ n. (length s.opening ≤ n) × (n ≤ length s.seen)) s.turns

  -- A seat that has taken no turn: it has seen the opening list
  pub record IsFresh (s : SeatFacts E F) : Type 0 where
    pub seen : s.seen ≡ marked 0 s.opening
    pub own : s.own ≡ []
    pub turns : s.turns ≡ []

  -- the seat at place k has the number k + 1
  abbrev pub AreNumbered : List (SeatFacts E F) → Type 0
  AreNumbered seats = (k : ℕ) (s : SeatFacts E F) → get_elem? seats k ≡ some s → s.number ≡ k + 1

  -- no two seats have one number
  abbrev pub HaveOwnNumbers : List (SeatFacts E F) → Type 0
  HaveOwnNumbers seats = (j k : ℕ) (s t : SeatFacts E F) → get_elem? seats j ≡ some s → get_elem? seats k ≡ some t
      → s.number ≡ t.number → j ≡ k

  -- One turn of a seat s, which leaves it as t: one event of the one history.
  -- The history before it begins with all that the seat had seen, and has no entries of its number but its own.
  -- Afterwards the seat has seen all of it, and the new entry where the job adds one
  pub record Turned (does : List E → List E → Type 0) (adds : Bool) (s t : SeatFacts E F) : Type 0 where
    pub before : List (Entry E)
    pub seen : IsPrefix s.seen before
    pub own : made_by s.number before ≡ s.own
    pub event : MatchBool adds
        ((e : E) × (t.seen ≡ before ++ entry s.number e ∷ []) × (t.own ≡ s.own ++ e ∷ [])
        × does (plain before) (plain before ++ e ∷ []))
        ((t.seen ≡ before) × (t.own ≡ s.own) × does (plain before) (plain before))
    pub turns : t.turns ≡ s.turns ++ length t.seen ∷ []
    pub same : t ≡ record s { seen = t.seen; own = t.own; turns = t.turns }

  -- what is kept of a seat that was joined into another
  abbrev pub joined_of : SeatFacts E F → JoinedSeat E
  joined_of s = record { number = s.number; own = s.own; seen = s.seen }

  -- The seat o is joined into s, which becomes t: it takes the longer of the two histories, and keeps the number,
  -- the own entries and the history of o, and of each seat that was joined into o
  pub record Joined (s o t : SeatFacts E F) : Type 0 where
    pub mine : IsPrefix s.seen t.seen
    pub theirs : IsPrefix o.seen t.seen
    pub longer : (t.seen ≡ s.seen) ⊎ (t.seen ≡ o.seen)
    pub joined : t.joined ≡ s.joined ++ joined_of o ∷ o.joined
    pub same : t ≡ record s { seen = t.seen; joined = t.joined }

  -- the number is that of the seat or of one that was joined into it
  abbrev pub IsNumberOf : SeatFacts E F → ℕ → Type 0
  IsNumberOf s n = (n ≡ s.number) ⊎ Contains (map (λ (c : JoinedSeat E). c.number) s.joined) n

  -- The last history of a cell, as its last seat tells it: the body stands for it, it begins with what each seat has
  -- seen, the entries with a seat's number are just its own, and after the opening list there are no others
  pub record Closing {B : Type 0} (stands : B → List E → Type 0) (s : SeatFacts E F) (b : B) : Type 0 where
    pub log : List (Entry E)
    pub stands_for : stands b (plain log)
    pub seen : IsPrefix s.seen log
    pub own : made_by s.number log ≡ s.own
    pub joined : All (λ (c : JoinedSeat E). IsPrefix c.seen log × (made_by c.number log ≡ c.own)) s.joined
    pub added : List (Entry E)
    pub begins : log ≡ marked 0 s.opening ++ added
    pub makers : All (λ (e : Entry E). IsNumberOf s e.maker) added
