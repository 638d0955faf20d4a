-- The bytes that were read and not yet answered stand in a part of a buffer.
use Rattle.std.specs.Prelude.{◌≡◌, ℕ, ◌+◌, ◌-◌, ◌<◌, ◌≤◌, List, [], ◌∷◌, ◌++◌, length, take, drop, Option, Some, None, Result, Ok, Err, ⊤}
use Rattle.pg_base.specs.Limits.{most_head_bytes}
use Rattle.pg_io.specs.Streams.{Rose}
use Rattle.http_sessions.specs.declared.window.Window.{Window}
use Rattle.http_sessions.specs.declared.reading.Halt.{Halt}
use Rattle.http_sessions.specs.declared.reading.Halt.TheVariants.{End, Fault}
use Rattle.http_sessions.specs.declared.reading.Got.{Got}
use Rattle.http_sessions.specs.declared.reading.Got.TheVariants.{Bytes, Nothing, Failure}
use Rattle.http_sessions.specs.declared.reading.HeadFound.{HeadFound}
use Rattle.http_sessions.specs.declared.reading.HeadFound.TheVariants.{Head, TooLong, Halted}
use Rattle.http_sessions.specs.declared.scan.Extent.{Extent}
use Rattle.http_sessions.specs.declared.scan.Place.TheVariants.{Before}
use Rattle.http_sessions.specs.HeadEnd.{after_head, IsHeadWith}
use Rattle.http_sessions.specs.SessionRuns.{Passed, Leaves, IsAtEnd}

abbrev pub window_of : List ℕ → Window → List ℕ
window_of room w = take (w.held - w.start) (drop w.start room)

pub record IsWindow (room : List ℕ) (w : Window) : Type 0 where
  pub ordered : w.start ≤ w.held
  pub within : w.held ≤ length room

-- bytes came from a source, after those of a window
pub record Came (given given_now left left_now : Option (List ℕ)) (before now : List ℕ) : Type 0 where
  pub some : List ℕ
  pub window : now ≡ before ++ some
  pub given_is : Passed given given_now some
  pub left_is : Leaves left left_now some

-- a read made the window longer; or it came to the end of the input, or failed, and left the window
abbrev pub GotIs : Got → List ℕ → List ℕ → ℕ → ℕ → Option (List ℕ) → Type 0
GotIs Bytes before now faults faults_now left = (length before < length now) × (faults_now ≡ faults)
GotIs Nothing before now faults faults_now left = (now ≡ before) × (faults_now ≡ faults) × IsAtEnd left
GotIs Failure before now faults faults_now left = (now ≡ before) × Rose faults faults_now

-- why no more came
abbrev pub HaltIs : Halt → ℕ → ℕ → Option (List ℕ) → Type 0
HaltIs End faults faults_now left = (faults_now ≡ faults) × IsAtEnd left
HaltIs Fault faults faults_now left = Rose faults faults_now

-- a head at the front of the window
pub record HeadStands (window : List ℕ) (x : Extent) : Type 0 where
  pub within : x.end ≤ length window
  pub some : 0 < x.end
  pub size : x.end ≤ most_head_bytes
  pub head : IsHeadWith (take x.end window) x.first x.lines

-- no head in the first bytes
pub record HasNoHead (window : List ℕ) : Type 0 where
  pub size : most_head_bytes ≤ length window
  pub none : after_head Before (take most_head_bytes window) ≡ None

-- no head yet
pub record HasPart (window : List ℕ) : Type 0 where
  pub size : length window < most_head_bytes
  pub none : after_head Before window ≡ None

abbrev pub FoundIs : HeadFound → List ℕ → ℕ → ℕ → Option (List ℕ) → Type 0
FoundIs (Head x) window faults faults_now left = HeadStands window x × (faults_now ≡ faults)
FoundIs TooLong window faults faults_now left = HasNoHead window × (faults_now ≡ faults)
FoundIs (Halted halt) window faults faults_now left = HasPart window × HaltIs halt faults faults_now left

-- a number of bytes is there, or why it isn't
abbrev pub FilledIs : Result (Unit {0}) Halt → ℕ → List ℕ → ℕ → ℕ → Option (List ℕ) → Type 0
FilledIs (Ok done) size window faults faults_now left = (size ≤ length window) × (faults_now ≡ faults)
FilledIs (Err halt) size window faults faults_now left = (length window < size) × HaltIs halt faults faults_now left
