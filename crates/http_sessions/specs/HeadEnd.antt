-- Where the head of a message ends (RFC 9112, sections 2.1 and 2.2). A line ends with LF or CR LF. CR and LF before
-- the first line belong to the head, which ends with the first empty line after it.
use Rattle.std.specs.Prelude.{◌≡◌, ℕ, ◌+◌, ◌<◌, ◌≤◌, Bool, true, false, ◌==◌, ◌||◌, if◌then◌else◌, List, [], ◌∷◌, ◌++◌, length, take, drop, Option, Some, None}
use Rattle.pg_base.specs.Limits.{most_head_bytes}
use Rattle.http_sessions.specs.declared.scan.Place.{Place}
use Rattle.http_sessions.specs.declared.scan.Place.TheVariants.{Before, LineStart, AfterCr, InLine}
use Rattle.http_sessions.specs.declared.scan.Scan.{Scan}
use Rattle.http_sessions.specs.declared.scan.Extent.{Extent}
use Rattle.http_sessions.specs.declared.scan.Scanned.{Scanned}
use Rattle.http_sessions.specs.declared.scan.Scanned.TheVariants.{Head, More}

-- CR or LF
abbrev pub is_line_byte : ℕ → Bool
is_line_byte b = b == 13 || b == 10

-- the bytes from the first line on
abbrev pub from_first_line : List ℕ → List ℕ
from_first_line [] = []
from_first_line (b ∷ z) = if is_line_byte b then from_first_line z else b ∷ z

-- the place after a byte
abbrev pub place_after : Place → ℕ → Place
place_after Before b = if is_line_byte b then Before else InLine
place_after LineStart b = if b == 13 then AfterCr else InLine
place_after AfterCr b = InLine
place_after InLine b = if b == 10 then LineStart else InLine

-- the byte ends an empty line
abbrev pub ends_head : Place → ℕ → Bool
ends_head Before b = false
ends_head LineStart b = b == 10
ends_head AfterCr b = b == 10
ends_head InLine b = false

-- what is left after the first empty line
abbrev pub after_head : Place → List ℕ → Option (List ℕ)
after_head place [] = None
after_head place (b ∷ z) = if ends_head place b then Some z else after_head (place_after place b) z

-- one, where the byte ends a line that isn't empty
abbrev pub ended_line : Place → ℕ → ℕ
ended_line Before b = 0
ended_line LineStart b = 0
ended_line AfterCr b = 0
ended_line InLine b = if b == 10 then 1 else 0

-- how many lines that aren't empty end
abbrev pub line_count : Place → List ℕ → ℕ
line_count place [] = 0
line_count place (b ∷ z) = ended_line place b + line_count (place_after place b) z

-- how many LF bytes there are
abbrev pub lf_count : List ℕ → ℕ
lf_count [] = 0
lf_count (b ∷ z) = (if b == 10 then 1 else 0) + lf_count z

-- the first empty line ends just here, within the limit
pub record IsHead (head : List ℕ) : Type 0 where
  pub size : length head ≤ most_head_bytes
  pub ends : after_head Before head ≡ Some []

-- ---- looking for it byte by byte

-- where the first line begins, after the byte at a place
abbrev pub first_after : Place → ℕ → ℕ → ℕ → ℕ
first_after Before b at first = if is_line_byte b then at + 1 else at
first_after LineStart b at first = first
first_after AfterCr b at first = first
first_after InLine b at first = first

abbrev pub scan_after : Scan → ℕ → Scan
scan_after s b = record {
  at = s.at + 1;
  first = first_after s.place b s.at s.first;
  place = place_after s.place b;
  lines = s.lines + ended_line s.place b;
}

-- bytes that come after those from the first line on
abbrev pub begun : Place → List ℕ → List ℕ → List ℕ
begun Before line rest = from_first_line rest
begun LineStart line rest = line ++ rest
begun AfterCr line rest = line ++ rest
begun InLine line rest = line ++ rest

-- what a scan knows of the bytes that were looked at, whatever comes after them
pub record IsScanOf (seen : List ℕ) (s : Scan) : Type 0 where
  pub at : s.at ≡ length seen
  pub few : s.lines ≤ s.at
  pub first : s.first ≤ s.at
  pub going : (rest : List ℕ) → after_head Before (seen ++ rest) ≡ after_head s.place rest
  pub counted : (rest : List ℕ) → line_count Before (seen ++ rest) ≡ s.lines + line_count s.place rest
  pub lined : (rest : List ℕ) → from_first_line (seen ++ rest) ≡ begun s.place (drop s.first seen) rest

-- a head, where its first line begins, and how many lines that aren't empty it has
pub record IsHeadWith (head : List ℕ) (first lines : ℕ) : Type 0 where
  pub ends : after_head Before head ≡ Some []
  pub within : first ≤ length head
  pub lined : from_first_line head ≡ drop first head
  pub counted : line_count Before head ≡ lines

pub record Stops (bytes : List ℕ) (x : Extent) : Type 0 where
  pub within : x.end ≤ length bytes
  pub some : 0 < x.end
  pub head : IsHeadWith (take x.end bytes) x.first x.lines

pub record Goes (bytes : List ℕ) (s : Scan) : Type 0 where
  pub whole : s.at ≡ length bytes
  pub scan : IsScanOf bytes s

abbrev pub ScanStops : List ℕ → Scanned → Type 0
ScanStops bytes (Head x) = Stops bytes x
ScanStops bytes (More s) = Goes bytes s
