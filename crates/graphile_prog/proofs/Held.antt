-- What is known of the bytes of files, where they are told.
use Rattle.std.proofs.Common.{◌≡◌, ℕ, ◌≤◌, List, length, Option, Some, None, subst}
use Rattle.std.specs.Prelude.{⊤}
use Rattle.pg_io.specs.Files.{Told, Untold, Absent, Holds}
use Rattle.request_core.specs.Request.{Request, asked}
use Rattle.command_words.specs.Commands as words
use Rattle.graphile_prog.specs.Told.{Outside, IfHeld, IfGiven, IfAsked, IfAllHeld}
use Rattle.graphile_prog.specs.Run.{IsTold}
use Rattle.graphile_prog.specs.Parts.{IsRead}

pub held_map : (told : Told) (P Q : List ℕ → Type 0) → ((bytes : List ℕ) → P bytes → Q bytes) → IfHeld told P → IfHeld told Q
held_map Untold P Q f h = h
held_map Absent P Q f h = h
held_map (Holds bytes) P Q f h = f bytes h

-- what can't hold of the same bytes
pub held_apart : (told : Told) (P Q : List ℕ → Type 0) → IsTold told → ((bytes : List ℕ) → P bytes → Q bytes → ⊥) → IfHeld told P → IfHeld told Q → ⊥
held_apart Untold P Q t f p q = absurd t
held_apart Absent P Q t f p q = absurd t
held_apart (Holds bytes) P Q t f p q = f bytes p q

-- ---- a file that may be named

pub given_map : (o : Outside) (name : Option (List ℕ)) (P Q : Option (List ℕ) → Type 0) → ((v : Option (List ℕ)) → P v → Q v) → IfGiven o name P → IfGiven o name Q
given_map o None P Q f h = f None h
given_map o (Some name) P Q f h = held_map (o.file name) (λ b. P (Some b)) (λ b. Q (Some b)) (λ b. f (Some b)) h

-- ---- what a query's files ask

abbrev Beside : words.Request → List ℕ → (Request → Type 0) → Option (List ℕ) → Type 0
Beside q document P variables = P (asked document q.operation variables)

abbrev Over : Outside → words.Request → (Request → Type 0) → List ℕ → Type 0
Over o q P document = IfGiven o q.variables (Beside q document P)

pub asked_map : (o : Outside) (q : words.Request) (P Q : Request → Type 0) → ((r : Request) → P r → Q r) → IfAsked o q P → IfAsked o q Q
asked_map o q P Q f h =
    held_map (o.file q.document) (Over o q P) (Over o q Q)
    (λ d. given_map o q.variables (Beside q d P) (Beside q d Q) (λ v. f (asked d q.operation v))) h

pub all_held : (o : Outside) (q : words.Request) (P : List ℕ → Type 0) (Q : Request → Type 0) (R : List ℕ → Request → Type 0)
    → ((b : List ℕ) (r : Request) → P b → Q r → R b r) → IfHeld (o.file q.script) P → IfAsked o q Q → IfAllHeld o q R
all_held o q P Q R f p h = held_map (o.file q.script) P (λ b. IfAsked o q (R b)) (λ b x. asked_map o q Q (R b) (λ r y. f b r x y) h) p

-- ---- a file that was read is there, and is not too large

pub read_there : (told : Told) (n : ℕ) (bytes : List ℕ) → IsRead told n bytes → IfHeld told (λ _. ⊤)
read_there told n bytes r = held_map told (λ held. (bytes ≡ held) × (length held ≤ n)) (λ _. ⊤) (λ held p. tt) r

pub read_short : (told : Told) (n : ℕ) (bytes : List ℕ) → IsRead told n bytes → IfHeld told (λ held. length held ≤ n)
read_short told n bytes r = held_map told (λ held. (bytes ≡ held) × (length held ≤ n)) (λ held. length held ≤ n) (λ held p. p.1) r

-- what holds of the bytes that were read
pub read_holds : (told : Told) (n : ℕ) (bytes : List ℕ) (P Q : List ℕ → Type 0) → ((held : List ℕ) → length held ≤ n → P held → Q held) → P bytes → IsRead told n bytes → IfHeld told Q
read_holds told n bytes P Q f p r = held_map told (λ held. (bytes ≡ held) × (length held ≤ n)) Q (λ held x. f held x.1 (subst P x.0 p)) r
