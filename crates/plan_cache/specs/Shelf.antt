-- The shelf of kept plans: what a look finds and what entering leaves, over the list of all that was ever entered.
use Rattle.std.specs.Prelude.{◌≡◌, ℕ, ◌-◌, List, [], ◌∷◌, ◌++◌, length, drop, Option, Some, None, refl}
use Rattle.std.specs.Coded.{Coded, code_by, coded×, coded_list}
use Rattle.pg_base.specs.Lists.{Each}
use Rattle.pg_base.specs.Base.{BaseParts}
use Rattle.pg_base.specs.declared.vars.Vars.{Vars}
use Rattle.plan_constraints.specs.declared.constraint.Constraint.{Constraint}
use Rattle.plan_constraints.specs.Constraints.{Hold}

-- what a plan is kept under: the text of its document, the name of its operation as it was given, and the constraints
-- on the variables with which it may serve
pub record Key : Type 0 where
  pub text : List ℕ
  pub operation : Option (List ℕ)
  pub constraints : List Constraint

-- what a look asks for
pub record Asked : Type 0 where
  pub text : List ℕ
  pub operation : Option (List ℕ)
  pub vars : Vars

abbrev pub key_of : List ℕ → Option (List ℕ) → List Constraint → Key
key_of text operation constraints = record { text = text; operation = operation; constraints = constraints }

abbrev pub asked_for : List ℕ → Option (List ℕ) → Vars → Asked
asked_for text operation vars = record { text = text; operation = operation; vars = vars }

-- how many entries serve at most
abbrev pub most_live : ℕ
most_live = 64

-- the entries that serve: the last ones of a history
abbrev pub live : {E : Type 0} → List E → List E
live history = drop (length history - most_live) history

-- the text, the name, and constraints that hold
abbrev pub Answers : Asked → Key → Type 0
Answers asked key =
    (key.text ≡ asked.text) × (key.operation ≡ asked.operation) × Hold key.constraints asked.vars

-- no key of these entries answers
abbrev pub NoneAnswers : {E : Type 0} → (E → Key) → Asked → List E → Type 0
NoneAnswers key asked entries = Each (λ e. Answers asked (key e) → ⊥) entries

-- the oldest of the entries whose key answers; None where there is none
abbrev pub IsOldest : {E : Type 0} → (E → Key) → Asked → List E → Option E → Type 0
IsOldest {E} key asked entries None = NoneAnswers key asked entries
IsOldest {E} key asked entries (Some e) =
    (older : List E) × (younger : List E)
    × (entries ≡ older ++ e ∷ younger) × NoneAnswers key asked older × Answers asked (key e)

-- ---- the two events: the history before, and the answer or the history after

abbrev pub Look : {E : Type 0} → (E → Key) → Asked → List E → Option E → Type 0
Look key asked history found = IsOldest key asked (live history) found

abbrev pub Enter : {E : Type 0} → E → List E → List E → Type 0
Enter e before after = after ≡ before ++ e ∷ []

-- ---- a shelf, by the base of its plans and the entries that serve, oldest first

pub record Shelved (E : Type 0) : Type 0 where
  pub base : BaseParts
  pub entries : List E

abbrev pub shelved : {E : Type 0} → BaseParts → List E → Shelved E
shelved base entries = record { base = base; entries = entries }

abbrev pub shelved_code : {E : Type 0} → Coded BaseParts → Coded E → Coded (Shelved E)
shelved_code {E} b e =
    code_by (BaseParts × List E) (coded× b (coded_list e)) (λ s. (s.base, s.entries)) (λ p. shelved p.0 p.1) (λ _. refl)

-- the shelf has the last entries of the history
abbrev pub Shows : {E : Type 0} → Shelved E → List E → Type 0
Shows shelf history = shelf.entries ≡ live history
