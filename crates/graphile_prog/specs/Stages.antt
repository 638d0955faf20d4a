-- The order of a run: stages, the first of which that isn't passed gives the status.
use Rattle.std.specs.Prelude.{◌≡◌, ◌⊎◌, List, [], ◌∷◌, ⊤}
use Rattle.graphile_prog.specs.declared.status.Status.{Status}
use Rattle.graphile_prog.specs.declared.status.Status.TheVariants as status

-- one stage of a run: what it is to pass it, and the statuses that it gives where it isn't passed, each with its cause
pub record Stage : Type 1 where
  pub passed : Type 0
  pub refuses : Status → Type 0

-- the status is this one, and has this cause
abbrev pub Because : Status → Type 0 → Status → Type 0
Because refusal Cause answered = (answered ≡ refusal) × Cause

-- the stages before some stage are passed and that one refuses, or all are passed and the command itself ends so
abbrev pub Ends : List Stage → (Status → Type 0) → Status → Type 0
Ends [] Last answered = Last answered
Ends (stage ∷ stages) Last answered = stage.refuses answered ⊎ (stage.passed × Ends stages Last answered)

-- one of the stages refuses, and those before it are passed
abbrev pub AreRefused : List Stage → Status → Type 0
AreRefused stages answered = Ends stages (λ _. ⊥) answered

abbrev pub ArePassed : List Stage → Type 0
ArePassed [] = ⊤
ArePassed (stage ∷ stages) = stage.passed × ArePassed stages

-- memory ran out, which has no cause here, or this holds of the status
abbrev pub OrMemory : (Status → Type 0) → Status → Type 0
OrMemory P answered = (answered ≡ status.Memory) ⊎ P answered
