-- Why a text is not appended, and what is appended.
use Rattle.std.specs.Prelude.{◌<◌, ℕ, List, [], Option, Some, None, length, Result, Ok, Err, ⊤}
use Rattle.pg_base.specs.Limits.{most_response_bytes}
use Rattle.output_plan.specs.declared.fault.PrintFault.{PrintFault}
use Rattle.output_plan.specs.declared.fault.PrintFault.TheVariants as fault

-- a text of which this is the front is too long
abbrev pub Stops : PrintFault → List ℕ → Type 0
Stops fault.TooLong text = most_response_bytes < length text
Stops fault.Memory text = ⊤

-- where it isn't appended, what would be the text is too long
abbrev pub StopsFor : {A : Type 0} → List ℕ → Result A PrintFault → Type 0
StopsFor text (Ok x) = ⊤
StopsFor text (Err e) = Stops e text

abbrev pub text_or : Option (List ℕ) → List ℕ
text_or None = []
text_or (Some text) = text
