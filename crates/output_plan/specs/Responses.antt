-- The response that the values of a query show.
use Rattle.std.specs.Prelude.{◌≡◌, ◌<◌, ◌≤◌, ℕ, List, [], ◌++◌, Result, Ok, Err, codes, length, ⊤}
use Rattle.pg_base.specs.Limits.{most_response_bytes}
use Rattle.pg_base.specs.declared.vars.Vars.{Vars}
use Rattle.place_tree.specs.Response.{Members, errors_text, member_errors, members_text, response_text}
use Rattle.plan_steps.specs.declared.plan.Root.TheVariants as root
use Rattle.plan_steps.specs.View.{Planned}
use Rattle.batch_execute.specs.Reading.{setting, shown_for}
use Rattle.batch_execute.specs.Values.{ValuesParts}
use Rattle.output_plan.specs.declared.fault.PrintFault.{PrintFault}
use Rattle.output_plan.specs.declared.fault.PrintFault.TheVariants as fault

-- the text is the response of the data, and not too long
pub record IsText (data_ : Members) (text : List ℕ) : Type 0 where
  pub shown : text ≡ response_text data_
  pub fits : length text ≤ most_response_bytes

-- why there is none; out of memory alone has no cause
abbrev pub IsCauseFor : Members → PrintFault → Type 0
IsCauseFor data_ fault.TooLong = most_response_bytes < length (response_text data_)
IsCauseFor data_ fault.Memory = ⊤

-- the response of the data, or why there is none
abbrev pub Responds : Members → Result (List ℕ) PrintFault → Type 0
Responds data_ (Ok text) = IsText data_ text
Responds data_ (Err e) = IsCauseFor data_ e

-- ---- of values

-- the data that the values show
abbrev pub data_of : Planned → Vars → ValuesParts → Members
data_of p vars v = shown_for (setting p.base vars root.Query) v.fetched p.plan p.tree root.Query

-- ---- in parts

abbrev pub front_text : Members → List ℕ
front_text data_ = codes "{" ++ (errors_text (member_errors data_ []) ++ codes "\"data\":{")

abbrev pub whole_text : Members → List ℕ
whole_text data_ = front_text data_ ++ (members_text data_ ++ codes "}}")
