-- What is laid out of a plan before its values are printed.
use Rattle.std.specs.Prelude.{◌≡◌, ℕ, List, [], map}
use Rattle.json_out.specs.JsonText.{json_key}
use Rattle.pg_base.specs.Base.{BaseParts}
use Rattle.place_tree.specs.declared.place.Place.{Place}
use Rattle.plan_steps.specs.declared.plan.FetchStep.{FetchStep, out-FetchStep}
use Rattle.plan_steps.specs.declared.plan.Step.{Step}
use Rattle.plan_steps.specs.declared.plan.Step.TheVariants as step
use Rattle.plan_steps.specs.Values.{order_names}
use Rattle.batch_execute.specs.Nexts.{nexts_from}

-- ---- keys

abbrev pub label_of : Place → List ℕ
label_of p = json_key p.key

-- ---- the names of orders

abbrev pub fetch_names : BaseParts → FetchStep → List (List ℕ)
fetch_names base f = order_names base (out-FetchStep f).table (out-FetchStep f).order

abbrev pub names_of : BaseParts → Step → List (List ℕ)
names_of base (step.Const v) = []
names_of base (step.Var path) = []
names_of base step.Given = []
names_of base (step.Fetch f) = fetch_names base f
names_of base (step.Item s) = []
names_of base (step.Column i c) = []
names_of base (step.Count s) = []
names_of base (step.Page s part) = []
names_of base (step.CursorOf i) = []

-- ---- all of it for places

pub record IsLaidOut (places : List Place) (labels : List (List ℕ)) (nexts : List ℕ) : Type 0 where
  pub labelled : labels ≡ map label_of places
  pub linked : nexts ≡ nexts_from 0 places
