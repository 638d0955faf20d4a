-- Keys written as lists of words, one list for each key.
use Rattle.std.specs.Prelude.{ℕ, Bool, true, false, List, [], ◌∷◌, ◌++◌, Option, Some, None}
use Rattle.pg_base.specs.declared.cell.Cell.{Cell}
use Rattle.pg_base.specs.declared.cell.Cell.TheVariants as cell
use Rattle.pg_base.specs.declared.value.Value.{Value, Null, Int, Bool as BoolOf, Text, Case, List', Object'}
use Rattle.pg_base.specs.declared.value.Value.{Row_of-Value, end_of-Value, more_of-Value, Row_of-Member, end_of-Member}
use Rattle.pg_base.specs.declared.value.Value.{more_of-Member}
use Rattle.pg_base.specs.declared.value.Member.{Member}
use Rattle.rel_model.specs.declared.window.By.{By}
use Rattle.plan_constraints.specs.declared.part.Part.{Part}
use Rattle.plan_constraints.specs.declared.part.Part.TheVariants as part
use Rattle.plan_steps.specs.declared.plan.Slot.{Slot}
use Rattle.plan_steps.specs.declared.plan.Slot.TheVariants.{Const, Var}
use Rattle.plan_steps.specs.declared.plan.SlotEqual.{SlotEqual}
use Rattle.plan_steps.specs.declared.plan.SlotWindow.{SlotWindow}
use Rattle.plan_steps.specs.declared.plan.FetchStep.{FetchStep, out-FetchStep}
use Rattle.plan_steps.specs.declared.plan.Step.{Step}
use Rattle.plan_steps.specs.declared.plan.Step.TheVariants as step
use Rattle.dedupe_steps.specs.declared.words.Word.{Word}
use Rattle.dedupe_steps.specs.declared.words.Word.TheVariants as word
use Rattle.dedupe_steps.specs.ArgWords.{truth, arg_words}
use Rattle.dedupe_steps.specs.Keys.{Hook, Loose, OnGivenRow, OnRowOf, Ground, OverNothing, Numbered, Later, Reach, Anywhere, Under, Alone, Key}
use Rattle.dedupe_steps.specs.Orders.{OrderTold, Told, Written}

-- ---- values

abbrev mutual
  pub value_words : Value → List Word
  value_words Null = word.Number 0 ∷ []
  value_words (Int n) = word.Number 1 ∷ word.Whole n ∷ []
  value_words (BoolOf b) = word.Number 2 ∷ truth b ∷ []
  value_words (Text t) = word.Number 3 ∷ word.Letters t ∷ []
  value_words (Case c) = word.Number 4 ∷ word.Letters c ∷ []
  value_words (List' _ items) = word.Number 5 ∷ item_words items
  value_words (Object' _ members) = word.Number 6 ∷ member_words members

  pub item_words : {n : _} → Row_of-Value n → List Word
  item_words end_of-Value = word.Number 0 ∷ []
  item_words (more_of-Value v rest) = (word.Number 1 ∷ value_words v) ++ item_words rest

  pub member_words : {n : _} → Row_of-Member n → List Word
  member_words end_of-Member = word.Number 0 ∷ []
  member_words (more_of-Member name v rest) = (word.Number 1 ∷ word.Letters name ∷ value_words v) ++ member_words rest

-- the same of lists
abbrev pub each_value : List Value → List Word
each_value [] = word.Number 0 ∷ []
each_value (v ∷ items) = (word.Number 1 ∷ value_words v) ++ each_value items

abbrev pub each_member : List Member → List Word
each_member [] = word.Number 0 ∷ []
each_member (m ∷ members) = (word.Number 1 ∷ word.Letters m.name ∷ value_words m.value) ++ each_member members

-- ---- lists, each item with a mark before it

abbrev pub each : {A : Type 0} → (A → List Word) → List A → List Word
each words [] = word.Number 0 ∷ []
each words (a ∷ items) = (word.Number 1 ∷ words a) ++ each words items

abbrev pub optional : {A : Type 0} → (A → List Word) → Option A → List Word
optional words None = word.Number 0 ∷ []
optional words (Some a) = word.Number 1 ∷ words a

abbrev pub number : ℕ → List Word
number n = word.Number n ∷ []

-- a number after that of its sort
abbrev pub sorted : ℕ → ℕ → List Word
sorted sort n = word.Number sort ∷ word.Number n ∷ []

-- ---- fetches

abbrev pub cell_words : Cell → List Word
cell_words cell.Null = word.Number 0 ∷ []
cell_words (cell.Int n) = word.Number 1 ∷ word.Whole n ∷ []
cell_words (cell.Bool b) = word.Number 2 ∷ truth b ∷ []
cell_words (cell.Text t) = word.Number 3 ∷ word.Letters t ∷ []
cell_words (cell.EnumCase k) = word.Number 4 ∷ word.Number k ∷ []

abbrev pub part_words : Part → List Word
part_words (part.Name name) = word.Number 0 ∷ word.Letters name ∷ []
part_words (part.Index i) = word.Number 1 ∷ word.Number i ∷ []

abbrev pub slot_words : Slot → List Word
slot_words (Const c) = word.Number 0 ∷ cell_words c
slot_words (Var path) = word.Number 1 ∷ each part_words path

abbrev pub equal_words : SlotEqual → List Word
equal_words e = word.Number e.column ∷ slot_words e.slot

abbrev pub by_words : By → List Word
by_words b = word.Number b.column ∷ truth b.descending ∷ []

abbrev pub window_words : SlotWindow → List Word
window_words w =
    optional slot_words w.first ++ (optional slot_words w.last ++ (optional slot_words w.offset
    ++ (optional slot_words w.before ++ optional slot_words w.after)))

-- a fetch without what it hangs on, whether it asks for rows, and what is below it
abbrev pub fetch_words : FetchStep → List Word
fetch_words fetch = let f = out-FetchStep fetch in
    word.Number f.table ∷ (each number f.by ++ (each number f.parent_columns ++ (each equal_words f.condition
    ++ (each slot_words f.key ++ (each by_words f.order ++ window_words f.window)))))

abbrev pub step_words : Step → List Word
step_words (step.Const v) = word.Number 0 ∷ value_words v
step_words (step.Var path) = word.Number 1 ∷ each part_words path
step_words step.Given = word.Number 2 ∷ []
step_words (step.Fetch f) = word.Number 3 ∷ fetch_words f
step_words (step.Item s) = word.Number 4 ∷ word.Number s ∷ []
step_words (step.Column i c) = word.Number 5 ∷ word.Number i ∷ word.Number c ∷ []
step_words (step.Count s) = word.Number 6 ∷ word.Number s ∷ []
step_words (step.Page s p) = word.Number 7 ∷ word.Number s ∷ word.Number p ∷ []
step_words (step.CursorOf i) = word.Number 8 ∷ word.Number i ∷ []

-- ---- keys

abbrev pub hook_words : Hook → List Word
hook_words Loose = word.Number 0 ∷ []
hook_words OnGivenRow = word.Number 1 ∷ []
hook_words (OnRowOf p) = word.Number 2 ∷ word.Number p ∷ []

abbrev pub ground_words : Ground → List Word
ground_words OverNothing = word.Number 0 ∷ []
ground_words (Numbered s) = word.Number 1 ∷ word.Number s ∷ []
ground_words (Later s) = word.Number 2 ∷ word.Number s ∷ []

abbrev pub reach_words : Reach → List Word
reach_words Anywhere = word.Number 0 ∷ []
reach_words (Under root) = word.Number 1 ∷ optional number root
reach_words (Alone k) = word.Number 2 ∷ word.Number k ∷ []

abbrev pub order_words : OrderTold → List Word
order_words (Told b) = word.Number 0 ∷ truth b ∷ []
order_words (Written a) = word.Number 1 ∷ arg_words a

abbrev pub key_words : Key → List Word
key_words key =
    step_words key.content ++ (hook_words key.hook ++ (ground_words key.stand ++ (reach_words key.reach
    ++ order_words key.order)))
