-- How many rows places show, by the recursion over the places.
use Rattle.std.specs.Prelude.{ℕ, ◌+◌, ◌-◌, true, false, List, [], ◌∷◌, Option, Some, None, is_some}
use Rattle.place_tree.specs.declared.place.Place.{Place}
use Rattle.place_tree.specs.declared.place.Tree.{Tree}
use Rattle.place_tree.specs.declared.answer.Answer.{Answer}
use Rattle.place_tree.specs.declared.answer.Answer.TheVariants.{Shows, Fails, One, Many}
use Rattle.place_tree.specs.Fold.{fold}
use Rattle.place_tree.specs.Spent.{answer_cost}
use Rattle.plan_steps.specs.declared.plan.Plan.{Plan}
use Rattle.plan_steps.specs.declared.plan.Root.{Root}
use Rattle.plan_steps.specs.declared.plan.Step.{Step}
use Rattle.plan_steps.specs.Named.{step_for}
use Rattle.plan_steps.specs.Sent.{one_if}
use Rattle.plan_steps.specs.Under.{root_place}
use Rattle.stmt_tree.specs.declared.found.Found.{Found}
use Rattle.stmt_tree.specs.declared.found.Found.TheViews.{out-Found}
use Rattle.batch_execute.specs.Fetched.{FetchedParts}
use Rattle.batch_execute.specs.declared.role.Role.{Role}
use Rattle.batch_execute.specs.declared.role.Role.TheVariants.{Failed, OfList, OfRow, Each, Same, OfLeaf}
use Rattle.batch_execute.specs.Reading.{Setting, Trail, found_at, first_tree, shown_at}
use Rattle.batch_execute.specs.Roles.{role_of}

-- the sum of what the places of a parent cost at a state, and of what the places below them do
abbrev pub counted : {S : Type 0} → (ℕ → Place → S → Answer S) → (ℕ → Place → S → ℕ) → List Place → ℕ → Option ℕ
    → S → ℕ
counted ask cost places i parent s =
    fold ask (λ i p s a rest. cost i p s + answer_cost a + rest) 0 places i parent s

-- ---- of the place at i, with the places after it

abbrev pub state_counted : {S : Type 0} → (ℕ → Place → S → Answer S) → (ℕ → Place → S → ℕ) → List Place → ℕ → S → ℕ
state_counted ask cost after i s = counted ask cost after (i + 1) (Some i) s

abbrev pub states_counted : {S : Type 0} → (ℕ → Place → S → Answer S) → (ℕ → Place → S → ℕ) → List Place → ℕ
    → List S → ℕ
states_counted ask cost after i [] = 0
states_counted ask cost after i (s ∷ ss) = state_counted ask cost after i s + states_counted ask cost after i ss

abbrev pub answer_counted : {S : Type 0} → (ℕ → Place → S → Answer S) → (ℕ → Place → S → ℕ) → List Place → ℕ
    → Answer S → ℕ
answer_counted ask cost after i (Shows l) = 0
answer_counted ask cost after i (Fails message) = 0
answer_counted ask cost after i (One s) = state_counted ask cost after i s
answer_counted ask cost after i (Many ss) = states_counted ask cost after i ss

abbrev pub place_counted : {S : Type 0} → (ℕ → Place → S → Answer S) → (ℕ → Place → S → ℕ) → List Place → ℕ
    → Place → S → ℕ
place_counted ask cost after i p s = cost i p s + answer_counted ask cost after i (ask i p s)

-- ---- rows

-- the rows of a list from one place up to another, where they are shown, or the one row
abbrev pub rows_shown : Role → Found → ℕ
rows_shown (Failed message) found = 0
rows_shown (OfList true) found = (out-Found found).to - (out-Found found).from
rows_shown (OfList false) found = 0
rows_shown OfRow found = one_if (is_some (first_tree (out-Found found).rows))
rows_shown Each found = 0
rows_shown Same found = 0
rows_shown OfLeaf found = 0

abbrev pub rows_in : Role → List Step → List FetchedParts → Trail → Option ℕ → ℕ
rows_in role steps fetched trail None = 0
rows_in role steps fetched trail (Some k) = rows_shown role (found_at steps fetched trail k)

-- how many rows the place at i shows of what its step found
abbrev pub rows_at : Setting → List FetchedParts → Plan → Tree → ℕ → Place → Trail → ℕ
rows_at z fetched plan tree i p trail =
    rows_in (role_of z.base z.vars tree.places i p) plan.steps fetched trail (step_for plan.out i)

-- how many rows the places under a root show
abbrev pub rows_for : Setting → List FetchedParts → Plan → Tree → Root → ℕ
rows_for z fetched plan tree r =
    counted (shown_at z fetched plan tree) (rows_at z fetched plan tree) tree.places 0 (root_place r) []
