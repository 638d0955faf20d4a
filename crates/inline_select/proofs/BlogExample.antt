-- A blog's users with their posts and each post's author: posts and authors move. A part of a user's posts doesn't, nor
-- what hangs on the row of a mutation.
use Rattle.std.proofs.Common.{◌≡◌, ℕ, List, [], ◌∷◌, Option, Some, None, true, cond, ap, ◌∙◌}
use Rattle.place_tree.specs.Fold.{same_place}
use Rattle.plan_steps.specs.declared.plan.FetchStep.{FetchStep, roll-FetchStep, out-roll-FetchStep}
use Rattle.plan_steps.specs.declared.plan.Slot.TheVariants as slot
use Rattle.plan_steps.specs.declared.plan.SlotWindow.{SlotWindow}
use Rattle.plan_steps.specs.declared.plan.Step.{Step}
use Rattle.plan_steps.specs.declared.plan.Step.TheVariants as step
use Rattle.plan_steps.specs.Fetches.{has_window}
use Rattle.inline_select.specs.Inlined.{with_more, row_above, target, joined, moved_to, inlined_from, inlined}
use Rattle.inline_select.proofs.Moved.{target_with}

abbrev open_window : SlotWindow
open_window = record { first = None; last = None; offset = None; before = None; after = None }

abbrev first_rows : SlotWindow
first_rows = record { first = Some (slot.Var []); last = None; offset = None; before = None; after = None }

abbrev fetch : Option ℕ → SlotWindow → FetchStep
fetch parent window = roll-FetchStep (record {
  table = 0;
  by = [];
  parent = parent;
  parent_columns = [];
  condition = [];
  key = [];
  order = [];
  window = window;
  rows = true;
  children = [];
})

abbrev users : FetchStep
users = fetch None open_window

abbrev posts : FetchStep
posts = fetch (Some 1) open_window

abbrev authors : FetchStep
authors = fetch (Some 3) open_window

abbrev few_posts : FetchStep
few_posts = fetch (Some 1) first_rows

abbrev created : FetchStep
created = fetch (Some 6) open_window

abbrev steps : List Step
steps = step.Fetch users ∷ step.Item 0 ∷ step.Fetch posts ∷ step.Item 2 ∷ step.Fetch authors ∷ step.Fetch few_posts ∷ step.Given ∷ step.Fetch created ∷ []

-- where each moves
moves : (more : List FetchStep) (parent : Option ℕ) (window : SlotWindow) → target steps (with_more more (fetch parent window)) ≡ cond (has_window window) None (row_above steps parent)
moves more parent window =
    target_with steps _ (fetch parent window) ∙ ap (λ o. cond (has_window o.window) None (row_above steps o.parent)) (out-roll-FetchStep _)

put : (k : ℕ) (f : FetchStep) (rest : List Step) (o : Option ℕ) → target steps f ≡ o → moved_to steps k (step.Fetch f ∷ rest) ≡ joined (same_place o (Some k)) (Some f) (moved_to steps k rest)
put k f rest o e = ap (λ o. joined (same_place o (Some k)) (Some f) (moved_to steps k rest)) e

-- ---- the steps that are made, from the last one on

abbrev made_authors : FetchStep
made_authors = with_more [] authors

abbrev made_posts : FetchStep
made_posts = with_more (made_authors ∷ []) posts

abbrev from_given : List Step
from_given = step.Given ∷ step.Fetch (with_more [] created) ∷ []

abbrev from_few : List Step
from_few = step.Fetch (with_more [] few_posts) ∷ from_given

abbrev from_authors : List Step
from_authors = step.Fetch made_authors ∷ from_few

abbrev from_posts : List Step
from_posts = step.Fetch made_posts ∷ step.Item 2 ∷ from_authors

none_created : (k : ℕ) → moved_to steps k from_given ≡ []
none_created k = put k (with_more [] created) [] None (moves [] (Some 6) open_window)

none_few : (k : ℕ) → moved_to steps k from_few ≡ []
none_few k = put k (with_more [] few_posts) from_given None (moves [] (Some 1) first_rows) ∙ none_created k

below_posts : moved_to steps 2 from_authors ≡ made_authors ∷ []
below_posts = put 2 made_authors from_few (Some 2) (moves [] (Some 3) open_window) ∙ ap (λ l. made_authors ∷ l) (none_few 2)

below_users : moved_to steps 0 from_posts ≡ made_posts ∷ []
below_users =
    put 0 made_posts (step.Item 2 ∷ from_authors) (Some 0) (moves (made_authors ∷ []) (Some 1) open_window)
    ∙ ap (λ l. made_posts ∷ l) (put 0 made_authors from_few (Some 2) (moves [] (Some 3) open_window) ∙ none_few 0)

few_made : inlined_from steps 5 (step.Fetch few_posts ∷ step.Given ∷ step.Fetch created ∷ []) ≡ from_few
few_made = ap (λ l. step.Fetch (with_more l few_posts) ∷ from_given) (none_created 5)

authors_made : inlined_from steps 4 (step.Fetch authors ∷ step.Fetch few_posts ∷ step.Given ∷ step.Fetch created ∷ []) ≡ from_authors
authors_made =
    ap (λ rest. step.Fetch (with_more (moved_to steps 4 rest) authors) ∷ rest) few_made
    ∙ ap (λ l. step.Fetch (with_more l authors) ∷ from_few) (none_few 4)

posts_made : inlined_from steps 2 (step.Fetch posts ∷ step.Item 2 ∷ step.Fetch authors ∷ step.Fetch few_posts ∷ step.Given ∷ step.Fetch created ∷ []) ≡ from_posts
posts_made =
    ap (λ rest. step.Fetch (with_more (moved_to steps 2 rest) posts) ∷ step.Item 2 ∷ rest) authors_made
    ∙ ap (λ l. step.Fetch (with_more l posts) ∷ step.Item 2 ∷ from_authors) below_posts

-- the statement of the users has that of the posts in it, and this that of the authors
blog_inlined : (inlined (record { steps = steps; layers = []; out = [] })).steps ≡ step.Fetch (with_more (made_posts ∷ []) users) ∷ step.Item 0 ∷ from_posts
blog_inlined =
    ap (λ rest. step.Fetch (with_more (moved_to steps 0 rest) users) ∷ step.Item 0 ∷ rest) posts_made
    ∙ ap (λ l. step.Fetch (with_more l users) ∷ step.Item 0 ∷ from_posts) below_users
