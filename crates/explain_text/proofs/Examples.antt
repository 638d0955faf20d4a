-- Texts of constraints and plans, written out.
use Rattle.std.proofs.Common.{◌≡◌, ◌∙◌, ℕ, ◌+◌, Bool, cond, true, false, not, ◌||◌, List, [], ◌∷◌, ◌++◌, map, sum, Option, Some, None, negsuc, refl, ap, ap₂, decimal, codes}
use Rattle.std.specs.Fmt.{digits}
use Rattle.std.specs.List.{list_any}
use Rattle.json_out.specs.JsonText.{escaped_byte}
use Rattle.pg_base.specs.Catalog.{CatalogParts}
use Rattle.pg_base.specs.Lookups.{no_column, no_table, table_at}
use Rattle.pg_base.specs.declared.table_def.ColumnDef.{ColumnDef}
use Rattle.pg_base.specs.declared.value.Value.TheVariants as value
use Rattle.plan_constraints.specs.declared.constraint.Constraint.TheVariants.{Value, Exists, Null, Keys}
use Rattle.plan_constraints.specs.declared.part.Part.{Part}
use Rattle.plan_constraints.specs.declared.part.Part.TheVariants.{Name, Index}
use Rattle.plan_steps.specs.Same.{same_fetch, same_step}
use Rattle.plan_steps.specs.Sent.{children_above, is_sent}
use Rattle.plan_steps.specs.declared.plan.FetchStep.{FetchStep, FetchStep-F, out-FetchStep, fold_out-FetchStep}
use Rattle.plan_steps.specs.declared.plan.Plan.{Plan}
use Rattle.plan_steps.specs.declared.plan.Step.{Step}
use Rattle.plan_steps.specs.declared.plan.Step.TheVariants as step
use Rattle.explain_text.specs.Explained.{columns_text, constraint_line, ended, fetch_line, fetch_lines, nodes, plan_lines}
use Rattle.explain_text.proofs.Nodes.{nodes_are}

-- ---- constraints

abbrev path : List Part
path = Name (codes "by") ∷ Index 12 ∷ Name (codes "id") ∷ []

not_given : constraint_line (Exists (Name (codes "n") ∷ []) false) ≡ codes "when exists n false\n"
not_given = refl

is_null : constraint_line (Null path true) ≡ codes "when null by.12.id true\n"
unfolding digits
is_null = refl

has_text : constraint_line (Value path (value.Text (codes "a\"b"))) ≡ codes "when value by.12.id \"a\\\"b\"\n"
unfolding digits escaped_byte
has_text = refl

has_number : constraint_line (Value path (value.Int (negsuc 6))) ≡ codes "when value by.12.id -7\n"
unfolding digits
has_number = refl

has_keys : constraint_line (Keys path (codes "name" ∷ codes "email" ∷ [])) ≡ codes "when keys by.12.id name,email\n"
unfolding digits
has_keys = refl

has_no_keys : constraint_line (Keys path []) ≡ codes "when keys by.12.id \n"
unfolding digits
has_no_keys = refl

-- ---- plans

abbrev named_column : List ℕ → ColumnDef
named_column name = record no_column { name = name }

abbrev blog : CatalogParts
blog = record {
  enums = [];
  tables = record no_table { name = codes "users"; columns = named_column (codes "id") ∷ [] }
      ∷ record no_table { name = codes "posts"; columns = named_column (codes "id") ∷ named_column (codes "author_id") ∷ [] } ∷ [];
}

abbrev parts : ℕ → List ℕ → Option ℕ → List FetchStep → FetchStep-F FetchStep
parts table by parent children = record {
  table = table;
  by = by;
  parent = parent;
  parent_columns = [];
  condition = [];
  key = [];
  order = [];
  window = record { first = None; last = None; offset = None; before = None; after = None };
  rows = true;
  children = children;
}

-- a list, its rows, and what hangs on them
abbrev steps_of : FetchStep → FetchStep → List Step
steps_of users posts = step.Fetch users ∷ step.Item 0 ∷ step.Fetch posts ∷ []

abbrev plan_of : FetchStep → FetchStep → Plan
plan_of users posts = record {
  steps = steps_of users posts;
  layers = record { over = None; steps = 0 ∷ [] } ∷ record { over = Some 0; steps = 1 ∷ 2 ∷ [] } ∷ [];
  out = [];
}

abbrev line_as : FetchStep-F FetchStep → ℕ → List ℕ
line_as o n = codes "fetch " ++ ((table_at blog o.table).name ++ (codes " by "
    ++ (columns_text (table_at blog o.table).columns o.parent o.by ++ (codes " nodes " ++ ended (decimal n)))))

line_is : (f : FetchStep) (o : FetchStep-F FetchStep) → out-FetchStep f ≡ o → fetch_line blog f ≡ line_as o (sum (map nodes o.children) + 1)
line_is f o e = ap₂ line_as e (nodes_are f ∙ ap (λ (g : FetchStep-F FetchStep). sum (map nodes g.children) + 1) e)

module _ (users posts : FetchStep) where
  same_posts : out-FetchStep posts ≡ parts 1 (1 ∷ []) (Some 1) [] → same_fetch posts posts ≡ true
  same_posts p = ap (λ (test : FetchStep → Bool). test posts) (fold_out-FetchStep (FetchStep → Bool) same_step posts) ∙ simp p refl

  users_sent : (children : List FetchStep) → out-FetchStep users ≡ parts 0 [] None children → is_sent (steps_of users posts) 0 ≡ true
  users_sent children u =
      ap (λ (o : FetchStep-F FetchStep). not (list_any (same_fetch users) (children_above (steps_of users posts) o.parent))) u

  posts_sent : (children : List FetchStep) → out-FetchStep users ≡ parts 0 [] None children → out-FetchStep posts ≡ parts 1 (1 ∷ []) (Some 1) []
      → is_sent (steps_of users posts) 2 ≡ not (list_any (same_fetch posts) children)
  posts_sent children u p =
      ap (λ (o : FetchStep-F FetchStep). not (list_any (same_fetch posts) (children_above (steps_of users posts) o.parent))) p
      ∙ ap (λ (o : FetchStep-F FetchStep). not (list_any (same_fetch posts) o.children)) u

  lines_are : (a b : Bool) → is_sent (steps_of users posts) 0 ≡ a → is_sent (steps_of users posts) 2 ≡ b
      → fetch_lines blog (steps_of users posts) ≡ cond a (fetch_line blog users) [] ++ (cond b (fetch_line blog posts) [] ++ [])
  lines_are a b of_users of_posts = ap₂ (λ x y. cond x (fetch_line blog users) [] ++ (cond y (fetch_line blog posts) [] ++ [])) of_users of_posts

  two_sent : out-FetchStep users ≡ parts 0 [] None [] → out-FetchStep posts ≡ parts 1 (1 ∷ []) (Some 1) []
      → plan_lines blog (plan_of users posts) ≡ codes "fetch users by - nodes 1\nfetch posts by author_id nodes 1\nlayers 2\nsteps 3\n"
  unfolding digits
  two_sent u p =
      ap (λ lines. lines ++ codes "layers 2\nsteps 3\n") (lines_are true true (users_sent [] u) (posts_sent [] u p)
      ∙ ap₂ (λ x y. x ++ (y ++ [])) (line_is users _ u) (line_is posts _ p))

  one_read : out-FetchStep users ≡ parts 0 [] None (posts ∷ []) → out-FetchStep posts ≡ parts 1 (1 ∷ []) (Some 1) []
      → plan_lines blog (plan_of users posts) ≡ codes "fetch users by - nodes 2\nlayers 2\nsteps 3\n"
  unfolding digits
  one_read u p =
      ap (λ lines. lines ++ codes "layers 2\nsteps 3\n") (lines_are true false (users_sent (posts ∷ []) u)
      (posts_sent (posts ∷ []) u p ∙ ap (λ b. not (b || false)) (same_posts p))
      ∙ ap (λ x. x ++ []) (line_is users _ u ∙ ap (λ n. line_as (parts 0 [] None (posts ∷ [])) (sum (n ∷ []) + 1)) (nodes_are posts ∙ ap (λ (g : FetchStep-F FetchStep). sum (map nodes g.children) + 1) p)))
