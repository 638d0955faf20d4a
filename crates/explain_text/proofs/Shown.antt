-- The fetches whose rows are come by once or by a statement under a parent are those that are sent.
use Rattle.std.proofs.Common.{◌≡◌, ◌∙◌, ℕ, ◌+◌, Bool, cond, true, false, not, List, [], ◌∷◌, ◌++◌, Option, Some, None, refl, ap, ap₂, position, is_some, ◌&&◌, ◌||◌, ◌<◌, ◌≤◌, suc, length, nat_lt, lt-ltb, le-ltb, ltb-true, ltb-false, arith}
use Rattle.std.specs.List.{list_any, position_or_len}
use Rattle.pg_base.specs.Catalog.{CatalogParts}
use Rattle.plan_steps.specs.Named.{fetch_at, item_at}
use Rattle.plan_steps.specs.Same.{same_fetch}
use Rattle.plan_steps.specs.Sent.{children_above, children_at, children_of, is_read_by, is_sent}
use Rattle.plan_steps.specs.declared.plan.FetchStep.{FetchStep, out-FetchStep}
use Rattle.plan_steps.specs.declared.plan.Step.{Step}
use Rattle.batch_execute.specs.Ways.{fetch_above, way_among, way_by, way_found, way_in, way_of, ways_from, ways_of}
use Rattle.batch_execute.specs.declared.way.Way.{Way}
use Rattle.batch_execute.specs.declared.way.Way.TheVariants.{Other, Once, Sent, Read}
use Rattle.explain_text.specs.Explained.{fetch_lines, fetch_lines_from, step_line}
use Rattle.explain_text.specs.WayLines.{line_by, lines_by}

-- whether a line shows it
abbrev shows : Way → Bool
shows Once = true
shows (Sent above) = true
shows Other = false
shows (Read above child) = false

line_is : (catalog : CatalogParts) (s : Step) (w : Way) → line_by catalog s w ≡ cond (shows w) (step_line catalog s) []
line_is catalog s Once = refl
line_is catalog s (Sent above) = refl
line_is catalog s Other = refl
line_is catalog s (Read above child) = refl

below_one : (a b : ℕ) (v : Bool) → nat_lt a b ≡ v → nat_lt (1 + a) (suc b) ≡ v
below_one a b true e = lt-ltb (1 + a) (suc b) (let lt : a < b = ltb-true a b e in omega arith)
below_one a b false e = le-ltb (1 + a) (suc b) (let le : b ≤ a = ltb-false a b e in omega arith)

or_next : (t : Bool) (a b : ℕ) (rest : Bool) → nat_lt a b ≡ rest → nat_lt (cond (not t) (1 + a) 0) (suc b) ≡ (t || rest)
or_next true a b rest e = lt-ltb 0 (suc b) (omega arith)
or_next false a b rest e = below_one a b rest e

found_any : {A : Type 0} (p : A → Bool) (xs : List A) → nat_lt (position_or_len p xs) (length xs) ≡ list_any p xs
found_any p [] = refl
found_any p (x ∷ xs) = or_next (p x) (position_or_len p xs) (length xs) (list_any p xs) (found_any p xs)

is_some_when : {A : Type 0} (b : Bool) (x : A) → is_some (cond b (Some x) None) ≡ b
is_some_when true x = refl
is_some_when false x = refl

place_any : {A : Type 0} (p : A → Bool) (xs : List A) → is_some (position p xs) ≡ list_any p xs
place_any p xs = is_some_when (nat_lt (position_or_len p xs) (length xs)) (position_or_len p xs) ∙ found_any p xs

among : (f : FetchStep) (above : ℕ) (children : List FetchStep) → shows (way_among f above children) ≡ not (list_any (same_fetch f) children)
among f above children = go (position (same_fetch f) children) ∙ ap not (place_any (same_fetch f) children)
  where
    go : (o : Option ℕ) → shows (way_found above o) ≡ not (is_some o)
    go None = refl
    go (Some child) = refl

by_above : (steps : List Step) (f : FetchStep) (item : Option ℕ) → shows (way_by steps f item) ≡ not (list_any (same_fetch f) (children_at steps item))
by_above steps f None = refl
by_above steps f (Some above) = among f above (children_of (fetch_at steps above))

by_parent : (steps : List Step) (f : FetchStep) (parent : Option ℕ)
    → shows (way_by steps f (fetch_above steps parent)) ≡ not (list_any (same_fetch f) (children_above steps parent))
by_parent steps f None = refl
by_parent steps f (Some p) = by_above steps f (item_at steps p)

shown_in : (steps : List Step) (o : Option FetchStep) → shows (way_in steps o) ≡ (is_some o && not (is_read_by steps o))
shown_in steps None = refl
shown_in steps (Some f) = by_parent steps f (out-FetchStep f).parent

shown : (steps : List Step) (k : ℕ) → shows (way_of steps k) ≡ is_sent steps k
shown steps k = shown_in steps (fetch_at steps k)

lines_from : (catalog : CatalogParts) (all : List Step) (k : ℕ) (steps : List Step) → lines_by catalog steps (ways_from all k steps) ≡ fetch_lines_from catalog all k steps
lines_from catalog all k [] = refl
lines_from catalog all k (s ∷ steps) =
    ap₂ (λ x y. x ++ y) (line_is catalog s (way_of all k) ∙ ap (λ b. cond b (step_line catalog s) []) (shown all k)) (lines_from catalog all (k + 1) steps)

pub lines_shown : (catalog : CatalogParts) (steps : List Step) (how : List Way) → how ≡ ways_of steps → lines_by catalog steps how ≡ fetch_lines catalog steps
lines_shown catalog steps how e = ap (lines_by catalog steps) e ∙ lines_from catalog steps 0 steps
