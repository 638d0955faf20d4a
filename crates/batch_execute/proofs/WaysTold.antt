-- What the way tells by which the rows of a step are come by.
use Rattle.std.proofs.Common.{◌≡◌, ℕ, suc, ◌+◌, ◌<◌, List, [], ◌∷◌, Option, Some, None, Bool, true, false, cond, refl, sym, ap, ◌∙◌, subst, arith}
use Rattle.std.specs.Prelude.{slice_get, is_some, position, IfSome, ◌&&◌, ◌||◌, not}
use Rattle.std.specs.List.{list_any, position_from}
use Rattle.std.proofs.lemmas.Iterator.Adapters.{position_from-zero}
use Rattle.plan_steps.specs.declared.plan.FetchStep.{FetchStep, out-FetchStep}
use Rattle.plan_steps.specs.declared.plan.Step.{Step}
use Rattle.plan_steps.specs.declared.plan.Step.TheVariants as step
use Rattle.plan_steps.specs.Named.{fetch_at, fetch_in, item_at, item_in, named_by}
use Rattle.plan_steps.specs.Same.{same_fetch}
use Rattle.plan_steps.specs.Sent.{children_of, children_at, children_above, is_read_by, is_sent}
use Rattle.batch_execute.specs.declared.way.Way.{Way}
use Rattle.batch_execute.specs.declared.way.Way.TheVariants.{Other, Once, Sent, Read}
use Rattle.stmt_tree.specs.declared.found.Key.{Key}
use Rattle.batch_execute.specs.Entries.{is_due}
use Rattle.batch_execute.specs.Ways.{fetch_above, way_found, way_by, way_in, way_of}
use Rattle.plan_steps.proofs.SameFetch.{fetch_tells}

-- ---- the first place at which a test holds

module _ {A : Type 0} (test : A → Bool) where
  from_any : (i : ℕ) (xs : List A) → is_some (position_from test i xs) ≡ list_any test xs
  from_any i [] = refl
  from_any i (x ∷ xs) = by (test x) (from_any (i + 1) xs) where
    by : (b : Bool) → is_some (position_from test (i + 1) xs) ≡ list_any test xs → is_some (cond b (Some i) (position_from test (i + 1) xs)) ≡ (b || list_any test xs)
    by true h = refl
    by false h = h

  pub record IsAt (xs : List A) (j : ℕ) : Type 0 where
    pub item : A
    pub there : slice_get xs j ≡ Some item
    pub holds : test item ≡ true

  from_found : (i : ℕ) (xs : List A) (c : ℕ) → position_from test i xs ≡ Some c → (j : ℕ) × (c ≡ i + j) × IsAt xs j
  from_found i [] c e = cc
  from_found i (x ∷ xs) c e = by (test x) refl e (λ h. from_found (i + 1) xs c h) where
    by : (b : Bool) → test x ≡ b → cond b (Some i) (position_from test (i + 1) xs) ≡ Some c → (position_from test (i + 1) xs ≡ Some c → (j : ℕ) × (c ≡ i + 1 + j) × IsAt xs j) → (j : ℕ) × (c ≡ i + j) × IsAt (x ∷ xs) j
    by true t h later = let same : i ≡ c = cc in (0, omega (arith, same), record { item = x; there = refl; holds = t })
    by false t h later = let z = later h in (suc z.0, (let k = z.1 in omega (arith, k)), record { item = z.2.item; there = z.2.there; holds = z.2.holds })

  pub position_any : (xs : List A) → is_some (position test xs) ≡ list_any test xs
  position_any xs = ap is_some (position_from-zero test xs) ∙ from_any 0 xs

  pub position_found : (xs : List A) (c : ℕ) → position test xs ≡ Some c → IsAt xs c
  position_found xs c e =
      let z = from_found 0 xs c (sym (position_from-zero test xs) ∙ e) in
      let same : z.0 ≡ c = (let k = z.1 in omega (arith, k)) in
      subst (IsAt xs) same z.2

-- ---- ways

abbrev pub is_own : Way → Bool
is_own Other = false
is_own Once = true
is_own (Sent g) = true
is_own (Read g c) = false

found_own : (g : ℕ) (o : Option ℕ) → is_own (way_found g o) ≡ not (is_some o)
found_own g None = refl
found_own g (Some c) = refl

-- a fetch with a way of its own is not among the children above it
own_by : (steps : List Step) (f : FetchStep) (o : Option ℕ) → is_own (way_by steps f (fetch_above steps o)) ≡ not (list_any (same_fetch f) (children_above steps o))
own_by steps f None = refl
own_by steps f (Some p) = by (item_at steps p) where
  by : (o : Option ℕ) → is_own (way_by steps f o) ≡ not (list_any (same_fetch f) (children_at steps o))
  by None = refl
  by (Some g) = found_own g (position (same_fetch f) (children_of (fetch_at steps g))) ∙ ap not (position_any (same_fetch f) (children_of (fetch_at steps g)))

own_in : (steps : List Step) (o : Option FetchStep) → is_own (way_in steps o) ≡ (is_some o && not (is_read_by steps o))
own_in steps None = refl
own_in steps (Some f) = own_by steps f (out-FetchStep f).parent

-- a step is sent where its way is one of its own
pub own_sent : (steps : List Step) (k : ℕ) → is_own (way_of steps k) ≡ is_sent steps k
own_sent steps k = own_in steps (fetch_at steps k)

-- ---- what a way tells of a fetch

pub way_there : (steps : List Step) (k : ℕ) (f : FetchStep) → slice_get steps k ≡ Some (step.Fetch f) → way_of steps k ≡ way_by steps f (fetch_above steps (out-FetchStep f).parent)
way_there steps k f at = ap (λ s. way_in steps (fetch_in s)) at

-- the fetch above, which a way names
pub record HangsOn (steps : List Step) (f : FetchStep) (g : ℕ) : Type 0 where
  pub parent : ℕ
  pub is_parent : (out-FetchStep f).parent ≡ Some parent
  pub is_item : slice_get steps parent ≡ Some (step.Item g)

item_is : (steps : List Step) (o : Option Step) (g : ℕ) → item_in o ≡ Some g → o ≡ Some (step.Item g)
item_is steps (Some (step.Item s)) g e = let same : s ≡ g = cc in ap (λ j. Some (step.Item j)) same
item_is steps _ g e = cc

above_hangs : (steps : List Step) (f : FetchStep) (g : ℕ) (o : Option ℕ) → (out-FetchStep f).parent ≡ o → fetch_above steps o ≡ Some g → HangsOn steps f g
above_hangs steps f g None e h = cc
above_hangs steps f g (Some p) e h = record { parent = p; is_parent = e; is_item = item_is steps (slice_get steps p) g h }

-- the way of a fetch, by the fetch above it
pub data WayOf (steps : List Step) (f : FetchStep) : Way → Type 0 where
  is_once : fetch_above steps (out-FetchStep f).parent ≡ None → WayOf steps f Once
  is_own_of : (g : ℕ) → fetch_above steps (out-FetchStep f).parent ≡ Some g → HangsOn steps f g → WayOf steps f (Sent g)
  is_read_of : (g c : ℕ) → fetch_above steps (out-FetchStep f).parent ≡ Some g → HangsOn steps f g →
      slice_get (children_of (fetch_at steps g)) c ≡ Some f → WayOf steps f (Read g c)

way_told : (steps : List Step) (f : FetchStep) (o : Option ℕ) → fetch_above steps (out-FetchStep f).parent ≡ o → WayOf steps f (way_by steps f o)
way_told steps f None e = is_once e
way_told steps f (Some g) e = by (position (same_fetch f) (children_of (fetch_at steps g))) refl where
  hangs : HangsOn steps f g
  hangs = above_hangs steps f g (out-FetchStep f).parent refl e

  by : (o : Option ℕ) → position (same_fetch f) (children_of (fetch_at steps g)) ≡ o → WayOf steps f (way_found g o)
  by None h = is_own_of g e hangs
  by (Some c) h =
      let at = position_found (same_fetch f) (children_of (fetch_at steps g)) c h in
      let same : f ≡ at.item = (fetch_tells f at.item).0 at.holds in
      is_read_of g c e hangs (at.there ∙ ap (λ x. Some x) (sym same))

pub way_is : (steps : List Step) (k : ℕ) (f : FetchStep) → slice_get steps k ≡ Some (step.Fetch f) → WayOf steps f (way_of steps k)
way_is steps k f at = subst (WayOf steps f) (sym (way_there steps k f at)) (way_told steps f (fetch_above steps (out-FetchStep f).parent) refl)

-- ---- what a way names is earlier

module _ (steps : List Step) (earlier : (k : ℕ) (s : Step) → slice_get steps k ≡ Some s → IfSome (named_by s) (λ j. j < k)) where
  pub parent_earlier : (k : ℕ) (f : FetchStep) → slice_get steps k ≡ Some (step.Fetch f) → (p : ℕ) → (out-FetchStep f).parent ≡ Some p → p < k
  parent_earlier k f at p e = subst (λ o. IfSome o (λ j. j < k)) e (earlier k (step.Fetch f) at)

  pub above_earlier : (k : ℕ) (f : FetchStep) → slice_get steps k ≡ Some (step.Fetch f) → (g : ℕ) → HangsOn steps f g → g < k
  above_earlier k f at g h =
      let p = parent_earlier k f at h.parent h.is_parent in
      let q : g < h.parent = earlier h.parent (step.Item g) h.is_item in
      omega (arith, p, q)

-- ---- what is due is sent

due_own : (way : Way) (keys : List Key) → is_due way keys ≡ true → is_own way ≡ true
due_own Other keys h = cc
due_own Once keys h = refl
due_own (Sent g) keys h = refl
due_own (Read g c) keys h = cc

pub due_sent : (steps : List Step) (k : ℕ) (way : Way) (keys : List Key) → way ≡ way_of steps k → is_due way keys ≡ true → is_sent steps k ≡ true
due_sent steps k way keys e h = sym (own_sent steps k) ∙ ap is_own (sym e) ∙ due_own way keys h

pub sent_used : (a b : Bool) → b ≡ true → (a && b) ≡ a
sent_used true b e = e
sent_used false b e = refl
