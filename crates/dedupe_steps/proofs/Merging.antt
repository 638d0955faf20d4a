-- Steps of a plan and those that stand for them once equal ones are one.
use Rattle.std.proofs.Common.{◌≡◌, ℕ, zero, suc, ◌+◌, List, [], ◌∷◌, map, length, Option, Some, None, Bool, true, false, cond, refl, sym, ap, ◌∙◌, arith, inl, inr, eq-eqb, eqb-true}
use Rattle.std.specs.Prelude.{slice_get, ◌==◌, ◌&&◌, option_map, unwrap_or, is_some, IsTrue}
use Rattle.std.specs.Cmp.{first_so, second_so}
use Rattle.pg_base.specs.Base.{BaseParts}
use Rattle.place_tree.specs.declared.place.Tree.{Tree}
use Rattle.plan_constraints.specs.declared.constraint.Constraint.{Constraint}
use Rattle.plan_steps.specs.declared.plan.FetchStep.{FetchStep, out-FetchStep, roll-FetchStep, out-roll-FetchStep}
use Rattle.plan_steps.specs.declared.plan.OutPlace.{OutPlace}
use Rattle.plan_steps.specs.declared.plan.Plan.{Plan}
use Rattle.plan_steps.specs.declared.plan.Step.{Step}
use Rattle.plan_steps.specs.declared.plan.Step.TheVariants as step
use Rattle.plan_steps.specs.Check.{is_checked}
use Rattle.plan_steps.specs.Fetches.{IsTreeOver, IsPlain, bare}
use Rattle.plan_steps.specs.Named.{fetch_in, is_given_in, is_given, step_for}
use Rattle.plan_steps.proofs.Bools.{or_cases, or_left, or_right, and_both}
use Rattle.plan_steps.proofs.Checked.{at_some}
use Rattle.dedupe_steps.specs.Keys.{hung, moved, content, Hook, Loose, OnGivenRow, OnRowOf, hook_on, Key, key_of, step_at, key_at}
use Rattle.dedupe_steps.specs.Numbered.{at, Renaming, IsNumbered}
use Rattle.dedupe_steps.specs.Quotient.{asks, some_asks, new_step, new_out, ground_at, quotient}
use Rattle.dedupe_steps.specs.Laws.{IsMergeOf}
use Rattle.dedupe_steps.proofs.Lists.{some_one, get_map, map_get, get_below}

-- ---- rows

pub asks_at : (to : List ℕ) (m k : ℕ) (steps : List Step) (j : ℕ) (s : Step) → slice_get steps j ≡ Some s → at to (k + j) ≡ m → asks s ≡ true → some_asks to m k steps ≡ true
asks_at to m k [] j s h e a = cc
asks_at to m k (t ∷ steps) zero s h e a =
    let same : t ≡ s = some_one t s h in
    let here : k + 0 ≡ k = omega arith in
    or_left ((at to k == m) && asks t) _ (and_both (at to k == m) (asks t) (eq-eqb (at to k) m (sym (ap (at to) here) ∙ e)) (ap asks same ∙ a))
asks_at to m k (t ∷ steps) (suc j) s h e a =
    let next_ : k + suc j ≡ k + 1 + j = omega arith in
    or_right ((at to k == m) && asks t) _ (asks_at to m (k + 1) steps j s h (sym (ap (at to) next_) ∙ e) a)

pub asks_some : (to : List ℕ) (m k : ℕ) (steps : List Step) → some_asks to m k steps ≡ true → (j : ℕ) × (s : Step) × (slice_get steps j ≡ Some s) × (at to (k + j) ≡ m) × (asks s ≡ true)
asks_some to m k [] h = cc
asks_some to m k (t ∷ steps) h =
    let here : k ≡ k + 0 = omega arith in
    elim (or_cases ((at to k == m) && asks t) (some_asks to m (k + 1) steps) h) [
      | inl e ↦ (0, t, refl, sym (ap (at to) here) ∙ eqb-true (at to k) m (first_so (at to k == m) _ e), second_so (at to k == m) _ e)
      | inr e ↦
          let z = asks_some to m (k + 1) steps e in
          let next_ : k + suc z.0 ≡ k + 1 + z.0 = omega arith in
          (suc z.0, z.1, z.2, ap (at to) next_ ∙ z.3, z.4)
    ]

-- ---- fetches

pub out_hung : (p : Option ℕ) (rows : Bool) (f : FetchStep) → out-FetchStep (hung p rows f) ≡ record (out-FetchStep f) { parent = p; rows = rows }
out_hung p rows f = out-roll-FetchStep _

pub out_bare : (f : FetchStep) → out-FetchStep (bare f) ≡ record (out-FetchStep f) { parent = None; rows = true }
out_bare f = out-roll-FetchStep _

-- the same fetch, but for the row on which it hangs and for rows
pub record IsAs (f g : FetchStep) : Type 0 where
  pub table : (out-FetchStep g).table ≡ (out-FetchStep f).table
  pub by : (out-FetchStep g).by ≡ (out-FetchStep f).by
  pub parent_columns : (out-FetchStep g).parent_columns ≡ (out-FetchStep f).parent_columns
  pub condition : (out-FetchStep g).condition ≡ (out-FetchStep f).condition
  pub key : (out-FetchStep g).key ≡ (out-FetchStep f).key
  pub order : (out-FetchStep g).order ≡ (out-FetchStep f).order
  pub window : (out-FetchStep g).window ≡ (out-FetchStep f).window
  pub children : (out-FetchStep g).children ≡ (out-FetchStep f).children

pub as_bare : (f g : FetchStep) → bare g ≡ bare f → IsAs f g
as_bare f g e =
    let o = sym (out_bare g) ∙ ap out-FetchStep e ∙ out_bare f in
    record {
      table = ap (λ z. z.table) o;
      by = ap (λ z. z.by) o;
      parent_columns = ap (λ z. z.parent_columns) o;
      condition = ap (λ z. z.condition) o;
      key = ap (λ z. z.key) o;
      order = ap (λ z. z.order) o;
      window = ap (λ z. z.window) o;
      children = ap (λ z. z.children) o;
    }

pub as_hung : (f g : FetchStep) (p : Option ℕ) (rows : Bool) → IsAs f g → IsAs f (hung p rows g)
as_hung f g p rows r =
    let o = out_hung p rows g in
    record {
      table = ap (λ z. z.table) o ∙ r.table;
      by = ap (λ z. z.by) o ∙ r.by;
      parent_columns = ap (λ z. z.parent_columns) o ∙ r.parent_columns;
      condition = ap (λ z. z.condition) o ∙ r.condition;
      key = ap (λ z. z.key) o ∙ r.key;
      order = ap (λ z. z.order) o ∙ r.order;
      window = ap (λ z. z.window) o ∙ r.window;
      children = ap (λ z. z.children) o ∙ r.children;
    }

pub bare_hung : (p : Option ℕ) (rows : Bool) (f : FetchStep) → bare (hung p rows f) ≡ bare f
bare_hung p rows f = ap (λ o. roll-FetchStep (record o { parent = None; rows = true })) (out_hung p rows f)

-- ---- what steps are

pub content_fetch : (to : List ℕ) (s : Step) → is_some (fetch_in (Some (content to s))) ≡ is_some (fetch_in (Some s))
content_fetch to (step.Const v) = refl
content_fetch to (step.Var v) = refl
content_fetch to step.Given = refl
content_fetch to (step.Fetch f) = refl
content_fetch to (step.Item s) = refl
content_fetch to (step.Column i c) = refl
content_fetch to (step.Count s) = refl
content_fetch to (step.Page s part) = refl
content_fetch to (step.CursorOf i) = refl

pub moved_other : (to : List ℕ) (rows : Bool) (s : Step) → is_some (fetch_in (Some s)) ≡ false → moved to rows s ≡ content to s
moved_other to rows (step.Const v) h = refl
moved_other to rows (step.Var v) h = refl
moved_other to rows step.Given h = refl
moved_other to rows (step.Fetch f) h = cc
moved_other to rows (step.Item s) h = refl
moved_other to rows (step.Column i c) h = refl
moved_other to rows (step.Count s) h = refl
moved_other to rows (step.Page s part) h = refl
moved_other to rows (step.CursorOf i) h = refl

abbrev pub fetch_of : Step → FetchStep → FetchStep
fetch_of (step.Fetch f) g = f
fetch_of _ g = g

pub fetch_same : (f g : FetchStep) → step.Fetch f ≡ step.Fetch g → f ≡ g
fetch_same f g e = ap (λ s. fetch_of s f) e

-- a step whose content is a fetch's is a fetch
pub content_of_fetch : (to : List ℕ) (t : Step) (f : FetchStep) → content to t ≡ step.Fetch (bare f) → (g : FetchStep) × (t ≡ step.Fetch g) × (bare g ≡ bare f)
content_of_fetch to (step.Fetch g) f e = (g, refl, fetch_same (bare g) (bare f) e)
content_of_fetch to (step.Const v) f e = cc
content_of_fetch to (step.Var v) f e = cc
content_of_fetch to step.Given f e = cc
content_of_fetch to (step.Item s) f e = cc
content_of_fetch to (step.Column i c) f e = cc
content_of_fetch to (step.Count s) f e = cc
content_of_fetch to (step.Page s part) f e = cc
content_of_fetch to (step.CursorOf i) f e = cc

-- ---- hooks

pub hook_none : (to : List ℕ) (steps : List Step) (p : Option ℕ) → hook_on to steps p ≡ Loose → p ≡ None
hook_none to steps None e = refl
hook_none to steps (Some q) e = by (is_given steps q) e where
  by : (b : Bool) → cond b OnGivenRow (OnRowOf (at to q)) ≡ Loose → Some q ≡ None
  by true e = cc
  by false e = cc

abbrev pub row_in : Hook → ℕ → ℕ
row_in Loose d = d
row_in OnGivenRow d = d
row_in (OnRowOf q) d = q

pub hook_row : (to : List ℕ) (steps : List Step) (p : Option ℕ) (x : ℕ) → hook_on to steps p ≡ OnRowOf x → (q : ℕ) × (p ≡ Some q) × (is_given steps q ≡ false) × (at to q ≡ x)
hook_row to steps None x e = cc
hook_row to steps (Some q) x e = by (is_given steps q) refl e where
  by : (b : Bool) → is_given steps q ≡ b → cond b OnGivenRow (OnRowOf (at to q)) ≡ OnRowOf x → (r : ℕ) × (Some q ≡ Some r) × (is_given steps r ≡ false) × (at to r ≡ x)
  by true g e = cc
  by false g e = (q, refl, g, ap (λ h. row_in h x) e)

pub given_from : (o : Option Step) → is_given_in o ≡ true → o ≡ Some step.Given
given_from None h = cc
given_from (Some step.Given) h = refl
given_from (Some _) h = cc

pub hook_given : (to : List ℕ) (steps : List Step) (p : Option ℕ) → hook_on to steps p ≡ OnGivenRow → (q : ℕ) × (p ≡ Some q) × (slice_get steps q ≡ Some step.Given)
hook_given to steps None e = cc
hook_given to steps (Some q) e = by (is_given steps q) refl e where
  by : (b : Bool) → is_given steps q ≡ b → cond b OnGivenRow (OnRowOf (at to q)) ≡ OnGivenRow → (r : ℕ) × (Some q ≡ Some r) × (slice_get steps r ≡ Some step.Given)
  by true g e = (q, refl, given_from (slice_get steps q) g)
  by false g e = cc

-- ---- a plan and its quotient

pub record Merging : Type 0 where
  pub base : BaseParts
  pub tree : Tree
  pub constraints : List Constraint
  pub plan : Plan
  pub r : Renaming
  pub l : Renaming
  pub numbered : IsNumbered (length plan.steps) (key_at base tree constraints plan r.to) r
  pub laid : IsNumbered (length plan.layers) (ground_at r.to plan.layers) l
  pub over_ : IsTreeOver base tree
  pub checked : IsTrue (is_checked base tree plan)
  pub plain : IsPlain base tree constraints plan

abbrev pub merging : (base : BaseParts) (tree : Tree) (constraints : List Constraint) (plan merged : Plan) → IsMergeOf base tree constraints plan merged → Merging
merging base tree constraints plan merged m = record {
  base = base;
  tree = tree;
  constraints = constraints;
  plan = plan;
  r = m.quotient.steps;
  l = m.quotient.layers;
  numbered = m.quotient.numbered;
  laid = m.quotient.laid;
  over_ = m.tree_;
  checked = m.checked;
  plain = m.plain;
}

module _ (m : Merging) where
  -- the new number of a step
  abbrev pub to : ℕ → ℕ
  to = at m.r.to

  abbrev pub M : Plan
  M = quotient m.plan m.r m.l

  abbrev pub key : ℕ → Step → Key
  key = key_of m.base m.tree m.constraints m.plan m.r.to

  abbrev pub rows_of : ℕ → Bool
  rows_of n = some_asks m.r.to n 0 m.plan.steps

  pub key_is : (k : ℕ) (s : Step) → slice_get m.plan.steps k ≡ Some s → key_at m.base m.tree m.constraints m.plan m.r.to k ≡ key k s
  key_is k s e = ap (λ o. key k (unwrap_or o step.Given)) e

  -- what stands at the new number of a step
  pub record There (k : ℕ) (s : Step) : Type 0 where
    pub old : ℕ
    pub step_ : Step
    pub first : slice_get m.r.firsts (to k) ≡ Some old
    pub is_old : slice_get m.plan.steps old ≡ Some step_
    pub to_ : to old ≡ to k
    pub same : key old step_ ≡ key k s
    pub is : slice_get M.steps (to k) ≡ Some (moved m.r.to (rows_of (to k)) step_)

  pub new_is : (n j : ℕ) (t : Step) → slice_get m.r.firsts n ≡ Some j → slice_get m.plan.steps j ≡ Some t → to j ≡ n → slice_get M.steps n ≡ Some (moved m.r.to (rows_of n) t)
  new_is n j t first is e =
      get_map (new_step m.plan.steps m.r.to) m.r.firsts n j first
      ∙ ap (λ i. Some (moved m.r.to (rows_of i) (step_at m.plan.steps j))) e
      ∙ ap (λ o. Some (moved m.r.to (rows_of n) (unwrap_or o step.Given))) is

  pub there : (k : ℕ) (s : Step) → slice_get m.plan.steps k ≡ Some s → There k s
  there k s h =
      let lt = get_below m.plan.steps k s h in
      let j = at_some m.r.firsts (to k) (m.numbered.named k lt) in
      let f = m.numbered.first (to k) j.0 j.1 in
      let t = at_some m.plan.steps j.0 f.0 in
      record {
        old = j.0;
        step_ = t.0;
        first = j.1;
        is_old = t.1;
        to_ = f.1;
        same = sym (key_is j.0 t.0 t.1) ∙ m.numbered.one_key j.0 k f.0 lt f.1 ∙ key_is k s h;
        is = new_is (to k) j.0 t.0 j.1 t.1 f.1;
      }

  -- from which step one of the quotient comes
  pub record Back (n : ℕ) (x : Step) : Type 0 where
    pub old : ℕ
    pub step_ : Step
    pub first : slice_get m.r.firsts n ≡ Some old
    pub is_old : slice_get m.plan.steps old ≡ Some step_
    pub to_ : to old ≡ n
    pub is : x ≡ moved m.r.to (rows_of n) step_

  pub back : (n : ℕ) (x : Step) → slice_get M.steps n ≡ Some x → Back n x
  back n x h =
      let j = map_get (new_step m.plan.steps m.r.to) m.r.firsts n x h in
      let f = m.numbered.first n j.0 j.1 in
      let t = at_some m.plan.steps j.0 f.0 in
      record {
        old = j.0;
        step_ = t.0;
        first = j.1;
        is_old = t.1;
        to_ = f.1;
        is = some_one x _ (sym h ∙ new_is n j.0 t.0 j.1 t.1 f.1);
      }

  -- a step that is no fetch is moved
  pub other_there : (k : ℕ) (s : Step) → is_some (fetch_in (Some s)) ≡ false → slice_get m.plan.steps k ≡ Some s → slice_get M.steps (to k) ≡ Some (content m.r.to s)
  other_there k s no_fetch h =
      let t = there k s h in
      let same = ap (λ z. z.content) t.same in
      let none : is_some (fetch_in (Some t.step_)) ≡ false = sym (content_fetch m.r.to t.step_) ∙ ap (λ z. is_some (fetch_in (Some z))) same ∙ content_fetch m.r.to s ∙ no_fetch in
      t.is ∙ ap Some (moved_other m.r.to (rows_of (to k)) t.step_ none ∙ same)

  -- the fetch that stands for one
  pub record FetchThere (k : ℕ) (f : FetchStep) : Type 0 where
    pub old : ℕ
    pub fetch : FetchStep
    pub first : slice_get m.r.firsts (to k) ≡ Some old
    pub is_old : slice_get m.plan.steps old ≡ Some (step.Fetch fetch)
    pub to_ : to old ≡ to k
    pub same : key old (step.Fetch fetch) ≡ key k (step.Fetch f)
    pub alike : bare fetch ≡ bare f
    pub is : slice_get M.steps (to k) ≡ Some (step.Fetch (hung (option_map to (out-FetchStep fetch).parent) (rows_of (to k)) fetch))

  pub fetch_there : (k : ℕ) (f : FetchStep) → slice_get m.plan.steps k ≡ Some (step.Fetch f) → FetchThere k f
  fetch_there k f h =
      let t = there k (step.Fetch f) h in
      let g = content_of_fetch m.r.to t.step_ f (ap (λ z. z.content) t.same) in
      record {
        old = t.old;
        fetch = g.0;
        first = t.first;
        is_old = t.is_old ∙ ap Some g.1;
        to_ = t.to_;
        same = sym (ap (key t.old) g.1) ∙ t.same;
        alike = g.2;
        is = t.is ∙ ap (λ z. Some (moved m.r.to (rows_of (to k)) z)) g.1;
      }

  -- a fetch asks for rows where one that it stands for does
  pub rows_there : (k : ℕ) (f : FetchStep) → slice_get m.plan.steps k ≡ Some (step.Fetch f) → (out-FetchStep f).rows ≡ true → rows_of (to k) ≡ true
  rows_there k f h rows =
      let e : 0 + k ≡ k = omega arith in
      asks_at m.r.to (to k) 0 m.plan.steps k (step.Fetch f) h (ap to e) rows

  -- ---- places

  pub out_there : (i k : ℕ) → step_for m.plan.out i ≡ Some k → step_for M.out i ≡ Some (to k)
  out_there i k h = by m.plan.out h where
    step_ : (o : OutPlace) (x y : Option ℕ) (b : Bool) → cond b (Some o.step) x ≡ Some k → (x ≡ Some k → y ≡ Some (to k)) → cond b (Some (to o.step)) y ≡ Some (to k)
    step_ o x y true e f = ap (λ n. Some (to n)) (some_one o.step k e)
    step_ o x y false e f = f e

    by : (out : List OutPlace) → step_for out i ≡ Some k → step_for (map (new_out m.r.to m.l.to) out) i ≡ Some (to k)
    by [] h = cc
    by (o ∷ out) h = step_ o _ _ (o.place == i) h (by out)

  pub out_back : (i n : ℕ) → step_for M.out i ≡ Some n → (k : ℕ) × (step_for m.plan.out i ≡ Some k) × (to k ≡ n)
  out_back i n h = by m.plan.out h where
    step_ : (o : OutPlace) (x y : Option ℕ) (b : Bool) → cond b (Some (to o.step)) y ≡ Some n → (y ≡ Some n → (k : ℕ) × (x ≡ Some k) × (to k ≡ n)) → (k : ℕ) × (cond b (Some o.step) x ≡ Some k) × (to k ≡ n)
    step_ o x y true e f = (o.step, refl, some_one (to o.step) n e)
    step_ o x y false e f = f e

    by : (out : List OutPlace) → step_for (map (new_out m.r.to m.l.to) out) i ≡ Some n → (k : ℕ) × (step_for out i ≡ Some k) × (to k ≡ n)
    by [] h = cc
    by (o ∷ out) h = step_ o _ _ (o.place == i) h (by out)
