-- The fetches of a quotient are those of the row fields.
use Rattle.std.proofs.Common.{◌≡◌, ℕ, ◌+◌, ◌<◌, List, [], Option, Some, None, Bool, true, false, refl, sym, ap, ◌∙◌, subst, arith, inl, inr, ◌⊎◌}
use Rattle.std.specs.Prelude.{slice_get, ◌==◌, ◌&&◌, ◌||◌, option_map, unwrap_or, is_some, IsSome, IsTrue}
use Rattle.pg_base.specs.declared.does.Does.{Does}
use Rattle.pg_base.specs.declared.does.Does.TheVariants as does
use Rattle.pg_base.specs.declared.vars.Vars.{Vars}
use Rattle.place_tree.specs.declared.place.Place.{Place}
use Rattle.place_tree.specs.Fetch.{argument_error}
use Rattle.place_tree.specs.Fields.{does_of, is_row_field}
use Rattle.place_tree.specs.Needs.{is_mutation}
use Rattle.plan_constraints.specs.Constraints.{Hold}
use Rattle.plan_steps.specs.declared.plan.FetchStep.{FetchStep, out-FetchStep}
use Rattle.plan_steps.specs.declared.plan.Root.{Root}
use Rattle.plan_steps.specs.declared.plan.Root.TheVariants as root
use Rattle.plan_steps.specs.declared.plan.Step.{Step}
use Rattle.plan_steps.specs.declared.plan.Step.TheVariants as step
use Rattle.plan_steps.specs.Fetches.{IsStart, IsFieldOf, HangsOn, IsBelowFetch, StandsWith, ShowsRows, AreFetches, bare, has_window, is_part, TellsWindows}
use Rattle.plan_steps.specs.Fitting.{FitTree}
use Rattle.plan_steps.specs.Named.{over}
use Rattle.plan_steps.specs.Serves.{Basis, OnNothing, OnRow, OnList, OnPage, OnEdge, OnPayload, OnGiven, ServesBy, basis_above}
use Rattle.plan_steps.specs.Under.{is_under, is_used}
use Rattle.plan_steps.proofs.Checked.{at_some}
use Rattle.dedupe_steps.specs.Keys.{hung, moved, Reach, Anywhere, Under, Alone, root_of, order_at, order_in}
use Rattle.dedupe_steps.specs.Numbered.{at}
use Rattle.dedupe_steps.specs.Orders.{order_told}
use Rattle.dedupe_steps.specs.Quotient.{asks}
use Rattle.dedupe_steps.specs.Roots.{roots, field_for}
use Rattle.dedupe_steps.proofs.Layers.{over_moved}
use Rattle.dedupe_steps.proofs.Lists.{some_one, get_below}
use Rattle.dedupe_steps.proofs.Merging.{out_hung, fetch_same, asks_some, Merging, to, M, rows_of, key, key_is, back, other_there, FetchThere, fetch_there, out_there, out_back}
use Rattle.dedupe_steps.proofs.Places.{root_signed, sign, under_signed, signed_under, field_is}
use Rattle.dedupe_steps.proofs.Serving.{new_basis, new_fetch, new_as, hangs_none, hangs_row, hangs_given, above_there, serves_there}
use Rattle.dedupe_steps.proofs.Told.{told_same}
use Rattle.dedupe_steps.proofs.Used.{used_there}

pub row_field_other : (d : Option Does) → is_row_field d ≡ true → is_mutation d ≡ false
row_field_other None h = refl
row_field_other (Some (does.Create t)) h = cc
row_field_other (Some (does.Update t k)) h = cc
row_field_other (Some (does.Delete t k)) h = cc
row_field_other (Some _) h = refl

moved_fetch : (to_ : List ℕ) (rows : Bool) (s : Step) (x : FetchStep) → step.Fetch x ≡ moved to_ rows s → (f : FetchStep) × (s ≡ step.Fetch f) × (x ≡ hung (option_map (at to_) (out-FetchStep f).parent) rows f)
moved_fetch to_ rows (step.Fetch f) x e = (f, refl, fetch_same x _ e)
moved_fetch to_ rows (step.Const v) x e = cc
moved_fetch to_ rows (step.Var v) x e = cc
moved_fetch to_ rows step.Given x e = cc
moved_fetch to_ rows (step.Item s) x e = cc
moved_fetch to_ rows (step.Column i c) x e = cc
moved_fetch to_ rows (step.Count s) x e = cc
moved_fetch to_ rows (step.Page s part) x e = cc
moved_fetch to_ rows (step.CursorOf i) x e = cc

moved_given : (to_ : List ℕ) (rows : Bool) (s : Step) → step.Given ≡ moved to_ rows s → s ≡ step.Given
moved_given to_ rows step.Given e = refl
moved_given to_ rows (step.Fetch f) e = cc
moved_given to_ rows (step.Const v) e = cc
moved_given to_ rows (step.Var v) e = cc
moved_given to_ rows (step.Item s) e = cc
moved_given to_ rows (step.Column i c) e = cc
moved_given to_ rows (step.Count s) e = cc
moved_given to_ rows (step.Page s part) e = cc
moved_given to_ rows (step.CursorOf i) e = cc

asking : (s : Step) → asks s ≡ true → (f : FetchStep) × (s ≡ step.Fetch f) × ((out-FetchStep f).rows ≡ true)
asking (step.Fetch f) h = (f, refl, h)
asking (step.Const v) h = cc
asking (step.Var v) h = cc
asking step.Given h = cc
asking (step.Item s) h = cc
asking (step.Column i c) h = cc
asking (step.Count s) h = cc
asking (step.Page s part) h = cc
asking (step.CursorOf i) h = cc

abbrev root_in : Reach → Option ℕ
root_in Anywhere = None
root_in (Under root) = root
root_in (Alone k) = None

module _ (m : Merging) where
  abbrev fetches : AreFetches m.base m.tree m.constraints m.plan
  fetches = m.plain.fetches

  abbrev pub Field : ℕ → ℕ → Type 0
  Field k i = IsFieldOf m.base m.tree m.plan k i

  abbrev pub NewField : ℕ → ℕ → Type 0
  NewField n i = IsFieldOf m.base m.tree (M m) n i

  abbrev pub field_there : (k i : ℕ) → Field k i → NewField (to m k) i
  field_there k i field = record { place = field.place; is_place = field.is_place; is_field = field.is_field; is_out = out_there m i k field.is_out }

  abbrev pub field_at : (k i n : ℕ) → to m k ≡ n → Field k i → NewField n i
  field_at k i n e field = record { place = field.place; is_place = field.is_place; is_field = field.is_field; is_out = out_there m i k field.is_out ∙ ap (λ x. Some x) e }

  -- the fetch of a row field, and that for which it stands
  pub record FieldBack (n i : ℕ) (place : Place) : Type 0 where
    pub old : ℕ
    pub fetch : FetchStep
    pub field : Field old i
    pub same : field.place ≡ place
    pub is_old : slice_get m.plan.steps old ≡ Some (step.Fetch fetch)
    pub to_ : to m old ≡ n

  pub field_back : (n i : ℕ) (field : NewField n i) → FieldBack n i field.place
  field_back n i field =
      let out = out_back m i n field.is_out in
      let s = fetches.serves.each i field.place field.is_place (row_field_other (does_of m.base.schema field.place) field.is_field) in
      let same : s.at ≡ out.0 = some_one s.at out.0 (sym s.is_out ∙ out.1) in
      let fits : ServesBy true m.base m.tree m.constraints m.plan.steps i field.place (basis_above fetches.serves.bases field.place.parent) (fetches.serves.bases i) s.at =
      subst (λ b. ServesBy b m.base m.tree m.constraints m.plan.steps i field.place (basis_above fetches.serves.bases field.place.parent) (fetches.serves.bases i) s.at) field.is_field s.fits in
      record {
        old = out.0;
        fetch = fits.fetch;
        field = record { place = field.place; is_place = field.is_place; is_field = field.is_field; is_out = out.1 };
        same = refl;
        is_old = sym (ap (slice_get m.plan.steps) same) ∙ fits.is_fetch;
        to_ = out.2;
      }

  -- one of a new number has the key of another
  pub one_key : (j k : ℕ) (s t : Step) → slice_get m.plan.steps j ≡ Some s → slice_get m.plan.steps k ≡ Some t → to m j ≡ to m k → key m j s ≡ key m k t
  one_key j k s t h g e = sym (key_is m j s h) ∙ m.numbered.one_key j k (get_below m.plan.steps j s h) (get_below m.plan.steps k t g) e ∙ key_is m k t g

  -- the fetch at a new number, by an old one
  pub new_is : (k n : ℕ) (f x : FetchStep) (h : slice_get m.plan.steps k ≡ Some (step.Fetch f)) → to m k ≡ n → slice_get (M m).steps n ≡ Some (step.Fetch x) → x ≡ new_fetch m k f (fetch_there m k f h)
  new_is k n f x h e is = fetch_same x _ (some_one _ _ (sym is ∙ sym (ap (slice_get (M m).steps) e) ∙ (fetch_there m k f h).is))

  only : (n : ℕ) (x : FetchStep) → slice_get (M m).steps n ≡ Some (step.Fetch x) → (i : ℕ) × NewField n i
  only n x h =
      let b = back m n (step.Fetch x) h in
      let f = moved_fetch m.r.to (rows_of m n) b.step_ x b.is in
      let z = fetches.only b.old f.0 (b.is_old ∙ ap (λ s. Some s) f.1) in
      (z.0, field_at b.old z.0 n b.to_ z.1)

  flat : (n : ℕ) (x : FetchStep) → slice_get (M m).steps n ≡ Some (step.Fetch x) → (out-FetchStep x).children ≡ []
  flat n x h =
      let b = back m n (step.Fetch x) h in
      let f = moved_fetch m.r.to (rows_of m n) b.step_ x b.is in
      ap (λ z. (out-FetchStep z).children) f.2
      ∙ ap (λ z. z.children) (out_hung (option_map (at m.r.to) (out-FetchStep f.0).parent) (rows_of m n) f.0)
      ∙ fetches.flat b.old f.0 (b.is_old ∙ ap (λ s. Some s) f.1)

  -- where a new fetch asks for rows one for which it stands does
  pub asks_back : (n : ℕ) → rows_of m n ≡ true → (k : ℕ) × (f : FetchStep) × (slice_get m.plan.steps k ≡ Some (step.Fetch f)) × (to m k ≡ n) × ((out-FetchStep f).rows ≡ true)
  asks_back n h =
      let z = asks_some m.r.to n 0 m.plan.steps h in
      let e : 0 + z.0 ≡ z.0 = omega arith in
      let a = asking z.1 z.4 in
      (z.0, a.0, z.2 ∙ ap (λ s. Some s) a.1, sym (ap (at m.r.to) e) ∙ z.3, a.2)

  rows_moved : (n : ℕ) (x : FetchStep) → slice_get (M m).steps n ≡ Some (step.Fetch x) → (out-FetchStep x).rows ≡ rows_of m n
  rows_moved n x h =
      let b = back m n (step.Fetch x) h in
      let f = moved_fetch m.r.to (rows_of m n) b.step_ x b.is in
      ap (λ z. (out-FetchStep z).rows) f.2 ∙ ap (λ z. z.rows) (out_hung (option_map (at m.r.to) (out-FetchStep f.0).parent) (rows_of m n) f.0)

  rows : (n : ℕ) (x : FetchStep) → slice_get (M m).steps n ≡ Some (step.Fetch x) → (out-FetchStep x).rows ≡ true
      → (i : ℕ) × (field : NewField n i) × ShowsRows m.base m.tree i field.place
  rows n x h asks_ =
      let a = asks_back n (sym (rows_moved n x h) ∙ asks_) in
      let z = fetches.rows a.0 a.1 a.2 a.4 in
      (z.0, field_at a.0 z.0 n a.3 z.1, z.2)

  hangs_by : (k : ℕ) (f : FetchStep) (t : FetchThere m k f) (b : Basis) → HangsOn m.plan.steps b (out-FetchStep f).parent → HangsOn (M m).steps (new_basis (to m) b) (out-FetchStep (new_fetch m k f t)).parent
  hangs_by k f t OnNothing h = hangs_none m k f t h
  hangs_by k f t (OnRow s) h = (to m h.0, hangs_row m k f t h.0 s h.1 h.2, other_there m h.0 (step.Item s) refl h.2)
  hangs_by k f t OnGiven h = hangs_given m k f t h.0 h.1 h.2
  hangs_by k f t (OnList s) h = absurd h
  hangs_by k f t (OnPage s) h = absurd h
  hangs_by k f t (OnEdge s) h = absurd h
  hangs_by k f t OnPayload h = absurd h

  below_by : (k n : ℕ) → to m k ≡ n → (b : Basis) → IsBelowFetch k b → IsBelowFetch n (new_basis (to m) b)
  below_by k n e (OnList s) h = ap (to m) h ∙ e
  below_by k n e (OnRow s) h = ap (to m) h ∙ e
  below_by k n e OnNothing h = absurd h
  below_by k n e OnGiven h = absurd h
  below_by k n e (OnPage s) h = absurd h
  below_by k n e (OnEdge s) h = absurd h
  below_by k n e OnPayload h = absurd h

  hangs : (n i : ℕ) (x : FetchStep) (field : NewField n i) → slice_get (M m).steps n ≡ Some (step.Fetch x)
      → HangsOn (M m).steps (basis_above (serves_there m fetches.serves).bases field.place.parent) (out-FetchStep x).parent × IsBelowFetch n ((serves_there m fetches.serves).bases i)
  hangs n i x field h =
      let b = field_back n i field in
      let z = fetches.hangs b.old i b.fetch b.field b.is_old in
      let t = fetch_there m b.old b.fetch b.is_old in
      let is = new_is b.old n b.fetch x b.is_old b.to_ h in
      let up = hangs_by b.old b.fetch t (basis_above fetches.serves.bases b.field.place.parent) z.0 in
      let above = above_there m fetches.serves.bases b.field.place.parent ∙ ap (λ p. basis_above (λ j. new_basis (to m) (fetches.serves.bases j)) p.parent) b.same in (
        subst (λ y. HangsOn (M m).steps (basis_above (λ j. new_basis (to m) (fetches.serves.bases j)) field.place.parent) (out-FetchStep y).parent) (sym is)
            (subst (λ y. HangsOn (M m).steps y (out-FetchStep (new_fetch m b.old b.fetch t)).parent) above up),
        below_by b.old n b.to_ (fetches.serves.bases i) z.1,
      )

  over_at_new : (k n : ℕ) (s : Step) → slice_get m.plan.steps k ≡ Some s → to m k ≡ n → over (M m).layers n ≡ option_map (to m) (over m.plan.layers k)
  over_at_new k n s h e = sym (ap (over (M m).layers) e) ∙ over_moved m k s h

  stands_by : (k n : ℕ) (f : FetchStep) → slice_get m.plan.steps k ≡ Some (step.Fetch f) → to m k ≡ n → (p : Option ℕ) → (out-FetchStep f).parent ≡ p → StandsWith m.plan.layers k p → StandsWith (M m).layers n (option_map (to m) p)
  stands_by k n f h e None is w = over_at_new k n (step.Fetch f) h e ∙ ap (option_map (to m)) w
  stands_by k n f h e (Some p) is w =
      let t = parent_step p is in
      over_at_new k n (step.Fetch f) h e ∙ ap (option_map (to m)) w ∙ sym (over_moved m p t.0 t.1) where
        parent_step : (p : ℕ) → (out-FetchStep f).parent ≡ Some p → (s : Step) × (slice_get m.plan.steps p ≡ Some s)
        parent_step p is =
            let lt : p < k = subst (λ o. Rattle.std.specs.Prelude.IfSome o (λ x. x < k)) is (Rattle.plan_steps.proofs.Earlier.names_earlier m.base m.tree m.plan m.checked k (step.Fetch f) h) in
            let below = get_below m.plan.steps k (step.Fetch f) h in
            at_some m.plan.steps p (omega (arith, lt, below))

  stands : (n : ℕ) (x : FetchStep) → slice_get (M m).steps n ≡ Some (step.Fetch x) → StandsWith (M m).layers n (out-FetchStep x).parent
  stands n x h =
      let b = back m n (step.Fetch x) h in
      let f = moved_fetch m.r.to (rows_of m n) b.step_ x b.is in
      let is_old = b.is_old ∙ ap (λ s. Some s) f.1 in
      let parent : (out-FetchStep x).parent ≡ option_map (to m) (out-FetchStep f.0).parent =
      ap (λ z. (out-FetchStep z).parent) f.2 ∙ ap (λ z. z.parent) (out_hung (option_map (at m.r.to) (out-FetchStep f.0).parent) (rows_of m n) f.0) in
      subst (StandsWith (M m).layers n) (sym parent) (stands_by b.old n f.0 is_old b.to_ (out-FetchStep f.0).parent refl (fetches.stands b.old f.0 is_old))

  given : (n : ℕ) → slice_get (M m).steps n ≡ Some step.Given → over (M m).layers n ≡ None
  given n h =
      let b = back m n step.Given h in
      let is = b.is_old ∙ ap (λ s. Some s) (moved_given m.r.to (rows_of m n) b.step_ b.is) in
      over_at_new b.old n step.Given is b.to_ ∙ ap (option_map (to m)) (fetches.given b.old is)

  used : (r : Root) → IsStart m.base m.tree r → (n : ℕ) (x : FetchStep) → slice_get (M m).steps n ≡ Some (step.Fetch x) → is_used m.tree (M m) r n ≡ true → (i : ℕ) × NewField n i × (is_under m.tree r i ≡ true)
  used r start n x h u =
      let k = used_there m r n x h u in
      let z = fetches.used r start k.0 k.1 k.2 k.4 in
      (z.0, field_at k.0 z.0 n k.3 z.1, z.2)

  -- the row field of a fetch
  field_for_is : (k i : ℕ) → Field k i → field_for m.base m.tree m.plan k ≡ Some i
  field_for_is k i field = field_is m.base m.tree m.plan m.checked m.plain.own k i field

  abbrev pub rooted : ℕ → Option ℕ
  rooted i = (sign m.base m.tree m.over_ i).root

  pub root_is : (k i : ℕ) → Field k i → root_of (roots m.base.schema m.tree.places) (field_for m.base m.tree m.plan k) ≡ rooted i
  root_is k i field = ap (root_of (roots m.base.schema m.tree.places)) (field_for_is k i field) ∙ root_signed m.base.schema m.tree.places i

  one_root : (r : Root) → IsStart m.base m.tree r → (n i j : ℕ) → NewField n i → NewField n j → is_under m.tree r i ≡ true → is_under m.tree r j ≡ true
  one_root root.Query start n i j field other u = refl
  one_root (root.Field place row) start n i j field other u =
      let a = field_back n i field in
      let b = field_back n j other in
      let same = one_key a.old b.old (step.Fetch a.fetch) (step.Fetch b.fetch) a.is_old b.is_old (a.to_ ∙ sym b.to_) in
      let roots_ = ap (λ z. root_in z.reach) same in
      let up = under_signed m.base m.tree m.over_ place row start.0 start.1 start.2 i field.place field.is_place u in
      signed_under m.base m.tree m.over_ place row j other.place other.is_place (row_field_other (does_of m.base.schema other.place) other.is_field)
      (sym (root_is b.old j b.field) ∙ sym roots_ ∙ root_is a.old i a.field ∙ up)

  pub order_is : (k i : ℕ) (field : Field k i) → order_at m.constraints m.tree (field_for m.base m.tree m.plan k) ≡ order_told m.constraints field.place
  order_is k i field = ap (order_at m.constraints m.tree) (field_for_is k i field) ∙ ap (order_in m.constraints) field.is_place

  one_error : (vars : Vars) → FitTree m.base vars m.tree → Hold m.constraints vars
      → (n i j : ℕ) (field : NewField n i) (other : NewField n j) → is_some (argument_error m.base vars field.place) ≡ is_some (argument_error m.base vars other.place)
  one_error vars fit hold n i j field other =
      let a = field_back n i field in
      let b = field_back n j other in
      let same = one_key a.old b.old (step.Fetch a.fetch) (step.Fetch b.fetch) a.is_old b.is_old (a.to_ ∙ sym b.to_) in
      let bares = fetch_same (bare a.fetch) (bare b.fetch) (ap (λ z. z.content) same) in
      let orders = sym (order_is a.old i a.field) ∙ ap (λ z. z.order) same ∙ order_is b.old j b.field in
      sym (ap (λ p. is_some (argument_error m.base vars p)) a.same)
      ∙ m.plain.same_error vars fit hold a.old b.old i j a.fetch b.fetch a.field b.field a.is_old b.is_old bares (told_same vars m.constraints hold a.field.place b.field.place orders)
      ∙ ap (λ p. is_some (argument_error m.base vars p)) b.same

  pub fetches_there : AreFetches m.base m.tree m.constraints (M m)
  fetches_there = record {
    serves = serves_there m fetches.serves;
    only = only;
    flat = flat;
    rows = rows;
    hangs = hangs;
    stands = stands;
    given = given;
    used = used;
    one_root = one_root;
    one_error = one_error;
  }

  -- ---- windows

  none_from : {A : Type 0} (a b : Option A) → is_some a ≡ is_some b → b ≡ None → a ≡ None
  none_from None b e h = refl
  none_from (Some x) b e h = let z = e ∙ ap is_some h in cc

  parent_some : (k n : ℕ) (f x : FetchStep) (h : slice_get m.plan.steps k ≡ Some (step.Fetch f)) → to m k ≡ n → slice_get (M m).steps n ≡ Some (step.Fetch x) → (item : ℕ) → (out-FetchStep x).parent ≡ Some item → (p : ℕ) × ((out-FetchStep f).parent ≡ Some p)
  parent_some k n f x h e is item hangs_ = by (out-FetchStep f).parent refl where
    by : (o : Option ℕ) → (out-FetchStep f).parent ≡ o → (p : ℕ) × (o ≡ Some p)
    by None g =
        let none = ap (λ y. (out-FetchStep y).parent) (new_is k n f x h e is) ∙ hangs_none m k f (fetch_there m k f h) g in
        let z = sym hangs_ ∙ none in cc
    by (Some p) g = (p, refl)

  windows_of : (k n : ℕ) (f x : FetchStep) (h : slice_get m.plan.steps k ≡ Some (step.Fetch f)) → to m k ≡ n → slice_get (M m).steps n ≡ Some (step.Fetch x) → has_window (out-FetchStep x).window ≡ has_window (out-FetchStep f).window
  windows_of k n f x h e is = ap (λ y. has_window (out-FetchStep y).window) (new_is k n f x h e is) ∙ ap has_window (new_as m k f (fetch_there m k f h)).window

  pub tells_there : TellsWindows m.base m.tree m.constraints (M m)
  tells_there vars fit hold n i item x field is hangs_ =
      let b = field_back n i field in
      let p = parent_some b.old n b.fetch x b.is_old b.to_ is item hangs_ in
      let told = m.plain.tells vars fit hold b.old i p.0 b.fetch b.field b.is_old p.1 in
      let same = windows_of b.old n b.fetch x b.is_old b.to_ is in
      (same ∙ told.0 ∙ ap (is_part m.base vars) b.same, λ none. by none (rows_of m n) refl)
    where
      by : has_window (out-FetchStep x).window ≡ false → (r : Bool) → rows_of m n ≡ r → (argument_error m.base vars field.place ≡ None) ⊎ ((out-FetchStep x).rows ≡ false)
      by none false e = inr (rows_moved n x is ∙ e)
      by none true e =
          let a = asks_back n e in
          let z = fetches.only a.0 a.1 a.2 in
          let p = parent_some a.0 n a.1 x a.2 a.3 is item hangs_ in
          let told = m.plain.tells vars fit hold a.0 z.0 p.0 a.1 z.1 a.2 p.1 in
          let other = field_at a.0 z.0 n a.3 z.1 in
          elim (told.1 (sym (windows_of a.0 n a.1 x a.2 a.3 is) ∙ none)) [
            | inl fine ↦ inl (none_from (argument_error m.base vars field.place) (argument_error m.base vars other.place) (one_error vars fit hold n i z.0 field other) fine)
            | inr without ↦ let w = sym a.4 ∙ without in cc
          ]
