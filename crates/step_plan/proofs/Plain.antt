-- In the plan of a tree, each row field has a fetch of its own, and there are no others.
use Rattle.std.proofs.Common.{◌≡◌, ℕ, zero, suc, ◌+◌, ◌<◌, List, [], ◌∷◌, ◌++◌, length, length-append, Option, Some, None, Bool, true, false, refl, sym, ap, ◌∙◌, subst, arith, inl, inr, zero-add, eqb-true}
use Rattle.std.proofs.lemmas.Bool.{cases_lt}
use Rattle.std.specs.Prelude.{slice_get, unwrap_or, option_map, ◌==◌, ◌&&◌}
use Rattle.pg_base.specs.Base.{BaseParts}
use Rattle.pg_base.specs.Catalog.{CatalogParts}
use Rattle.pg_base.specs.Lists.{Each}
use Rattle.pg_base.specs.Schema.{type_name_at}
use Rattle.pg_base.specs.declared.does.Does.{Does}
use Rattle.pg_base.specs.declared.does.Does.TheVariants as does
use Rattle.pg_base.specs.declared.schema.FieldDef.{FieldDef}
use Rattle.pg_base.specs.declared.table_def.KeyDef.{KeyDef}
use Rattle.pg_base.specs.declared.table_def.LinkDef.{LinkDef}
use Rattle.pg_base.specs.declared.value.Value.TheVariants as value
use Rattle.pg_base.specs.declared.vars.Vars.{Vars}
use Rattle.place_tree.specs.Exec.{needs_rows}
use Rattle.place_tree.specs.Fields.{field_of, does_of, is_row_field, key_at, link_at, finds_one}
use Rattle.place_tree.specs.Needs.{is_mutation}
use Rattle.place_tree.specs.Typed.{Kind, OfQuery, OfRow, backward_kind, Leads, StandsUnder}
use Rattle.place_tree.specs.declared.place.Place.{Place}
use Rattle.place_tree.specs.declared.place.Tree.{Tree}
use Rattle.plan_constraints.specs.Constraints.{Hold}
use Rattle.plan_constraints.specs.Noted.{noted_all}
use Rattle.plan_constraints.specs.declared.constraint.Constraint.{Constraint}
use Rattle.plan_steps.proofs.Bools.{or_cases, or_left, or_right}
use Rattle.plan_steps.specs.Chains.{chain, or_nothing, is_in}
use Rattle.plan_steps.specs.Fetches.{IsFieldOf, HangsOn, IsBelowFetch, StandsWith, ShowsRows}
use Rattle.plan_steps.specs.Named.{named_at, is_given_in, fetch_in as fetch_step, layer_of, over, over_in, over_at}
use Rattle.plan_steps.specs.Serves.{basis_above}
use Rattle.plan_steps.specs.Under.{parent_in, above}
use Rattle.plan_steps.specs.declared.plan.FetchStep.{FetchStep, out-FetchStep}
use Rattle.plan_steps.specs.declared.plan.Layer.{Layer}
use Rattle.plan_steps.specs.declared.plan.OutPlace.{OutPlace}
use Rattle.plan_steps.specs.declared.plan.Step.{Step}
use Rattle.plan_steps.specs.declared.plan.Step.TheVariants as step
use Rattle.step_plan.specs.Added.{row_of, row_step, add_link, add_key, add_backward, added_by, added_for}
use Rattle.step_plan.specs.Drafted.{Making, at_root, below_of, into, layer_over, edge_or_row, steps_added, layers_with, step_shown, footing_with, layer_with, below_with, nothing_made, plan_of}
use Rattle.step_plan.specs.Slots.{key_slots}
use Rattle.step_plan.specs.declared.making.Added.{Added}
use Rattle.step_plan.specs.declared.making.Added.TheVariants as adds
use Rattle.step_plan.specs.declared.making.Below.{Below}
use Rattle.step_plan.specs.declared.making.Footing.{Footing}
use Rattle.step_plan.specs.declared.making.Footing.TheVariants as footing
use Rattle.step_plan.proofs.Checked.{LayersGoOn, AreLaid, each_more, each_last, split, here, item_layer, fetch_layer, fresh_in}
use Rattle.step_plan.proofs.Grown.{GoesOn, added_at, basis_at, Fits, up, adds_here, next, stands, placed, basis_here, basis_up, is_out_here, rooted}
use Rattle.step_plan.proofs.Hung.{IsRowIn, IsHung, HasHung, field_hung}
use Rattle.step_plan.proofs.Layers.{layer_push_new}
use Rattle.step_plan.proofs.Places.{basis_of, some_and, inside}
use Rattle.step_plan.proofs.Plannable.{IsPlanned}
use Rattle.step_plan.proofs.Told.{fetch_added}
use Rattle.step_plan.proofs.Used.{HoldsUsed, HoldsOn, HoldsNamed, used_by_added, named_by_field}

pub and_right : (a b : Bool) → (a && b) ≡ true → b ≡ true
and_right true b h = h
and_right false b h = cc

-- ---- chains of numbers that fall

more_rest : (following : ℕ → Option ℕ) (n m x : ℕ) (o : Option ℕ) → ((j : ℕ) → o ≡ Some j → is_in (chain following n j) x ≡ true → is_in (chain following m j) x ≡ true)
    → is_in (or_nothing (chain following n) o) x ≡ true → is_in (or_nothing (chain following m) o) x ≡ true
more_rest following n m x None f h = cc
more_rest following n m x (Some j) f h = f j refl h

pub more_fuel : (following : ℕ → Option ℕ) → ((k j : ℕ) → following k ≡ Some j → j < k) → (n m k x : ℕ) → k < m → is_in (chain following n k) x ≡ true → is_in (chain following m k) x ≡ true
more_fuel following falls zero m k x lt h = cc
more_fuel following falls (suc n) zero k x lt h = absurd (omega (arith, lt))
more_fuel following falls (suc n) (suc m) k x lt h =
    elim (or_cases (k == x) (is_in (or_nothing (chain following n) (following k)) x) h) [
      | inl t ↦ or_left (k == x) _ t
      | inr t ↦ or_right (k == x) _ (more_rest following n m x (following k) (λ j e q. let less = falls k j e in more_fuel following falls n m j x (omega (arith, less, lt)) q) t)
    ]

pub each_is : (P : ℕ → Type 0) (ks : List ℕ) (k : ℕ) → Each P ks → is_in ks k ≡ true → P k
each_is P [] k h e = cc
each_is P (x ∷ ks) k h e = elim (or_cases (x == k) (is_in ks k) e) [
  | inl t ↦ subst P (eqb-true x k t) h.0
  | inr t ↦ each_is P ks k h.1 t
]

-- ---- what fields are

no_query_type : (c : CatalogParts) (d : Does) (kind next : Kind) → Leads c d kind next → next ≡ OfQuery → ⊥
no_query_type c (does.Column t x) kind next l e = let q = l.2 in cc
no_query_type c (does.Forward t x) kind next l e = let k = some_and (λ y. next ≡ OfRow y.target) (link_at c t x) l.1 in let q = k.2 in cc
no_query_type c (does.Backward t x) kind next l e =
    let k = some_and (λ y. (kind ≡ OfRow y.target) × (next ≡ backward_kind (finds_one (slice_get c.tables t) y) t)) (link_at c t x) l in
    back_no_query (finds_one (slice_get c.tables t) k.0) t (sym k.2.1 ∙ e)
  where
    back_no_query : (one : Bool) (t : ℕ) → backward_kind one t ≡ OfQuery → ⊥
    back_no_query true t e = cc
    back_no_query false t e = cc
no_query_type c (does.All t) kind next l e = let q = l.2 in cc
no_query_type c (does.ByKey t k) kind next l e = let q = some_and (λ y. next ≡ OfRow t) (key_at c t k) l.1 in let r = q.2 in cc
no_query_type c (does.Create t) kind next l e = let q = l.1 in cc
no_query_type c (does.Update t k) kind next l e = let q = l.1 in cc
no_query_type c (does.Delete t k) kind next l e = let q = l.1 in cc
no_query_type c does.Nodes kind next l e = let q = l.2 in cc
no_query_type c does.Edges kind next l e = let q = l.2 in cc
no_query_type c does.Node kind next l e = let q = l.2 in cc
no_query_type c does.PageInfo kind next l e = let q = l.2 in cc
no_query_type c does.Total kind next l e = let q = l.2 in cc
no_query_type c does.Cursor kind next l e = let q = l.2 in cc
no_query_type c does.HasNext kind next l e = let q = l.1 in cc
no_query_type c does.HasPrevious kind next l e = let q = l.1 in cc
no_query_type c does.Start kind next l e = let q = l.1 in cc
no_query_type c does.End kind next l e = let q = l.1 in cc
no_query_type c does.ClientId kind next l e = let q = l.2 in cc
no_query_type c does.Payload kind next l e = let q = l.2 in cc

row_or_mutation : (d : Does) → is_row_field (Some d) ≡ true → is_mutation (Some d) ≡ true → ⊥
row_or_mutation (does.Column t x) r m = cc
row_or_mutation (does.Forward t x) r m = cc
row_or_mutation (does.Backward t x) r m = cc
row_or_mutation (does.All t) r m = cc
row_or_mutation (does.ByKey t k) r m = cc
row_or_mutation (does.Create t) r m = cc
row_or_mutation (does.Update t k) r m = cc
row_or_mutation (does.Delete t k) r m = cc
row_or_mutation does.Nodes r m = cc
row_or_mutation does.Edges r m = cc
row_or_mutation does.Node r m = cc
row_or_mutation does.PageInfo r m = cc
row_or_mutation does.Total r m = cc
row_or_mutation does.Cursor r m = cc
row_or_mutation does.HasNext r m = cc
row_or_mutation does.HasPrevious r m = cc
row_or_mutation does.Start r m = cc
row_or_mutation does.End r m = cc
row_or_mutation does.ClientId r m = cc
row_or_mutation does.Payload r m = cc

pub not_both : (o : Option Does) → is_row_field o ≡ true → is_mutation o ≡ true → ⊥
not_both None r m = cc
not_both (Some d) r m = row_or_mutation d r m

-- a row field shows the first of the steps that it adds
abbrev IsFirst : ℕ → Added → Type 0
IsFirst at a = (step_shown at a ≡ at) × (0 < length (steps_added at a))

first_key : (at : ℕ) (o : Option KeyDef) (f : KeyDef → Added) → ((k : KeyDef) → IsFirst at (f k)) → IsFirst at (add_key o f)
first_key at None f h = (refl, omega arith)
first_key at (Some k) f h = h k

first_link : (at : ℕ) (o : Option LinkDef) (f : LinkDef → Added) → ((l : LinkDef) → IsFirst at (f l)) → IsFirst at (add_link o f)
first_link at None f h = (refl, omega arith)
first_link at (Some l) f h = h l

first_backward : (base : BaseParts) (vars : Vars) (p : Place) (shown : Bool) (f : FieldDef) (t row at : ℕ) (l : LinkDef) (one : Bool) → IsFirst at (add_backward base vars p shown f t row l one)
first_backward base vars p shown f t row at l true = (refl, omega arith)
first_backward base vars p shown f t row at l false = (refl, omega arith)

shows_first : (base : BaseParts) (vars : Vars) (places : List Place) (p : Place) (shown : Bool) (g : Footing) (f : FieldDef) (at : ℕ) (d : Does) → is_row_field (Some d) ≡ true → IsFirst at (added_by base vars places p shown g f d)
shows_first base vars places p shown g f at (does.Column t x) r = cc
shows_first base vars places p shown g f at (does.Forward t l) r =
    first_link at (link_at base.catalog t l) (λ x. adds.Row (row_step x.target x.target_columns (Some (row_of g)) x.columns [])) (λ x. (refl, omega arith))
shows_first base vars places p shown g f at (does.Backward t l) r =
    first_link at (link_at base.catalog t l) (λ x. add_backward base vars p shown f t (row_of g) x (finds_one (slice_get base.catalog.tables t) x))
    (λ x. first_backward base vars p shown f t (row_of g) at x (finds_one (slice_get base.catalog.tables t) x))
shows_first base vars places p shown g f at (does.All t) r = (refl, omega arith)
shows_first base vars places p shown g f at (does.ByKey t k) r =
    first_key at (key_at base.catalog t k) (λ x. adds.Row (row_step t x.columns None [] (key_slots base.schema p 0 f.args))) (λ x. (refl, omega arith))
shows_first base vars places p shown g f at (does.Create t) r = cc
shows_first base vars places p shown g f at (does.Update t k) r = cc
shows_first base vars places p shown g f at (does.Delete t k) r = cc
shows_first base vars places p shown g f at does.Nodes r = cc
shows_first base vars places p shown g f at does.Edges r = cc
shows_first base vars places p shown g f at does.Node r = cc
shows_first base vars places p shown g f at does.PageInfo r = cc
shows_first base vars places p shown g f at does.Total r = cc
shows_first base vars places p shown g f at does.Cursor r = cc
shows_first base vars places p shown g f at does.HasNext r = cc
shows_first base vars places p shown g f at does.HasPrevious r = cc
shows_first base vars places p shown g f at does.Start r = cc
shows_first base vars places p shown g f at does.End r = cc
shows_first base vars places p shown g f at does.ClientId r = cc
shows_first base vars places p shown g f at does.Payload r = cc

-- ---- what holds of fewer holds of more

module _ (steps : List Step) (P Q : ℕ → Type 0) (f : (x : ℕ) → P x → Q x) where
  used_more : (k : ℕ) → HoldsUsed steps P k → HoldsUsed steps Q k
  used_more k h n = each_more P Q f (chain (named_at steps) n k) (h n)

  on_more : (g : Footing) → HoldsOn steps P g → HoldsOn steps Q g
  on_more footing.Nothing h = tt
  on_more (footing.List s) h = used_more s h
  on_more (footing.Page s) h = used_more s h
  on_more (footing.Row s item) h = (used_more s h.0, used_more item h.1)
  on_more (footing.Edge s item) h = (used_more s h.0, used_more item h.1)
  on_more (footing.Payload given) h = used_more given h
  on_more (footing.Given given) h = used_more given h

-- ---- what a place adds, in the layers of the whole plan

module _ (base : BaseParts) (tree : Tree) (whole : Making) (at n : ℕ) (p : Place) (layers : List Layer) (layer : ℕ) (lt : layer < length layers) (laid : AreLaid at layers) (d : Does) (g : Footing) where
  abbrev Has : Added → Type 0
  Has a = HasHung base tree whole at n layer p d g a

  abbrev GoOn : Added → Type 0
  GoOn a = LayersGoOn (layers_with layers layer at a) whole.layers

  -- a fetch that is new, on which the places below stand, in the layer of its place
  pub record IsNewFetch (a : Added) (f : FetchStep) : Type 0 where
    pub hung : IsHung base tree whole at n layer p d g f
    pub below : IsBelowFetch at (basis_of (footing_with at a))
    pub made : fetch_added a ≡ Some f
    pub laid_ : layer_of whole.layers at ≡ Some layer

  laid_here : LayersGoOn (into layers layer at) whole.layers → layer_of whole.layers at ≡ Some layer
  laid_here goes = let some : 0 < length layers = omega (arith, lt) in here base tree whole layers layer at lt laid some goes

  same_fetch : (f h : FetchStep) → Some (step.Fetch f) ≡ Some (step.Fetch h) → f ≡ h
  same_fetch f h e = let z : Some f ≡ Some h = ap fetch_step e in inside f h z

  no_fetch : (s : Step) (f : FetchStep) → fetch_step (Some s) ≡ None → Some s ≡ Some (step.Fetch f) → ⊥
  no_fetch s f e is = let z : None ≡ Some f = sym e ∙ ap fetch_step is in cc

  no_given : (s : Step) → is_given_in (Some s) ≡ false → Some s ≡ Some step.Given → ⊥
  no_given s e is = let z : false ≡ true = sym e ∙ ap is_given_in is in cc

  pub fetch_new : (a : Added) → Has a → GoOn a → (j : ℕ) (f : FetchStep) → slice_get (steps_added at a) j ≡ Some (step.Fetch f) → (j ≡ 0) × IsNewFetch a f
  fetch_new (adds.Leaf s) h goes zero f e = absurd (no_fetch s f h.0 e)
  fetch_new (adds.Leaf s) h goes (suc j) f e = cc
  fetch_new (adds.List x) h goes zero f e =
      (refl, record { hung = subst (IsHung base tree whole at n layer p d g) (same_fetch x f e) h; below = refl; made = ap Some (same_fetch x f e); laid_ = laid_here goes })
  fetch_new (adds.List x) h goes (suc j) f e = cc
  fetch_new (adds.Row x) h goes zero f e = (
    refl,
    record {
      hung = subst (IsHung base tree whole at n layer p d g) (same_fetch x f e) h;
      below = refl;
      made = ap Some (same_fetch x f e);
      laid_ = goes.layer at layer (fetch_layer layers (layer_over at (at + 1) ∷ []) layer at lt laid);
    },
  )
  fetch_new (adds.Row x) h goes (suc zero) f e = absurd (no_fetch (step.Item at) f refl e)
  fetch_new (adds.Row x) h goes (suc (suc j)) f e = cc
  fetch_new (adds.Item edge s) h goes zero f e = absurd (no_fetch (step.Item s) f refl e)
  fetch_new (adds.Item edge s) h goes (suc j) f e = cc
  fetch_new (adds.Shows k x) h goes j f e = cc
  fetch_new adds.Given h goes zero f e = absurd (no_fetch step.Given f refl e)
  fetch_new adds.Given h goes (suc j) f e = cc

  -- a row that is given stands in a layer over nothing
  pub given_new : (a : Added) → Has a → GoOn a → (is_mutation (Some d) ≡ true → over_in (slice_get whole.layers layer) ≡ None) → (j : ℕ) → slice_get (steps_added at a) j ≡ Some step.Given → over whole.layers (at + j) ≡ None
  given_new (adds.Leaf s) h goes top zero e = absurd (no_given s h.1 e)
  given_new (adds.Leaf s) h goes top (suc j) e = cc
  given_new (adds.List x) h goes top zero e = absurd (no_given (step.Fetch x) refl e)
  given_new (adds.List x) h goes top (suc j) e = cc
  given_new (adds.Row x) h goes top zero e = absurd (no_given (step.Fetch x) refl e)
  given_new (adds.Row x) h goes top (suc zero) e = absurd (no_given (step.Item at) refl e)
  given_new (adds.Row x) h goes top (suc (suc j)) e = cc
  given_new (adds.Item edge s) h goes top zero e = absurd (no_given (step.Item s) refl e)
  given_new (adds.Item edge s) h goes top (suc j) e = cc
  given_new (adds.Shows k x) h goes top j e = cc
  given_new adds.Given h goes top zero e =
      let z : at ≡ at + 0 = omega arith in
      subst (λ k. over whole.layers k ≡ None) z (ap (over_at whole.layers) (laid_here goes) ∙ top h)
  given_new adds.Given h goes top (suc j) e = cc

  either_in : (edge : Bool) (s item l : ℕ) → layer_of whole.layers item ≡ Some l → IsRowIn whole.layers l (edge_or_row edge s item)
  either_in true s item l e = e
  either_in false s item l e = e

  pub row_new : (a : Added) → Has a → GoOn a → IsRowIn whole.layers (layer_with layer (length layers) a) (footing_with at a)
  row_new (adds.Leaf s) h goes = tt
  row_new (adds.List x) h goes = tt
  row_new (adds.Row x) h goes = goes.layer (at + 1) (length layers) (item_layer layers layer at lt laid)
  row_new (adds.Item edge s) h goes =
      either_in edge s at (length layers) (goes.layer at (length layers) (layer_push_new 0 layers s at (fresh_in at layers laid) ∙ ap Some (zero-add (length layers))))
  row_new (adds.Shows k x) h goes = h
  row_new adds.Given h goes = laid_here goes

-- ---- the induction over the places, beside the whole plan

module _ (base : BaseParts) (tree : Tree) (vars : Vars) (planned : IsPlanned base tree vars) (constraints : List Constraint) (noted : (other : Vars) → Hold constraints other → Hold (noted_all base vars tree) other) (whole : Making) (top : over_in (slice_get whole.layers 0) ≡ None) where
  abbrev pub IsField : ℕ → ℕ → Type 0
  IsField k i = IsFieldOf base tree (plan_of whole) k i

  -- the fetch of a row field, as it hangs and stands
  pub record IsFetchOf (k : ℕ) (f : FetchStep) (i : ℕ) : Type 0 where
    pub field : IsField k i
    pub flat : (out-FetchStep f).children ≡ []
    pub rows : (out-FetchStep f).rows ≡ true → ShowsRows base tree i field.place
    pub hangs : HangsOn whole.steps (basis_above (basis_at whole.belows) field.place.parent) (out-FetchStep f).parent
    pub below : IsBelowFetch k (basis_at whole.belows i)
    pub stands_ : StandsWith whole.layers k (out-FetchStep f).parent
    -- it is what the field adds
    pub made : (g : Footing) × (fetch_added (added_at base vars tree i field.place g) ≡ Some f)

  abbrev pub IsMutationAt : ℕ → Type 0
  IsMutationAt place = (p : Place) × (slice_get tree.places place ≡ Some p) × (is_mutation (does_of base.schema p) ≡ true)

  -- a place is another one, or above it
  abbrev pub IsFrom : ℕ → ℕ → Type 0
  IsFrom place i = (n : ℕ) × (is_in (chain (above tree.places) n i) place ≡ true)

  -- the fetch is that of a field which lies under the mutation of a place
  abbrev pub FetchFrom : ℕ → ℕ → Type 0
  FetchFrom j k = (f : FetchStep) → slice_get whole.steps k ≡ Some (step.Fetch f) → (i : ℕ) × IsField k i × ((place : ℕ) → IsMutationAt place → IsFrom place j → IsFrom place i)

  pub record ArePlain (m : Making) (n : ℕ) : Type 0 where
    pub fetches : (k : ℕ) (f : FetchStep) → slice_get m.steps k ≡ Some (step.Fetch f) → (i : ℕ) × IsFetchOf k f i
    pub given : (k : ℕ) → slice_get m.steps k ≡ Some step.Given → over whole.layers k ≡ None
    pub rows : (j : ℕ) (b : Below) → slice_get m.belows j ≡ Some b → IsRowIn whole.layers b.layer b.footing
    pub used : (j : ℕ) (b : Below) → slice_get m.belows j ≡ Some b → HoldsOn whole.steps (FetchFrom j) b.footing
    pub outs : Each (λ o. HoldsUsed whole.steps (FetchFrom o.place) o.step) m.out
    pub before : (i k : ℕ) → i < n → IsField k i → k < length m.steps
    pub own : (i j k : ℕ) → i < n → j < n → IsField k i → IsField k j → i ≡ j

  module _ (m : Making) (n : ℕ) (fits : Fits base tree vars planned constraints noted whole m n) (laid : AreLaid (length m.steps) m.layers) (plain : ArePlain m n) (p : Place) (is_place : slice_get tree.places n ≡ Some p)
      (on : GoesOn (next base tree vars planned constraints noted whole m n fits p is_place) whole) where
    abbrev above_ : Below
    above_ = up base tree vars planned constraints noted whole m n fits p is_place

    abbrev adds_ : Added
    adds_ = adds_here base tree vars planned constraints noted whole m n fits p is_place

    abbrev at : ℕ
    at = length m.steps

    abbrev shown : Bool
    shown = needs_rows base.schema tree.places n

    -- ---- what stands above

    row_above : (parent : Option ℕ) → IsRowIn whole.layers (below_of m.belows parent).layer (below_of m.belows parent).footing
    row_above None = tt
    row_above (Some a) = by (slice_get m.belows a) refl
      where
        by : (o : Option Below) → slice_get m.belows a ≡ o → IsRowIn whole.layers (unwrap_or o at_root).layer (unwrap_or o at_root).footing
        by None e = tt
        by (Some b) e = plain.rows a b e

    root_of_mutation : (place : ℕ) → IsMutationAt place → n ≡ place → p.parent ≡ None
    root_of_mutation place is e =
        let same : is.0 ≡ p = inside is.0 p (sym is.1 ∙ sym (ap (slice_get tree.places) e) ∙ is_place) in
        by (field_of base.schema p) refl (subst (λ x. is_mutation (does_of base.schema x) ≡ true) same is.2)
      where
        by : (o : Option FieldDef) → field_of base.schema p ≡ o → is_mutation (option_map (λ f. f.does) o) ≡ true → p.parent ≡ None
        by None e h = cc
        by (Some f) e h = rooted base tree vars planned constraints noted whole m n fits p is_place on f.does (planned.kinds p.ty) (planned.kinds f.ty.name) (planned.leads p.ty p.field f e) refl h

    from_above : (a : ℕ) → p.parent ≡ Some a → (place : ℕ) → IsMutationAt place → IsFrom place n → IsFrom place a
    from_above a e place is from = by from.0 from.1
      where
        by : (fuel : ℕ) → is_in (chain (above tree.places) fuel n) place ≡ true → IsFrom place a
        by zero h = cc
        by (suc fuel) h = elim (or_cases (n == place) (is_in (or_nothing (chain (above tree.places) fuel) (above tree.places n)) place) h) [
          | inl t ↦ let z : None ≡ Some a = sym (root_of_mutation place is (eqb-true n place t)) ∙ e in cc
          | inr t ↦ (fuel, sym (ap (λ o. is_in (or_nothing (chain (above tree.places) fuel) o) place) (ap parent_in is_place ∙ e)) ∙ t)
        ]

    used_above : (parent : Option ℕ) → p.parent ≡ parent → HoldsOn whole.steps (FetchFrom n) (below_of m.belows parent).footing
    used_above None e = tt
    used_above (Some a) e = by (slice_get m.belows a) refl
      where
        by : (o : Option Below) → slice_get m.belows a ≡ o → HoldsOn whole.steps (FetchFrom n) (unwrap_or o at_root).footing
        by None q = tt
        by (Some b) q =
            on_more whole.steps (FetchFrom a) (FetchFrom n) (λ x h f is. let r = h f is in (r.0, r.1, λ place mutation from. r.2 place mutation (from_above a e place mutation from)))
            b.footing (plain.used a b q)

    top_query : (parent : Option ℕ) → StandsUnder base.schema planned.root tree.places n p parent → planned.kinds p.ty ≡ OfQuery → over_in (slice_get whole.layers (below_of m.belows parent).layer) ≡ None
    top_query None h k = top
    top_query (Some a) h k =
        absurd (no_query_type base.catalog h.field.does (planned.kinds h.place.ty) (planned.kinds h.field.ty.name)
        (planned.leads h.place.ty h.place.field h.field h.is_field) (sym (ap planned.kinds h.is_type) ∙ k))

    top_mutation : p.parent ≡ None → over_in (slice_get whole.layers above_.layer) ≡ None
    top_mutation e = ap (λ o. over_in (slice_get whole.layers (below_of m.belows o).layer)) e ∙ top

    -- ---- what the place adds

    pub record IsNew (a : Added) : Type 0 where
      pub fetches : (j : ℕ) (f : FetchStep) → slice_get (steps_added at a) j ≡ Some (step.Fetch f) → (j ≡ 0) × IsFetchOf at f n
      pub given : (j : ℕ) → slice_get (steps_added at a) j ≡ Some step.Given → over whole.layers (at + j) ≡ None
      pub row : IsRowIn whole.layers (layer_with above_.layer (length m.layers) a) (footing_with at a)
      pub named : HoldsNamed whole.steps (FetchFrom n) a
      pub first : is_row_field (does_of base.schema p) ≡ true → IsFirst at a

    name_of : Step
    name_of = step.Const (value.Text (type_name_at base.schema p.ty))

    const_given : (j : ℕ) → slice_get (step.Const (value.Text (type_name_at base.schema p.ty)) ∷ []) j ≡ Some step.Given → over whole.layers (at + j) ≡ None
    const_given zero e = cc
    const_given (suc j) e = cc

    const_fetch : (j : ℕ) (f : FetchStep) → slice_get (step.Const (value.Text (type_name_at base.schema p.ty)) ∷ []) j ≡ Some (step.Fetch f) → (j ≡ 0) × IsFetchOf at f n
    const_fetch zero f e = cc
    const_fetch (suc j) f e = cc

    name_new : field_of base.schema p ≡ None → IsNew (adds.Leaf (step.Const (value.Text (type_name_at base.schema p.ty))))
    name_new e = record {
      fetches = const_fetch;
      given = const_given;
      row = tt;
      named = tt;
      first = λ r. let z : false ≡ true = sym (ap (λ (o : Option FieldDef). is_row_field (option_map (λ f. f.does) o)) e) ∙ r in cc;
    }

    module _ (lt : above_.layer < length m.layers) (goes : LayersGoOn (layers_with m.layers above_.layer at adds_) whole.layers) where
      field_new : (f : FieldDef) → field_of base.schema p ≡ Some f → IsNew adds_
      field_new f e =
          let a : Added = added_by base vars tree.places p shown above_.footing f f.does in
          let same : adds_ ≡ a = ap (added_for base vars tree.places p shown above_.footing) e in
          let st = stands base tree vars planned constraints noted whole m n fits p is_place in
          let kind = planned.kinds p.ty in
          let following = planned.kinds f.ty.name in
          let leads = planned.leads p.ty p.field f e in
          let hung = field_hung base vars tree whole at n above_.layer p f e kind following st.table above_.footing f.does refl leads st.fits (row_above p.parent) (top_query p.parent (planned.is_tree.under n p is_place)) in
          let has : HasHung base tree whole at n above_.layer p f.does above_.footing adds_ = subst (HasHung base tree whole at n above_.layer p f.does above_.footing) (sym same) hung in
          let does_is : does_of base.schema p ≡ Some f.does = ap (λ (o : Option FieldDef). option_map (λ g. g.does) o) e in
          let first : is_row_field (does_of base.schema p) ≡ true → IsFirst at adds_ =
          λ r. subst (IsFirst at) (sym same) (shows_first base vars tree.places p shown above_.footing f at f.does (sym (ap is_row_field does_is) ∙ r)) in
          record {
            fetches = λ j x q.
                let new = fetch_new base tree whole at n p m.layers above_.layer lt laid f.does above_.footing adds_ has goes j x q in
                let row : is_row_field (does_of base.schema p) ≡ true = ap is_row_field does_is ∙ new.1.hung.is_row in (
                  new.0,
                  record {
                    field = record { place = p; is_place = is_place; is_field = row; is_out = is_out_here base tree vars planned constraints noted whole m n fits p is_place on ∙ ap Some (first row).0 };
                    flat = new.1.hung.flat;
                    rows = new.1.hung.rows;
                    hangs = subst (λ b. HangsOn whole.steps b (out-FetchStep x).parent) (sym (basis_up base tree vars planned constraints noted whole m n fits p is_place on)) new.1.hung.hangs;
                    below = subst (IsBelowFetch at) (sym (basis_here base tree vars planned constraints noted whole m n fits p is_place on)) new.1.below;
                    stands_ = new.1.hung.stands new.1.laid_;
                    made = (above_.footing, new.1.made);
                  },
                );
            given = given_new base tree whole at n p m.layers above_.layer lt laid f.does above_.footing adds_ has goes
                (λ mutation. top_mutation (rooted base tree vars planned constraints noted whole m n fits p is_place on f.does kind following leads refl mutation));
            row = row_new base tree whole at n p m.layers above_.layer lt laid f.does above_.footing adds_ has goes;
            named = subst (HoldsNamed whole.steps (FetchFrom n)) (sym same)
                (named_by_field whole.steps (FetchFrom n) base vars tree.places p shown f kind following st.table above_.footing f.does leads st.fits (used_above p.parent refl));
            first = first;
          }

      place_new : (o : Option FieldDef) → field_of base.schema p ≡ o → IsNew adds_
      place_new None e = subst IsNew (sym (ap (added_for base vars tree.places p shown above_.footing) e)) (name_new e)
      place_new (Some f) e = field_new f e

      new_ : IsNew adds_
      new_ = place_new (field_of base.schema p) refl

      placed_ : (j : ℕ) (s : Step) → slice_get (steps_added at adds_) j ≡ Some s → slice_get whole.steps (at + j) ≡ Some s
      placed_ = placed base tree vars planned constraints noted whole m n fits p is_place on

      from_here : (j : ℕ) (s : Step) → slice_get (steps_added at adds_) j ≡ Some s → FetchFrom n (at + j)
      from_here j s e f is =
          let r = new_.fetches j f (e ∙ sym (placed_ j s e) ∙ is) in
          let z : at ≡ at + j = let q = r.0 in omega (arith, q) in
          (n, subst (λ k. IsField k n) z r.1.field, λ place mutation from. from)

      used_here : HoldsUsed whole.steps (FetchFrom n) (step_shown at adds_) × HoldsOn whole.steps (FetchFrom n) (footing_with at adds_)
      used_here = used_by_added whole.steps (FetchFrom n) at adds_ placed_ new_.named from_here

      -- ---- the plan with the place

      steps_long : length (m.steps ++ steps_added at adds_) ≡ at + length (steps_added at adds_)
      steps_long = length-append m.steps (steps_added at adds_)

      at_this : (k : ℕ) → IsField k n → (k ≡ at) × (k < length (m.steps ++ steps_added at adds_))
      at_this k h =
          let same : h.place ≡ p = inside h.place p (sym h.is_place ∙ is_place) in
          let first = new_.first (subst (λ x. is_row_field (does_of base.schema x) ≡ true) same h.is_field) in
          let shows : k ≡ step_shown at adds_ = inside k _ (sym h.is_out ∙ is_out_here base tree vars planned constraints noted whole m n fits p is_place on) in
          let is : k ≡ at = shows ∙ first.0 in
          (is, let long = steps_long in let some = first.1 in omega (arith, is, long, some))

      below_this : (j l : ℕ) (b : Below) → j ≡ length m.belows + l → slice_get (below_with above_.layer (length m.layers) at adds_ ∷ []) l ≡ Some b
          → IsRowIn whole.layers b.layer b.footing × HoldsOn whole.steps (FetchFrom j) b.footing
      below_this j zero b is e =
          let same = inside (below_with above_.layer (length m.layers) at adds_) b e in
          let here_ : n ≡ j = let c = fits.count in omega (arith, is, c) in
          subst (λ (x : Below). IsRowIn whole.layers x.layer x.footing × HoldsOn whole.steps (FetchFrom j) x.footing) same
          (new_.row, subst (λ i. HoldsOn whole.steps (FetchFrom i) (footing_with at adds_)) here_ used_here.1)
      below_this j (suc l) b is e = cc

      pub plain_next : ArePlain (next base tree vars planned constraints noted whole m n fits p is_place) (n + 1)
      plain_next = record {
        fetches = λ k f e. elim (split base tree whole m.steps (steps_added at adds_) k (step.Fetch f) e) [
          | inl h ↦ plain.fetches k f h
          | inr h ↦
              let r = new_.fetches h.0 f h.2 in
              let z : at ≡ k = let a = r.0 in let b = h.1 in omega (arith, a, b) in
              (n, subst (λ i. IsFetchOf i f n) z r.1)
        ];
        given = λ k e. elim (split base tree whole m.steps (steps_added at adds_) k step.Given e) [
          | inl h ↦ plain.given k h
          | inr h ↦ subst (λ i. over whole.layers i ≡ None) (sym h.1) (new_.given h.0 h.2)
        ];
        rows = λ j b e. elim (split base tree whole m.belows _ j b e) [
          | inl h ↦ plain.rows j b h
          | inr h ↦ (below_this j h.0 b h.1 h.2).0
        ];
        used = λ j b e. elim (split base tree whole m.belows _ j b e) [
          | inl h ↦ plain.used j b h
          | inr h ↦ (below_this j h.0 b h.1 h.2).1
        ];
        outs = each_last base tree whole (λ (o : OutPlace). HoldsUsed whole.steps (FetchFrom o.place) o.step) (λ (o : OutPlace). HoldsUsed whole.steps (FetchFrom o.place) o.step) (λ o h. h) m.out _ plain.outs used_here.0;
        before = λ i k less h. elim (cases_lt i n) [
          | inl q ↦ let b = plain.before i k q h in let long = steps_long in omega (arith, b, long)
          | inr q ↦ let e : i ≡ n = omega (arith, less, q) in (at_this k (subst (IsField k) e h)).1
        ];
        own = λ i j k less lower h l. elim (cases_lt i n) [
          | inl q ↦ elim (cases_lt j n) [
            | inl r ↦ plain.own i j k q r h l
            | inr r ↦
                let e : j ≡ n = omega (arith, lower, r) in
                let is = (at_this k (subst (IsField k) e l)).0 in
                let b = plain.before i k q h in absurd (omega (arith, is, b))
          ]
          | inr q ↦
              let d : i ≡ n = omega (arith, less, q) in
              let is = (at_this k (subst (IsField k) d h)).0 in
              elim (cases_lt j n) [
                | inl r ↦ let b = plain.before j k r l in absurd (omega (arith, is, b))
                | inr r ↦ omega (arith, less, lower, q, r)
              ]
        ];
      }

  pub plain_nothing : ArePlain nothing_made 0
  plain_nothing = record {
    fetches = λ k f e. cc;
    given = λ k e. cc;
    rows = λ j b e. cc;
    used = λ j b e. cc;
    outs = tt;
    before = λ i k lt h. absurd (omega (arith, lt));
    own = λ i j k lt less h l. absurd (omega (arith, lt));
  }
