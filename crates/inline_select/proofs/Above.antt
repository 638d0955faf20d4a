-- What hangs on a fetch is used where that one is.
use Rattle.std.proofs.Common.{◌≡◌, ℕ, zero, suc, ◌<◌, List, Option, Some, None, Bool, true, false, refl, sym, ◌∙◌, subst, arith}
use Rattle.std.proofs.lemmas.Option.{slice_get_within}
use Rattle.std.specs.Prelude.{slice_get, option_map, is_some}
use Rattle.pg_base.specs.declared.does.Does.{Does}
use Rattle.pg_base.specs.declared.does.Does.TheVariants as does
use Rattle.pg_base.specs.declared.schema.FieldDef.{FieldDef}
use Rattle.place_tree.specs.declared.place.Place.{Place}
use Rattle.place_tree.specs.declared.place.Tree.{Tree}
use Rattle.place_tree.specs.Fields.{field_of, does_of, is_row_field}
use Rattle.place_tree.specs.Needs.{is_mutation}
use Rattle.plan_constraints.specs.declared.constraint.Constraint.{Constraint}
use Rattle.plan_steps.specs.declared.plan.FetchStep.{FetchStep, out-FetchStep}
use Rattle.plan_steps.specs.declared.plan.Plan.{Plan}
use Rattle.plan_steps.specs.declared.plan.Root.{Root}
use Rattle.plan_steps.specs.declared.plan.Step.TheVariants as step
use Rattle.plan_steps.specs.Fetches.{has_fields, IsStart, IsFieldOf, HangsOn, IsBelowFetch}
use Rattle.plan_steps.specs.Named.{step_for}
use Rattle.plan_steps.specs.Serves.{Basis, OnNothing, OnRow, OnList, OnPage, OnEdge, OnPayload, OnGiven, OtherServes, ServesBy, basis_above}
use Rattle.plan_steps.specs.Under.{is_under, is_used}
use Rattle.plan_steps.specs.Values.{Moment}
use Rattle.plan_steps.proofs.Running.{Running}
use Rattle.plan_steps.proofs.Unders.{above_at, under_more, start_of, used_shown}

-- the places below stand on something of the fetch
abbrev Rests : ℕ → Basis → Type 0
Rests t OnNothing = ⊥
Rests t (OnRow s) = s ≡ t
Rests t (OnList s) = s ≡ t
Rests t (OnPage s) = s ≡ t
Rests t (OnEdge s) = s ≡ t
Rests t OnPayload = ⊥
Rests t OnGiven = ⊥

has_field : (o : Option FieldDef) → has_fields (option_map (λ f. f.does) o) ≡ true → is_some o ≡ true
has_field None h = cc
has_field (Some f) h = refl

row_has_field : (o : Option FieldDef) → is_row_field (option_map (λ f. f.does) o) ≡ true → is_some o ≡ true
row_has_field None h = cc
row_has_field (Some f) h = refl

below_is : (t k : ℕ) (b : Basis) → IsBelowFetch k b → Rests t b → k ≡ t
below_is t k (OnList s) is on = sym is ∙ on
below_is t k (OnRow s) is on = sym is ∙ on
below_is t k _ is on = absurd is

module _ (m : Moment) (plan : Plan) (tree : Tree) (r : Root) (constraints : List Constraint) (run : Running m plan tree r constraints) where
  abbrev bases : ℕ → Basis
  bases = run.are.serves.bases

  along : (t : ℕ) (b c : Basis) → b ≡ c → Rests t b → Rests t c
  along t b c e on = subst (Rests t) e on

  other_rests : (t a k : ℕ) (q : Place) (b : Basis) (d : Option Does) → has_fields d ≡ true → is_mutation d ≡ false → is_row_field d ≡ false → OtherServes m.base tree plan.steps q b (bases a) k d → Rests t (bases a) → Rests t b
  other_rests t a k q b (Some does.Nodes) has mut row s on = along t (OnList k) b (sym s.0) (along t (bases a) (OnRow k) s.1 on)
  other_rests t a k q b (Some does.Edges) has mut row s on = along t (OnList k) b (sym s.0) (along t (bases a) (OnEdge k) s.1 on)
  other_rests t a k q b (Some does.PageInfo) has mut row s on = along t (OnList k) b (sym s.0) (along t (bases a) (OnPage k) s.1 on)
  other_rests t a k q b (Some does.Node) has mut row s on = along t (OnEdge s.0) b (sym s.1) (along t (bases a) (OnRow s.0) s.2 on)
  other_rests t a k q b (Some does.Payload) has mut row s on = absurd (along t (bases a) OnGiven s.1 on)
  other_rests t a k q b (Some (does.All c)) has mut row s on = cc
  other_rests t a k q b (Some (does.ByKey c d)) has mut row s on = cc
  other_rests t a k q b (Some (does.Forward c d)) has mut row s on = cc
  other_rests t a k q b (Some (does.Backward c d)) has mut row s on = cc
  other_rests t a k q b (Some (does.Create c)) has mut row s on = cc
  other_rests t a k q b (Some (does.Update c d)) has mut row s on = cc
  other_rests t a k q b (Some (does.Delete c d)) has mut row s on = cc
  other_rests t a k q b _ has mut row s on = cc

  -- places below a fetch that the root uses lie under the root
  module _ (t i : ℕ) (field : IsFieldOf m.base tree plan t i) (u : is_under tree r i ≡ true) where
    start : IsStart m.base tree r
    start = start_of m.base tree r run.of_tree

    -- by what is above
    rests_next : (a : ℕ) (q : Place) → slice_get tree.places a ≡ Some q → has_fields (does_of m.base.schema q) ≡ true → Rests t (bases a) →
        ((above : ℕ) (p : Place) → above < a → slice_get tree.places above ≡ Some p → has_fields (does_of m.base.schema p) ≡ true → Rests t (bases above) → is_under tree r above ≡ true) →
        is_under tree r a ≡ true
    rests_next a q at has on earlier = by_mutation (is_mutation (does_of m.base.schema q)) refl where
      up : (o : Option ℕ) → q.parent ≡ o → Rests t (basis_above bases o) → is_under tree r a ≡ true
      up None e on = absurd on
      up (Some above) e on =
          let p = above_at m.base tree run.over_tree a q above at e in
          under_more m.base tree run.over_tree r a q above at e
          (earlier above p.0 (run.over_tree.earlier a q above at e) p.1 (run.over_tree.above a q above p.0 at e p.1 (has_field (field_of m.base.schema q) has)) on)

      by_kind : is_mutation (does_of m.base.schema q) ≡ false → (k : ℕ) → step_for plan.out a ≡ Some k → (b : Bool) → is_row_field (does_of m.base.schema q) ≡ b → ServesBy b m.base tree constraints plan.steps a q (basis_above bases q.parent) (bases a) k → is_under tree r a ≡ true
      by_kind mut k out true row s =
          let own : IsFieldOf m.base tree plan k a = record { place = q; is_place = at; is_field = row; is_out = out } in
          let same = below_is t k (bases a) (run.are.hangs k a s.fetch own s.is_fetch).1 on in
          run.are.one_root r start t i a field (subst (λ j. IsFieldOf m.base tree plan j a) same own) u
      by_kind mut k out false row s =
          up q.parent refl (other_rests t a k q (basis_above bases q.parent) (does_of m.base.schema q) has mut row s on)

      by_mutation : (b : Bool) → is_mutation (does_of m.base.schema q) ≡ b → is_under tree r a ≡ true
      by_mutation true mut = absurd (subst (Rests t) (run.are.serves.payloads a q at mut) on)
      by_mutation false mut =
          let sv = run.are.serves.each a q at mut in
          by_kind mut sv.at sv.is_out (is_row_field (does_of m.base.schema q)) refl sv.fits

    rests_under : (n a : ℕ) → a < n → (q : Place) → slice_get tree.places a ≡ Some q → has_fields (does_of m.base.schema q) ≡ true → Rests t (bases a) → is_under tree r a ≡ true
    rests_under zero a lt q at has on = absurd (omega (arith, lt))
    rests_under (suc n) a lt q at has on = rests_next a q at has on (λ above p less. rests_under n above (omega (arith, less, lt)) p)

  hang_rests : (t item : ℕ) (b : Basis) (o : Option ℕ) → o ≡ Some item → slice_get plan.steps item ≡ Some (step.Item t) → HangsOn plan.steps b o → Rests t b
  hang_rests t item OnNothing o e is hang = let z = sym hang ∙ e in cc
  hang_rests t item OnGiven o e is hang =
      let same : hang.0 ≡ item = let z = sym hang.1 ∙ e in cc in
      let z = sym (subst (λ n. slice_get plan.steps n ≡ Some step.Given) same hang.2) ∙ is in cc
  hang_rests t item (OnRow s) o e is hang =
      let same : hang.0 ≡ item = let z = sym hang.1 ∙ e in cc in
      let z = sym (subst (λ n. slice_get plan.steps n ≡ Some (step.Item s)) same hang.2) ∙ is in cc
  hang_rests t item _ o e is hang = absurd hang

  -- a fetch that hangs on a row of one that the root uses, by a field under the root
  pub record IsUsed (g : ℕ) : Type 0 where
    pub place : ℕ
    pub field : IsFieldOf m.base tree plan g place
    pub is_here : is_under tree r place ≡ true
    pub used : is_used tree plan r g ≡ true

  pub used_below : (t : ℕ) (h : FetchStep) → slice_get plan.steps t ≡ Some (step.Fetch h) → is_used tree plan r t ≡ true → (g item : ℕ) (f : FetchStep) → slice_get plan.steps g ≡ Some (step.Fetch f) → (out-FetchStep f).parent ≡ Some item → slice_get plan.steps item ≡ Some (step.Item t) → IsUsed g
  used_below t h there used g item f at parent is =
      let own = run.are.used r (start_of m.base tree r run.of_tree) t h there used in
      let below = run.are.only g f at in
      let p = below.1.place in
      let hang = (run.are.hangs g below.0 f below.1 at).0 in
      let u = by_parent own.0 own.1 own.2 below.0 p below.1.is_place (row_has_field (field_of m.base.schema p) below.1.is_field) p.parent refl (hang_rests t item (basis_above bases p.parent) (out-FetchStep f).parent parent is hang) in
      record { place = below.0; field = below.1; is_here = u; used = used_shown tree plan r g below.0 (slice_get_within plan.steps g (step.Fetch f) at) below.1.is_out u }
    where
      by_parent : (i : ℕ) → IsFieldOf m.base tree plan t i → is_under tree r i ≡ true → (j : ℕ) (p : Place) → slice_get tree.places j ≡ Some p → is_some (field_of m.base.schema p) ≡ true → (o : Option ℕ) → p.parent ≡ o → Rests t (basis_above bases o) → is_under tree r j ≡ true
      by_parent i field u j p here has None e on = absurd on
      by_parent i field u j p here has (Some a) e on =
          let q = above_at m.base tree run.over_tree j p a here e in
          under_more m.base tree run.over_tree r j p a here e
          (rests_under t i field u (suc a) a (omega arith) q.0 q.1 (run.over_tree.above j p a q.0 here e q.1 has) on)
