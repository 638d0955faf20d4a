-- The plan of a tree is plain.
use Rattle.std.proofs.Common.{◌≡◌, ℕ, suc, ◌+◌, ◌<◌, List, [], ◌∷◌, length, drop, Option, Some, None, true, refl, sym, ap, ◌∙◌, subst, arith, inl, inr, eqb-true}
use Rattle.std.proofs.lemmas.Option.{slice_get_within}
use Rattle.std.specs.List.{list_any}
use Rattle.std.specs.Prelude.{slice_get, is_some, ◌==◌, ◌&&◌}
use Rattle.pg_base.specs.Base.{BaseParts}
use Rattle.pg_base.specs.Lists.{Each}
use Rattle.pg_base.specs.declared.vars.Vars.{Vars}
use Rattle.place_tree.specs.Exec.{needs_rows}
use Rattle.place_tree.specs.Fetch.{argument_error}
use Rattle.place_tree.specs.Fields.{field_of, does_of, is_row_field}
use Rattle.place_tree.specs.Typed.{StandsUnder}
use Rattle.place_tree.specs.declared.place.Place.{Place}
use Rattle.place_tree.specs.declared.place.Tree.{Tree}
use Rattle.plan_constraints.proofs.Steady.{noted_there}
use Rattle.plan_constraints.specs.Constraints.{Hold}
use Rattle.plan_constraints.specs.Noted.{noted_all}
use Rattle.plan_constraints.specs.declared.constraint.Constraint.{Constraint}
use Rattle.plan_steps.proofs.Bools.{or_cases, or_right}
use Rattle.plan_steps.specs.Chains.{is_in}
use Rattle.plan_steps.specs.Check.{given_fits}
use Rattle.plan_steps.specs.Fetches.{IsStart, IsFieldOf, HangsOn, IsBelowFetch, AreFetches, bare, AreAlike, has_null_order, TellsWindows, IsPlain}
use Rattle.plan_steps.specs.Fitting.{FitTree}
use Rattle.plan_steps.specs.Named.{used_by, over_in}
use Rattle.plan_steps.specs.Serves.{basis_above}
use Rattle.plan_steps.specs.Under.{parent_in, above, is_under, is_used}
use Rattle.plan_steps.specs.declared.plan.FetchStep.{FetchStep, out-FetchStep}
use Rattle.plan_steps.specs.declared.plan.OutPlace.{OutPlace}
use Rattle.plan_steps.specs.declared.plan.Root.{Root}
use Rattle.plan_steps.specs.declared.plan.Root.TheVariants as root
use Rattle.plan_steps.specs.declared.plan.Step.TheVariants as step
use Rattle.rel_model.specs.declared.tables.Row.{Row}
use Rattle.step_plan.specs.Drafted.{Making, below_of, grown, out_of, with_places, nothing_made, made, drafted}
use Rattle.step_plan.specs.declared.making.Footing.{Footing}
use Rattle.step_plan.proofs.Addable.{place_ok}
use Rattle.step_plan.proofs.Alike.{added_alike}
use Rattle.step_plan.proofs.AskedFetches.{noted_parts}
use Rattle.step_plan.proofs.Checked.{LayersGoOn, AreGood, good_next, good_nothing}
use Rattle.step_plan.proofs.Grown.{GoesOn, goes_all, added_at, get_drop, drop_next, basis_at, Fits, stands, placed, shown_taken, fits_next, fits_nothing, drafted_serves}
use Rattle.step_plan.proofs.Hung.{and_left}
use Rattle.step_plan.proofs.Places.{inside}
use Rattle.step_plan.proofs.Plain.{and_right, more_fuel, each_is, not_both, IsFrom, FetchFrom, ArePlain, plain_next, plain_nothing}
use Rattle.step_plan.proofs.Plannable.{IsPlanned}
use Rattle.step_plan.proofs.Tested.{given_test}
use Rattle.step_plan.proofs.Told.{fetch_added, has_error, Tells, added_tells, tells_part, tells_error, error_alike}
use Rattle.step_plan.proofs.Used.{HoldsUsed}
use Rattle.step_plan.proofs.Whole.{laid_next, layer_above, layers_all, laid_good, lies_above, drafted_good}

module _ (base : BaseParts) (tree : Tree) (vars : Vars) (planned : IsPlanned base tree vars) (constraints : List Constraint) (noted : (other : Vars) → Hold constraints other → Hold (noted_all base vars tree) other) where
  abbrev whole : Making
  whole = made base tree vars

  -- the layer of the root stands over nothing
  top : over_in (slice_get whole.layers 0) ≡ None
  top = let good = drafted_good base tree vars planned constraints noted in good.overs 0 good.some

  abbrev FitsAt : Making → ℕ → Type 0
  FitsAt m n = Fits base tree vars planned constraints noted whole m n

  abbrev PlainAt : Making → ℕ → Type 0
  PlainAt m n = ArePlain base tree vars planned constraints noted whole top m n

  all_plain : (ps : List Place) (n : ℕ) (m : Making) → drop n tree.places ≡ ps → FitsAt m n → AreGood base tree whole m n → PlainAt m n → with_places base vars tree m n ps ≡ whole → n + length ps ≡ length tree.places → PlainAt whole (length tree.places)
  all_plain [] n m e fits g plain is len =
      let z : n ≡ length tree.places = omega (arith, len) in
      subst (PlainAt whole) z (subst (λ w. PlainAt w n) is plain)
  all_plain (q ∷ ps) n m e fits g plain is len =
      let at = get_drop tree.places ps n q e in
      let b = below_of m.belows q.parent in
      let a = added_at base vars tree n q b.footing in
      let m' = grown m n b.layer a in
      let on = subst (GoesOn m') is (goes_all base vars tree m' (n + 1) ps) in
      let laid = laid_good base tree vars planned constraints noted whole m n g in
      let lt = layer_above m laid q.parent in
      let lgoes = subst (λ w. LayersGoOn m'.layers w.layers) is (layers_all base vars tree m' (n + 1) ps (laid_next m n b.layer a laid lt)) in
      let st = stands base tree vars planned constraints noted whole m n fits q at in
      let ok = place_ok base tree vars whole (length m.steps) b.layer q (needs_rows base.schema tree.places n) planned (planned.kinds q.ty) st.table b.footing (λ f is. (planned.kinds f.ty.name, planned.leads q.ty q.field f is)) st.fits
      (lies_above base tree vars planned constraints noted whole m n g q.parent) in
      let pl = placed base tree vars planned constraints noted whole m n fits q at on in
      let given : given_fits base tree.places whole.steps (out_of n b.layer (length m.steps) a) ≡ true =
      given_test base tree.places whole.steps st.table n q.parent (ap parent_in at) st.is_table (out_of n b.layer (length m.steps) a) refl (shown_taken base tree vars planned constraints noted whole m n fits q at on) in
      all_plain ps (n + 1) m' (drop_next tree.places ps n q e) (fits_next base tree vars planned constraints noted whole m n fits q at on)
      (good_next base tree whole m n b.layer a g lt ok pl lgoes given)
      (plain_next base tree vars planned constraints noted whole top m n fits g.laid plain q at on lt lgoes) is (omega (arith, len))

  plain : PlainAt whole (length tree.places)
  plain = all_plain tree.places 0 nothing_made refl (fits_nothing base tree vars planned constraints noted whole) (good_nothing base tree whole) (plain_nothing base tree vars planned constraints noted whole top) refl (omega arith)

  abbrev FieldOf : ℕ → ℕ → Type 0
  FieldOf k i = IsFieldOf base tree (drafted base tree vars) k i

  own_fetch : (k i j : ℕ) → FieldOf k i → FieldOf k j → i ≡ j
  own_fetch k i j h l = plain.own i j k (slice_get_within tree.places i h.place h.is_place) (slice_get_within tree.places j l.place l.is_place) h l

  -- ---- each fetch

  hung_as : (k i : ℕ) (f : FetchStep) (field : FieldOf k i) → slice_get whole.steps k ≡ Some (step.Fetch f)
      → HangsOn whole.steps (basis_above (basis_at whole.belows) field.place.parent) (out-FetchStep f).parent × IsBelowFetch k (basis_at whole.belows i)
  hung_as k i f field e =
      let r = plain.fetches k f e in
      let one : r.0 ≡ i = own_fetch k r.0 i r.1.field field in
      let same : r.1.field.place ≡ field.place = inside _ _ (sym r.1.field.is_place ∙ ap (slice_get tree.places) one ∙ field.is_place) in (
        subst (λ (p : Place). HangsOn whole.steps (basis_above (basis_at whole.belows) p.parent) (out-FetchStep f).parent) same r.1.hangs,
        subst (λ j. IsBelowFetch k (basis_at whole.belows j)) one r.1.below,
      )

  -- ---- what is under a root

  falls : (i a : ℕ) → above tree.places i ≡ Some a → a < i
  falls i a e = by (slice_get tree.places i) refl
    where
      by : (o : Option Place) → slice_get tree.places i ≡ o → a < i
      by None q = let z : None ≡ Some a = sym (ap parent_in q) ∙ e in cc
      by (Some p) q =
          let up : p.parent ≡ Some a = sym (ap parent_in q) ∙ e in
          (subst (StandsUnder base.schema planned.root tree.places i p) up (planned.is_tree.under i p q)).earlier

  under_too : (place : ℕ) (row : Row) → IsStart base tree (root.Field place row) → (k i : ℕ) → FieldOf k i → IsFrom base tree vars planned constraints noted whole top place i → is_under tree (root.Field place row) i ≡ true
  under_too place row start k i field from =
      let lt = slice_get_within tree.places i field.place field.is_place in
      let more = more_fuel (above tree.places) falls from.0 (suc (length tree.places)) i place (omega (arith, lt)) from.1 in
      elim (or_cases (i == place) (is_under tree (root.Field place row) i) more) [
        | inl t ↦
            let e : i ≡ place = eqb-true i place t in
            let same : field.place ≡ start.0 = inside _ _ (sym field.is_place ∙ ap (slice_get tree.places) e ∙ start.1) in
            absurd (not_both (does_of base.schema start.0) (subst (λ (p : Place). is_row_field (does_of base.schema p) ≡ true) same field.is_field) start.2)
        | inr t ↦ t
      ]

  used_under : (place : ℕ) (row : Row) → IsStart base tree (root.Field place row) → (k : ℕ) (f : FetchStep) → slice_get whole.steps k ≡ Some (step.Fetch f) → (out : List OutPlace)
      → Each (λ o. HoldsUsed whole.steps (FetchFrom base tree vars planned constraints noted whole top o.place) o.step) out
      → list_any (λ o. is_under tree (root.Field place row) o.place && is_in (used_by whole.steps o.step) k) out ≡ true
      → (i : ℕ) × FieldOf k i × (is_under tree (root.Field place row) i ≡ true)
  used_under place row start k f e [] h u = cc
  used_under place row start k f e (o ∷ out) h u =
      let r : Root = root.Field place row in
      elim (or_cases (is_under tree r o.place && is_in (used_by whole.steps o.step) k) _ u) [
        | inl t ↦
            let under = and_left (is_under tree r o.place) _ t in
            let uses = and_right (is_under tree r o.place) _ t in
            let fetch = each_is (FetchFrom base tree vars planned constraints noted whole top o.place) (used_by whole.steps o.step) k (h.0 (length whole.steps)) uses in
            let of = fetch f e in
            let from : IsFrom base tree vars planned constraints noted whole top place o.place = (suc (length tree.places), or_right (o.place == place) (is_under tree r o.place) under) in
            (of.0, of.1, under_too place row start k of.0 of.1 (of.2 place start from))
        | inr t ↦ used_under place row start k f e out h.1 t
      ]

  used_only : (r : Root) → IsStart base tree r → (k : ℕ) (f : FetchStep) → slice_get whole.steps k ≡ Some (step.Fetch f) → is_used tree (drafted base tree vars) r k ≡ true → (i : ℕ) × FieldOf k i × (is_under tree r i ≡ true)
  used_only root.Query start k f e u = let r = plain.fetches k f e in (r.0, r.1.field, refl)
  used_only (root.Field place row) start k f e u = used_under place row start k f e whole.out plain.outs u

  -- ---- the plan

  one_place : (k i j : ℕ) (field : FieldOf k i) (other : FieldOf k j) → field.place ≡ other.place
  one_place k i j field other = inside _ _ (sym field.is_place ∙ ap (slice_get tree.places) (own_fetch k i j field other) ∙ other.is_place)

  are_fetches : AreFetches base tree constraints (drafted base tree vars)
  unfolding drafted_serves
  are_fetches = record {
    serves = drafted_serves base tree vars planned constraints noted;
    only = λ k f e. let r = plain.fetches k f e in (r.0, r.1.field);
    flat = λ k f e. (plain.fetches k f e).1.flat;
    rows = λ k f e rows. let r = plain.fetches k f e in (r.0, r.1.field, r.1.rows rows);
    hangs = λ k i f field e. hung_as k i f field e;
    stands = λ k f e. (plain.fetches k f e).1.stands_;
    given = plain.given;
    used = used_only;
    one_root = λ r start k i j field other under. subst (λ n. is_under tree r n ≡ true) (own_fetch k i j field other) under;
    one_error = λ other fit hold k i j field same. ap (λ p. is_some (argument_error base other p)) (one_place k i j field same);
  }

  -- ---- what fetches tell

  -- the fetch of a field is what that adds
  made_by : (k i : ℕ) (f : FetchStep) (field : FieldOf k i) → slice_get whole.steps k ≡ Some (step.Fetch f) → (g : Footing) × (fetch_added (added_at base vars tree i field.place g) ≡ Some f)
  made_by k i f field e =
      let r = plain.fetches k f e in
      let one : r.0 ≡ i = own_fetch k r.0 i r.1.field field in
      let same : r.1.field.place ≡ field.place = one_place k r.0 i r.1.field field in
      (r.1.made.0, subst (λ j. fetch_added (added_at base vars tree j field.place r.1.made.0) ≡ Some f) one (subst (λ p. fetch_added (added_at base vars tree r.0 p r.1.made.0) ≡ Some f) same r.1.made.1))

  told : (other : Vars) → FitTree base other tree → Hold constraints other → (k i : ℕ) (f : FetchStep) (field : FieldOf k i) → slice_get whole.steps k ≡ Some (step.Fetch f) → Tells base other field.place f
  told other fit hold k i f field e =
      let made = made_by k i f field e in
      added_tells base vars other tree planned fit i field.place field.is_place
      (λ listed. noted_parts vars other field.place (noted_there base vars other tree (noted other hold) i field.place field.is_place listed))
      (needs_rows base.schema tree.places i) made.0 f (field_of base.schema field.place) refl made.1

  tells_windows : TellsWindows base tree constraints (drafted base tree vars)
  tells_windows other fit hold k i item f field e hung =
      let tells = told other fit hold k i f field e in
      (tells_part base other field.place f tells item hung, tells_error base other field.place f tells item hung)

  alike : (k l i j : ℕ) (f g : FetchStep) → (field : FieldOf k i) (other : FieldOf l j) → slice_get whole.steps k ≡ Some (step.Fetch f) → slice_get whole.steps l ≡ Some (step.Fetch g) → AreAlike field.place other.place → bare f ≡ bare g
  alike k l i j f g field other e is same =
      let made = made_by k i f field e in
      let made_too = made_by l j g other is in
      added_alike base vars tree.places field.place other.place (needs_rows base.schema tree.places i) (needs_rows base.schema tree.places j) made.0 made_too.0 f g same made.1 made_too.1

  same_error : (other : Vars) → FitTree base other tree → Hold constraints other → (k l i j : ℕ) (f g : FetchStep) → (field : FieldOf k i) (field_too : FieldOf l j) → slice_get whole.steps k ≡ Some (step.Fetch f) → slice_get whole.steps l ≡ Some (step.Fetch g)
      → bare f ≡ bare g → has_null_order other field.place ≡ has_null_order other field_too.place → is_some (argument_error base other field.place) ≡ is_some (argument_error base other field_too.place)
  same_error other fit hold k l i j f g field field_too e is same orders =
      (told other fit hold k i f field e).error
      ∙ ap (λ b. has_error base other b f) orders
      ∙ error_alike base other (has_null_order other field_too.place) f g same
      ∙ sym (told other fit hold l j g field_too is).error

  pub drafted_plain : IsPlain base tree constraints (drafted base tree vars)
  drafted_plain = record { fetches = are_fetches; own = own_fetch; tells = tells_windows; alike = alike; same_error = same_error }
