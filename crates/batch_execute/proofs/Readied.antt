-- Plans whose fetches are those of the row fields of their tree are ready to be run.
use Rattle.std.proofs.Common.{◌≡◌, ℕ, List, Option, Some, None, Bool, true, false, refl, sym, ap, ◌∙◌, subst, eq-eqb}
use Rattle.std.specs.Prelude.{slice_get, option_map, is_some, ◌==◌, ◌&&◌, ◌||◌, not, IsSomeAnd, IsTrue}
use Rattle.std.specs.Cmp.{second_so}
use Rattle.pg_base.specs.Base.{BaseParts}
use Rattle.pg_base.specs.declared.does.Does.{Does}
use Rattle.pg_base.specs.declared.does.Does.TheVariants as does
use Rattle.pg_base.specs.declared.schema.FieldDef.{FieldDef}
use Rattle.pg_base.specs.declared.value.Value.{Value}
use Rattle.pg_base.specs.declared.vars.Vars.{Vars}
use Rattle.rel_model.specs.declared.tables.Tables.{Tables}
use Rattle.place_tree.specs.declared.fetch.Fetch.{Fetch}
use Rattle.place_tree.specs.declared.fetch.Shape.{Shape}
use Rattle.place_tree.specs.declared.fetch.Shape.TheVariants as shape
use Rattle.place_tree.specs.declared.place.Place.{Place}
use Rattle.place_tree.specs.declared.place.Tree.{Tree}
use Rattle.place_tree.specs.Exec.{client_id, place_above}
use Rattle.place_tree.specs.Fetch.{fetch_of, argument_error}
use Rattle.place_tree.specs.Fields.{field_of, does_of, is_row_field}
use Rattle.place_tree.specs.Needs.{is_mutation}
use Rattle.place_tree.proofs.Folds.{same_place_true}
use Rattle.plan_constraints.specs.declared.constraint.Constraint.{Constraint}
use Rattle.plan_steps.specs.declared.plan.FetchStep.{FetchStep, out-FetchStep}
use Rattle.plan_steps.specs.declared.plan.OutPlace.{OutPlace}
use Rattle.plan_steps.specs.declared.plan.Plan.{Plan}
use Rattle.plan_steps.specs.declared.plan.Root.{Root}
use Rattle.plan_steps.specs.declared.plan.Root.TheVariants as root
use Rattle.plan_steps.specs.declared.plan.Step.{Step}
use Rattle.plan_steps.specs.declared.plan.Step.TheVariants as step
use Rattle.plan_steps.specs.Check.{has_key, own_fits, children_fit, width_of, item_has, parent_has, fetch_fits, is_checked}
use Rattle.plan_steps.specs.Denoted.{input_leaf, moment}
use Rattle.plan_steps.specs.Fetches.{has_fields, IsTreeOver, StandsWith, AreFetches}
use Rattle.plan_steps.specs.Named.{is_given_in, item_in, is_fetch, over, step_for}
use Rattle.plan_steps.specs.Sent.{is_row_field as is_asking, serves, has_no_error, serves_some, serves_well, may_ask}
use Rattle.plan_steps.specs.Serves.{Basis, OnNothing, OnRow, OnList, OnPage, OnEdge, OnPayload, OnGiven, IsListOn, below_fetch, input_of, OtherServes, ServesBy, basis_above}
use Rattle.plan_steps.specs.Sound.{MayRun}
use Rattle.plan_steps.specs.Under.{parent_in, above, root_place, is_under}
use Rattle.plan_steps.specs.Values.{Moment}
use Rattle.plan_steps.proofs.Due.{no_fetch}
use Rattle.plan_steps.proofs.Served.{IsTreeOf, tree_for}
use Rattle.batch_execute.specs.Ready.{shown_error, error_by, IsClear, at_top, below, fetch_shown, reads, FetchesAreReady}
use Rattle.batch_execute.specs.Roles.{role_by, role_with, role_of}
use Rattle.batch_execute.specs.Ways.{fetch_above}
use Rattle.batch_execute.proofs.Checked.{step_told}
use Rattle.batch_execute.proofs.Cleared.{and_both, or_right, any_shows, clear_under}
use Rattle.batch_execute.proofs.VisitsSame.{visits_same}

-- the fetch that is named by what places stand on
abbrev Names : Basis → ℕ → Type 0
Names (OnRow t) s = t ≡ s
Names (OnList t) s = t ≡ s
Names (OnPage t) s = t ≡ s
Names (OnEdge t) s = t ≡ s
Names OnNothing s = ⊥
Names OnPayload s = ⊥
Names OnGiven s = ⊥

list_names : (b : Basis) (s : ℕ) → IsListOn b s → Names b s
list_names (OnList t) s h = h
list_names (OnPage t) s h = h
list_names (OnRow t) s h = absurd h
list_names (OnEdge t) s h = absurd h
list_names OnNothing s h = absurd h
list_names OnPayload s h = absurd h
list_names OnGiven s h = absurd h

fetch_names : (sh : Shape) (k s : ℕ) → Names (below_fetch sh k) s → k ≡ s
fetch_names shape.List k s h = h
fetch_names shape.Row k s h = h

field_there : (o : Option FieldDef) → has_fields (option_map (λ f. f.does) o) ≡ true → is_some o ≡ true
field_there None h = cc
field_there (Some f) h = refl

does_field : (o : Option FieldDef) (d : Does) → option_map (λ f. f.does) o ≡ Some d → is_some o ≡ true
does_field None d h = cc
does_field (Some f) d h = refl

module _ (base : BaseParts) (plan : Plan) (tree : Tree) (constraints : List Constraint) (over_tree : IsTreeOver base tree) (ok : IsTrue (is_checked base tree plan)) (are : AreFetches base tree constraints plan) where
  -- ---- where fetches stand

  stands_by : (k : ℕ) (o : Option ℕ) → StandsWith plan.layers k o → ((p : ℕ) → o ≡ Some p → over plan.layers p ≡ fetch_above plan.steps (Some p)) → over plan.layers k ≡ fetch_above plan.steps o
  stands_by k None h above = h
  stands_by k (Some p) h above = h ∙ above p refl

  parent_row : (f : FetchStep) (columns : List ℕ) (p : ℕ) (o : Option Step) → slice_get plan.steps p ≡ o → (is_given_in o || item_has base.catalog plan.steps columns (item_in o)) ≡ true → over plan.layers p ≡ item_in o
  parent_row f columns p (Some (step.Item g)) at h =
      same_place_true (over plan.layers p) (Some g) (second_so (is_fetch plan.steps g) _ (step_told base tree plan ok p (step.Item g) at))
  parent_row f columns p (Some step.Given) at h = are.given p at
  parent_row f columns p (Some (step.Const v)) at h = cc
  parent_row f columns p (Some (step.Var v)) at h = cc
  parent_row f columns p (Some (step.Fetch g)) at h = cc
  parent_row f columns p (Some (step.Column i c)) at h = cc
  parent_row f columns p (Some (step.Count s)) at h = cc
  parent_row f columns p (Some (step.Page s part)) at h = cc
  parent_row f columns p (Some (step.CursorOf i)) at h = cc
  parent_row f columns p None at h = cc

  stands_is : (k : ℕ) (f : FetchStep) → slice_get plan.steps k ≡ Some (step.Fetch f) → over plan.layers k ≡ fetch_above plan.steps (out-FetchStep f).parent
  stands_is k f at =
      stands_by k (out-FetchStep f).parent (are.stands k f at) (λ p e.
      let fits : fetch_fits base.catalog plan.steps f ≡ true = step_told base tree plan ok k (step.Fetch f) at in
      let kids = second_so (own_fits base.catalog (out-FetchStep f)) _ fits in
      let key = second_so (children_fit base.catalog (width_of base.catalog (out-FetchStep f).table) (out-FetchStep f).children) _ kids in
      let has : parent_has base.catalog plan.steps f (out-FetchStep f).parent ≡ true = second_so (has_key f (out-FetchStep f).parent) _ key in
      parent_row f (out-FetchStep f).parent_columns p (slice_get plan.steps p) refl (sym (ap (parent_has base.catalog plan.steps f) e) ∙ has))

  -- ---- what a clear place reads

  module _ (tables : Tables) (vars : Vars) (r : Root) (may : MayRun base tree constraints tables vars r) where
    abbrev m : Moment
    m = moment base tables vars r

    of_tree : IsTreeOf base tree r
    of_tree = tree_for base tree r over_tree.made may.of_tree

    abbrev bases : ℕ → Basis
    bases = are.serves.bases

    abbrev basis_over : ℕ → Basis
    basis_over i = basis_above bases (above tree.places i)

    -- a row field of the fetch that is met without an error
    record IsClearField (s : ℕ) : Type 0 where
      at : ℕ
      place : Place
      is_place : slice_get tree.places at ≡ Some place
      is_out : step_for plan.out at ≡ Some s
      clear : IsClear base vars tree r at
      due : Fetch
      is_due : fetch_of base vars place ≡ Some due
      fine : argument_error base vars place ≡ None
      fetch : FetchStep
      is_fetch : slice_get plan.steps s ≡ Some (step.Fetch fetch)

    top_names : (o : Option ℕ) → o ≡ root_place r → (s : ℕ) → Names (basis_above bases o) s → ⊥
    top_names o e s n = by r refl (subst (λ q. Names (basis_above bases q) s) e n) where
      by : (q : Root) → r ≡ q → Names (basis_above bases (root_place q)) s → ⊥
      by root.Query is n = n
      by (root.Field place row) is n =
          let here = of_tree.field place row is in
          subst (λ b. Names b s) (are.serves.payloads place here.0 here.1 here.2) n

    -- a clear place is no mutation field
    no_mutation : (i : ℕ) → IsClear base vars tree r i → (p : Place) → slice_get tree.places i ≡ Some p → is_mutation (does_of base.schema p) ≡ false
    no_mutation i clear p at = by (is_mutation (does_of base.schema p)) refl where
      same : (q : Place) → slice_get tree.places i ≡ Some q → q.parent ≡ p.parent
      same q e = let z : Some q ≡ Some p = sym e ∙ at in let w : q ≡ p = cc in ap (λ (x : Place). x.parent) w

      at_root : p.parent ≡ None → (q : Root) → r ≡ q → p.parent ≡ root_place q → is_mutation (does_of base.schema p) ≡ false
      at_root none root.Query is e = of_tree.query is i p at
      at_root none (root.Field place row) is e = let z : None ≡ Some place = sym none ∙ e in cc

      by_clear : IsClear base vars tree r i → p.parent ≡ None → is_mutation (does_of base.schema p) ≡ false
      by_clear (at_top q e top none) root = at_root root r refl (sym (same q e) ∙ top)
      by_clear (below q j e up clear none) root = let z : None ≡ Some j = sym root ∙ sym (same q e) ∙ up in cc

      by : (b : Bool) → is_mutation (does_of base.schema p) ≡ b → is_mutation (does_of base.schema p) ≡ false
      by true e = by_clear clear (of_tree.at_root i p at e)
      by false e = e

    -- a clear row field is one of its fetch
    own_field : (i : ℕ) (p : Place) → slice_get tree.places i ≡ Some p → IsClear base vars tree r i → shown_error base vars p ≡ None → (k : ℕ) → step_for plan.out i ≡ Some k →
        is_row_field (does_of base.schema p) ≡ true → (f : FetchStep) → slice_get plan.steps k ≡ Some (step.Fetch f) → IsClearField k
    own_field i p at clear none k out row f is =
        let due = over_tree.asks i p vars at row in
        record {
          at = i;
          place = p;
          is_place = at;
          is_out = out;
          clear = clear;
          due = due.0;
          is_due = due.1;
          fine = sym (ap (error_by base vars p) due.1) ∙ none;
          fetch = f;
          is_fetch = is;
        }

    -- what the places below a clear place stand on, where it has fields
    names_step : (i : ℕ) (p : Place) → slice_get tree.places i ≡ Some p → IsClear base vars tree r i → shown_error base vars p ≡ None → has_fields (does_of base.schema p) ≡ true →
        ((s : ℕ) → Names (basis_above bases p.parent) s → IsClearField s) → (s : ℕ) → Names (bases i) s → IsClearField s
    names_step i p at clear none has up s n =
        let mut = no_mutation i clear p at in
        let sv = are.serves.each i p at mut in
        by_kind sv.at sv.is_out (is_row_field (does_of base.schema p)) refl sv.fits
      where
        by_does : (k : ℕ) (d : Option Does) → has_fields d ≡ true → is_row_field d ≡ false → is_mutation d ≡ false → OtherServes base tree plan.steps p (basis_above bases p.parent) (bases i) k d → IsClearField s
        by_does k None h row mut q = cc
        by_does k (Some (does.Column table column)) h row mut q = cc
        by_does k (Some (does.Forward table link)) h row mut q = cc
        by_does k (Some (does.Backward table link)) h row mut q = cc
        by_does k (Some (does.All table)) h row mut q = cc
        by_does k (Some (does.ByKey table key)) h row mut q = cc
        by_does k (Some (does.Create table)) h row mut q = cc
        by_does k (Some (does.Update table key)) h row mut q = cc
        by_does k (Some (does.Delete table key)) h row mut q = cc
        by_does k (Some does.Nodes) h row mut q = up s (subst (λ b. Names b s) (sym q.0) (let z : Names (OnRow k) s = subst (λ b. Names b s) q.1 n in z))
        by_does k (Some does.Edges) h row mut q = up s (subst (λ b. Names b s) (sym q.0) (let z : Names (OnEdge k) s = subst (λ b. Names b s) q.1 n in z))
        by_does k (Some does.PageInfo) h row mut q = up s (subst (λ b. Names b s) (sym q.0) (let z : Names (OnPage k) s = subst (λ b. Names b s) q.1 n in z))
        by_does k (Some does.Node) h row mut q = up s (subst (λ b. Names b s) (sym q.1) (let z : Names (OnRow q.0) s = subst (λ b. Names b s) q.2 n in z))
        by_does k (Some does.Payload) h row mut q = absurd (subst (λ b. Names b s) q.1 n)
        by_does k (Some does.Total) h row mut q = cc
        by_does k (Some does.HasNext) h row mut q = cc
        by_does k (Some does.HasPrevious) h row mut q = cc
        by_does k (Some does.Start) h row mut q = cc
        by_does k (Some does.End) h row mut q = cc
        by_does k (Some does.Cursor) h row mut q = cc
        by_does k (Some does.ClientId) h row mut q = cc

        by_kind : (k : ℕ) → step_for plan.out i ≡ Some k → (row : Bool) → is_row_field (does_of base.schema p) ≡ row → ServesBy row base tree constraints plan.steps i p (basis_above bases p.parent) (bases i) k → IsClearField s
        by_kind k out true row q =
            let due = over_tree.asks i p vars at row in
            let z = q.serves vars due.0 may.fit may.hold due.1 (sym (ap (error_by base vars p) due.1) ∙ none) in
            let same : k ≡ s = fetch_names due.0.shape k s (subst (λ b. Names b s) z.1 n) in
            subst IsClearField same (own_field i p at clear none k out row q.fetch q.is_fetch)
        by_kind k out false row q = by_does k (does_of base.schema p) has row (no_mutation i clear p at) q

    clear_place : (i : ℕ) → IsClear base vars tree r i → (p : Place) × (slice_get tree.places i ≡ Some p) × (shown_error base vars p ≡ None)
    clear_place i (at_top p at e none) = (p, at, none)
    clear_place i (below p j at e clear none) = (p, at, none)

    over_is : (i : ℕ) (p : Place) → slice_get tree.places i ≡ Some p → above tree.places i ≡ p.parent
    over_is i p at = ap parent_in at

    -- what a clear place with a field stands on
    names_above : (i : ℕ) → IsClear base vars tree r i → ((p : Place) → slice_get tree.places i ≡ Some p → is_some (field_of base.schema p) ≡ true) → (s : ℕ) → Names (basis_over i) s → IsClearField s
    names_above i (at_top p at e none) field s n = absurd (top_names (above tree.places i) (over_is i p at ∙ e) s n)
    names_above i (below p j at e clear none) field s n =
        let of = clear_place j clear in
        let has : has_fields (does_of base.schema of.0) ≡ true = over_tree.above i p j of.0 at e of.1 (field p at) in
        let here : Names (bases j) s = subst (λ o. Names (basis_above bases o) s) (over_is i p at ∙ e) n in
        names_step j of.0 of.1 clear of.2 has
        (λ t k. names_above j clear (λ q there. (let same : Some of.0 ≡ Some q = sym of.1 ∙ there in let w : of.0 ≡ q = cc in subst (λ (x : Place). is_some (field_of base.schema x) ≡ true) w (field_there (field_of base.schema of.0) has))) t
        (subst (λ o. Names (basis_above bases o) t) (sym (over_is j of.0 of.1)) k))
        s here

    -- ---- it serves a field without an error

    clear_asks : (s : ℕ) → IsClearField s → may_ask m tree r plan.out s ≡ true
    clear_asks s c = or_right (not (serves_some m tree r plan.out s)) (serves_well m tree r plan.out s)
        (any_shows (λ o. serves m tree r s o (slice_get tree.places o.place) && has_no_error m (slice_get tree.places o.place)) plan.out c.at s c.is_out (λ o place step_is. shows o place step_is)) where
          shows : (o : OutPlace) → o.place ≡ c.at → o.step ≡ s → (serves m tree r s o (slice_get tree.places o.place) && has_no_error m (slice_get tree.places o.place)) ≡ true
          shows o place step_is =
              let there : slice_get tree.places o.place ≡ Some c.place = ap (slice_get tree.places) place ∙ c.is_place in
              let under : is_under tree r o.place ≡ true = ap (is_under tree r) place ∙ clear_under base vars tree over_tree.earlier r c.at c.clear in
              let field : serves m tree r s o (slice_get tree.places o.place) ≡ true =
              ap (serves m tree r s o) there
              ∙ and_both (o.step == s) _ (eq-eqb o.step s step_is) (and_both (is_under tree r o.place) _ under (ap is_asking c.is_due)) in
              let fine : has_no_error m (slice_get tree.places o.place) ≡ true = ap (has_no_error m) there ∙ ap (λ x. not (is_some x)) c.fine in
              and_both _ _ field fine

    -- ---- what a place reads

    shown_fetch : (k s : ℕ) (f : FetchStep) (o : Option Step) → o ≡ Some (step.Fetch f) → fetch_shown k o ≡ Some s → k ≡ s
    shown_fetch k s f o is e = let z : Some k ≡ Some s = sym (ap (fetch_shown k) is) ∙ e in cc

    shown_none : {A : Type 0} (k s : ℕ) (o : Option Step) (x : Step) → o ≡ Some x → fetch_shown k (Some x) ≡ None → fetch_shown k o ≡ Some s → A
    shown_none k s o x is none e = let z : None ≡ Some s = sym none ∙ sym (ap (fetch_shown k) is) ∙ e in cc

    input_shown : {A : Type 0} (k s : ℕ) (P : Value → Type 0) (o : Option Step) → IsSomeAnd (input_of vars o) P → fetch_shown k o ≡ Some s → A
    input_shown k s P (Some (step.Fetch f)) h e = absurd h
    input_shown k s P (Some (step.Count t)) h e = absurd h
    input_shown k s P (Some (step.Page t part)) h e = absurd h
    input_shown k s P (Some (step.Const v)) h e = cc
    input_shown k s P (Some (step.Var v)) h e = cc
    input_shown k s P (Some step.Given) h e = cc
    input_shown k s P (Some (step.Item g)) h e = cc
    input_shown k s P (Some (step.Column i c)) h e = cc
    input_shown k s P (Some (step.CursorOf i)) h e = cc
    input_shown k s P None h e = cc

    reads_field : (i : ℕ) (p : Place) (k s : ℕ) → slice_get tree.places i ≡ Some p → IsClear base vars tree r i → reads (role_of base vars tree.places i p) ≡ true → step_for plan.out i ≡ Some k → fetch_shown k (slice_get plan.steps k) ≡ Some s → IsClearField s
    reads_field i p k s at clear uses shows fetch =
        let mut = no_mutation i clear p at in
        let sv = are.serves.each i p at mut in
        let same : sv.at ≡ k = (let z : Some sv.at ≡ Some k = sym sv.is_out ∙ shows in cc) in
        by_kind (is_row_field (does_of base.schema p)) refl (subst (λ j. ServesBy (is_row_field (does_of base.schema p)) base tree constraints plan.steps i p (basis_above bases p.parent) (bases i) j) same sv.fits)
      where
        none_there : shown_error base vars p ≡ None
        none_there = let of = clear_place i clear in (let z : Some of.0 ≡ Some p = sym of.1 ∙ at in let w : of.0 ≡ p = cc in subst (λ (x : Place). shown_error base vars x ≡ None) w of.2)

        -- by what it stands on
        over_names : (d : Does) → does_of base.schema p ≡ Some d → (t : ℕ) → Names (basis_above bases p.parent) t → t ≡ s → IsClearField s
        over_names d is t n e =
            subst IsClearField e
            (names_above i clear (λ q there. (let z : Some p ≡ Some q = sym at ∙ there in let w : p ≡ q = cc in subst (λ (x : Place). is_some (field_of base.schema x) ≡ true) w (does_field (field_of base.schema p) d is))) t
            (subst (λ o. Names (basis_above bases o) t) (sym (over_is i p at)) n))

        -- a list that is shown is that of the step
        list_field : (d : Does) → does_of base.schema p ≡ Some d → basis_above bases p.parent ≡ OnList k → IsClearField s
        list_field d is on =
            let field = over_names_at d is k (subst (λ b. Names b k) (sym on) refl) in
            let same : k ≡ s = shown_fetch k s field.fetch (slice_get plan.steps k) field.is_fetch fetch in
            subst IsClearField same field
          where
            over_names_at : (d : Does) → does_of base.schema p ≡ Some d → (t : ℕ) → Names (basis_above bases p.parent) t → IsClearField t
            over_names_at d is t n =
                names_above i clear (λ q there. (let z : Some p ≡ Some q = sym at ∙ there in let w : p ≡ q = cc in subst (λ (x : Place). is_some (field_of base.schema x) ≡ true) w (does_field (field_of base.schema p) d is))) t
                (subst (λ o. Names (basis_above bases o) t) (sym (over_is i p at)) n)

        page_names : (t part : ℕ) (d : Does) → does_of base.schema p ≡ Some d → slice_get plan.steps k ≡ Some (step.Page t part) → basis_above bases p.parent ≡ OnPage t → IsClearField s
        page_names t part d is page on =
            over_names d is t (subst (λ b. Names b t) (sym on) refl) (let z : Some t ≡ Some s = sym (ap (fetch_shown k) page) ∙ fetch in cc)

        silent : (d : Does) → does_of base.schema p ≡ Some d → is_row_field (does_of base.schema p) ≡ false → reads (role_by (Some d)) ≡ false → IsClearField s
        silent d is row quiet =
            let role : reads (role_of base vars tree.places i p) ≡ reads (role_by (does_of base.schema p)) = ap (λ o. reads (role_with base vars tree.places i p o)) (no_fetch base vars p row) in
            let z : true ≡ false = sym uses ∙ role ∙ ap (λ o. reads (role_by o)) is ∙ quiet in cc

        by_does : (o : Option Does) → does_of base.schema p ≡ o → is_row_field (does_of base.schema p) ≡ false → is_row_field o ≡ false → is_mutation o ≡ false → OtherServes base tree plan.steps p (basis_above bases p.parent) (bases i) k o → IsClearField s
        by_does None is other row mut q = shown_none k s (slice_get plan.steps k) _ q refl fetch
        by_does (Some (does.Column table column)) is other row mut q = shown_none k s (slice_get plan.steps k) _ q.1 refl fetch
        by_does (Some (does.Forward table link)) is other row mut q = cc
        by_does (Some (does.Backward table link)) is other row mut q = cc
        by_does (Some (does.All table)) is other row mut q = cc
        by_does (Some (does.ByKey table key)) is other row mut q = cc
        by_does (Some (does.Create table)) is other row mut q = cc
        by_does (Some (does.Update table key)) is other row mut q = cc
        by_does (Some (does.Delete table key)) is other row mut q = cc
        by_does (Some does.Nodes) is other row mut q = list_field does.Nodes is q.0
        by_does (Some does.Edges) is other row mut q = list_field does.Edges is q.0
        by_does (Some does.PageInfo) is other row mut q = silent does.PageInfo is other refl
        by_does (Some does.Node) is other row mut q = silent does.Node is other refl
        by_does (Some does.Payload) is other row mut q = silent does.Payload is other refl
        by_does (Some does.Total) is other row mut q = over_names does.Total is q.0 (list_names (basis_above bases p.parent) q.0 q.2) (let z : Some q.0 ≡ Some s = sym (ap (fetch_shown k) q.1) ∙ fetch in cc)
        by_does (Some does.HasNext) is other row mut q = page_names q.0 0 does.HasNext is q.1 q.2
        by_does (Some does.HasPrevious) is other row mut q = page_names q.0 1 does.HasPrevious is q.1 q.2
        by_does (Some does.Start) is other row mut q = page_names q.0 2 does.Start is q.1 q.2
        by_does (Some does.End) is other row mut q = page_names q.0 3 does.End is q.1 q.2
        by_does (Some does.Cursor) is other row mut q = shown_none k s (slice_get plan.steps k) _ q.2 refl fetch
        by_does (Some does.ClientId) is other row mut q = input_shown k s (λ v. input_leaf v ≡ client_id vars (place_above tree.places p)) (slice_get plan.steps k) (q vars may.fit) fetch

        by_kind : (row : Bool) → is_row_field (does_of base.schema p) ≡ row → ServesBy row base tree constraints plan.steps i p (basis_above bases p.parent) (bases i) k → IsClearField s
        by_kind true row q =
            let same : k ≡ s = shown_fetch k s q.fetch (slice_get plan.steps k) q.is_fetch fetch in
            subst IsClearField same (own_field i p at clear none_there k shows row q.fetch q.is_fetch)
        by_kind false row q = by_does (does_of base.schema p) refl row row (no_mutation i clear p at) q

-- ---- the law

pub fetches_ready : FetchesAreReady
fetches_ready base plan tree constraints over_tree ok are = record {
  earlier = over_tree.earlier;
  stands = stands_is base plan tree constraints over_tree ok are;
  asks = λ tables vars r may i p k s at clear uses shows fetch.
      clear_asks base plan tree constraints over_tree ok are tables vars r may s (reads_field base plan tree constraints over_tree ok are tables vars r may i p k s at clear uses shows fetch);
  visits = λ tables vars r may.
      visits_same base tables vars plan tree constraints r (record {
        over_tree = over_tree;
        checked = ok;
        are = are;
        fit = may.fit;
        hold = may.hold;
        valid = may.valid;
        of_tree = tree_for base tree r over_tree.made may.of_tree;
      });
}
