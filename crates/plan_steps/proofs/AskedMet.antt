-- An asked fetch is met where it serves a field.
use Rattle.std.proofs.Common.{◌≡◌, ℕ, zero, suc, ◌+◌, ◌<◌, ◌≤◌, List, [], ◌∷◌, ◌++◌, map, length, Option, Some, None, Bool, true, false, refl, sym, ap, ◌∙◌, subst, arith, inl, inr}
use Rattle.std.specs.Prelude.{slice_get, is_some, option_map}
use Rattle.pg_base.specs.declared.does.Does.{Does}
use Rattle.pg_base.specs.declared.does.Does.TheVariants as does
use Rattle.pg_base.specs.declared.schema.FieldDef.{FieldDef}
use Rattle.rel_model.specs.declared.tables.Row.{Row}
use Rattle.place_tree.specs.declared.fetch.Fetch.{Fetch}
use Rattle.place_tree.specs.declared.fetch.Shape.{Shape}
use Rattle.place_tree.specs.declared.fetch.Shape.TheVariants as shape
use Rattle.place_tree.specs.declared.place.Place.{Place}
use Rattle.place_tree.specs.declared.place.Tree.{Tree}
use Rattle.place_tree.specs.Exec.{first_row}
use Rattle.place_tree.specs.Fetch.{fetch_of, argument_error}
use Rattle.place_tree.specs.Fields.{field_of, does_of, is_row_field}
use Rattle.place_tree.specs.Needs.{is_mutation}
use Rattle.plan_constraints.specs.declared.constraint.Constraint.{Constraint}
use Rattle.plan_steps.specs.declared.plan.Plan.{Plan}
use Rattle.plan_steps.specs.declared.plan.Root.{Root}
use Rattle.plan_steps.specs.declared.plan.Root.TheVariants as root
use Rattle.plan_steps.specs.Denoted.{onto, one_row, row_shown, by_error, by_fetch, by_field, other_shown, shown_at, denoted}
use Rattle.plan_steps.specs.Fetches.{has_fields, IsFieldOf, IsBelowFetch}
use Rattle.plan_steps.specs.Named.{step_for}
use Rattle.plan_steps.specs.Sent.{extended, rows_at}
use Rattle.plan_steps.specs.Serves.{Basis, OnNothing, OnRow, OnList, OnPage, OnEdge, OnPayload, OnGiven, below_fetch, OtherServes, ServesBy, basis_above}
use Rattle.plan_steps.specs.Under.{root_place, is_under}
use Rattle.plan_steps.specs.Values.{Moment, Path, listing_in, val_at, all_vals}
use Rattle.plan_steps.proofs.Asked.{asked, paths, asked_is, Live, MetAt, field_paths, Stood, field_stood, fields_fine, field_live}
use Rattle.plan_steps.proofs.Due.{no_fetch}
use Rattle.plan_steps.proofs.Meetings.{flat, flat_one, flat_same, states}
use Rattle.plan_steps.proofs.Reached.{NoError, Reached, at_top, under, meets_top, meets_under, reached_under}
use Rattle.plan_steps.proofs.Running.{Running, one_found}
use Rattle.plan_steps.proofs.Served.{IsTreeOf}
use Rattle.plan_steps.proofs.Unders.{above_at, under_cases, under_mutation}
use Rattle.plan_steps.proofs.Visits.{Visit, visits, met}

has_field : (o : Option FieldDef) → has_fields (option_map (λ f. f.does) o) ≡ true → is_some o ≡ true
has_field None h = cc
has_field (Some f) h = refl

row_has_field : (o : Option FieldDef) → is_row_field (option_map (λ f. f.does) o) ≡ true → is_some o ≡ true
row_has_field None h = cc
row_has_field (Some f) h = refl

one_place : (i : ℕ) (p q : Place) (places : List Place) → slice_get places i ≡ Some p → slice_get places i ≡ Some q → p ≡ q
one_place i p q places e h = cc

module _ (m : Moment) (plan : Plan) (tree : Tree) (r : Root) (constraints : List Constraint) (run : Running m plan tree r constraints) where
  abbrev bases : ℕ → Basis
  bases = run.are.serves.bases

  abbrev vs : List Visit
  vs = visits m plan tree r

  abbrev Here : Basis → List Path → Type 0
  Here b ps = MetAt m plan tree r constraints run b ps

  abbrev rows_of : ℕ → Path → List Row
  rows_of k path = rows_at m plan.steps k path

  -- ---- what is met below a place

  shown_row : (a k : ℕ) (q : Place) → step_for plan.out a ≡ Some k → (due : Fetch) → fetch_of m.base m.vars q ≡ Some due → argument_error m.base m.vars q ≡ None → (path : Path) →
      denoted m plan a q path ≡ row_shown due.shape k path (listing_in (val_at (all_vals m plan.steps path) k))
  shown_row a k q out due is fine path =
      let vals = all_vals m plan.steps path in
      ap (λ o. shown_at m q o path vals) out
      ∙ ap (λ o. by_fetch m.base m.vars q o k path (val_at vals k)) is
      ∙ ap (λ e. by_error e (row_shown due.shape k path (listing_in (val_at vals k)))) fine

  shown_other : (a k : ℕ) (q : Place) → step_for plan.out a ≡ Some k → is_row_field (does_of m.base.schema q) ≡ false → (f : FieldDef) → field_of m.base.schema q ≡ Some f → (d : Does) → f.does ≡ d → (path : Path) →
      denoted m plan a q path ≡ other_shown m.base.schema f.ty d k path (val_at (all_vals m plan.steps path) k)
  shown_other a k q out row f is d e path =
      let vals = all_vals m plan.steps path in
      ap (λ o. shown_at m q o path vals) out
      ∙ ap (λ o. by_fetch m.base m.vars q o k path (val_at vals k)) (no_fetch m.base m.vars q row)
      ∙ ap (λ o. by_field m.base o k path (val_at vals k)) is
      ∙ ap (λ x. other_shown m.base.schema f.ty x k path (val_at vals k)) e

  extended_flat : (k : ℕ) (ps : List Path) → extended (rows_of k) k ps ≡ flat (λ path. map (onto k path) (rows_of k path)) ps
  extended_flat k [] = refl
  extended_flat k (p ∷ ps) = ap (λ l. map (onto k p) (rows_of k p) ++ l) (extended_flat k ps)

  one_each : (k : ℕ) (path : Path) (rows : List Row) → length rows ≤ 1 → states (one_row k path (first_row rows)) ≡ map (onto k path) rows
  one_each k path [] le = refl
  one_each k path (row ∷ []) le = refl
  one_each k path (row ∷ other ∷ rows) le = absurd (omega (arith, le))

  shape_meets : (k : ℕ) (sh : Shape) (below : Basis) → below ≡ below_fetch sh k → Live m plan tree r constraints run k → (ps : List Path) → paths m plan tree r constraints run k ≡ ps → (sh ≡ shape.Row → (path : Path) → length (rows_of k path) ≤ 1) →
      Here below (flat (λ t. states (row_shown sh k t (listing_in (val_at (all_vals m plan.steps t) k)))) ps)
  shape_meets k shape.List below e live ps is one =
      subst (λ b. Here b (flat (λ t. states (row_shown shape.List k t (listing_in (val_at (all_vals m plan.steps t) k)))) ps)) (sym e) (live, flat_one _ (λ t. refl) ps ∙ sym is)
  shape_meets k shape.Row below e live ps is one =
      subst (λ b. Here b (flat (λ t. states (row_shown shape.Row k t (listing_in (val_at (all_vals m plan.steps t) k)))) ps)) (sym e)
      (live, flat_same _ _ (λ t. one_each k t (rows_of k t) (one refl t)) ps ∙ sym (extended_flat k ps) ∙ ap (extended (rows_of k) k) (sym is))

  moved : (b g : Basis) (ps : List Path) → g ≡ b → Here b ps → Here g ps
  moved b g ps e there = subst (λ x. Here x ps) (sym e) there

  other_meets : (a k : ℕ) (q : Place) → step_for plan.out a ≡ Some k → is_row_field (does_of m.base.schema q) ≡ false → (b : Basis) (ps : List Path) → Here b ps → (f : FieldDef) → field_of m.base.schema q ≡ Some f → (d : Does) → f.does ≡ d → has_fields (Some d) ≡ true → is_mutation (Some d) ≡ false → is_row_field (Some d) ≡ false →
      OtherServes m.base tree plan.steps q b (bases a) k (Some d) → Here (bases a) (flat (λ t. states (denoted m plan a q t)) ps)
  other_meets a k q out row b ps there f is does.Nodes e has mut other s =
      let z = moved b (OnList k) ps (sym s.0) there in
      moved (OnRow k) (bases a) _ s.1
      (z.0, flat_same _ _ (λ t. ap states (shown_other a k q out row f is does.Nodes e t)) ps ∙ sym (extended_flat k ps) ∙ ap (extended (rows_of k) k) z.1)
  other_meets a k q out row b ps there f is does.Edges e has mut other s =
      let z = moved b (OnList k) ps (sym s.0) there in
      moved (OnEdge k) (bases a) _ s.1
      (z.0, flat_same _ _ (λ t. ap states (shown_other a k q out row f is does.Edges e t)) ps ∙ sym (extended_flat k ps) ∙ ap (extended (rows_of k) k) z.1)
  other_meets a k q out row b ps there f is does.PageInfo e has mut other s =
      let z = moved b (OnList k) ps (sym s.0) there in
      moved (OnPage k) (bases a) _ s.1 (z.0, flat_one _ (λ t. ap states (shown_other a k q out row f is does.PageInfo e t)) ps ∙ z.1)
  other_meets a k q out row b ps there f is does.Node e has mut other s =
      let z = moved b (OnEdge s.0) ps (sym s.1) there in
      moved (OnRow s.0) (bases a) _ s.2 (z.0, flat_one _ (λ t. ap states (shown_other a k q out row f is does.Node e t)) ps ∙ z.1)
  other_meets a k q out row b ps there f is does.Payload e has mut other s =
      let z = moved b OnPayload ps (sym s.0) there in
      moved OnGiven (bases a) _ s.1 (flat_one _ (λ t. ap states (shown_other a k q out row f is does.Payload e t)) ps ∙ z)
  other_meets a k q out row b ps there f is (does.All t) e has mut other s = cc
  other_meets a k q out row b ps there f is (does.ByKey t c) e has mut other s = cc
  other_meets a k q out row b ps there f is (does.Forward t c) e has mut other s = cc
  other_meets a k q out row b ps there f is (does.Backward t c) e has mut other s = cc
  other_meets a k q out row b ps there f is (does.Create t) e has mut other s = cc
  other_meets a k q out row b ps there f is (does.Update t c) e has mut other s = cc
  other_meets a k q out row b ps there f is (does.Delete t c) e has mut other s = cc
  other_meets a k q out row b ps there f is (does.Column t c) e has mut other s = cc
  other_meets a k q out row b ps there f is does.Total e has mut other s = cc
  other_meets a k q out row b ps there f is does.HasNext e has mut other s = cc
  other_meets a k q out row b ps there f is does.HasPrevious e has mut other s = cc
  other_meets a k q out row b ps there f is does.Start e has mut other s = cc
  other_meets a k q out row b ps there f is does.End e has mut other s = cc
  other_meets a k q out row b ps there f is does.Cursor e has mut other s = cc
  other_meets a k q out row b ps there f is does.ClientId e has mut other s = cc

  place_meets : (a : ℕ) (q : Place) → slice_get tree.places a ≡ Some q → is_under tree r a ≡ true → NoError m.base m.vars q → has_fields (does_of m.base.schema q) ≡ true → (ps : List Path) → Here (basis_above bases q.parent) ps →
      (k : ℕ) → step_for plan.out a ≡ Some k → (rows : Bool) → is_row_field (does_of m.base.schema q) ≡ rows → ServesBy rows m.base tree constraints plan.steps a q (basis_above bases q.parent) (bases a) k →
      Here (bases a) (flat (λ t. states (denoted m plan a q t)) ps)
  place_meets a q at u fine has ps there k out true row s =
      let field : IsFieldOf m.base tree plan k a = record { place = q; is_place = at; is_field = row; is_out = out } in
      let due = run.over_tree.asks a q m.vars at row in
      let z = s.serves m.vars due.0 run.fit run.hold due.1 (fine row) in
      let live = field_live m plan tree r constraints run k a s.fetch s.is_fetch field u (fine row) in
      let is = field_paths m plan tree r constraints run k s.fetch s.is_fetch (basis_above bases q.parent) (run.are.hangs k a s.fetch field s.is_fetch).0 ps there in
      subst (Here (bases a)) (sym (flat_same _ _ (λ t. ap states (shown_row a k q out due.0 due.1 (fine row) t)) ps))
      (shape_meets k due.0.shape (bases a) z.1 live ps is (λ one path. one_found m plan tree r constraints run (basis_above bases q.parent) a q k s.fetch s.is_fetch due.0 due.1 z.0 one path))
  place_meets a q at u fine has ps there k out false row s = by_definition (field_of m.base.schema q) refl where
    by_definition : (o : Option FieldDef) → field_of m.base.schema q ≡ o → Here (bases a) (flat (λ t. states (denoted m plan a q t)) ps)
    by_definition None e = let z = sym has ∙ ap (λ o. has_fields (option_map (λ f. f.does) o)) e in cc
    by_definition (Some f) e =
        let d = ap (option_map (λ f. f.does)) e in
        other_meets a k q out row (basis_above bases q.parent) ps there f e f.does refl (sym (ap has_fields d) ∙ has)
        (sym (ap is_mutation d) ∙ under_mutation m.base tree run.over_tree r run.of_tree a q at u) (sym (ap is_row_field d) ∙ row)
        (subst (λ o. OtherServes m.base tree plan.steps q (basis_above bases q.parent) (bases a) k o) d s)

  -- where a reached place is met
  met_top : (x : Root) → IsTreeOf m.base tree x → (i : ℕ) (p : Place) → slice_get tree.places i ≡ Some p → p.parent ≡ root_place x → met i vs ≡ [] ∷ [] → Here (basis_above bases p.parent) (met i vs)
  met_top root.Query of_tree i p is e once = moved OnNothing (basis_above bases p.parent) _ (ap (basis_above bases) e) once
  met_top (root.Field place row) of_tree i p is e once =
      let z = of_tree.field place row refl in
      moved OnPayload (basis_above bases p.parent) _ (ap (basis_above bases) e ∙ run.are.serves.payloads place z.0 z.1 z.2) once

  met_at : (i : ℕ) → Reached m.base m.vars tree r i → (p : Place) → slice_get tree.places i ≡ Some p → Here (basis_above bases p.parent) (met i vs)
  met_at i (at_top q at e) p is = met_top r run.of_tree i p is (ap (λ x. x.parent) (one_place i p q tree.places is at) ∙ e) (meets_top m plan tree r run.over_tree i q at e)
  met_at i (under a o q at e above has fine re) p is =
      let u = reached_under m plan tree r run.over_tree a re in
      let sv = run.are.serves.each a q above (under_mutation m.base tree run.over_tree r run.of_tree a q above u) in
      let up = ap (λ x. x.parent) (one_place i p o tree.places is at) ∙ e in
      moved (bases a) (basis_above bases p.parent) (met i vs) (ap (basis_above bases) up)
      (subst (Here (bases a)) (sym (meets_under m plan tree r run.over_tree i o a q at e above re))
      (place_meets a q above u fine has (met a vs) (met_at a re q above) sv.at sv.is_out (is_row_field (does_of m.base.schema q)) refl sv.fits))

  -- ---- an asked fetch is met

  abbrev Up : Basis → Type 0
  Up b = Stood m plan tree r constraints run b

  by_below : (k : ℕ) (b : Basis) → IsBelowFetch k b → Up b → asked m plan tree r constraints run k ≡ true
  by_below k (OnList g) is st = subst (λ j. asked m plan tree r constraints run j ≡ true) is st
  by_below k (OnRow g) is st = subst (λ j. asked m plan tree r constraints run j ≡ true) is st
  by_below k _ is st = absurd is

  moved_up : (b g : Basis) → g ≡ b → Up b → Up g
  moved_up b g e st = subst Up (sym e) st

  other_stood : (a k : ℕ) (q : Place) (b : Basis) (d : Option Does) → has_fields d ≡ true → is_mutation d ≡ false → is_row_field d ≡ false → OtherServes m.base tree plan.steps q b (bases a) k d → Up (bases a) → Up b
  other_stood a k q b (Some does.Nodes) has mut row s st = moved_up (OnList k) b s.0 (moved_up (bases a) (OnRow k) (sym s.1) st)
  other_stood a k q b (Some does.Edges) has mut row s st = moved_up (OnList k) b s.0 (moved_up (bases a) (OnEdge k) (sym s.1) st)
  other_stood a k q b (Some does.PageInfo) has mut row s st = moved_up (OnList k) b s.0 (moved_up (bases a) (OnPage k) (sym s.1) st)
  other_stood a k q b (Some does.Node) has mut row s st = moved_up (OnEdge s.0) b s.1 (moved_up (bases a) (OnRow s.0) (sym s.2) st)
  other_stood a k q b (Some does.Payload) has mut row s st = moved_up OnPayload b s.0 tt
  other_stood a k q b (Some (does.All t)) has mut row s st = cc
  other_stood a k q b (Some (does.ByKey t c)) has mut row s st = cc
  other_stood a k q b (Some (does.Forward t c)) has mut row s st = cc
  other_stood a k q b (Some (does.Backward t c)) has mut row s st = cc
  other_stood a k q b (Some (does.Create t)) has mut row s st = cc
  other_stood a k q b (Some (does.Update t c)) has mut row s st = cc
  other_stood a k q b (Some (does.Delete t c)) has mut row s st = cc
  other_stood a k q b _ has mut row s st = cc

  up_stood : (a : ℕ) (q : Place) → slice_get tree.places a ≡ Some q → is_under tree r a ≡ true → has_fields (does_of m.base.schema q) ≡ true → (k : ℕ) → step_for plan.out a ≡ Some k → (rows : Bool) → is_row_field (does_of m.base.schema q) ≡ rows →
      ServesBy rows m.base tree constraints plan.steps a q (basis_above bases q.parent) (bases a) k → Up (bases a) → Up (basis_above bases q.parent) × NoError m.base m.vars q
  up_stood a q at u has k out true row s st =
      let field : IsFieldOf m.base tree plan k a = record { place = q; is_place = at; is_field = row; is_out = out } in
      let hang = run.are.hangs k a s.fetch field s.is_fetch in
      let is = asked_is m plan tree r constraints run k (by_below k (bases a) hang.1 st) in
      (field_stood m plan tree r constraints run k is s.fetch s.is_fetch (basis_above bases q.parent) hang.0, λ h. fields_fine m plan tree r constraints run k is a field u)
  up_stood a q at u has k out false row s st =
      (other_stood a k q (basis_above bases q.parent) (does_of m.base.schema q) has (under_mutation m.base tree run.over_tree r run.of_tree a q at u) row s st, λ h. let z = sym row ∙ h in cc)

  reach : (n i : ℕ) → i < n → (p : Place) → slice_get tree.places i ≡ Some p → is_some (field_of m.base.schema p) ≡ true → is_under tree r i ≡ true → Up (basis_above bases p.parent) → Reached m.base m.vars tree r i
  reach zero i lt p at field u st = absurd (omega (arith, lt))
  reach (suc n) i lt p at field u st =
      elim (under_cases m.base tree run.over_tree r i p at u) [
        | inl e ↦ at_top p at e
        | inr z ↦
            let a = z.0 in
            let q = above_at m.base tree run.over_tree i p a at z.1 in
            let less = run.over_tree.earlier i p a at z.1 in
            let has = run.over_tree.above i p a q.0 at z.1 q.1 field in
            let sv = run.are.serves.each a q.0 q.1 (under_mutation m.base tree run.over_tree r run.of_tree a q.0 q.1 z.2) in
            let s = up_stood a q.0 q.1 z.2 has sv.at sv.is_out (is_row_field (does_of m.base.schema q.0)) refl sv.fits (moved_up (basis_above bases p.parent) (bases a) (sym (ap (basis_above bases) z.1)) st) in
            under a p q.0 at z.1 q.1 has s.1 (reach n a (omega (arith, less, lt)) q.0 q.1 (has_field (field_of m.base.schema q.0) has) z.2 s.0)
      ]

  -- the law: an asked fetch is met where any field of it under the root stands, and this has no error
  pub asked_met : (k : ℕ) → asked m plan tree r constraints run k ≡ true → (i : ℕ) (field : IsFieldOf m.base tree plan k i) → is_under tree r i ≡ true → (paths m plan tree r constraints run k ≡ met i vs) × (argument_error m.base m.vars field.place ≡ None)
  asked_met k e i field u =
      let is = asked_is m plan tree r constraints run k e in
      let hang = (run.are.hangs k i is.fetch field is.is_step).0 in
      let st = field_stood m plan tree r constraints run k is is.fetch is.is_step (basis_above bases field.place.parent) hang in
      let re = reach (i + 1) i (omega arith) field.place field.is_place (row_has_field (field_of m.base.schema field.place) field.is_field) u st in
      (field_paths m plan tree r constraints run k is.fetch is.is_step (basis_above bases field.place.parent) hang (met i vs) (met_at i re field.place field.is_place), fields_fine m plan tree r constraints run k is i field u)
