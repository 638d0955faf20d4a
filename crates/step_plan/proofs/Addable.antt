-- What each field adds may be added.
use Rattle.std.proofs.Common.{◌≡◌, ℕ, zero, suc, ◌+◌, ◌<◌, List, [], ◌∷◌, ◌||◌, length, Option, Some, None, Bool, true, false, refl, sym, ap, ◌∙◌, subst, arith}
use Rattle.std.specs.Prelude.{slice_get, is_some, nat_lt, IfSome, ◌==◌}
use Rattle.gql_input.specs.declared.argument.ArgValue.{ArgValue, Variable, Null, Int, Bool as BoolOf, Text, Case, List', Object'}
use Rattle.pg_base.specs.Base.{BaseParts}
use Rattle.pg_base.specs.Lists.{AreBelow, EachPair}
use Rattle.pg_base.specs.declared.does.Does.{Does}
use Rattle.pg_base.specs.declared.does.Does.TheVariants as does
use Rattle.pg_base.specs.declared.schema.ArgDef.{ArgDef}
use Rattle.pg_base.specs.declared.schema.FieldDef.{FieldDef}
use Rattle.pg_base.specs.declared.table_def.KeyDef.{KeyDef}
use Rattle.pg_base.specs.declared.table_def.LinkDef.{LinkDef}
use Rattle.pg_base.specs.declared.vars.Vars.{Vars}
use Rattle.place_tree.specs.Arguments.{written}
use Rattle.place_tree.specs.Exec.{place_above}
use Rattle.place_tree.specs.Fields.{key_at, link_at, finds_one, field_of}
use Rattle.place_tree.specs.Typed.{Kind, OfRow, OfList, OfEdge, OfPage, OfPayload, backward_kind, Leads}
use Rattle.place_tree.specs.declared.place.Place.{Place}
use Rattle.place_tree.specs.declared.place.Tree.{Tree}
use Rattle.plan_steps.specs.Check.{width_of, are_below, has_key, fetch_has, item_has, row_has}
use Rattle.plan_steps.specs.Named.{named_by, fetch_in, is_fetch, is_given_in, is_given, item_in, item_at}
use Rattle.plan_steps.specs.declared.plan.FetchStep.{FetchStep, FetchStep-F, out-FetchStep, out-roll-FetchStep}
use Rattle.plan_steps.specs.declared.plan.Step.TheVariants as step
use Rattle.step_plan.specs.Added.{row_of, fetch_of as fetch_below, list_step, row_step, id_name, written_in, id_of, id_in, id_written, add_link, add_key, add_backward, added_by, added_for, added}
use Rattle.step_plan.specs.Drafted.{Making}
use Rattle.step_plan.specs.Slots.{key_slots}
use Rattle.step_plan.specs.declared.making.Added.{Added}
use Rattle.step_plan.specs.declared.making.Added.TheVariants as adds
use Rattle.step_plan.specs.declared.making.Footing.{Footing}
use Rattle.step_plan.specs.declared.making.Footing.TheVariants as footing
use Rattle.step_plan.proofs.Checked.{From, IsNamed, Lies, IsKind, IsAddable}
use Rattle.step_plan.proofs.Facts.{IsLinkIn, IsKeyIn, IsTable, AreKeyArgs}
use Rattle.step_plan.proofs.Places.{FootingFits, IsFetchOn, some_and}
use Rattle.step_plan.proofs.Plannable.{IsPlanned}
use Rattle.step_plan.proofs.Ranges.{below_test, both, are_below_test, long_test, fits_by, row_own, list_own}

pairs_long : {A B : Type 0} (R : A → B → Type 0) (xs : List A) (ys : List B) → EachPair R xs ys → length ys ≡ length xs
pairs_long R [] [] h = refl
pairs_long R [] (y ∷ ys) h = absurd h
pairs_long R (x ∷ xs) [] h = absurd h
pairs_long R (x ∷ xs) (y ∷ ys) h = ap suc (pairs_long R xs ys h.1)

slots_long : (schema : _) (p : Place) (arg : ℕ) (args : List ArgDef) → length (key_slots schema p arg args) ≡ length args
slots_long schema p arg [] = refl
slots_long schema p arg (a ∷ args) = ap suc (slots_long schema p (arg + 1) args)

there : {X : Type 0} (xs : List X) (k : ℕ) → k < length xs → (x : X) × (slice_get xs k ≡ Some x)
there [] k h = absurd (omega arith)
there (a ∷ xs) zero h = (a, refl)
there (a ∷ xs) (suc k) h = there xs k (omega arith)

or_right : (a b : Bool) → b ≡ true → (a || b) ≡ true
or_right true b h = refl
or_right false b h = h

or_left : (a b : Bool) → a ≡ true → (a || b) ≡ true
or_left true b h = refl
or_left false b h = cc

module _ (base : BaseParts) (tree : Tree) (vars : Vars) (whole : Making) (at layer : ℕ) (p : Place) (shown : Bool) where
  abbrev IsOk : Added → Type 0
  IsOk a = IsAddable base tree whole at layer a

  abbrev LiesAt : Footing → Type 0
  LiesAt g = Lies base tree whole at layer g

  abbrev IsHere : ℕ → Type 0
  IsHere j = (j < at) × From base tree whole layer j

  -- ---- rows

  fetch_there : (s t : ℕ) → IsFetchOn whole.steps s t → is_fetch whole.steps s ≡ true
  fetch_there s t h = ap (λ o. is_some (fetch_in o)) h.1

  item_columns : (item s t : ℕ) (columns : List ℕ) → slice_get whole.steps item ≡ Some (step.Item s) → IsFetchOn whole.steps s t → AreBelow (width_of base.catalog t) columns → item_has base.catalog whole.steps columns (item_at whole.steps item) ≡ true
  item_columns item s t columns e f below =
      ap (λ o. item_has base.catalog whole.steps columns (item_in o)) e
      ∙ ap (λ o. fetch_has base.catalog columns (fetch_in o)) f.1
      ∙ ap (λ n. are_below (width_of base.catalog n) columns) f.2
      ∙ are_below_test (width_of base.catalog t) columns below

  row_columns : (t : ℕ) (table : Option ℕ) (g : Footing) (columns : List ℕ) → FootingFits (OfRow t) whole.steps table g → AreBelow (width_of base.catalog t) columns → row_has base.catalog whole.steps columns (row_of g) ≡ true
  row_columns t table footing.Nothing columns h below = absurd h
  row_columns t table (footing.List s) columns h below = absurd h
  row_columns t table (footing.Page s) columns h below = absurd h
  row_columns t table (footing.Row s item) columns h below = or_right (is_given whole.steps item) (item_has base.catalog whole.steps columns (item_at whole.steps item)) (item_columns item s t columns h.0 h.1 below)
  row_columns t table (footing.Edge s item) columns h below = absurd h
  row_columns t table (footing.Payload given) columns h below = absurd h
  row_columns t table (footing.Given given) columns h below = or_left (is_given whole.steps given) (item_has base.catalog whole.steps columns (item_at whole.steps given)) (ap is_given_in h.0)

  row_here : (t : ℕ) (table : Option ℕ) (g : Footing) → FootingFits (OfRow t) whole.steps table g → LiesAt g → IsHere (row_of g)
  row_here t table footing.Nothing h lies = absurd h
  row_here t table (footing.List s) h lies = absurd h
  row_here t table (footing.Page s) h lies = absurd h
  row_here t table (footing.Row s item) h lies = (lies.2, lies.3)
  row_here t table (footing.Edge s item) h lies = absurd h
  row_here t table (footing.Payload given) h lies = absurd h
  row_here t table (footing.Given given) h lies = (lies.0, lies.1)

  -- ---- fetches

  abbrev IsFetchOk : FetchStep → Type 0
  IsFetchOk f = IsKind base tree whole at (step.Fetch f) × IsNamed base tree whole at layer (named_by (step.Fetch f))

  named_parent : (f : FetchStep) (parent : Option ℕ) → (out-FetchStep f).parent ≡ parent → IsNamed base tree whole at layer parent → IsNamed base tree whole at layer (named_by (step.Fetch f))
  named_parent f parent e h = subst (IsNamed base tree whole at layer) (sym e) h

  key_test : (f : FetchStep-F FetchStep) (row : ℕ) → f.parent ≡ Some row → length f.parent_columns ≡ length f.by → has_key (Rattle.plan_steps.specs.declared.plan.FetchStep.roll-FetchStep f) (Some row) ≡ true
  key_test f row e long =
      let r = out-roll-FetchStep f in
      ap (λ (o : FetchStep-F FetchStep). length o.parent_columns == length o.by) r ∙ long_test (length f.parent_columns) (length f.by) long

  row_below : (of : ℕ) (by columns : List ℕ) (t : ℕ) (table : Option ℕ) (g : Footing) → IsTable base.catalog of → AreBelow (width_of base.catalog of) by → AreBelow (width_of base.catalog t) columns → length columns ≡ length by
      → FootingFits (OfRow t) whole.steps table g → LiesAt g → IsFetchOk (row_step of by (Some (row_of g)) columns [])
  row_below of by columns t table g is inside below long h lies =
      let e = out-roll-FetchStep _ in (
        fits_by base.catalog whole.steps _ (row_own base.catalog of by (Some (row_of g)) columns [] is inside) refl (key_test _ (row_of g) refl long)
            (ap (λ (o : FetchStep-F FetchStep). row_has base.catalog whole.steps o.parent_columns (row_of g)) e ∙ row_columns t table g columns h below),
        named_parent (row_step of by (Some (row_of g)) columns []) (Some (row_of g)) (ap (λ o. o.parent) e) (row_here t table g h lies),
      )

  list_below : (f : FieldDef) (of : ℕ) (by columns : List ℕ) (t : ℕ) (table : Option ℕ) (g : Footing) → IsTable base.catalog of → AreBelow (width_of base.catalog of) by → AreBelow (width_of base.catalog t) columns → length columns ≡ length by
      → FootingFits (OfRow t) whole.steps table g → LiesAt g → IsFetchOk (list_step base vars p shown f of by (Some (row_of g)) columns)
  list_below f of by columns t table g is inside below long h lies =
      let e = out-roll-FetchStep _ in (
        fits_by base.catalog whole.steps _ (list_own base vars p shown f of by (Some (row_of g)) columns is inside) refl (key_test _ (row_of g) refl long)
            (ap (λ (o : FetchStep-F FetchStep). row_has base.catalog whole.steps o.parent_columns (row_of g)) e ∙ row_columns t table g columns h below),
        named_parent (list_step base vars p shown f of by (Some (row_of g)) columns) (Some (row_of g)) (ap (λ o. o.parent) e) (row_here t table g h lies),
      )

  list_root : (f : FieldDef) (of : ℕ) → IsTable base.catalog of → IsFetchOk (list_step base vars p shown f of [] None [])
  list_root f of is =
      let e = out-roll-FetchStep _ in (
        fits_by base.catalog whole.steps _ (list_own base vars p shown f of [] None [] is tt) refl (ap (λ (o : FetchStep-F FetchStep). length o.key == length o.by) e) refl,
        named_parent (list_step base vars p shown f of [] None []) None (ap (λ o. o.parent) e) tt,
      )

  key_root : (f : FieldDef) (of : ℕ) (key : KeyDef) → IsKeyIn base.catalog of key → AreKeyArgs base of key.columns f.args → IsFetchOk (row_step of key.columns None [] (key_slots base.schema p 0 f.args))
  key_root f of key is args =
      let slots = key_slots base.schema p 0 f.args in
      let e = out-roll-FetchStep _ in (
        fits_by base.catalog whole.steps _ (row_own base.catalog of key.columns None [] slots is.own is.columns) refl
            (ap (λ (o : FetchStep-F FetchStep). length o.key == length o.by) e ∙ long_test (length slots) (length key.columns) (slots_long base.schema p 0 f.args ∙ pairs_long _ key.columns f.args args)) refl,
        named_parent (row_step of key.columns None [] slots) None (ap (λ o. o.parent) e) tt,
      )

  -- ---- each field

  list_here : (t : ℕ) (table : Option ℕ) (g : Footing) → FootingFits (OfList t) whole.steps table g → LiesAt g → (is_fetch whole.steps (fetch_below g) ≡ true) × IsHere (fetch_below g)
  list_here t table footing.Nothing h lies = absurd h
  list_here t table (footing.List s) h lies = (fetch_there s t h, (lies.0, lies.1))
  list_here t table (footing.Page s) h lies = absurd h
  list_here t table (footing.Row s item) h lies = absurd h
  list_here t table (footing.Edge s item) h lies = absurd h
  list_here t table (footing.Payload given) h lies = absurd h
  list_here t table (footing.Given given) h lies = absurd h

  page_here : (table : Option ℕ) (g : Footing) → FootingFits OfPage whole.steps table g → LiesAt g → (is_fetch whole.steps (fetch_below g) ≡ true) × IsHere (fetch_below g)
  page_here table footing.Nothing h lies = absurd h
  page_here table (footing.List s) h lies = absurd h
  page_here table (footing.Page s) h lies = (fetch_there s h.0 h.1, (lies.0, lies.1))
  page_here table (footing.Row s item) h lies = absurd h
  page_here table (footing.Edge s item) h lies = absurd h
  page_here table (footing.Payload given) h lies = absurd h
  page_here table (footing.Given given) h lies = absurd h

  -- an edge: its Item, and what the row of it stands on
  edge_here : (t : ℕ) (table : Option ℕ) (g : Footing) → FootingFits (OfEdge t) whole.steps table g → LiesAt g → (is_some (item_at whole.steps (row_of g)) ≡ true) × IsHere (row_of g) × LiesAt (footing.Row (fetch_below g) (row_of g))
  edge_here t table footing.Nothing h lies = absurd h
  edge_here t table (footing.List s) h lies = absurd h
  edge_here t table (footing.Page s) h lies = absurd h
  edge_here t table (footing.Row s item) h lies = absurd h
  edge_here t table (footing.Edge s item) h lies = (ap (λ o. is_some (item_in o)) h.0, (lies.2, lies.3), lies)
  edge_here t table (footing.Payload given) h lies = absurd h
  edge_here t table (footing.Given given) h lies = absurd h

  payload_here : (t : ℕ) (table : Option ℕ) (g : Footing) → FootingFits (OfPayload t) whole.steps table g → LiesAt g → IsHere (row_of g)
  payload_here t table footing.Nothing h lies = absurd h
  payload_here t table (footing.List s) h lies = absurd h
  payload_here t table (footing.Page s) h lies = absurd h
  payload_here t table (footing.Row s item) h lies = absurd h
  payload_here t table (footing.Edge s item) h lies = absurd h
  payload_here t table (footing.Payload given) h lies = (lies.0, lies.1)
  payload_here t table (footing.Given given) h lies = absurd h

  backward_ok : (f : FieldDef) (link : LinkDef) (t : ℕ) (one : Bool) → IsLinkIn base.catalog t link → (table : Option ℕ) (g : Footing) → FootingFits (OfRow link.target) whole.steps table g → LiesAt g → IsOk (add_backward base vars p shown f t (row_of g) link one)
  backward_ok f link t true l table g h lies = row_below t link.columns link.target_columns link.target table g l.own l.columns l.target_columns (sym l.pairs) h lies
  backward_ok f link t false l table g h lies = list_below f t link.columns link.target_columns link.target table g l.own l.columns l.target_columns (sym l.pairs) h lies

  part_ok : (k : ℕ) → k < 4 → (table : Option ℕ) (g : Footing) → FootingFits OfPage whole.steps table g → LiesAt g → IsOk (adds.Leaf (step.Page (fetch_below g) k))
  part_ok k lt table g h lies = let r = page_here table g h lies in (both (is_fetch whole.steps (fetch_below g)) (nat_lt k 4) r.0 (below_test k 4 lt), r.1)

  id_written_ok : (o : Option ArgValue) → IsOk (adds.Leaf (id_written o))
  id_written_ok None = (refl, tt)
  id_written_ok (Some (Variable name)) = (refl, tt)
  id_written_ok (Some Null) = (refl, tt)
  id_written_ok (Some (Int n)) = (refl, tt)
  id_written_ok (Some (BoolOf b)) = (refl, tt)
  id_written_ok (Some (Text t)) = (refl, tt)
  id_written_ok (Some (Case c)) = (refl, tt)
  id_written_ok (Some (List' s xs)) = (refl, tt)
  id_written_ok (Some (Object' s ms)) = (refl, tt)

  id_in_ok : (o : Option ArgValue) → IsOk (adds.Leaf (id_in o))
  id_in_ok None = (refl, tt)
  id_in_ok (Some (Variable name)) = (refl, tt)
  id_in_ok (Some Null) = (refl, tt)
  id_in_ok (Some (Int n)) = (refl, tt)
  id_in_ok (Some (BoolOf b)) = (refl, tt)
  id_in_ok (Some (Text t)) = (refl, tt)
  id_in_ok (Some (Case c)) = (refl, tt)
  id_in_ok (Some (List' s xs)) = (refl, tt)
  id_in_ok (Some (Object' s ms)) = id_written_ok (written_in ms id_name)

  id_ok : (o : Option Place) → IsOk (adds.Leaf (id_of o))
  id_ok None = (refl, tt)
  id_ok (Some mutation) = id_in_ok (written mutation.args 0)

  on_kind : (kind other : Kind) (table : Option ℕ) (g : Footing) → kind ≡ other → FootingFits kind whole.steps table g → FootingFits other whole.steps table g
  on_kind kind other table g e h = subst (λ k. FootingFits k whole.steps table g) e h

  as_added : (a made : Added) → made ≡ a → IsOk a → IsOk made
  as_added a made e h = subst (λ x. IsAddable base tree whole at layer x) (sym e) h

  module _ (planned : IsPlanned base tree vars) (f : FieldDef) (is_field : field_of base.schema p ≡ Some f) where
    pub ok : (kind next : Kind) (table : Option ℕ) (g : Footing) (d : Does) → f.does ≡ d → Leads base.catalog d kind next → FootingFits kind whole.steps table g → LiesAt g → IsOk (added_by base vars tree.places p shown g f d)
    ok kind next table g (does.Column t c) is l h lies =
        let k = on_kind kind (OfRow t) table g l.0 h in
        (row_columns t table g (c ∷ []) k (l.1, tt), row_here t table g k lies)
    ok kind next table g (does.Forward t l) is leads h lies =
        let link = some_and (λ x. next ≡ OfRow x.target) (link_at base.catalog t l) leads.1 in
        let law = planned.links t l link.0 link.1 in
        as_added _ _ (ap (λ o. add_link o (λ x. adds.Row (row_step x.target x.target_columns (Some (row_of g)) x.columns []))) link.1)
        (row_below link.0.target link.0.target_columns link.0.columns t table g law.target law.target_columns law.columns law.pairs (on_kind kind (OfRow t) table g leads.0 h) lies)
    ok kind next table g (does.Backward t l) is leads h lies =
        let link = some_and (λ x. (kind ≡ OfRow x.target) × (next ≡ backward_kind (finds_one (slice_get base.catalog.tables t) x) t)) (link_at base.catalog t l) leads in
        as_added _ _ (ap (λ o. add_link o (λ x. add_backward base vars p shown f t (row_of g) x (finds_one (slice_get base.catalog.tables t) x))) link.1)
        (backward_ok f link.0 t (finds_one (slice_get base.catalog.tables t) link.0) (planned.links t l link.0 link.1) table g (on_kind kind (OfRow link.0.target) table g link.2.0 h) lies)
    ok kind next table g (does.All t) is leads h lies = list_root f t (there base.catalog.tables t leads.1)
    ok kind next table g (does.ByKey t k) is leads h lies =
        let key = some_and (λ x. next ≡ OfRow t) (key_at base.catalog t k) leads.1 in
        let law = subst (λ d. Rattle.step_plan.proofs.Facts.AreArgs base f.args d) is (planned.args p.ty p.field f is_field) in
        as_added _ _ (ap (λ o. add_key o (λ x. adds.Row (row_step t x.columns None [] (key_slots base.schema p 0 f.args)))) key.1)
        (key_root f t key.0 (planned.keys t k key.0 key.1) (subst (λ o. IfSome o (λ x. AreKeyArgs base t x.columns f.args)) key.1 law))
    ok kind next table g (does.Create t) is l h lies = tt
    ok kind next table g (does.Update t k) is l h lies = tt
    ok kind next table g (does.Delete t k) is l h lies = tt
    ok kind next table g does.Nodes is l h lies = let r = list_here l.0 table g (on_kind kind (OfList l.0) table g l.1 h) lies in (r.0, r.1.0, r.1.1)
    ok kind next table g does.Edges is l h lies = let r = list_here l.0 table g (on_kind kind (OfList l.0) table g l.1 h) lies in (r.0, r.1.0, r.1.1)
    ok kind next table g does.PageInfo is l h lies = let r = list_here l.0 table g (on_kind kind (OfList l.0) table g l.1 h) lies in (r.1.0, r.1.1, (r.1.0, r.1.1))
    ok kind next table g does.Total is l h lies = let r = list_here l.0 table g (on_kind kind (OfList l.0) table g l.1 h) lies in (r.0, r.1)
    ok kind next table g does.Node is l h lies = let r = edge_here l.0 table g (on_kind kind (OfEdge l.0) table g l.1 h) lies in (r.1.0, r.1.1, r.2)
    ok kind next table g does.Cursor is l h lies = let r = edge_here l.0 table g (on_kind kind (OfEdge l.0) table g l.1 h) lies in (r.0, r.1)
    ok kind next table g does.HasNext is l h lies = part_ok 0 (omega arith) table g (on_kind kind OfPage table g l.0 h) lies
    ok kind next table g does.HasPrevious is l h lies = part_ok 1 (omega arith) table g (on_kind kind OfPage table g l.0 h) lies
    ok kind next table g does.Start is l h lies = part_ok 2 (omega arith) table g (on_kind kind OfPage table g l.0 h) lies
    ok kind next table g does.End is l h lies = part_ok 3 (omega arith) table g (on_kind kind OfPage table g l.0 h) lies
    ok kind next table g does.ClientId is l h lies = id_ok (place_above tree.places p)
    ok kind next table g does.Payload is l h lies = let r = payload_here l.0 table g (on_kind kind (OfPayload l.0) table g l.1 h) lies in (r.0, r.1, (r.0, r.1))

  -- whatever stands there
  pub place_ok : IsPlanned base tree vars → (kind : Kind) (table : Option ℕ) (g : Footing) → ((f : FieldDef) → field_of base.schema p ≡ Some f → (next : Kind) × Leads base.catalog f.does kind next) → FootingFits kind whole.steps table g → LiesAt g → IsOk (added base vars tree.places p shown g)
  place_ok planned kind table g leads h lies = by (field_of base.schema p) refl
    where
      by : (o : Option FieldDef) → field_of base.schema p ≡ o → IsOk (added_for base vars tree.places p shown g o)
      by None e = (refl, tt)
      by (Some f) e = let l = leads f e in ok planned f e kind l.0 table g f.does refl l.1 h lies
