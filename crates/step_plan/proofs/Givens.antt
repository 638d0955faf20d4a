-- What the steps that planning adds take from a row that is given, the table of the mutation has.
use Rattle.std.proofs.Common.{◌≡◌, ℕ, zero, suc, ◌+◌, List, [], ◌∷◌, Option, Some, None, Bool, true, false, sym, ap, subst}
use Rattle.std.specs.Prelude.{slice_get, IsSomeAnd, ⊤}
use Rattle.gql_input.specs.declared.argument.ArgValue.{ArgValue, Variable, Null, Int, Bool as BoolOf, Text, Case, List', Object'}
use Rattle.pg_base.specs.Base.{BaseParts}
use Rattle.pg_base.specs.Lists.{AreBelow}
use Rattle.pg_base.specs.declared.does.Does.{Does}
use Rattle.pg_base.specs.declared.does.Does.TheVariants as does
use Rattle.pg_base.specs.declared.schema.FieldDef.{FieldDef}
use Rattle.pg_base.specs.declared.table_def.LinkDef.{LinkDef}
use Rattle.pg_base.specs.declared.vars.Vars.{Vars}
use Rattle.place_tree.specs.Arguments.{written}
use Rattle.place_tree.specs.Exec.{place_above}
use Rattle.place_tree.specs.Fields.{key_at, link_at, finds_one}
use Rattle.place_tree.specs.Typed.{Kind, OfRow, backward_kind, Leads}
use Rattle.place_tree.specs.declared.place.Place.{Place}
use Rattle.plan_steps.specs.Check.{width_of}
use Rattle.plan_steps.specs.Named.{is_given, is_given_in}
use Rattle.plan_steps.specs.declared.plan.FetchStep.{FetchStep, out-FetchStep, out-roll-FetchStep}
use Rattle.plan_steps.specs.declared.plan.Step.{Step}
use Rattle.plan_steps.specs.declared.plan.Step.TheVariants as step
use Rattle.step_plan.specs.Added.{row_of, list_step, row_step, id_name, written_in, id_of, id_in, id_written, add_link, add_key, add_backward, added_by}
use Rattle.step_plan.specs.Drafted.{steps_added, step_shown, footing_with}
use Rattle.step_plan.specs.Slots.{key_slots}
use Rattle.step_plan.specs.declared.making.Added.{Added}
use Rattle.step_plan.specs.declared.making.Added.TheVariants as adds
use Rattle.step_plan.specs.declared.making.Footing.{Footing}
use Rattle.step_plan.specs.declared.making.Footing.TheVariants as footing
use Rattle.step_plan.proofs.Facts.{IsLinkIn}
use Rattle.step_plan.proofs.Places.{FootingFits, table_below, some_and}
use Rattle.step_plan.proofs.Used.{HoldsUsed, HoldsOn, HoldsNew, used_by_added, named_by_field}

module _ (base : BaseParts) (steps : List Step) where
  -- the table has the columns
  abbrev pub HasColumns : Option ℕ → List ℕ → Type 0
  HasColumns table columns = IsSomeAnd table (λ t. AreBelow (width_of base.catalog t) columns)

  abbrev pub TakesBy : Option ℕ → FetchStep → Option ℕ → Type 0
  TakesBy table f None = ⊤
  TakesBy table f (Some p) = is_given steps p ≡ true → HasColumns table (out-FetchStep f).parent_columns

  abbrev pub TakesIn : Option ℕ → Option Step → Type 0
  TakesIn table (Some (step.Column row c)) = is_given steps row ≡ true → HasColumns table (c ∷ [])
  TakesIn table (Some (step.Fetch f)) = TakesBy table f (out-FetchStep f).parent
  TakesIn table _ = ⊤

  abbrev pub TakesAt : Option ℕ → ℕ → Type 0
  TakesAt table k = TakesIn table (slice_get steps k)

  -- a step, and those that it uses, take from a given row what the table has
  abbrev pub IsTaken : Option ℕ → ℕ → Type 0
  IsTaken table k = HoldsUsed steps (TakesAt table) k

  abbrev pub IsTakenOn : Option ℕ → Footing → Type 0
  IsTakenOn table g = HoldsOn steps (TakesAt table) g

  no_given : (k s : ℕ) (A : Type 0) → slice_get steps k ≡ Some (step.Item s) → is_given steps k ≡ true → A
  no_given k s A e h = let q : is_given steps k ≡ false = ap is_given_in e in cc

  -- a row that is given has the columns of its table
  row_has_them : (t : ℕ) (table : Option ℕ) (g : Footing) (columns : List ℕ) → FootingFits (OfRow t) steps table g → AreBelow (width_of base.catalog t) columns → is_given steps (row_of g) ≡ true → HasColumns table columns
  row_has_them t table footing.Nothing columns h below e = absurd h
  row_has_them t table (footing.List s) columns h below e = absurd h
  row_has_them t table (footing.Page s) columns h below e = absurd h
  row_has_them t table (footing.Row s item) columns h below e = no_given item s (HasColumns table columns) h.0 e
  row_has_them t table (footing.Edge s item) columns h below e = absurd h
  row_has_them t table (footing.Payload given) columns h below e = absurd h
  row_has_them t table (footing.Given given) columns h below e = subst (λ o. HasColumns o columns) (sym h.1) below

  -- ---- the steps that are added

  abbrev TakesOf : Option ℕ → Added → Type 0
  TakesOf table (adds.Leaf s) = TakesIn table (Some s)
  TakesOf table (adds.List f) = TakesIn table (Some (step.Fetch f))
  TakesOf table (adds.Row f) = TakesIn table (Some (step.Fetch f))
  TakesOf table (adds.Item edge s) = ⊤
  TakesOf table (adds.Shows k g) = ⊤
  TakesOf table adds.Given = ⊤

  takes_new : (table : Option ℕ) (at : ℕ) (a : Added) → TakesOf table a → (j : ℕ) (s : Step) → slice_get (steps_added at a) j ≡ Some s → TakesIn table (Some s)
  takes_new table at (adds.Leaf s) h zero t e = subst (TakesIn table) e h
  takes_new table at (adds.Leaf s) h (suc j) t e = cc
  takes_new table at (adds.List f) h zero t e = subst (TakesIn table) e h
  takes_new table at (adds.List f) h (suc j) t e = cc
  takes_new table at (adds.Row f) h zero t e = subst (TakesIn table) e h
  takes_new table at (adds.Row f) h (suc zero) t e = subst (TakesIn table) e tt
  takes_new table at (adds.Row f) h (suc (suc j)) t e = cc
  takes_new table at (adds.Item edge s) h zero t e = subst (TakesIn table) e tt
  takes_new table at (adds.Item edge s) h (suc j) t e = cc
  takes_new table at (adds.Shows k g) h j t e = cc
  takes_new table at adds.Given h zero t e = subst (TakesIn table) e tt
  takes_new table at adds.Given h (suc j) t e = cc

  -- ---- each field

  module _ (vars : Vars) (at : ℕ) (places : List Place) (p : Place) (shown : Bool) (f : FieldDef) (links : (table place : ℕ) (l : LinkDef) → link_at base.catalog table place ≡ Some l → IsLinkIn base.catalog table l) where
    -- the step that is shown, and what stands below
    pub record AreTaken (up : Option ℕ) (below : Option ℕ) (a : Added) : Type 0 where
      pub shows : IsTaken up (step_shown at a)
      pub stands : IsTakenOn below (footing_with at a)

    by_parent : (table : Option ℕ) (fetch : FetchStep) (parent : Option ℕ) → (out-FetchStep fetch).parent ≡ parent → TakesBy table fetch parent → TakesIn table (Some (step.Fetch fetch))
    by_parent table fetch parent e h = subst (TakesBy table fetch) (sym e) h

    row_takes : (t : ℕ) (table : Option ℕ) (g : Footing) (of : ℕ) (by columns : List ℕ) → FootingFits (OfRow t) steps table g → AreBelow (width_of base.catalog t) columns → TakesOf table (adds.Row (row_step of by (Some (row_of g)) columns []))
    row_takes t table g of by columns h below =
        let e = out-roll-FetchStep _ in
        by_parent table (row_step of by (Some (row_of g)) columns []) (Some (row_of g)) (ap (λ o. o.parent) e)
        (λ q. subst (HasColumns table) (sym (ap (λ o. o.parent_columns) e)) (row_has_them t table g columns h below q))

    list_takes : (t : ℕ) (table : Option ℕ) (g : Footing) (of : ℕ) (by columns : List ℕ) → FootingFits (OfRow t) steps table g → AreBelow (width_of base.catalog t) columns → TakesOf table (adds.List (list_step base vars p shown f of by (Some (row_of g)) columns))
    list_takes t table g of by columns h below =
        let e = out-roll-FetchStep _ in
        by_parent table (list_step base vars p shown f of by (Some (row_of g)) columns) (Some (row_of g)) (ap (λ o. o.parent) e)
        (λ q. subst (HasColumns table) (sym (ap (λ o. o.parent_columns) e)) (row_has_them t table g columns h below q))

    backward_takes : (table : Option ℕ) (g : Footing) (t : ℕ) (link : LinkDef) (one : Bool) → IsLinkIn base.catalog t link → FootingFits (OfRow link.target) steps table g → TakesOf table (add_backward base vars p shown f t (row_of g) link one)
    backward_takes table g t link true l h = row_takes link.target table g t link.columns link.target_columns h l.target_columns
    backward_takes table g t link false l h = list_takes link.target table g t link.columns link.target_columns h l.target_columns

    id_written_takes : (table : Option ℕ) (o : Option ArgValue) → TakesIn table (Some (id_written o))
    id_written_takes table None = tt
    id_written_takes table (Some (Variable name)) = tt
    id_written_takes table (Some Null) = tt
    id_written_takes table (Some (Int n)) = tt
    id_written_takes table (Some (BoolOf b)) = tt
    id_written_takes table (Some (Text t)) = tt
    id_written_takes table (Some (Case c)) = tt
    id_written_takes table (Some (List' s xs)) = tt
    id_written_takes table (Some (Object' s ms)) = tt

    id_in_takes : (table : Option ℕ) (o : Option ArgValue) → TakesIn table (Some (id_in o))
    id_in_takes table None = tt
    id_in_takes table (Some (Variable name)) = tt
    id_in_takes table (Some Null) = tt
    id_in_takes table (Some (Int n)) = tt
    id_in_takes table (Some (BoolOf b)) = tt
    id_in_takes table (Some (Text t)) = tt
    id_in_takes table (Some (Case c)) = tt
    id_in_takes table (Some (List' s xs)) = tt
    id_in_takes table (Some (Object' s ms)) = id_written_takes table (written_in ms id_name)

    id_takes : (table : Option ℕ) (o : Option Place) → TakesIn table (Some (id_of o))
    id_takes table None = tt
    id_takes table (Some mutation) = id_in_takes table (written mutation.args 0)

    on_kind : (kind other : Kind) (table : Option ℕ) (g : Footing) → kind ≡ other → FootingFits kind steps table g → FootingFits other steps table g
    on_kind kind other table g e h = subst (λ k. FootingFits k steps table g) e h

    as_takes : (table : Option ℕ) (a made : Added) → made ≡ a → TakesOf table a → TakesOf table made
    as_takes table a made e h = subst (TakesOf table) (sym e) h

    takes_by : (kind next : Kind) (table : Option ℕ) (g : Footing) (d : Does) → Leads base.catalog d kind next → FootingFits kind steps table g → TakesOf table (added_by base vars places p shown g f d)
    takes_by kind next table g (does.Column t c) l h = row_has_them t table g (c ∷ []) (on_kind kind (OfRow t) table g l.0 h) (l.1, tt)
    takes_by kind next table g (does.Forward t l) leads h =
        let link = some_and (λ x. next ≡ OfRow x.target) (link_at base.catalog t l) leads.1 in
        as_takes table _ _ (ap (λ o. add_link o (λ x. adds.Row (row_step x.target x.target_columns (Some (row_of g)) x.columns []))) link.1)
        (row_takes t table g link.0.target link.0.target_columns link.0.columns (on_kind kind (OfRow t) table g leads.0 h) (links t l link.0 link.1).columns)
    takes_by kind next table g (does.Backward t l) leads h =
        let link = some_and (λ x. (kind ≡ OfRow x.target) × (next ≡ backward_kind (finds_one (slice_get base.catalog.tables t) x) t)) (link_at base.catalog t l) leads in
        as_takes table _ _ (ap (λ o. add_link o (λ x. add_backward base vars p shown f t (row_of g) x (finds_one (slice_get base.catalog.tables t) x))) link.1)
        (backward_takes table g t link.0 (finds_one (slice_get base.catalog.tables t) link.0) (links t l link.0 link.1) (on_kind kind (OfRow link.0.target) table g link.2.0 h))
    takes_by kind next table g (does.All t) leads h = by_parent table (list_step base vars p shown f t [] None []) None (ap (λ o. o.parent) (out-roll-FetchStep _)) tt
    takes_by kind next table g (does.ByKey t k) leads h =
        let key = some_and (λ x. next ≡ OfRow t) (key_at base.catalog t k) leads.1 in
        as_takes table _ _ (ap (λ o. add_key o (λ x. adds.Row (row_step t x.columns None [] (key_slots base.schema p 0 f.args)))) key.1)
        (by_parent table (row_step t key.0.columns None [] (key_slots base.schema p 0 f.args)) None (ap (λ o. o.parent) (out-roll-FetchStep _)) tt)
    takes_by kind next table g (does.Create t) l h = tt
    takes_by kind next table g (does.Update t k) l h = tt
    takes_by kind next table g (does.Delete t k) l h = tt
    takes_by kind next table g does.Nodes l h = tt
    takes_by kind next table g does.Edges l h = tt
    takes_by kind next table g does.PageInfo l h = tt
    takes_by kind next table g does.Node l h = tt
    takes_by kind next table g does.Total l h = tt
    takes_by kind next table g does.Cursor l h = tt
    takes_by kind next table g does.HasNext l h = tt
    takes_by kind next table g does.HasPrevious l h = tt
    takes_by kind next table g does.Start l h = tt
    takes_by kind next table g does.End l h = tt
    takes_by kind next table g does.ClientId l h = id_takes table (place_above places p)
    takes_by kind next table g does.Payload l h = tt

    abbrev pub ArePutHere : Added → Type 0
    ArePutHere a = (j : ℕ) (s : Step) → slice_get (steps_added at a) j ≡ Some s → slice_get steps (at + j) ≡ Some s

    -- where the table is the one above, and where a mutation has its own
    kept_taken : (kind next : Kind) (table : Option ℕ) (g : Footing) (d : Does) → Leads base.catalog d kind next → FootingFits kind steps table g → IsTakenOn table g → ArePutHere (added_by base vars places p shown g f d) → AreTaken table table (added_by base vars places p shown g f d)
    kept_taken kind next table g d l h u put =
        let a = added_by base vars places p shown g f d in
        let r = used_by_added steps (TakesAt table) at a put (named_by_field steps (TakesAt table) base vars places p shown f kind next table g d l h u)
        (λ j s e. subst (TakesIn table) (sym (put j s e)) (takes_new table at a (takes_by kind next table g d l h) j s e)) in
        record { shows = r.0; stands = r.1 }

    given_taken : (up below : Option ℕ) → ArePutHere adds.Given → AreTaken up below adds.Given
    given_taken up below put =
        let new : (table : Option ℕ) → HoldsNew steps (TakesAt table) at adds.Given = λ table j s e. subst (TakesIn table) (sym (put j s e)) (takes_new table at adds.Given tt j s e) in
        record {
          shows = (used_by_added steps (TakesAt up) at adds.Given put tt (new up)).0;
          stands = (used_by_added steps (TakesAt below) at adds.Given put tt (new below)).1;
        }

    pub taken_by : (kind next : Kind) (table : Option ℕ) (g : Footing) (d : Does) → Leads base.catalog d kind next → FootingFits kind steps table g → IsTakenOn table g
        → ArePutHere (added_by base vars places p shown g f d) → AreTaken table (table_below d table) (added_by base vars places p shown g f d)
    taken_by kind next table g (does.Create t) l h u put = given_taken table (Some t) put
    taken_by kind next table g (does.Update t k) l h u put = given_taken table (Some t) put
    taken_by kind next table g (does.Delete t k) l h u put = given_taken table (Some t) put
    taken_by kind next table g (does.Column t c) l h u put = kept_taken kind next table g (does.Column t c) l h u put
    taken_by kind next table g (does.Forward t k) l h u put = kept_taken kind next table g (does.Forward t k) l h u put
    taken_by kind next table g (does.Backward t k) l h u put = kept_taken kind next table g (does.Backward t k) l h u put
    taken_by kind next table g (does.All t) l h u put = kept_taken kind next table g (does.All t) l h u put
    taken_by kind next table g (does.ByKey t k) l h u put = kept_taken kind next table g (does.ByKey t k) l h u put
    taken_by kind next table g does.Nodes l h u put = kept_taken kind next table g does.Nodes l h u put
    taken_by kind next table g does.Edges l h u put = kept_taken kind next table g does.Edges l h u put
    taken_by kind next table g does.PageInfo l h u put = kept_taken kind next table g does.PageInfo l h u put
    taken_by kind next table g does.Total l h u put = kept_taken kind next table g does.Total l h u put
    taken_by kind next table g does.Node l h u put = kept_taken kind next table g does.Node l h u put
    taken_by kind next table g does.Cursor l h u put = kept_taken kind next table g does.Cursor l h u put
    taken_by kind next table g does.HasNext l h u put = kept_taken kind next table g does.HasNext l h u put
    taken_by kind next table g does.HasPrevious l h u put = kept_taken kind next table g does.HasPrevious l h u put
    taken_by kind next table g does.Start l h u put = kept_taken kind next table g does.Start l h u put
    taken_by kind next table g does.End l h u put = kept_taken kind next table g does.End l h u put
    taken_by kind next table g does.ClientId l h u put = kept_taken kind next table g does.ClientId l h u put
    taken_by kind next table g does.Payload l h u put = kept_taken kind next table g does.Payload l h u put
