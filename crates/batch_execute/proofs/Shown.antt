-- What is read from what the statements of a plan found is what the plan shows.
use Rattle.std.proofs.Common.{◌≡◌, ◌⊎◌, ℕ, ◌+◌, ◌<◌, List, [], ◌∷◌, map, Option, Some, None, Bool, true, false, inl, inr, refl, sym, ap, ◌∙◌, subst}
use Rattle.std.specs.Prelude.{slice_get, option_map, is_some, IfSome}
use Rattle.std.proofs.lemmas.Option.{slice_get_within}
use Rattle.pg_base.specs.Base.{BaseParts}
use Rattle.pg_base.specs.declared.does.Does.{Does}
use Rattle.pg_base.specs.declared.does.Does.TheVariants as does
use Rattle.pg_base.specs.declared.schema.FieldDef.{FieldDef}
use Rattle.pg_base.specs.declared.schema.TypeRef.{TypeRef}
use Rattle.pg_base.specs.declared.vars.Vars.{Vars}
use Rattle.rel_model.specs.declared.tables.Tables.{Tables}
use Rattle.place_tree.specs.declared.answer.Leaf.{Leaf}
use Rattle.place_tree.specs.declared.fetch.Fetch.{Fetch}
use Rattle.place_tree.specs.declared.fetch.Shape.{Shape}
use Rattle.place_tree.specs.declared.fetch.Shape.TheVariants as shape
use Rattle.place_tree.specs.declared.place.Place.{Place}
use Rattle.place_tree.specs.declared.place.Tree.{Tree}
use Rattle.place_tree.specs.Arguments.{nullable}
use Rattle.place_tree.specs.Exec.{first_row, needs_rows}
use Rattle.place_tree.specs.Fetch.{fetch_of, argument_error}
use Rattle.place_tree.specs.Fields.{field_of}
use Rattle.place_tree.specs.declared.answer.Answer.{Answer}
use Rattle.place_tree.specs.declared.answer.Answer.TheVariants.{Many}
use Rattle.place_tree.specs.Spent.{answer_cost}
use Rattle.place_tree.proofs.Folds.{Paired, Agree, members_same, folds_same}
use Rattle.plan_constraints.specs.declared.constraint.Constraint.{Constraint}
use Rattle.plan_steps.specs.declared.plan.FetchStep.{FetchStep}
use Rattle.plan_steps.specs.declared.plan.Plan.{Plan}
use Rattle.plan_steps.specs.declared.plan.Root.{Root}
use Rattle.plan_steps.specs.declared.plan.Step.{Step}
use Rattle.plan_steps.specs.declared.plan.Step.TheVariants as step
use Rattle.plan_steps.specs.Denoted.{leaf_in, one_row, row_shown, other_shown, by_field, by_error, by_fetch, denoted, moment, denotation}
use Rattle.plan_steps.specs.Denoted as denoting
use Rattle.plan_steps.specs.Named.{named_by, step_for}
use Rattle.plan_steps.specs.Sent.{one_if}
use Rattle.plan_steps.specs.Sound.{MayRun}
use Rattle.plan_steps.specs.Under.{root_place}
use Rattle.plan_steps.specs.Values.{Moment, Path, Listing, Val, row_of, plain, listing_in, val_at, all_vals}
use Rattle.stmt_tree.specs.declared.found.Found.{Found}
use Rattle.stmt_tree.specs.declared.found.Found.TheViews.{out-Found}
use Rattle.stmt_tree.specs.declared.found.RowTree.{RowTree}
use Rattle.batch_execute.specs.declared.role.Role.{Role}
use Rattle.batch_execute.specs.declared.role.Role.TheVariants.{Failed, OfList, OfRow, Each, Same, OfLeaf}
use Rattle.batch_execute.specs.Counted.{rows_shown, rows_in, rows_at, rows_for}
use Rattle.batch_execute.specs.Denoted.{listing_shown, rows_of_step, denoted_rows, denoted_visits}
use Rattle.batch_execute.specs.Entries.{may_send, fetched_all}
use Rattle.batch_execute.specs.Fetched.{FetchedParts}
use Rattle.batch_execute.specs.Held.{held}
use Rattle.batch_execute.specs.Reading.{setting, Trail, onto, first_tree, one_tree, type_in, type_of, found_at, read_value, shown_by, shown_in, shown_at, shown_for}
use Rattle.batch_execute.specs.Ready.{shown_error, error_by, IsClear, at_top, below, fetch_shown, reads, IsReady}
use Rattle.batch_execute.specs.Roles.{role_by, role_in, role_or, role_with, role_of}
use Rattle.batch_execute.proofs.Cleared.{clear_sent}
use Rattle.batch_execute.proofs.FoundDue.{no_row, none_found, found_held, listing_at, value_is}
use Rattle.batch_execute.proofs.Items.{IsIn}
use Rattle.batch_execute.proofs.Trails.{path_of, AreHeld, path_onto, held_onto}

first_of : (trees : List RowTree) → first_row (map row_of trees) ≡ option_map row_of (first_tree trees)
first_of [] = refl
first_of (t ∷ trees) = refl

first_in : (t : RowTree) (trees : List RowTree) → first_tree trees ≡ Some t → IsIn t trees
first_in t [] e = cc
first_in t (x ∷ trees) e = inl cc

-- as many rows as the listing has
shown_as : (role : Role) (x : Found) → rows_shown role x ≡ listing_shown role (plain x)
shown_as (Failed message) x = refl
shown_as (OfList true) x = refl
shown_as (OfList false) x = refl
shown_as OfRow x = by (out-Found x).rows where
  by : (trees : List RowTree) → one_if (is_some (first_tree trees)) ≡ one_if (is_some (first_row (map row_of trees)))
  by [] = refl
  by (t ∷ trees) = refl
shown_as Each x = refl
shown_as Same x = refl
shown_as OfLeaf x = refl

-- a place that reads nothing shows no rows of it
unread : (role : Role) (x : Found) (l : Listing) → reads role ≡ false → rows_shown role x ≡ listing_shown role l
unread (Failed message) x l e = refl
unread (OfList shown) x l e = cc
unread OfRow x l e = cc
unread Each x l e = cc
unread Same x l e = refl
unread OfLeaf x l e = cc

clear_or_unread : (o : Option (List ℕ)) (role : Role) → reads (role_or o role) ≡ true → o ≡ None
clear_or_unread None role e = refl
clear_or_unread (Some message) role e = cc

-- a place that reads has no error
read_clear : (base : BaseParts) (vars : Vars) (places : List Place) (i : ℕ) (p : Place) → reads (role_of base vars places i p) ≡ true → shown_error base vars p ≡ None
read_clear base vars places i p e = by (fetch_of base vars p) e where
  by : (o : Option Fetch) → reads (role_with base vars places i p o) ≡ true → error_by base vars p o ≡ None
  by None h = refl
  by (Some f) h = clear_or_unread (argument_error base vars p) (role_in (needs_rows base.schema places i) f.shape) h

module _ (base : BaseParts) (plan : Plan) (tree : Tree) (constraints : List Constraint) (ready : IsReady base plan tree constraints)
    (earlier : (k : ℕ) (s : Step) → slice_get plan.steps k ≡ Some s → IfSome (named_by s) (λ j. j < k))
    (items : (p g : ℕ) → slice_get plan.steps p ≡ Some (step.Item g) → (f : FetchStep) × (slice_get plan.steps g ≡ Some (step.Fetch f)))
    (tables : Tables) (vars : Vars) (r : Root) (may : MayRun base tree constraints tables vars r) where
  abbrev m : Moment
  m = moment base tables vars r

  abbrev all : List FetchedParts
  all = fetched_all m tree plan r

  -- the places of this parent are met without an error
  abbrev IsOpen : Option ℕ → Type 0
  IsOpen parent = (parent ≡ root_place r) ⊎ ((j : ℕ) × (parent ≡ Some j) × IsClear base vars tree r j)

  -- the rows of a path, which stand in what was found
  abbrev Alike : Option ℕ → Trail → Path → Type 0
  Alike parent trail path = (path_of trail ≡ path) × AreHeld plan.steps all trail × IsOpen parent

  clear_here : (i : ℕ) (p : Place) → slice_get tree.places i ≡ Some p → IsOpen p.parent → shown_error base vars p ≡ None → IsClear base vars tree r i
  clear_here i p at (inl e) none = at_top p at e none
  clear_here i p at (inr h) none = below p h.0 at h.1 h.2 none

  module _ (trail : Trail) (here : AreHeld plan.steps all trail) (k : ℕ) where
    abbrev found : Found
    found = found_at plan.steps all trail k

    abbrev val : Val
    val = val_at (all_vals m plan.steps (path_of trail)) k

    held_there : (t : RowTree) → IsIn t (out-Found found).rows → IsIn t (held plan.steps all k)
    held_there t h = by (slice_get plan.steps k) refl where
      by : (o : Option Step) → slice_get plan.steps k ≡ o → IsIn t (held plan.steps all k)
      by None at = absurd (no_row t (subst (λ x. IsIn t (out-Found x).rows) (none_found m tree plan r earlier ready.stands items trail here k None at refl) h))
      by (Some s) at = found_held m tree plan r earlier ready.stands items trail here k (slice_get_within plan.steps k s at) t h

    module _ (i : ℕ) (p : Place) (at : slice_get tree.places i ≡ Some p) (shows : step_for plan.out i ≡ Some k) (met : IsOpen p.parent) where
      abbrev Agrees : Answer Trail → Answer Path → Type 0
      Agrees = Agree (Alike (Some i))

      module _ (none : shown_error base vars p ≡ None) where
        clear : IsClear base vars tree r i
        clear = clear_here i p at met none

        abbrev stays : Alike (Some i) trail (path_of trail)
        stays = (refl, here, inr (i, refl, clear))

        goes : (t : RowTree) → IsIn t (out-Found found).rows → Alike (Some i) (onto k trail t) (denoting.onto k (path_of trail) (row_of t))
        goes t h = (path_onto k trail t, held_onto plan.steps all trail here k t (held_there t h), inr (i, refl, clear))

        -- a place that reads what its step found
        module _ (uses : reads (role_of base vars tree.places i p) ≡ true) where
          sent_for : (s : ℕ) → fetch_shown k (slice_get plan.steps k) ≡ Some s → may_send m tree plan r s ≡ true
          sent_for s e = clear_sent base plan tree constraints ready earlier tables vars r may i p k s at clear uses shows e

          listing_is : listing_in val ≡ plain found
          listing_is = listing_at m tree plan r earlier ready.stands items trail here k (λ f is. sent_for k (ap (fetch_shown k) is))

          value_same : read_value (setting base vars r) plan.steps all trail k ≡ val
          value_same = value_is m tree plan r earlier ready.stands items trail here k (λ s e. sent_for s e)

          rows_are : (listing_in val).rows ≡ map row_of (out-Found found).rows
          rows_are = ap (λ (l : Listing). l.rows) listing_is

          one_alike : (o : Option RowTree) → ((t : RowTree) → o ≡ Some t → IsIn t (out-Found found).rows) → Agrees (one_tree k trail o) (one_row k (path_of trail) (option_map row_of o))
          one_alike None h = refl
          one_alike (Some t) h = goes t (h t refl)

          one_agrees : Agrees (one_tree k trail (first_tree (out-Found found).rows)) (one_row k (path_of trail) (first_row (listing_in val).rows))
          one_agrees =
              subst (λ o. Agrees (one_tree k trail (first_tree (out-Found found).rows)) (one_row k (path_of trail) o))
              (sym (ap first_row rows_are ∙ first_of (out-Found found).rows))
              (one_alike (first_tree (out-Found found).rows) (λ t e. first_in t (out-Found found).rows e))

          all_alike : (trees : List RowTree) → ((t : RowTree) → IsIn t trees → IsIn t (out-Found found).rows) → Paired (Alike (Some i)) (map (onto k trail) trees) (map (denoting.onto k (path_of trail)) (map row_of trees))
          all_alike [] h = tt
          all_alike (t ∷ trees) h = (goes t (h t (inl refl)), all_alike trees (λ u n. h u (inr n)))

          many_agrees : Agrees (Many (map (onto k trail) (out-Found found).rows)) (denoting.rows_shown k (path_of trail) val)
          many_agrees =
              subst (λ rows. Agrees (Many (map (onto k trail) (out-Found found).rows)) (Many (map (denoting.onto k (path_of trail)) rows)))
              (sym rows_are) (all_alike (out-Found found).rows (λ t n. n))

          leaf_same : (ty : TypeRef) → leaf_in base.schema ty (read_value (setting base vars r) plan.steps all trail k) ≡ leaf_in base.schema ty val
          leaf_same ty = ap (leaf_in base.schema ty) value_same

        -- a row field
        shape_agrees : (shown : Bool) (s : Shape) (leaf : Leaf) → reads (role_of base vars tree.places i p) ≡ reads (role_in shown s) → Agrees (shown_by (role_in shown s) k trail found leaf) (row_shown s k (path_of trail) (listing_in val))
        shape_agrees shown shape.List leaf u = stays
        shape_agrees shown shape.Row leaf u = one_agrees u

        abbrev leaf_at : TypeRef → Leaf
        leaf_at ty = leaf_in base.schema ty (read_value (setting base vars r) plan.steps all trail k)

        -- another field
        other_agrees : (ty : TypeRef) (d : Does) → reads (role_of base vars tree.places i p) ≡ reads (role_by (Some d)) → Agrees (shown_by (role_by (Some d)) k trail found (leaf_at ty)) (other_shown base.schema ty d k (path_of trail) val)
        other_agrees ty (does.Column table column) u = leaf_same u ty
        other_agrees ty (does.Forward table link) u = leaf_same u ty
        other_agrees ty (does.Backward table link) u = leaf_same u ty
        other_agrees ty (does.All table) u = leaf_same u ty
        other_agrees ty (does.ByKey table key) u = leaf_same u ty
        other_agrees ty (does.Create table) u = leaf_same u ty
        other_agrees ty (does.Update table key) u = leaf_same u ty
        other_agrees ty (does.Delete table key) u = leaf_same u ty
        other_agrees ty does.Nodes u = many_agrees u
        other_agrees ty does.Edges u = many_agrees u
        other_agrees ty does.PageInfo u = stays
        other_agrees ty does.Node u = stays
        other_agrees ty does.Payload u = stays
        other_agrees ty does.Total u = leaf_same u ty
        other_agrees ty does.HasNext u = leaf_same u ty
        other_agrees ty does.HasPrevious u = leaf_same u ty
        other_agrees ty does.Start u = leaf_same u ty
        other_agrees ty does.End u = leaf_same u ty
        other_agrees ty does.Cursor u = leaf_same u ty
        other_agrees ty does.ClientId u = leaf_same u ty

        field_agrees : (o : Option FieldDef) → reads (role_of base vars tree.places i p) ≡ reads (role_by (option_map (λ f. f.does) o)) → Agrees (shown_by (role_by (option_map (λ f. f.does) o)) k trail found (leaf_at (type_in o))) (by_field base o k (path_of trail) val)
        field_agrees None u = leaf_same u nullable
        field_agrees (Some f) u = other_agrees f.ty f.does u

      -- a place by its fetch
      fetch_agrees : (o : Option Fetch) → fetch_of base vars p ≡ o → Agrees (shown_by (role_with base vars tree.places i p o) k trail found (leaf_in base.schema (type_of base.schema p) (read_value (setting base vars r) plan.steps all trail k))) (by_fetch base vars p o k (path_of trail) val)
      fetch_agrees None e = field_agrees (ap (error_by base vars p) e) (field_of base.schema p) (ap (λ x. reads (role_with base vars tree.places i p x)) e)
      fetch_agrees (Some f) e = by (argument_error base vars p) refl where
        by : (o : Option (List ℕ)) → argument_error base vars p ≡ o → Agrees (shown_by (role_or o (role_in (needs_rows base.schema tree.places i) f.shape)) k trail found (leaf_in base.schema (type_of base.schema p) (read_value (setting base vars r) plan.steps all trail k))) (by_error o (row_shown f.shape k (path_of trail) (listing_in val)))
        by (Some message) h = refl
        by None h =
            shape_agrees (ap (error_by base vars p) e ∙ h) (needs_rows base.schema tree.places i) f.shape _
            (ap (λ x. reads (role_with base vars tree.places i p x)) e ∙ ap (λ x. reads (role_or x (role_in (needs_rows base.schema tree.places i) f.shape))) h)

      rows_same : rows_shown (role_of base vars tree.places i p) found ≡ listing_shown (role_of base vars tree.places i p) (listing_in val)
      rows_same = by (reads (role_of base vars tree.places i p)) refl where
        by : (b : Bool) → reads (role_of base vars tree.places i p) ≡ b → rows_shown (role_of base vars tree.places i p) found ≡ listing_shown (role_of base vars tree.places i p) (listing_in val)
        by true e = shown_as (role_of base vars tree.places i p) found ∙ ap (listing_shown (role_of base vars tree.places i p)) (sym (listing_is (read_clear base vars tree.places i p e) e))
        by false e = unread (role_of base vars tree.places i p) found (listing_in val) e

  step_agrees : (i : ℕ) (p : Place) (trail : Trail) → AreHeld plan.steps all trail → slice_get tree.places i ≡ Some p → IsOpen p.parent → (o : Option ℕ) → step_for plan.out i ≡ o →
      Agree (Alike (Some i)) (shown_in (setting base vars r) plan.steps all p (role_of base vars tree.places i p) trail o) (denoting.shown_at m p o (path_of trail) (all_vals m plan.steps (path_of trail)))
  step_agrees i p trail here at met None e = refl
  step_agrees i p trail here at met (Some k) e = fetch_agrees trail here k i p at e met (fetch_of base vars p) refl

  agrees : (i : ℕ) (p : Place) (trail : Trail) (path : Path) → slice_get tree.places i ≡ Some p → Alike p.parent trail path → Agree (Alike (Some i)) (shown_at (setting base vars r) all plan tree i p trail) (denoted m plan i p path)
  agrees i p trail path at alike =
      subst (λ q. Agree (Alike (Some i)) (shown_at (setting base vars r) all plan tree i p trail) (denoted m plan i p q)) alike.0
      (step_agrees i p trail alike.1 at alike.2 (step_for plan.out i) refl)

  -- the same data
  pub shown_same : shown_for (setting base vars r) (fetched_all (moment base tables vars r) tree plan r) plan tree r ≡ denotation base tables vars plan tree r
  shown_same = members_same Alike (shown_at (setting base vars r) all plan tree) (denoted m plan) tree.places agrees (root_place r) [] [] (refl, tt, inl refl)

  step_rows : (i : ℕ) (p : Place) (trail : Trail) → AreHeld plan.steps all trail → slice_get tree.places i ≡ Some p → IsOpen p.parent → (o : Option ℕ) → step_for plan.out i ≡ o →
      rows_in (role_of base vars tree.places i p) plan.steps all trail o ≡ rows_of_step m plan (role_of base vars tree.places i p) (path_of trail) o
  step_rows i p trail here at met None e = refl
  step_rows i p trail here at met (Some k) e = rows_same trail here k i p at e met

  rows_agree : (i : ℕ) (p : Place) (trail : Trail) (path : Path) → slice_get tree.places i ≡ Some p → Alike p.parent trail path → rows_at (setting base vars r) all plan tree i p trail ≡ denoted_rows m plan tree i p path
  rows_agree i p trail path at alike =
      step_rows i p trail alike.1 at alike.2 (step_for plan.out i) refl ∙ ap (denoted_rows m plan tree i p) alike.0

  -- as many rows
  pub rows_shown_same : rows_for (setting base vars r) (fetched_all (moment base tables vars r) tree plan r) plan tree r ≡ denoted_visits base tables vars plan tree r
  rows_shown_same =
      folds_same Alike (shown_at (setting base vars r) all plan tree) (denoted m plan) tree.places agrees
      (λ i p s a rest. rows_at (setting base vars r) all plan tree i p s + answer_cost a + rest)
      (λ i p s a rest. denoted_rows m plan tree i p s + answer_cost a + rest)
      0 (λ i p s t a n at alike. ap (λ x. x + answer_cost a + n) (rows_agree i p s t at alike))
      (root_place r) [] [] (refl, tt, inl refl)
