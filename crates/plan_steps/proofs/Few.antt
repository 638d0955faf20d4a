-- Plans of fetches find no more rows than execution visits, and are sound.
use Rattle.std.proofs.Common.{◌≡◌, ℕ, ◌+◌, ◌-◌, ◌<◌, ◌≤◌, List, [], ◌∷◌, ◌++◌, length, drop, Option, Some, None, Bool, true, false, cond, refl, sym, ap, ◌∙◌, subst, arith, length-take}
use Rattle.std.specs.Prelude.{slice_get, ◌&&◌, ◌||◌, not, is_some, IfSome}
use Rattle.pg_base.specs.Base.{BaseParts}
use Rattle.pg_base.specs.declared.cell.Cell.{Cell}
use Rattle.pg_base.specs.declared.vars.Vars.{Vars}
use Rattle.rel_model.specs.declared.tables.Row.{Row}
use Rattle.rel_model.specs.declared.tables.Tables.{Tables}
use Rattle.rel_model.specs.Interval.{interval_of, rows_between}
use Rattle.rel_model.specs.Ordered.{ordered}
use Rattle.rel_model.specs.Picked.{picked}
use Rattle.place_tree.specs.declared.fetch.Fetch.{Fetch}
use Rattle.place_tree.specs.declared.fetch.Shape.{Shape}
use Rattle.place_tree.specs.declared.fetch.Shape.TheVariants as shape
use Rattle.place_tree.specs.declared.place.Place.{Place}
use Rattle.place_tree.specs.declared.place.Tree.{Tree}
use Rattle.place_tree.specs.declared.stand.Stand.{Stand}
use Rattle.place_tree.specs.declared.stand.Stand.TheVariants.{Root as AtRoot, AtPayload}
use Rattle.place_tree.specs.Exec.{stand_cells, key_of, first_row, row_or_null, list_found, found_by, row_field, needs_rows, rows_in, cost, by_fetch, resolved}
use Rattle.place_tree.specs.Fetch.{fetch_of, argument_error}
use Rattle.place_tree.specs.Fields.{does_of, is_row_field}
use Rattle.place_tree.specs.declared.answer.Answer.{Answer}
use Rattle.place_tree.specs.declared.answer.Answer.TheVariants.{Shows, Fails, One, Many}
use Rattle.place_tree.specs.Needs.{is_mutation}
use Rattle.place_tree.specs.Spent.{answer_cost}
use Rattle.place_tree.specs.Spent as spent
use Rattle.place_tree.proofs.Folds.{Paired, Agree, folds_related}
use Rattle.stmt_tree.specs.Meaning.{part_of}
use Rattle.plan_constraints.specs.declared.constraint.Constraint.{Constraint}
use Rattle.plan_steps.specs.declared.plan.FetchStep.{FetchStep, out-FetchStep}
use Rattle.plan_steps.specs.declared.plan.Plan.{Plan}
use Rattle.plan_steps.specs.declared.plan.Root.{Root}
use Rattle.plan_steps.specs.declared.plan.Root.TheVariants as root
use Rattle.plan_steps.specs.declared.plan.Step.{Step}
use Rattle.plan_steps.specs.declared.plan.Step.TheVariants as step
use Rattle.plan_steps.specs.Denoted.{denoted, moment}
use Rattle.plan_steps.specs.Fetches.{IsFieldOf, ShowsRows, FetchesFindFew, FetchesAreSound}
use Rattle.plan_steps.specs.Named.{named_by, fetch_in, step_for}
use Rattle.plan_steps.specs.Sent.{Stance, stance_in, stances, total, trees_by, trees_at}
use Rattle.plan_steps.specs.Serves.{Basis, FetchServes, ServesBy, basis_above}
use Rattle.plan_steps.specs.Sound.{visited_for}
use Rattle.plan_steps.specs.Under.{is_under}
use Rattle.plan_steps.specs.Values.{Moment, Path, key_at, listing_for, all_vals}
use Rattle.plan_steps.proofs.Asked.{IsAsked, asked_is}
use Rattle.plan_steps.proofs.AskedMet.{asked_met}
use Rattle.plan_steps.proofs.Due.{no_fetch}
use Rattle.plan_steps.proofs.Follow.{follows}
use Rattle.plan_steps.proofs.Listings.{top_of, listing_is}
use Rattle.plan_steps.proofs.Running.{Running, before, rows_picked, one_found}
use Rattle.plan_steps.proofs.Served.{tree_for, Stands, Below, below_stands, key_due, listing_served, step_listing, place_agrees, serves_sound}
use Rattle.plan_steps.proofs.Totals.{total_both}
use Rattle.plan_steps.proofs.Trees.{trees_flat}
use Rattle.plan_steps.proofs.Unders.{start_of}
use Rattle.plan_steps.proofs.Visits.{Visit, joined, visits_in, visits, met, AreMet, found_within}

abbrev is_row : Shape → Bool
is_row shape.List = false
is_row shape.Row = true

-- ---- what a visit costs: what the fetch finds there, where its field shows rows and has no error

abbrev pays : BaseParts → Vars → Tree → ℕ → Place → Fetch → Bool
pays base vars tree i p due = not (is_some (argument_error base vars p)) && (is_row due.shape || needs_rows base.schema tree.places i)

abbrev cost_by : Moment → Plan → Tree → ℕ → Place → ℕ → Path → Option Fetch → ℕ
cost_by m plan tree i p k path None = 0
cost_by m plan tree i p k path (Some due) = cond (pays m.base m.vars tree i p due) (trees_at m plan.steps k path) 0

abbrev cost_in : Moment → Plan → Tree → ℕ → Path → Option Place → Option ℕ → ℕ
cost_in m plan tree i path None o = 0
cost_in m plan tree i path (Some p) None = 0
cost_in m plan tree i path (Some p) (Some k) = cost_by m plan tree i p k path (fetch_of m.base m.vars p)

abbrev visit_cost : Moment → Plan → Tree → Visit → ℕ
visit_cost m plan tree v = cost_in m plan tree v.place v.path (slice_get tree.places v.place) (step_for plan.out v.place)

-- ---- totals

joined_le : (f : Visit → ℕ) (vss : List (List Visit)) (ns : List ℕ) → Paired (λ vs n. total f vs ≤ n) vss ns → total f (joined vss) ≤ spent.total ns
joined_le f [] [] h = omega arith
joined_le f [] (n ∷ ns) h = absurd h
joined_le f (vs ∷ vss) [] h = absurd h
joined_le f (vs ∷ vss) (n ∷ ns) h = let a = total_both f vs (joined vss) in let b = joined_le f vss ns h.1 in let c = h.0 in omega (arith, a, b, c)

visits_le : (f : Visit → ℕ) (a : Answer (List Visit)) (b : Answer ℕ) → Agree (λ vs n. total f vs ≤ n) a b → total f (visits_in a) ≤ answer_cost b
visits_le f (Shows l) b h = omega arith
visits_le f (Fails l) b h = omega arith
visits_le f (One vs) (One n) h = h
visits_le f (Many vss) (Many ns) h = joined_le f vss ns h
visits_le f (One vs) (Shows n) h = absurd h
visits_le f (One vs) (Fails n) h = absurd h
visits_le f (One vs) (Many n) h = absurd h
visits_le f (Many vs) (Shows n) h = absurd h
visits_le f (Many vs) (Fails n) h = absurd h
visits_le f (Many vs) (One n) h = absurd h

length_between : (places : ℕ × ℕ) (list : List Row) → length (rows_between places list) ≤ places.1 - places.0
length_between places list = let e = length-take (places.1 - places.0) (drop places.0 list) in omega (arith, e)

length_part : (rows : Bool) (places : ℕ × ℕ) (list : List Row) → length (part_of rows places list) ≤ places.1 - places.0
length_part true places list = length_between places list
length_part false places list = omega arith

one_row_cost : (shown : Bool) (rows : List Row) → length rows ≤ 1 → length rows ≤ rows_in shown (row_or_null (first_row rows))
one_row_cost shown [] le = omega arith
one_row_cost shown (row ∷ rows) le = le

not_mutation : (m : Moment) (plan : Plan) (tree : Tree) (first : (k : ℕ) (s : Step) → slice_get plan.steps k ≡ Some s → IfSome (named_by s) (λ j. j < k)) (bases : ℕ → Basis) (p : Place) → (is_mutation (does_of m.base.schema p) ≡ true → p.parent ≡ None) → (path : Path) (s : Stand) → Below m plan tree first bases p.parent path s → is_mutation (does_of m.base.schema p) ≡ false
not_mutation m plan tree first bases p h path s st = by_kind (is_mutation (does_of m.base.schema p)) refl where
  by_kind : (b : Bool) → is_mutation (does_of m.base.schema p) ≡ b → b ≡ false
  by_kind true e = absurd (subst (λ q. Below m plan tree first bases q path s) (h e) st)
  by_kind false e = refl

module _ (m : Moment) (plan : Plan) (tree : Tree) (r : Root) (constraints : List Constraint) (run : Running m plan tree r constraints) where
  abbrev bases : ℕ → Basis
  bases = run.are.serves.bases

  abbrev first : (k : ℕ) (s : Step) → slice_get plan.steps k ≡ Some s → IfSome (named_by s) (λ j. j < k)
  first = before m plan tree r constraints run

  abbrev all : List Stance
  all = stances m tree plan r

  abbrev trees : ℕ → Path → ℕ
  trees k path = trees_at m plan.steps k path

  abbrev price : Visit → ℕ
  price v = visit_cost m plan tree v

  abbrev visit : ℕ → Path → Visit
  visit i path = record { place = i; path = path }

  -- ---- each asked fetch has a place of its own, which shows its rows

  record Chosen (k : ℕ) : Type 0 where
    place : ℕ
    field : IsFieldOf m.base tree plan k place
    is_here : is_under tree r place ≡ true
    shows : (f : FetchStep) → slice_get plan.steps k ≡ Some (step.Fetch f) → (out-FetchStep f).rows ≡ true → ShowsRows m.base tree place field.place

  chosen : (k : ℕ) → (stance_in all k).asked ≡ true → Chosen k
  chosen k e = by_rows (out-FetchStep is.fetch).rows refl where
    is : IsAsked m plan tree r constraints run k
    is = asked_is m plan tree r constraints run k e

    own : (i : ℕ) × IsFieldOf m.base tree plan k i × (is_under tree r i ≡ true)
    own = run.are.used r (start_of m.base tree r run.of_tree) k is.fetch is.is_step is.used

    by_rows : (b : Bool) → (out-FetchStep is.fetch).rows ≡ b → Chosen k
    by_rows true rows =
        let z = run.are.rows k is.fetch is.is_step rows in
        record { place = z.0; field = z.1; is_here = run.are.one_root r (start_of m.base tree r run.of_tree) k own.0 z.0 own.1 z.1 own.2; shows = λ f at on. z.2 }
    by_rows false rows =
        record { place = own.0; field = own.1; is_here = own.2; shows = λ f at on. (let same : is.fetch ≡ f = let q = sym is.is_step ∙ at in cc in let z = sym rows ∙ ap (λ x. (out-FetchStep x).rows) same ∙ on in cc) }

  pick : (k : ℕ) (b : Bool) → (stance_in all k).asked ≡ b → ℕ
  pick k true e = (chosen k e).place
  pick k false e = 0

  -- what holds of the chosen place holds of the picked one
  picked_is : (P : ℕ → Type 0) (k : ℕ) (b : Bool) (e : (stance_in all k).asked ≡ b) → (stance_in all k).asked ≡ true → ((c : Chosen k) → P c.place) → P (pick k b e)
  unfolding pick
  picked_is P k true e on h = h (chosen k e)
  picked_is P k false e on h = let z = sym e ∙ on in cc

  trees_fetch : (k : ℕ) (f : FetchStep) → slice_get plan.steps k ≡ Some (step.Fetch f) → (path : Path) → trees k path ≡ length (listing_for m f (key_at m f (all_vals m plan.steps path))).rows
  trees_fetch k f at path = ap (λ o. trees_by m plan.steps path (fetch_in o)) at ∙ trees_flat m f (run.are.flat k f at) (key_at m f (all_vals m plan.steps path))

  -- without rows it finds none
  none_found : (k : ℕ) (f : FetchStep) → slice_get plan.steps k ≡ Some (step.Fetch f) → (out-FetchStep f).rows ≡ false → (path : Path) → trees k path ≡ 0
  none_found k f at off path = trees_fetch k f at path ∙ by_key (key_at m f (all_vals m plan.steps path)) where
    by_key : (o : Option (List Cell)) → length (listing_for m f o).rows ≡ 0
    by_key None = refl
    by_key (Some key) =
        let top = top_of m.base m.vars (out-FetchStep f) in
        let list = ordered (out-FetchStep f).order (picked m.tables (out-FetchStep f).table (out-FetchStep f).by key top.condition) in
        ap (λ l. length l.rows) (listing_is m.base m.tables m.vars f key)
        ∙ ap (λ b. length (part_of b (interval_of (out-FetchStep f).order top.window list) list)) off

  chosen_cost : (k : ℕ) → (stance_in all k).asked ≡ true → (c : Chosen k) (path : Path) → trees k path ≤ price (visit c.place path)
  chosen_cost k e c path = by_rows (out-FetchStep is.fetch).rows refl where
    is : IsAsked m plan tree r constraints run k
    is = asked_is m plan tree r constraints run k e

    p : Place
    p = c.field.place

    due : (due : Fetch) × (fetch_of m.base m.vars p ≡ Some due)
    due = run.over_tree.asks c.place p m.vars c.field.is_place c.field.is_field

    price_is : price (visit c.place path) ≡ cond (pays m.base m.vars tree c.place p due.0) (trees k path) 0
    price_is =
        ap (λ o. cost_in m plan tree c.place path o (step_for plan.out c.place)) c.field.is_place
        ∙ ap (cost_in m plan tree c.place path (Some p)) c.field.is_out
        ∙ ap (cost_by m plan tree c.place p k path) due.1

    paid : (sh : Shape) → due.0.shape ≡ sh → ShowsRows m.base tree c.place p → (is_row sh || needs_rows m.base.schema tree.places c.place) ≡ true
    paid shape.Row s shows = refl
    paid shape.List s shows = shows m.vars due.0 due.1 s

    fine : argument_error m.base m.vars p ≡ None
    fine = (asked_met m plan tree r constraints run k e c.place c.field c.is_here).1

    by_rows : (b : Bool) → (out-FetchStep is.fetch).rows ≡ b → trees k path ≤ price (visit c.place path)
    by_rows false off = let z = none_found k is.fetch is.is_step off path in omega (arith, z)
    by_rows true on =
        let same : price (visit c.place path) ≡ trees k path =
        price_is ∙ ap (λ x. cond (not (is_some x) && (is_row due.0.shape || needs_rows m.base.schema tree.places c.place)) (trees k path) 0) fine
        ∙ ap (λ b. cond b (trees k path) 0) (paid due.0.shape refl (c.shows is.fetch is.is_step on)) in
        omega (arith, same)

  pub are_met : AreMet m tree plan r (visit_cost m plan tree)
  are_met = record {
    place_of = λ k. pick k (stance_in all k).asked refl;
    own = λ k e. picked_is (λ i. step_for plan.out i ≡ Some k) k (stance_in all k).asked refl e (λ c. c.field.is_out);
    paths = λ k e. picked_is (λ i. (stance_in all k).paths ≡ met i (visits m plan tree r)) k (stance_in all k).asked refl e
        (λ c. (asked_met m plan tree r constraints run k e c.place c.field c.is_here).0);
    costs = λ k path e. picked_is (λ i. trees k path ≤ price (visit i path)) k (stance_in all k).asked refl e (λ c. chosen_cost k e c path);
  }

  -- ---- and what a place costs, it visits

  row_cost : (i : ℕ) (p : Place) (parent : Option ℕ) (b : Basis) (path : Path) (s : Stand) → Stands m plan tree first parent b path s → (k : ℕ) (f : FetchStep) → slice_get plan.steps k ≡ Some (step.Fetch f) → (due : Fetch) → fetch_of m.base m.vars p ≡ Some due → FetchServes plan.steps b m.base tree m.vars i f due →
      (sh : Shape) → due.shape ≡ sh → (needs : Bool) → cond (is_row sh || needs) (trees k path) 0 ≤ rows_in needs (found_by m.tables due sh (stand_cells s))
  row_cost i p parent b path s st k f at due is q sh es needs = by_shape sh es needs where
    key : List Cell
    key = key_of due.key (stand_cells s)

    found : trees k path ≡ length (listing_for m f (Some key)).rows
    found = trees_fetch k f at path ∙ ap (λ o. length (listing_for m f o).rows) (key_due m plan tree first parent b path s st f due.key q.key)

    by_shape : (sh : Shape) → due.shape ≡ sh → (needs : Bool) → cond (is_row sh || needs) (trees k path) 0 ≤ rows_in needs (found_by m.tables due sh (stand_cells s))
    by_shape shape.List es false = omega arith
    by_shape shape.List es true =
        let list = list_found m.tables due (stand_cells s) in
        let e = ap (λ l. length l.rows) (listing_served m plan tree first b i f due q key) in
        let le = length_part (out-FetchStep f).rows (interval_of due.order due.window list) list in
        omega (arith, found, e, le)
    by_shape shape.Row es needs =
        let rows = picked m.tables due.table due.by key [] in
        let e = ap length (rows_picked m plan tree r constraints run b i p f due is q es key) in
        let same = ap (λ l. length l.rows) (sym (step_listing m plan tree first path k f at ∙ ap (listing_for m f) (key_due m plan tree first parent b path s st f due.key q.key))) in
        let one = one_found m plan tree r constraints run b i p k f at due is q es path in
        let few : length rows ≤ 1 = omega (arith, e, same, one) in
        let le = one_row_cost needs rows few in
        omega (arith, found, e, le)

  resolved_is : (p : Place) (s : Stand) (due : Fetch) → fetch_of m.base m.vars p ≡ Some due → resolved m.base m.tables m.vars tree.places p s ≡ row_field m.tables (argument_error m.base m.vars p) due (stand_cells s)
  unfolding resolved
  resolved_is p s due is = ap (λ o. by_fetch m.base m.tables m.vars tree.places p o s) is

  abbrev needs_at : ℕ → Bool
  needs_at i = needs_rows m.base.schema tree.places i

  abbrev visiting : ℕ → Place → Stand → ℕ
  visiting i p s = cost m.base.schema tree.places i p (resolved m.base m.tables m.vars tree.places p s)

  visiting_is : (i : ℕ) (p : Place) (s : Stand) (due : Fetch) → is_row_field (does_of m.base.schema p) ≡ true → fetch_of m.base m.vars p ≡ Some due → visiting i p s ≡ rows_in (needs_at i) (row_field m.tables (argument_error m.base m.vars p) due (stand_cells s))
  visiting_is i p s due row is =
      ap (λ b. cond b (rows_in (needs_at i) (resolved m.base m.tables m.vars tree.places p s)) 0) row
      ∙ ap (rows_in (needs_at i)) (resolved_is p s due is)

  field_cost : (i : ℕ) (p : Place) (path : Path) (s : Stand) → Stands m plan tree first p.parent (basis_above bases p.parent) path s → (k : ℕ) → (rows : Bool) → is_row_field (does_of m.base.schema p) ≡ rows →
      ServesBy rows m.base tree constraints plan.steps i p (basis_above bases p.parent) (bases i) k → (o : Option Fetch) → fetch_of m.base m.vars p ≡ o → cost_by m plan tree i p k path o ≤ visiting i p s
  field_cost i p path s st k rows row q None is = omega arith
  field_cost i p path s st k false row q (Some due) is = let none = sym (no_fetch m.base m.vars p row) ∙ is in cc
  field_cost i p path s st k true row q (Some due) is = let e = visiting_is i p s due row is in let le = by_error (argument_error m.base m.vars p) refl in omega (arith, e, le) where
    by_error : (e : Option (List ℕ)) → argument_error m.base m.vars p ≡ e → cond (not (is_some e) && (is_row due.shape || needs_at i)) (trees k path) 0 ≤ rows_in (needs_at i) (row_field m.tables e due (stand_cells s))
    by_error (Some message) e = omega arith
    by_error None e =
        let z = q.serves m.vars due run.fit run.hold is e in
        row_cost i p p.parent (basis_above bases p.parent) path s st k q.fetch q.is_fetch due is z.0 due.shape refl (needs_at i)

  place_cost : (i : ℕ) (p : Place) (path : Path) (s : Stand) → slice_get tree.places i ≡ Some p → Stands m plan tree first p.parent (basis_above bases p.parent) path s → is_mutation (does_of m.base.schema p) ≡ false → price (visit i path) ≤ visiting i p s
  place_cost i p path s at st mut =
      let sv = run.are.serves.each i p at mut in
      let e = ap (λ o. cost_in m plan tree i path o (step_for plan.out i)) at ∙ ap (cost_in m plan tree i path (Some p)) sv.is_out in
      let le = field_cost i p path s st sv.at (is_row_field (does_of m.base.schema p)) refl sv.fits (fetch_of m.base m.vars p) refl in
      omega (arith, e, le)

  seen : (i : ℕ) (path : Path) (a : Answer (List Visit)) (b : Answer ℕ) (vs : List Visit) (n c : ℕ) → price (visit i path) ≤ c → Agree (λ vs n. total (visit_cost m plan tree) vs ≤ n) a b → total (visit_cost m plan tree) vs ≤ n →
      total (visit_cost m plan tree) (visit i path ∷ (visits_in a ++ vs)) ≤ c + answer_cost b + n
  seen i path a b vs n c le h rest =
      let x = total_both (visit_cost m plan tree) (visits_in a) vs in
      let y = visits_le (visit_cost m plan tree) a b h in
      omega (arith, x, y, le, rest)

-- ---- the two walks side by side

module _ (base : BaseParts) (tables : Tables) (vars : Vars) (plan : Plan) (tree : Tree) (constraints : List Constraint) where
  abbrev At : Root → Moment
  At r = moment base tables vars r

  abbrev Run : Root → Type 0
  Run r = Running (At r) plan tree r constraints

  abbrev found : Root → ℕ
  found r = total (visit_cost (At r) plan tree) (visits (At r) plan tree r)

  query_costs : Run root.Query → found root.Query ≤ visited_for base tables vars tree root.Query
  query_costs run =
      let m = At root.Query in
      let r = root.Query in
      let first = before m plan tree r constraints run in
      let all = run.are.serves in
      folds_related (λ parent path s. Stands m plan tree first parent (basis_above all.bases parent) path s) (λ vs n. total (visit_cost m plan tree) vs ≤ n)
      (denoted m plan) (λ i p s. resolved base tables vars tree.places p s)
      (λ i p path a rest. record { place = i; path = path } ∷ (visits_in a ++ rest)) (λ i p s a rest. cost base.schema tree.places i p (resolved base tables vars tree.places p s) + answer_cost a + rest) [] 0 tree.places
      (λ i p path s at st. let mut = run.of_tree.query refl i p at in place_agrees m plan tree first constraints run.fit all.bases run.valid run.hold run.of_tree.named i p path s at st mut (all.each i p at mut))
      (λ i p path s a b vs n at st h rest. let mut = run.of_tree.query refl i p at in seen m plan tree r constraints run i path a b vs n _ (place_cost m plan tree r constraints run i p path s at st mut) h rest)
      (omega arith) tree.places 0 refl None [] AtRoot tt

  field_costs : (place : ℕ) (row : Row) → Run (root.Field place row) → found (root.Field place row) ≤ visited_for base tables vars tree (root.Field place row)
  field_costs place row run =
      let r = root.Field place row in
      let m = At r in
      let first = before m plan tree r constraints run in
      let all = run.are.serves in
      let here = run.of_tree.field place row refl in
      let payload = all.payloads place here.0 here.1 here.2 in
      -- no place below another one is a mutation field
      let inner = λ (i : ℕ) (p : Place) (path : Path) (s : Stand) (at : slice_get tree.places i ≡ Some p) (st : Below m plan tree first all.bases p.parent path s). not_mutation m plan tree first all.bases p (run.of_tree.at_root i p at) path s st in
      folds_related (Below m plan tree first all.bases) (λ vs n. total (visit_cost m plan tree) vs ≤ n)
      (denoted m plan) (λ i p s. resolved base tables vars tree.places p s)
      (λ i p path a rest. record { place = i; path = path } ∷ (visits_in a ++ rest)) (λ i p s a rest. cost base.schema tree.places i p (resolved base tables vars tree.places p s) + answer_cost a + rest) [] 0 tree.places
      (λ i p path s at st. let mut = inner i p path s at st in place_agrees m plan tree first constraints run.fit all.bases run.valid run.hold run.of_tree.named i p path s at (below_stands m plan tree first all.bases p.parent path s st) mut (all.each i p at mut))
      (λ i p path s a b vs n at st h rest. let mut = inner i p path s at st in seen m plan tree r constraints run i path a b vs n _ (place_cost m plan tree r constraints run i p path s at (below_stands m plan tree first all.bases p.parent path s st) mut) h rest)
      (omega arith) tree.places 0 refl (Some place) [] (AtPayload row) (subst (λ b. Stands m plan tree first (Some place) b [] (AtPayload row)) (sym payload) (row, refl, refl))

  costs : (r : Root) → Run r → found r ≤ visited_for base tables vars tree r
  costs root.Query run = query_costs run
  costs (root.Field place row) run = field_costs place row run

-- ---- the laws

pub few_found : FetchesFindFew
few_found base plan tree constraints over_tree ok are tables vars r may =
    let m = moment base tables vars r in
    let run : Running m plan tree r constraints = record {
      over_tree = over_tree;
      checked = ok;
      are = are;
      fit = may.fit;
      hold = may.hold;
      valid = may.valid;
      of_tree = tree_for base tree r over_tree.made may.of_tree;
    } in
    let a = found_within m tree plan r (visit_cost m plan tree) (are_met m plan tree r constraints run) in
    let b = costs base tables vars plan tree constraints r run in
    omega (arith, a, b)

pub fetches_sound : FetchesAreSound
fetches_sound base plan tree constraints over_tree ok are =
    serves_sound base plan tree constraints over_tree.made ok are.serves (follows base plan tree constraints ok are) (few_found base plan tree constraints over_tree ok are)
