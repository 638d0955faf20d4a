-- What a fetch that planning makes tells of its field: whether a part is asked for, and whether there is an error.
use Rattle.std.proofs.Common.{◌≡◌, ℕ, zero, suc, ◌<◌, ◌≤◌, Bool, true, false, not, List, [], ◌∷◌, length, Option, Some, None, refl, sym, ap, ◌∙◌, subst, arith, zero-add, ne_eqb, ◌⊎◌, inl, inr}
use Rattle.std.specs.List.{list_any}
use Rattle.std.specs.Option.{option_and_then}
use Rattle.std.specs.Prelude.{slice_get, is_some, IfSome, ◌==◌, ◌&&◌, ◌||◌, codes, option_map, if◌then◌else◌}
use Rattle.gql_collect.specs.Growing.{args_in}
use Rattle.gql_input.specs.Arguments.{value_with}
use Rattle.gql_input.specs.declared.argument.ArgValue.{ArgValue}
use Rattle.pg_base.specs.Base.{BaseParts}
use Rattle.pg_base.specs.Lists.{Each}
use Rattle.pg_base.specs.declared.does.Does.{Does}
use Rattle.pg_base.specs.declared.does.Does.TheVariants as does
use Rattle.pg_base.specs.declared.schema.ArgDef.{ArgDef}
use Rattle.pg_base.specs.declared.schema.FieldDef.{FieldDef}
use Rattle.pg_base.specs.declared.table_def.KeyDef.{KeyDef}
use Rattle.pg_base.specs.declared.table_def.LinkDef.{LinkDef}
use Rattle.pg_base.specs.declared.vars.Vars.{Vars}
use Rattle.place_tree.specs.Arguments.{argument, written, is_windowed, order_by, condition, or_else, null_error, window_error}
use Rattle.place_tree.specs.Fetch.{inputs_of_arg, row_fetch, list_fetch, list_names, list_order, fetch_in, fetch_by, fetch_of, args_error, fetch_error, argument_error, backward_fetch, key_fetch, forward_fetch, referring_fetch, key_cells}
use Rattle.place_tree.specs.Fields.{field_of, does_of, columns_of, key_at, link_at, finds_one, finds_many, is_list, is_list_of}
use Rattle.place_tree.specs.Needs.{is_backward}
use Rattle.place_tree.specs.declared.fetch.Fetch.{Fetch}
use Rattle.place_tree.specs.declared.fetch.KeyCells.{KeyCells}
use Rattle.place_tree.specs.declared.fetch.KeyCells.TheVariants.{Given as GivenCells, OfParent}
use Rattle.place_tree.specs.declared.place.Place.{Place}
use Rattle.place_tree.specs.declared.place.PlaceArg.{PlaceArg}
use Rattle.place_tree.specs.declared.place.Tree.{Tree}
use Rattle.plan_steps.specs.Fetches.{bare, has_null_order, holds_null, has_window, is_part}
use Rattle.plan_steps.specs.Fitting.{FitsArg, FitsPlace, FitTree}
use Rattle.plan_steps.specs.Values.{order_names}
use Rattle.plan_steps.specs.declared.plan.FetchStep.{FetchStep, FetchStep-F, out-FetchStep, out-roll-FetchStep}
use Rattle.plan_steps.specs.declared.plan.Slot.{Slot}
use Rattle.rel_model.specs.declared.window.By.{By}
use Rattle.schema_laws.proofs.Eaches.{Each-get}
use Rattle.step_plan.specs.Added.{row_of, list_rows, list_step, row_step, add_link, add_key, add_backward, added_by, added_for}
use Rattle.step_plan.specs.Slots.{key_slots, condition_slots, window_slots, no_window}
use Rattle.step_plan.specs.declared.making.Added.{Added}
use Rattle.step_plan.specs.declared.making.Added.TheVariants as adds
use Rattle.step_plan.specs.declared.making.Footing.{Footing}
use Rattle.step_plan.proofs.ArgTypes.{IsKeyType, AreListTypes, BackwardTypes, AreTyped, number_type, cursor_type, is_null_slot, or_false, single_holds, number_typed, cursor_typed, list_null, key_null}
use Rattle.step_plan.proofs.AskedFetches.{FitArgs, AreNoted, order_same, names_due}
use Rattle.step_plan.proofs.Facts.{AreListArgs, AreArgs}
use Rattle.step_plan.proofs.Places.{inside}
use Rattle.step_plan.proofs.Plannable.{IsPlanned}
use Rattle.step_plan.proofs.WindowSlots.{AreCounted, IsNumberOrText, slots_error, has_slots, slots_tell, without_slots}

-- the fetch that is added
abbrev pub fetch_added : Added → Option FetchStep
fetch_added (adds.Leaf s) = None
fetch_added (adds.List f) = Some f
fetch_added (adds.Row f) = Some f
fetch_added (adds.Item edge s) = None
fetch_added (adds.Shows k g) = None
fetch_added adds.Given = None

-- the parts of such a fetch
abbrev pub row_parts : ℕ → List ℕ → Option ℕ → List ℕ → List Slot → FetchStep-F FetchStep
row_parts table by parent columns key = record {
  table = table;
  by = by;
  parent = parent;
  parent_columns = columns;
  condition = [];
  key = key;
  order = [];
  window = no_window;
  rows = true;
  children = [];
}

abbrev pub list_parts : BaseParts → Vars → Place → Bool → FieldDef → ℕ → List ℕ → Option ℕ → List ℕ → FetchStep-F FetchStep
list_parts base vars p shown f table by parent columns = record {
  table = table;
  by = by;
  parent = parent;
  parent_columns = columns;
  condition = condition_slots base.schema vars (inputs_of_arg base f condition) (columns_of base.catalog table) (written p.args condition);
  key = [];
  order = list_order base f vars table p;
  window = window_slots vars p;
  rows = list_rows vars p shown;
  children = [];
}

abbrev pub bare_parts : FetchStep-F FetchStep → FetchStep-F FetchStep
bare_parts f = record {
  table = f.table;
  by = f.by;
  parent = None;
  parent_columns = f.parent_columns;
  condition = f.condition;
  key = f.key;
  order = f.order;
  window = f.window;
  rows = true;
  children = f.children;
}

-- whether a field has an error, by its fetch, and by whether its order holds a null
abbrev pub has_error : BaseParts → Vars → Bool → FetchStep → Bool
has_error base vars null fetch =
    let f = out-FetchStep fetch in
    list_any (is_null_slot vars) f.key || (null || is_some (slots_error base vars f.table f.order f.window))

pub record Tells (base : BaseParts) (vars : Vars) (p : Place) (f : FetchStep) : Type 0 where
  pub error : is_some (argument_error base vars p) ≡ has_error base vars (has_null_order vars p) f
  pub window : has_window (out-FetchStep f).window ≡ (is_list base p && is_windowed vars p)
  pub null : has_null_order vars p ≡ true → (out-FetchStep f).rows ≡ false
  pub hung : (item : ℕ) → (out-FetchStep f).parent ≡ Some item → ((out-FetchStep f).key ≡ []) × (is_list base p ≡ true → is_backward (does_of base.schema p) ≡ true)

-- ---- arguments that aren't written

none_past : {X : Type 0} (xs : List X) (k : ℕ) → slice_get xs k ≡ None → length xs ≤ k
none_past [] k h = omega arith
none_past (x ∷ xs) zero h = cc
none_past (x ∷ xs) (suc k) h = let rest = none_past xs k h in omega (arith, rest)

written_if : (b : Bool) (w : ArgValue) (o : Option ArgValue) → b ≡ false → o ≡ None → (if b then Some w else o) ≡ None
written_if true w o h e = cc
written_if false w o h e = e

unwritten : (args : List PlaceArg) (n arg : ℕ) → Each (λ (a : PlaceArg). a.arg < n) args → n ≤ arg → written args arg ≡ None
unwritten [] n arg h le = refl
unwritten (a ∷ args) n arg h le =
    let lt = h.0 in
    written_if (a.arg == arg) a.value (written args arg) (ne_eqb a.arg arg (λ e. omega (arith, e, lt, le))) (unwritten args n arg h.1 le)

or_some : (x y : Option (List ℕ)) → is_some (or_else x y) ≡ (is_some x || is_some y)
or_some None y = refl
or_some (Some e) y = refl

and_none : (b : Bool) → (b && false) ≡ false
and_none true = refl
and_none false = refl

module _ (base : BaseParts) (vars other : Vars) (tree : Tree) (planned : IsPlanned base tree vars) (fit : FitTree base other tree) (i : ℕ) (p : Place) (is_place : slice_get tree.places i ≡ Some p)
    (noted : is_list base p ≡ true → AreNoted vars other p) (shown : Bool) (f : FieldDef) (is_field : field_of base.schema p ≡ Some f) where
  fit_args : (v : Vars) → FitTree base v tree → FitArgs base v p f
  fit_args v h = subst (λ (o : Option FieldDef). IfSome o (λ g. (arg : ℕ) → IfSome (slice_get g.args arg) (FitsArg base.schema v p arg))) is_field (Each-get (FitsPlace base v) tree.places i p h is_place)

  does_is : (d : Does) → f.does ≡ d → does_of base.schema p ≡ Some d
  does_is d is = ap (λ (o : Option FieldDef). option_map (λ g. g.does) o) is_field ∙ ap Some is

  -- ---- errors

  error_is : argument_error base other p ≡ or_else (null_error base.schema other p 0 f.args) (fetch_error base other p (fetch_by base f other p f.does))
  unfolding argument_error fetch_of
  error_is = ap (λ o. or_else (args_error base other p o) (fetch_error base other p (fetch_in base other p o))) is_field

  errors : (d : Does) → f.does ≡ d → (due : Fetch) → fetch_by base f other p d ≡ Some due → is_some (argument_error base other p) ≡ (is_some (null_error base.schema other p 0 f.args) || is_some (fetch_error base other p (Some due)))
  errors d is due e =
      ap is_some error_is
      ∙ ap (λ x. is_some (or_else (null_error base.schema other p 0 f.args) (fetch_error base other p (fetch_by base f other p x)))) is
      ∙ ap (λ o. is_some (or_else (null_error base.schema other p 0 f.args) (fetch_error base other p o))) e
      ∙ or_some (null_error base.schema other p 0 f.args) (fetch_error base other p (Some due))

  -- ---- one row

  no_order : slice_get f.args order_by ≡ None → has_null_order other p ≡ false
  no_order e =
      let own = subst (λ o. Each (λ (a : PlaceArg). a.arg < length (args_in o)) p.args) is_field (planned.own i p is_place) in
      ap (λ w. holds_null (option_and_then (value_with other) w)) (unwritten p.args (length f.args) order_by own (none_past f.args order_by e))

  row_tells : (table : ℕ) (by : List ℕ) (parent : Option ℕ) (columns : List ℕ) (slots : List Slot) (key : KeyCells) (d : Does) → f.does ≡ d → fetch_by base f other p d ≡ Some (row_fetch table by key) → is_list base p ≡ false
      → is_some (null_error base.schema other p 0 f.args) ≡ list_any (is_null_slot other) slots → has_null_order other p ≡ false → ((item : ℕ) → parent ≡ Some item → slots ≡ []) → Tells base other p (row_step table by parent columns slots)
  row_tells table by parent columns slots key d is due single nulls order hung =
      let e : out-FetchStep (row_step table by parent columns slots) ≡ row_parts table by parent columns slots = out-roll-FetchStep (row_parts table by parent columns slots) in
      let any : Bool = list_any (is_null_slot other) slots in
      record {
        error = errors d is (row_fetch table by key) due ∙ or_false (is_some (null_error base.schema other p 0 f.args)) ∙ nulls
            ∙ sym (or_false any) ∙ sym (ap (λ n. any || (n || false)) order)
            ∙ sym (ap (λ o. list_any (is_null_slot other) o.key || (has_null_order other p || is_some (slots_error base other o.table o.order o.window))) e);
        window = ap (λ o. has_window o.window) e ∙ sym (ap (λ b. b && is_windowed other p) single);
        null = λ h. let z : true ≡ false = sym h ∙ order in cc;
        hung = λ item h. (ap (λ o. o.key) e ∙ hung item (sym (ap (λ o. o.parent) e) ∙ h), λ listed. let z : true ≡ false = sym listed ∙ single in cc);
      }

  without_args : f.args ≡ [] → is_some (null_error base.schema other p 0 f.args) ≡ false
  without_args e = ap (λ l. is_some (null_error base.schema other p 0 l)) e

  without_order : f.args ≡ [] → has_null_order other p ≡ false
  without_order e = no_order (ap (λ l. slice_get l order_by) e)

  -- ---- a list

  list_tells : (table : ℕ) (by : List ℕ) (parent : Option ℕ) (columns : List ℕ) (key : KeyCells) (d : Does) → f.does ≡ d → fetch_by base f other p d ≡ Some (list_fetch base f other p table by key) → is_list base p ≡ true
      → AreListArgs base table f.args → AreListTypes base table f.args → ((item : ℕ) → parent ≡ Some item → is_backward (does_of base.schema p) ≡ true) → Tells base other p (list_step base vars p shown f table by parent columns)
  list_tells table by parent columns key d is due listed law types hung =
      let e : out-FetchStep (list_step base vars p shown f table by parent columns) ≡ list_parts base vars p shown f table by parent columns = out-roll-FetchStep (list_parts base vars p shown f table by parent columns) in
      let n = noted listed in
      let fits = fit_args other fit in
      let order : List By = list_order base f vars table p in
      let columns_ = columns_of base.catalog table in
      let are : AreCounted base other p = record {
        number = number_type;
        cursor = cursor_type base;
        is_number = (refl, tt);
        is_cursor = (refl, subst IsNumberOrText (sym types.cursor) tt);
        first = number_typed base other p table f.args types fits 0 (codes "first") refl;
        last = number_typed base other p table f.args types fits 1 (codes "last") refl;
        offset = number_typed base other p table f.args types fits 2 (codes "offset") refl;
        before = cursor_typed base other p table f.args types fits 3 (codes "before") refl;
        after = cursor_typed base other p table f.args types fits 4 (codes "after") refl;
      } in
      let names = names_due base vars other tree i p f table by parent columns law n (fit_args vars planned.fit) fits in
      let same = order_same base vars other tree i p f table by parent columns law n (fit_args vars planned.fit) fits in
      let window : window_error base.catalog columns_ (list_names other p) (list_order base f other table p) other p ≡ slots_error base other table order (window_slots vars p) =
      ap (λ l. window_error base.catalog columns_ l (list_order base f other table p) other p) (sym names)
      ∙ ap (λ o. window_error base.catalog columns_ (order_names base table o) o other p) same
      ∙ sym (slots_tell base vars other p n.alike are table order) in
      record {
        error = errors d is (list_fetch base f other p table by key) due
            ∙ ap (λ b. b || is_some (window_error base.catalog columns_ (list_names other p) (list_order base f other table p) other p)) (list_null base other p table f.args types fits)
            ∙ ap (λ o. has_null_order other p || is_some o) window
            ∙ sym (ap (λ o. list_any (is_null_slot other) o.key || (has_null_order other p || is_some (slots_error base other o.table o.order o.window))) e);
        window = ap (λ o. has_window o.window) e ∙ has_slots base vars other p n.alike are ∙ sym (ap (λ b. b && is_windowed other p) listed);
        null = λ h. ap (λ o. o.rows) e ∙ ap (λ b. shown && not b) (ap holds_null (sym n.order) ∙ h) ∙ and_none shown;
        hung = λ item h. (ap (λ o. o.key) e, λ l. hung item (sym (ap (λ o. o.parent) e) ∙ h));
      }

  -- ---- each row field

  key_tells : (t k : ℕ) → f.does ≡ does.ByKey t k → (key : KeyDef) → key_at base.catalog t k ≡ Some key → Each (IsKeyType base) f.args → Tells base other p (row_step t key.columns None [] (key_slots base.schema p 0 f.args))
  key_tells t k is key at types =
      let fits = fit_args other fit in
      row_tells t key.columns None [] (key_slots base.schema p 0 f.args) (GivenCells (key_cells base.schema other p 0 f.args)) (does.ByKey t k) is (ap (key_fetch base f other p t) at) (ap (is_list_of base.catalog) (does_is (does.ByKey t k) is))
      (key_null base other p 0 f.args types (λ j a e. subst (λ n. FitsArg base.schema other p n a) (sym (zero-add j)) (subst (λ o. IfSome o (FitsArg base.schema other p j)) e (fits j))))
      (order (slice_get f.args order_by) refl) (λ item h. cc)
    where
      order : (o : Option ArgDef) → slice_get f.args order_by ≡ o → has_null_order other p ≡ false
      order None e = no_order e
      order (Some a) e =
          single_holds base a.ty (Each-get (IsKeyType base) f.args order_by a types e).0.0 (argument other p order_by)
          (subst (λ o. IfSome o (FitsArg base.schema other p order_by)) e (fit_args other fit order_by)).0

  backward_tells : (t l : ℕ) → f.does ≡ does.Backward t l → (link : LinkDef) → link_at base.catalog t l ≡ Some link → (row : ℕ) (one : Bool) → finds_one (slice_get base.catalog.tables t) link ≡ one → (one ≡ false → AreListArgs base t f.args)
      → BackwardTypes base t f.args one → (x : FetchStep) → fetch_added (add_backward base vars p shown f t row link one) ≡ Some x → Tells base other p x
  backward_tells t l is link at row true o law types x e =
      let none : is_list base p ≡ false = ap (is_list_of base.catalog) (does_is (does.Backward t l) is) ∙ ap (finds_many (slice_get base.catalog.tables t)) at ∙ ap not o in
      subst (Tells base other p) (inside (row_step t link.columns (Some row) link.target_columns []) x e)
      (row_tells t link.columns (Some row) link.target_columns [] (OfParent link.target_columns) (does.Backward t l) is (ap (referring_fetch base f other p t) at ∙ ap (λ b. Some (backward_fetch base f other p t link b)) o) none
      (without_args types) (without_order types) (λ item h. refl))
  backward_tells t l is link at row false o law types x e =
      let listed : is_list base p ≡ true = ap (is_list_of base.catalog) (does_is (does.Backward t l) is) ∙ ap (finds_many (slice_get base.catalog.tables t)) at ∙ ap not o in
      subst (Tells base other p) (inside (list_step base vars p shown f t link.columns (Some row) link.target_columns) x e)
      (list_tells t link.columns (Some row) link.target_columns (OfParent link.target_columns) (does.Backward t l) is (ap (referring_fetch base f other p t) at ∙ ap (λ b. Some (backward_fetch base f other p t link b)) o) listed
      (law refl) types (λ item h. ap is_backward (does_is (does.Backward t l) is)))

  field_tells : (g : Footing) (d : Does) → f.does ≡ d → AreArgs base f.args d → AreTyped base f.args d → (x : FetchStep) → fetch_added (added_by base vars tree.places p shown g f d) ≡ Some x → Tells base other p x
  field_tells g (does.All t) is law types x e =
      subst (Tells base other p) (inside (list_step base vars p shown f t [] None []) x e)
      (list_tells t [] None [] (GivenCells []) (does.All t) is refl (ap (is_list_of base.catalog) (does_is (does.All t) is)) law types (λ item h. cc))
  field_tells g (does.ByKey t k) is law types x e = by (key_at base.catalog t k) refl types e
    where
      by : (o : Option KeyDef) → key_at base.catalog t k ≡ o → IfSome o (λ key. Each (IsKeyType base) f.args) → fetch_added (add_key o (λ key. adds.Row (row_step t key.columns None [] (key_slots base.schema p 0 f.args)))) ≡ Some x → Tells base other p x
      by None at types q = cc
      by (Some key) at types q = subst (Tells base other p) (inside (row_step t key.columns None [] (key_slots base.schema p 0 f.args)) x q) (key_tells t k is key at types)
  field_tells g (does.Forward t l) is law types x e = by (link_at base.catalog t l) refl e
    where
      by : (o : Option LinkDef) → link_at base.catalog t l ≡ o → fetch_added (add_link o (λ y. adds.Row (row_step y.target y.target_columns (Some (row_of g)) y.columns []))) ≡ Some x → Tells base other p x
      by None at q = cc
      by (Some link) at q =
          subst (Tells base other p) (inside (row_step link.target link.target_columns (Some (row_of g)) link.columns []) x q)
          (row_tells link.target link.target_columns (Some (row_of g)) link.columns [] (OfParent link.columns) (does.Forward t l) is (ap forward_fetch at) (ap (is_list_of base.catalog) (does_is (does.Forward t l) is))
          (without_args types) (without_order types) (λ item h. refl))
  field_tells g (does.Backward t l) is law types x e = by (link_at base.catalog t l) refl law types e
    where
      by : (o : Option LinkDef) → link_at base.catalog t l ≡ o → IfSome o (λ y. finds_one (slice_get base.catalog.tables t) y ≡ false → AreListArgs base t f.args) → IfSome o (λ y. BackwardTypes base t f.args (finds_one (slice_get base.catalog.tables t) y))
          → fetch_added (add_link o (λ y. add_backward base vars p shown f t (row_of g) y (finds_one (slice_get base.catalog.tables t) y))) ≡ Some x → Tells base other p x
      by None at law types q = cc
      by (Some link) at law types q = backward_tells t l is link at (row_of g) (finds_one (slice_get base.catalog.tables t) link) refl law types x q
  field_tells g (does.Column t c) is law types x e = cc
  field_tells g (does.Create t) is law types x e = cc
  field_tells g (does.Update t k) is law types x e = cc
  field_tells g (does.Delete t k) is law types x e = cc
  field_tells g does.Nodes is law types x e = cc
  field_tells g does.Edges is law types x e = cc
  field_tells g does.PageInfo is law types x e = cc
  field_tells g does.Total is law types x e = cc
  field_tells g does.Node is law types x e = cc
  field_tells g does.Cursor is law types x e = cc
  field_tells g does.HasNext is law types x e = cc
  field_tells g does.HasPrevious is law types x e = cc
  field_tells g does.Start is law types x e = cc
  field_tells g does.End is law types x e = cc
  field_tells g does.ClientId is law types x e = cc
  field_tells g does.Payload is law types x e = cc

-- the fetch that a place adds tells of it
module _ (base : BaseParts) (vars other : Vars) (tree : Tree) (planned : IsPlanned base tree vars) (fit : FitTree base other tree) (i : ℕ) (p : Place) (is_place : slice_get tree.places i ≡ Some p)
    (noted : is_list base p ≡ true → AreNoted vars other p) where
  pub added_tells : (shown : Bool) (g : Footing) (x : FetchStep) (o : Option FieldDef) → field_of base.schema p ≡ o → fetch_added (added_for base vars tree.places p shown g o) ≡ Some x → Tells base other p x
  added_tells shown g x None is e = cc
  added_tells shown g x (Some f) is e =
      field_tells base vars other tree planned fit i p is_place noted shown f is g f.does refl (planned.args p.ty p.field f is) (planned.types p.ty p.field f is) x e

-- ---- what follows

and_swap : (b c w : Bool) → (c ≡ true → b ≡ true) → (c && w) ≡ (b && (c && w))
and_swap b true w h = sym (ap (λ x. x && w) (h refl))
and_swap true false w h = refl
and_swap false false w h = refl

error_none : (o : Option (List ℕ)) → is_some o ≡ false → o ≡ None
error_none None h = refl
error_none (Some e) h = cc

module _ (base : BaseParts) (vars : Vars) (p : Place) (f : FetchStep) (tells : Tells base vars p f) (item : ℕ) (hung : (out-FetchStep f).parent ≡ Some item) where
  -- of a fetch that hangs on a row the window tells whether a part is asked for
  pub tells_part : has_window (out-FetchStep f).window ≡ is_part base vars p
  tells_part = tells.window ∙ and_swap (is_backward (does_of base.schema p)) (is_list base p) (is_windowed vars p) (tells.hung item hung).1

  -- where none is, its field has no error, or it asks for no rows
  pub tells_error : has_window (out-FetchStep f).window ≡ false → (argument_error base vars p ≡ None) ⊎ ((out-FetchStep f).rows ≡ false)
  tells_error h = by (has_null_order vars p) refl
    where
      plain : is_some (argument_error base vars p) ≡ (has_null_order vars p || false)
      plain = tells.error
          ∙ ap (λ k. list_any (is_null_slot vars) k || (has_null_order vars p || is_some (slots_error base vars (out-FetchStep f).table (out-FetchStep f).order (out-FetchStep f).window))) (tells.hung item hung).0
          ∙ ap (λ o. has_null_order vars p || is_some o) (without_slots base vars (out-FetchStep f).table (out-FetchStep f).order (out-FetchStep f).window h)

      by : (b : Bool) → has_null_order vars p ≡ b → (argument_error base vars p ≡ None) ⊎ ((out-FetchStep f).rows ≡ false)
      by true e = inr (tells.null e)
      by false e = inl (error_none (argument_error base vars p) (plain ∙ ap (λ b. b || false) e))

-- fetches that are alike but for what they hang on, and for rows, tell of an error alike
pub error_alike : (base : BaseParts) (vars : Vars) (null : Bool) (f g : FetchStep) → bare f ≡ bare g → has_error base vars null f ≡ has_error base vars null g
error_alike base vars null f g e = sym (of_bare f) ∙ ap (has_error base vars null) e ∙ of_bare g
  where
    of_bare : (x : FetchStep) → has_error base vars null (bare x) ≡ has_error base vars null x
    of_bare x = ap (λ o. list_any (is_null_slot vars) o.key || (null || is_some (slots_error base vars o.table o.order o.window))) (out-roll-FetchStep (bare_parts (out-FetchStep x)))
