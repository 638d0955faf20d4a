-- The fetches that planning makes ask what their fields ask.
use Rattle.std.proofs.Common.{◌≡◌, ℕ, zero, suc, ◌+◌, List, [], ◌∷◌, ◌++◌, map, Option, Some, None, Bool, true, false, not, cond, refl, sym, ap, ◌∙◌, subst, arith}
use Rattle.std.specs.Prelude.{slice_get, is_some, is_ok, IfSome, IsTrue, filter_map, ◌&&◌, ◌||◌, codes}
use Rattle.std.specs.List.{cons_option, list_any}
use Rattle.std.specs.Str.{bytes_eq}
use Rattle.gql_input.specs.Inputs.{cases, fields, reads_at}
use Rattle.gql_input.specs.Leaves.{case_at}
use Rattle.pg_base.specs.Base.{BaseParts}
use Rattle.pg_base.specs.Lists.{Each}
use Rattle.pg_base.specs.Schema.{SchemaParts, kind_at, cases_of, inputs_of}
use Rattle.pg_base.specs.Value.{is_null, is_object, item_list}
use Rattle.pg_base.specs.declared.schema.ArgDef.{ArgDef}
use Rattle.pg_base.specs.declared.schema.FieldDef.{FieldDef}
use Rattle.pg_base.specs.declared.schema.TypeRef.{TypeRef}
use Rattle.pg_base.specs.declared.table_def.ColumnDef.{ColumnDef}
use Rattle.pg_base.specs.declared.value.Value.{Value, Row_of-Value, end_of-Value, more_of-Value}
use Rattle.pg_base.specs.declared.value.Value as v
use Rattle.pg_base.specs.declared.vars.Vars.{Vars}
use Rattle.place_tree.specs.Arguments as a
use Rattle.place_tree.specs.Arguments.{argument, written, order_by, condition, case_name, named_case, items_or_none, by_name, order_names as names_of_order, order_of, window_of, item_type, has_null, item_has_null, given_null, or_else, error_if, null_error}
use Rattle.place_tree.specs.Exec.{needs_rows}
use Rattle.place_tree.specs.Fetch.{row_fetch, list_fetch, list_order, list_names, list_condition, inputs_of_arg, cases_of_arg, arg_type, type_of_arg}
use Rattle.place_tree.specs.Fields.{columns_of, place_named}
use Rattle.place_tree.specs.declared.fetch.KeyCells.{KeyCells}
use Rattle.place_tree.specs.declared.place.Place.{Place}
use Rattle.place_tree.specs.declared.place.Tree.{Tree}
use Rattle.plan_constraints.proofs.Steady.{Each-left, Each-right, window_steady, order_steady, condition_steady}
use Rattle.plan_constraints.specs.Constraints.{Meets, Hold}
use Rattle.plan_constraints.specs.Laws.{IsCondition}
use Rattle.plan_constraints.specs.Noted.{noted_window, noted_order, noted_condition, noted_arguments}
use Rattle.plan_constraints.specs.declared.constraint.Constraint.{Constraint}
use Rattle.plan_steps.specs.Filled.{filled_equal, filled_window}
use Rattle.plan_steps.specs.Fitting.{IsOf, AreOf, FitsArg}
use Rattle.plan_steps.specs.Serves.{Basis, KeyServes, FetchServes}
use Rattle.plan_steps.specs.Values.{order_name, order_names}
use Rattle.plan_steps.specs.declared.plan.FetchStep.{FetchStep, out-roll-FetchStep}
use Rattle.plan_steps.specs.declared.plan.Slot.{Slot}
use Rattle.plan_steps.specs.declared.plan.Step.{Step}
use Rattle.rel_model.specs.declared.window.By.{By}
use Rattle.step_plan.specs.Added.{holds_null, list_rows, list_step, row_step}
use Rattle.step_plan.specs.Slots.{condition_slots}
use Rattle.step_plan.proofs.Cells.{case_there, holds_as}
use Rattle.step_plan.proofs.Conditions.{condition_is, nothing_is}
use Rattle.step_plan.proofs.Facts.{IsOrderCase, MayBeCondition, AreListArgs}
use Rattle.step_plan.proofs.FilledWindows.{AreAlike, window_is}

-- ---- the order's names

abbrev IsNamed : List (List ℕ) → List ℕ → Type 0
IsNamed names name = (is_some (place_named names name) ≡ true) × (bytes_eq name (codes "NATURAL") ≡ false)

name_more : (names : List (List ℕ)) (c : List ℕ) (b : Bool) → bytes_eq c (codes "NATURAL") ≡ b → is_some (place_named names c) ≡ true → (rest : List (List ℕ)) → Each (IsNamed names) rest → Each (IsNamed names) (cons_option (cond b None (Some c)) rest)
name_more names c true e s rest h = h
name_more names c false e s rest h = ((s, e), h)

item_named : (schema : SchemaParts) (ty : TypeRef) (names : List (List ℕ)) → reads_at schema ty.name ≡ cases names → (w : Value) → IsOf schema ty w → (rest : List (List ℕ)) → Each (IsNamed names) rest → Each (IsNamed names) (cons_option (named_case w) rest)
item_named schema ty names k v.Null h rest r = r
item_named schema ty names k (v.Int n) h rest r = r
item_named schema ty names k (v.Bool b) h rest r = r
item_named schema ty names k (v.Text t) h rest r = r
item_named schema ty names k (v.Case c) h rest r = name_more names c (bytes_eq c (codes "NATURAL")) refl (case_there names c (subst (λ x. IsTrue (is_ok (case_at x c))) k h.1)) rest r
item_named schema ty names k (v.List' s xs) h rest r = r
item_named schema ty names k (v.Object' s xs) h rest r = r

items_named : {n : _} (schema : SchemaParts) (ty : TypeRef) (names : List (List ℕ)) → reads_at schema ty.name ≡ cases names → (row : Row_of-Value n) → AreOf schema ty row → Each (IsNamed names) (filter_map named_case (item_list row))
items_named schema ty names k end_of-Value h = tt
items_named schema ty names k (more_of-Value w rest) h = item_named schema ty names k w h.0 (filter_map named_case (item_list rest)) (items_named schema ty names k rest h.1)

order_named : (schema : SchemaParts) (ty : TypeRef) (names : List (List ℕ)) → reads_at schema ty.name ≡ cases names → (o : Option Value) → IfSome o (IsOf schema ty) → Each (IsNamed names) (names_of_order o)
order_named schema ty names k None h = tt
order_named schema ty names k (Some v.Null) h = tt
order_named schema ty names k (Some (v.Int n)) h = tt
order_named schema ty names k (Some (v.Bool b)) h = tt
order_named schema ty names k (Some (v.Text t)) h = tt
order_named schema ty names k (Some (v.Case c)) h = tt
order_named schema ty names k (Some (v.List' s xs)) h = items_named schema (item_type ty) names k xs h.1
order_named schema ty names k (Some (v.Object' s xs)) h = tt

names_are : (columns : List ColumnDef) (names : List (List ℕ)) → ((name : List ℕ) → is_some (place_named names name) ≡ true → bytes_eq name (codes "NATURAL") ≡ false → IsOrderCase columns names name) → (due : List (List ℕ)) → Each (IsNamed names) due →
    map (λ b. order_name (slice_get columns b.column) b.descending) (order_of names columns due) ≡ due
names_are columns names law [] h = refl
names_are columns names law (n ∷ due) h =
    let c = law n h.0.0 h.0.1 in
    let g : By → List ℕ = λ b. order_name (slice_get columns b.column) b.descending in
    ap (λ o. map g (cons_option o (order_of names columns due))) c.is
    ∙ ap (λ x. x ∷ map g (order_of names columns due)) c.named
    ∙ ap (λ l. n ∷ l) (names_are columns names law due h.1)

-- ---- no null in an order without an error

pub or_none : (a b : Option (List ℕ)) → or_else a b ≡ None → (a ≡ None) × (b ≡ None)
or_none None b h = (refl, h)
or_none (Some e) b h = cc

no_error_if : (b : Bool) (e : List ℕ) → error_if b e ≡ None → b ≡ false
no_error_if true e h = cc
no_error_if false e h = refl

no_null : (schema : SchemaParts) (vars : Vars) (p : Place) (arg : ℕ) (args : List ArgDef) → null_error schema vars p arg args ≡ None → (j : ℕ) (a : ArgDef) → slice_get args j ≡ Some a → given_null schema a.ty (argument vars p (arg + j)) ≡ false
no_null schema vars p arg [] h j a at = cc
no_null schema vars p arg (x ∷ args) h zero a at =
    let z : arg + 0 ≡ arg = omega arith in
    let is : x ≡ a = cc in
    let first = no_error_if (given_null schema x.ty (argument vars p arg)) _ (or_none _ _ h).0 in
    ap (λ n. given_null schema a.ty (argument vars p n)) z ∙ ap (λ y. given_null schema y.ty (argument vars p arg)) (sym is) ∙ first
no_null schema vars p arg (x ∷ args) h (suc j) a at =
    let s : arg + suc j ≡ (arg + 1) + j = omega arith in
    ap (λ n. given_null schema a.ty (argument vars p n)) s ∙ no_null schema vars p (arg + 1) args (or_none _ _ h).1 j a at

neither : (a b : Bool) → (a || b) ≡ false → (a ≡ false) × (b ≡ false)
neither true b h = cc
neither false b h = (refl, h)

null_first : (schema : SchemaParts) (ty : TypeRef) (w : Value) → ty.not_null ≡ true → has_null schema ty w ≡ false → is_null w ≡ false
null_first schema ty v.Null n h = cc
null_first schema ty (v.Int i) n h = refl
null_first schema ty (v.Bool b) n h = refl
null_first schema ty (v.Text t) n h = refl
null_first schema ty (v.Case c) n h = refl
null_first schema ty (v.List' s xs) n h = refl
null_first schema ty (v.Object' s xs) n h = refl

no_null_items : {n : _} (schema : SchemaParts) (ty : TypeRef) (row : Row_of-Value n) → ty.not_null ≡ true → item_has_null schema ty row ≡ false → list_any is_null (item_list row) ≡ false
no_null_items schema ty end_of-Value n h = refl
no_null_items schema ty (more_of-Value w rest) n h =
    let both = neither (has_null schema ty w) (item_has_null schema ty rest) h in
    ap (λ b. b || list_any is_null (item_list rest)) (null_first schema ty w n both.0) ∙ no_null_items schema ty rest n both.1

holds_none : (schema : SchemaParts) (ty : TypeRef) (o : Option Value) → ty.item_not_null ≡ true → given_null schema ty o ≡ false → holds_null o ≡ false
holds_none schema ty None n h = refl
holds_none schema ty (Some v.Null) n h = refl
holds_none schema ty (Some (v.Int i)) n h = refl
holds_none schema ty (Some (v.Bool b)) n h = refl
holds_none schema ty (Some (v.Text t)) n h = refl
holds_none schema ty (Some (v.Case c)) n h = refl
holds_none schema ty (Some (v.List' s xs)) n h = no_null_items schema (item_type ty) xs n h
holds_none schema ty (Some (v.Object' s xs)) n h = refl

-- ---- the condition fits its type

condition_value : (schema : SchemaParts) (ty : TypeRef) (inputs : List ArgDef) → reads_at schema ty.name ≡ fields inputs → ty.list ≡ false → (w : Value) → IsOf schema ty w → (is_null w || is_object w) ≡ true
condition_value schema ty inputs k l v.Null h = refl
condition_value schema ty inputs k l (v.Int n) h = let g = holds_as schema ty (v.Int n) (fields inputs) k h in cc
condition_value schema ty inputs k l (v.Bool b) h = let g = holds_as schema ty (v.Bool b) (fields inputs) k h in cc
condition_value schema ty inputs k l (v.Text t) h = let g = holds_as schema ty (v.Text t) (fields inputs) k h in cc
condition_value schema ty inputs k l (v.Case c) h = let g = holds_as schema ty (v.Case c) (fields inputs) k h in cc
condition_value schema ty inputs k l (v.List' s xs) h = let g : ty.list ≡ true = h.0 in cc
condition_value schema ty inputs k l (v.Object' s xs) h = refl

condition_fits : (schema : SchemaParts) (ty : TypeRef) (inputs : List ArgDef) → reads_at schema ty.name ≡ fields inputs → ty.list ≡ false → (o : Option Value) → IfSome o (IsOf schema ty) → IsCondition o
condition_fits schema ty inputs k l None h = tt
condition_fits schema ty inputs k l (Some w) h = condition_value schema ty inputs k l w h

-- ---- what is noted of a list's arguments, part by part

pub record AreNoted (vars other : Vars) (p : Place) : Type 0 where
  pub alike : AreAlike vars other p
  pub order : argument other p order_by ≡ argument vars p order_by
  pub condition : Hold (noted_condition vars (written p.args condition)) other

pub noted_parts : (vars other : Vars) (p : Place) → Hold (noted_arguments vars p) other → AreNoted vars other p
noted_parts vars other p h =
    let w : ℕ → List Constraint = λ n. noted_window vars (written p.args n) in
    let o : List Constraint = noted_order vars (written p.args order_by) in
    let d : List Constraint = noted_condition vars (written p.args condition) in
    let M = Meets other in
    let h1 = Each-right M (w a.first) (w a.last ++ (w a.offset ++ (w a.before ++ (w a.after ++ (o ++ d))))) h in
    let h2 = Each-right M (w a.last) (w a.offset ++ (w a.before ++ (w a.after ++ (o ++ d)))) h1 in
    let h3 = Each-right M (w a.offset) (w a.before ++ (w a.after ++ (o ++ d))) h2 in
    let h4 = Each-right M (w a.before) (w a.after ++ (o ++ d)) h3 in
    let h5 = Each-right M (w a.after) (o ++ d) h4 in
    record {
      alike = record {
        first = window_steady vars other (written p.args a.first) (Each-left M (w a.first) (w a.last ++ (w a.offset ++ (w a.before ++ (w a.after ++ (o ++ d))))) h);
        last = window_steady vars other (written p.args a.last) (Each-left M (w a.last) (w a.offset ++ (w a.before ++ (w a.after ++ (o ++ d)))) h1);
        offset = window_steady vars other (written p.args a.offset) (Each-left M (w a.offset) (w a.before ++ (w a.after ++ (o ++ d))) h2);
        before = window_steady vars other (written p.args a.before) (Each-left M (w a.before) (w a.after ++ (o ++ d)) h3);
        after = window_steady vars other (written p.args a.after) (Each-left M (w a.after) (o ++ d) h4);
      };
      order = order_steady vars other (written p.args order_by) (Each-left M o d h5);
      condition = Each-right M o d h5;
    }

-- ---- a list's fetch

type_is : (args : List ArgDef) (arg : ℕ) (a : ArgDef) → slice_get args arg ≡ Some a → type_of_arg args arg ≡ a.ty.name
type_is args arg a h = ap arg_type h

fits_at : (schema : SchemaParts) (vars : Vars) (p : Place) (args : List ArgDef) (arg : ℕ) (a : ArgDef) → slice_get args arg ≡ Some a → IfSome (slice_get args arg) (FitsArg schema vars p arg) → IfSome (argument vars p arg) (IsOf schema a.ty)
fits_at schema vars p args arg a e h = (subst (λ o. IfSome o (FitsArg schema vars p arg)) e h).0

abbrev pub FitArgs : BaseParts → Vars → Place → FieldDef → Type 0
FitArgs base vars p f = (arg : ℕ) → IfSome (slice_get f.args arg) (FitsArg base.schema vars p arg)

module _ (base : BaseParts) (vars other : Vars) (tree : Tree) (i : ℕ) (p : Place) (f : FieldDef) where
  condition_due : (table : ℕ) (o : Option ArgDef) → slice_get f.args condition ≡ o → MayBeCondition base table f.args o → Hold (noted_condition vars (written p.args condition)) other → FitArgs base vars p f → FitArgs base other p f →
      map (filled_equal base other table) (condition_slots base.schema vars (inputs_of_arg base f condition) (columns_of base.catalog table) (written p.args condition)) ≡ list_condition base f other table p
  condition_due table None e law noted fit fit_other = nothing_is base vars other table (inputs_of_arg base f condition) (written p.args condition) law
  condition_due table (Some c) e law noted fit fit_other =
      let same : inputs_of (kind_at base.schema c.ty.name) ≡ inputs_of_arg base f condition = ap (λ n. inputs_of (kind_at base.schema n)) (sym (type_is f.args condition c e)) in
      condition_is base other table (inputs_of_arg base f condition)
      (λ j column b at is. law.each_input j column b at (subst (λ l. slice_get l j ≡ Some b) (sym same) is))
      c.ty same vars (written p.args condition) noted
      (condition_steady vars other (written p.args condition) noted (condition_fits base.schema c.ty law.inputs law.reads law.list (argument vars p condition) (fits_at base.schema vars p f.args condition c e (fit condition))))
      (fits_at base.schema other p f.args condition c e (fit_other condition))

  module _ (table : ℕ) (by : List ℕ) (parent : Option ℕ) (columns : List ℕ) (law : AreListArgs base table f.args) (noted : AreNoted vars other p) (fit : FitArgs base vars p f) (fit_other : FitArgs base other p f) where
    abbrev shown : Bool
    shown = needs_rows base.schema tree.places i

    abbrev fetch : FetchStep
    fetch = list_step base vars p shown f table by parent columns

    order_type : cases_of_arg base f order_by ≡ cases_of (kind_at base.schema law.order.ty.name)
    order_type = ap (λ n. cases_of (kind_at base.schema n)) (type_is f.args order_by law.order law.is_order)

    pub order_same : list_order base f other table p ≡ list_order base f vars table p
    order_same = ap (λ g. order_of (cases_of_arg base f order_by) (columns_of base.catalog table) (names_of_order g)) noted.order

    pub names_due : order_names base table (list_order base f other table p) ≡ list_names other p
    names_due =
        ap (λ k. map (λ b. order_name (slice_get (columns_of base.catalog table) b.column) b.descending) (order_of k (columns_of base.catalog table) (list_names other p))) order_type
        ∙ names_are (columns_of base.catalog table) (cases_of (kind_at base.schema law.order.ty.name)) law.each_case (list_names other p)
        (order_named base.schema law.order.ty (cases_of (kind_at base.schema law.order.ty.name)) law.order_reads (argument other p order_by) (fits_at base.schema other p f.args order_by law.order law.is_order (fit_other order_by)))

    module _ (clean : null_error base.schema other p 0 f.args ≡ None) where
      no_null_order : holds_null (argument vars p order_by) ≡ false
      no_null_order = ap holds_null (sym noted.order) ∙ holds_none base.schema law.order.ty (argument other p order_by) law.order_items (no_null base.schema other p 0 f.args clean order_by law.order law.is_order)

      rows_asked : shown ≡ true → list_rows vars p shown ≡ true
      rows_asked e = ap (λ b. b && not (holds_null (argument vars p order_by))) e ∙ ap not no_null_order

      pub list_serves : (steps : List Step) (b : Basis) (key : KeyCells) → KeyServes steps b base other fetch key → FetchServes steps b base tree other i fetch (list_fetch base f other p table by key)
      list_serves steps b key k =
          let e = out-roll-FetchStep _ in
          let order = sym order_same in
          record {
            table = ap (λ o. o.table) e;
            by = ap (λ o. o.by) e;
            key = k;
            condition = ap (λ o. map (filled_equal base other o.table) o.condition) e ∙ condition_due table (slice_get f.args condition) refl law.may_be_condition noted.condition fit fit_other;
            order = ap (λ o. o.order) e ∙ order;
            window = ap (λ o. filled_window base other o.table o.order o.window) e ∙ window_is base vars other p table (list_order base f vars table p) noted.alike
                ∙ ap (λ o. window_of base.catalog (columns_of base.catalog table) o other p) order;
            names = names_due;
            rows = λ n. ap (λ o. o.rows) e ∙ rows_asked n;
            one = λ n. cc;
          }

  pub row_serves : (table : ℕ) (by : List ℕ) (parent : Option ℕ) (columns : List ℕ) (slots : List Slot) (steps : List Step) (b : Basis) (key : KeyCells) → KeyServes steps b base other (row_step table by parent columns slots) key →
      FetchServes steps b base tree other i (row_step table by parent columns slots) (row_fetch table by key)
  row_serves table by parent columns slots steps b key k =
      let e = out-roll-FetchStep _ in
      record {
        table = ap (λ o. o.table) e;
        by = ap (λ o. o.by) e;
        key = k;
        condition = ap (λ o. map (filled_equal base other o.table) o.condition) e;
        order = ap (λ o. o.order) e;
        window = ap (λ o. filled_window base other o.table o.order o.window) e;
        names = refl;
        rows = λ n. ap (λ o. o.rows) e;
        one = λ n. ap (λ o. o.rows) e;
      }
