-- The filled slots of a condition are its equalities.
use Rattle.std.proofs.Common.{◌≡◌, ◌≢◌, ℕ, suc, ◌+◌, List, [], ◌∷◌, map, Option, Some, None, Bool, true, false, cond, refl, sym, ap, ◌∙◌, subst, arith}
use Rattle.std.specs.Prelude.{slice_get, option_map, is_some, IfSome, filter_map}
use Rattle.std.specs.Option.{option_and_then}
use Rattle.std.specs.List.{cons_option}
use Rattle.std.specs.Str.{bytes_eq}
use Rattle.std.proofs.lemmas.Slice.Eq.{bytes_eq-Decides}
use Rattle.gql_input.specs.Arguments.{and_given, value_with, members_with}
use Rattle.gql_input.specs.declared.argument.ArgValue.{ArgValue, Variable, Null, Int, Bool as BoolOf, Text, Case, List', Object', Row_of-ArgMember, end_of-ArgMember, more_of-ArgMember}
use Rattle.pg_base.specs.Base.{BaseParts}
use Rattle.pg_base.specs.Behaviors.{columns_with, filtering}
use Rattle.pg_base.specs.Lists.{Each, AreDistinct}
use Rattle.pg_base.specs.Schema.{SchemaParts, kind_at, inputs_of}
use Rattle.pg_base.specs.Value.{members_of, member_in, member_list}
use Rattle.pg_base.specs.Vars.{variable}
use Rattle.pg_base.specs.declared.schema.ArgDef.{ArgDef}
use Rattle.pg_base.specs.declared.schema.TypeRef.{TypeRef}
use Rattle.pg_base.specs.declared.table_def.ColumnDef.{ColumnDef}
use Rattle.pg_base.specs.declared.value.Value.{Value, Row_of-Member, end_of-Member, more_of-Member}
use Rattle.pg_base.specs.declared.value.Value as v
use Rattle.pg_base.specs.declared.value.Value.TheVariants as value
use Rattle.pg_base.specs.declared.value.Member.{Member}
use Rattle.pg_base.specs.declared.vars.Vars.{Vars}
use Rattle.place_tree.specs.Arguments.{type_in, cell_of, cell_or_null, equal_at, equal_from, equal_of, condition_of, members_or_none}
use Rattle.place_tree.specs.Fields.{columns_of, place_from, place_named, arg_names}
use Rattle.plan_constraints.proofs.Parts.{members_of-Object}
use Rattle.plan_constraints.proofs.Steady.{Each-left, Each-right, IsAlike, present_same, shape_alike}
use Rattle.plan_constraints.specs.Constraints.{Hold}
use Rattle.plan_constraints.specs.Laws.{names_given}
use Rattle.plan_constraints.specs.Noted.{member_vars, vars_in, noted_condition}
use Rattle.plan_constraints.specs.Path.{value_at, below, to_field}
use Rattle.plan_constraints.specs.declared.part.Part.TheVariants as part
use Rattle.plan_steps.specs.Filled.{column_cell, slot_cell, filled_equal}
use Rattle.plan_steps.specs.Fitting.{IsOf, AreFields}
use Rattle.plan_steps.specs.declared.plan.Slot.{Slot}
use Rattle.plan_steps.specs.declared.plan.Slot.TheVariants as slot
use Rattle.plan_steps.specs.declared.plan.SlotEqual.{SlotEqual}
use Rattle.rel_model.specs.declared.window.Equal.{Equal}
use Rattle.step_plan.specs.Slots.{cell_slot, compared_at, compared_from, equal_slot_at, equal_slot, field_slot, if_given, member_slots, condition_over, condition_slots}
use Rattle.step_plan.proofs.Cells.{column_fits, slot_is}
use Rattle.step_plan.proofs.Facts.{IsColumnType}

-- ---- fields by their names

eq_refl : (n : List ℕ) → bytes_eq n n ≡ true
eq_refl n = (bytes_eq-Decides n n).1 refl

eq_not : (n m : List ℕ) → n ≢ m → bytes_eq n m ≡ false
eq_not n m h = by (bytes_eq n m) refl
  where
    by : (b : Bool) → bytes_eq n m ≡ b → b ≡ false
    by true e = absurd (h ((bytes_eq-Decides n m).0 e))
    by false e = refl

chosen : {A : Type 0} (b c : Bool) (x y : A) → b ≡ c → cond b x y ≡ cond c x y
chosen b c x y e = ap (λ d. cond d x y) e

-- a later field isn't hidden by one of another name
not_hidden : (m : Member) (all ms : List Member) → Each (λ n. m.name ≢ n) (map (λ x. x.name) ms) → Each (λ x. member_in all x.name ≡ Some x.value) ms → Each (λ x. member_in (m ∷ all) x.name ≡ Some x.value) ms
not_hidden m all [] d h = tt
not_hidden m all (x ∷ ms) d h = (chosen (bytes_eq m.name x.name) false (Some m.value) (member_in all x.name) (eq_not m.name x.name d.0) ∙ h.0, not_hidden m all ms d.1 h.1)

-- each field of distinct names is found by its name
each_found : (ms : List Member) → AreDistinct (map (λ m. m.name) ms) → Each (λ m. member_in ms m.name ≡ Some m.value) ms
each_found [] d = tt
each_found (m ∷ ms) d = (chosen (bytes_eq m.name m.name) true (Some m.value) (member_in ms m.name) (eq_refl m.name), not_hidden m ms ms d.0 (each_found ms d.1))

abbrev pub AreListed : SchemaParts → List ArgDef → List Member → Type 0
AreListed schema inputs ms = Each (λ m. IsOf schema (type_in inputs m.name) m.value) ms

pub fields_listed : {n : _} (schema : SchemaParts) (inputs : List ArgDef) (row : Row_of-Member n) → AreFields schema inputs row → AreListed schema inputs (member_list row)
fields_listed schema inputs end_of-Member h = tt
fields_listed schema inputs (more_of-Member name w rest) h = (h.0, fields_listed schema inputs rest h.1)

pub members_listed : (schema : SchemaParts) (ty : TypeRef) (w : Value) → IsOf schema ty w → AreListed schema (inputs_of (kind_at schema ty.name)) (members_of w)
members_listed schema ty v.Null h = tt
members_listed schema ty (v.Int n) h = tt
members_listed schema ty (v.Bool b) h = tt
members_listed schema ty (v.Text t) h = tt
members_listed schema ty (v.Case c) h = tt
members_listed schema ty (v.List' s xs) h = tt
members_listed schema ty (v.Object' s row) h = fields_listed schema (inputs_of (kind_at schema ty.name)) row h.1

-- ---- the type of a field

abbrev TypedFrom : List ArgDef → List ℕ → ℕ → ℕ → Type 0
TypedFrom inputs name from k = (j : ℕ) × (k ≡ from + j) × ((a : ArgDef) → slice_get inputs j ≡ Some a → type_in inputs name ≡ a.ty)

one_further : (x : ArgDef) (inputs : List ArgDef) (name : List ℕ) (from k : ℕ) (b : Bool) → bytes_eq x.name name ≡ b → (place_from (from + 1) (arg_names inputs) name ≡ Some k → TypedFrom inputs name (from + 1) k) →
    cond b (Some from) (place_from (from + 1) (arg_names inputs) name) ≡ Some k → TypedFrom (x ∷ inputs) name from k
one_further x inputs name from k true e next h =
    let same : from ≡ k = cc in
    (0, omega (arith, same), λ a at. let is : x ≡ a = cc in chosen (bytes_eq x.name name) true x.ty (type_in inputs name) e ∙ ap (λ d. d.ty) is)
one_further x inputs name from k false e next h =
    let r = next h in
    (suc r.0, omega (arith, r.1), λ a at. chosen (bytes_eq x.name name) false x.ty (type_in inputs name) e ∙ r.2 a at)

typed_from : (inputs : List ArgDef) (name : List ℕ) (from k : ℕ) → place_from from (arg_names inputs) name ≡ Some k → TypedFrom inputs name from k
typed_from [] name from k h = cc
typed_from (x ∷ inputs) name from k h = one_further x inputs name from k (bytes_eq x.name name) refl (typed_from inputs name (from + 1) k) h

place_type : (inputs : List ArgDef) (name : List ℕ) (i : ℕ) (a : ArgDef) → place_named (arg_names inputs) name ≡ Some i → slice_get inputs i ≡ Some a → type_in inputs name ≡ a.ty
place_type inputs name i a h at =
    let r = typed_from inputs name 0 i h in
    let e : i ≡ r.0 = omega (arith, r.1) in
    r.2 a (subst (λ j. slice_get inputs j ≡ Some a) e at)

map_cons : {A B : Type 0} (g : A → B) (o : Option A) (xs : List A) → map g (cons_option o xs) ≡ cons_option (option_map g o) (map g xs)
map_cons g None xs = refl
map_cons g (Some x) xs = refl

-- ---- where the type has no fields

no_fields : {A B : Type 0} (f : A → Option B) → ((x : A) → f x ≡ None) → (xs : List A) → filter_map f xs ≡ []
no_fields f h [] = refl
no_fields f h (x ∷ xs) = ap (λ o. cons_option o (filter_map f xs)) (h x) ∙ no_fields f h xs

none_given : (b : Bool) (rest : List SlotEqual) → cons_option (if_given b None) rest ≡ rest
none_given true rest = refl
none_given false rest = refl

no_members : {n : _} (schema : SchemaParts) (vars : Vars) (places : List ℕ) (ms : Row_of-ArgMember n) → member_slots schema vars [] places ms ≡ []
no_members schema vars places end_of-ArgMember = refl
no_members schema vars places (more_of-ArgMember name a rest) =
    none_given (is_some (value_with vars a)) (member_slots schema vars [] places rest) ∙ no_members schema vars places rest

no_slots : (schema : SchemaParts) (vars : Vars) (places : List ℕ) (w : Option ArgValue) → condition_over schema vars [] places w ≡ []
no_slots schema vars places None = refl
no_slots schema vars places (Some (Variable name)) = no_fields (field_slot [] places name) (λ field. refl) (map (λ m. m.name) (members_or_none (variable vars name)))
no_slots schema vars places (Some Null) = refl
no_slots schema vars places (Some (Int n)) = refl
no_slots schema vars places (Some (BoolOf b)) = refl
no_slots schema vars places (Some (Text t)) = refl
no_slots schema vars places (Some (Case c)) = refl
no_slots schema vars places (Some (List' s xs)) = refl
no_slots schema vars places (Some (Object' s ms)) = no_members schema vars places ms

no_equals : (schema : SchemaParts) (places : List ℕ) (ms : List Member) → filter_map (equal_of schema [] places) ms ≡ []
no_equals schema places ms = no_fields (equal_of schema [] places) (λ m. refl) ms

pub nothing_is : (base : BaseParts) (vars other : Vars) (table : ℕ) (inputs : List ArgDef) (w : Option ArgValue) → inputs ≡ [] →
    map (filled_equal base other table) (condition_slots base.schema vars inputs (columns_of base.catalog table) w) ≡ condition_of base.schema inputs (columns_of base.catalog table) (option_and_then (value_with other) w)
nothing_is base vars other table inputs w e =
    let columns = columns_of base.catalog table in
    let places = columns_with filtering 0 columns in
    let g : SlotEqual → Equal = filled_equal base other table in
    let given = option_and_then (value_with other) w in
    ap (λ l. map g (condition_over base.schema vars l places w)) e
    ∙ ap (map g) (no_slots base.schema vars places w)
    ∙ sym (no_equals base.schema places (members_or_none given))
    ∙ sym (ap (λ l. filter_map (equal_of base.schema l places) (members_or_none given)) e)

-- ---- equalities

module _ (base : BaseParts) (other : Vars) (table : ℕ) (inputs : List ArgDef)
    (law : (i column : ℕ) (a : ArgDef) → slice_get (columns_with filtering 0 (columns_of base.catalog table)) i ≡ Some column → slice_get inputs i ≡ Some a → IsColumnType base (slice_get (columns_of base.catalog table) column) a.ty) where
  abbrev columns : List ColumnDef
  columns = columns_of base.catalog table

  abbrev places : List ℕ
  places = columns_with filtering 0 columns

  abbrev fill : SlotEqual → Equal
  fill = filled_equal base other table

  -- the slot has the value at the field's column
  abbrev IsSlotOf : List ℕ → (TypeRef → Slot) → Value → Type 0
  IsSlotOf name f w = (column : ℕ) (ty : TypeRef) → IsColumnType base (slice_get columns column) ty → type_in inputs name ≡ ty → slot_cell base other table column (f ty) ≡ cell_of base.schema ty w

  equal_is : (name : List ℕ) (f : TypeRef → Slot) (w : Value) → IsSlotOf name f w → option_map fill (equal_slot inputs places name f) ≡ equal_of base.schema inputs places (record { name = name; value = w })
  equal_is name f w h = by (place_named (arg_names inputs) name) refl
    where
      parts : (i : ℕ) → place_named (arg_names inputs) name ≡ Some i → (c : Option ℕ) → slice_get places i ≡ c → (a : Option ArgDef) → slice_get inputs i ≡ a →
          option_map fill (equal_slot_at (compared_at c a) f) ≡ equal_at c a base.schema w
      parts i e None ce a ae = refl
      parts i e (Some c) ce None ae = refl
      parts i e (Some c) ce (Some a) ae = ap (λ x. Some (record { column = c; cell = x })) (h c a.ty (law i c a ce ae) (place_type inputs name i a e ae))

      by : (o : Option ℕ) → place_named (arg_names inputs) name ≡ o → option_map fill (equal_slot_at (compared_from inputs places o) f) ≡ equal_from base.schema inputs places o w
      by None e = refl
      by (Some i) e = parts i e (slice_get places i) refl (slice_get inputs i) refl

  -- ---- by a variable

  path_slot : (name : List ℕ) (m : Member) → value_at other (to_field name m.name) ≡ Some m.value → IsOf base.schema (type_in inputs m.name) m.value → IsSlotOf m.name (λ ty. slot.Var (to_field name m.name)) m.value
  path_slot name m e h column ty k t =
      ap (column_cell base (slice_get columns column)) e ∙ column_fits base (slice_get columns column) ty (Some m.value) k (subst (λ x. IsOf base.schema x m.value) t h)

  fields_are : (name : List ℕ) (ms : List Member) → Each (λ m. value_at other (to_field name m.name) ≡ Some m.value) ms → AreListed base.schema inputs ms →
      map fill (filter_map (field_slot inputs places name) (map (λ m. m.name) ms)) ≡ filter_map (equal_of base.schema inputs places) ms
  fields_are name [] e h = refl
  fields_are name (m ∷ ms) e h =
      map_cons fill (field_slot inputs places name m.name) (filter_map (field_slot inputs places name) (map (λ m. m.name) ms))
      ∙ ap (λ o. cons_option o (map fill (filter_map (field_slot inputs places name) (map (λ m. m.name) ms)))) (equal_is m.name (λ ty. slot.Var (to_field name m.name)) m.value (path_slot name m e.0 h.0))
      ∙ ap (cons_option (equal_of base.schema inputs places m)) (fields_are name ms e.1 h.1)

  at_field : (name : List ℕ) (w : Value) → variable other name ≡ Some w → (ms : List Member) → Each (λ m. member_in (members_of w) m.name ≡ Some m.value) ms → Each (λ m. value_at other (to_field name m.name) ≡ Some m.value) ms
  at_field name w e [] h = tt
  at_field name w e (m ∷ ms) h = (ap (λ o. below o (part.Name m.name ∷ [])) e ∙ h.0, at_field name w e ms h.1)

  -- a value of the condition's type
  variable_is : (ty : TypeRef) → inputs_of (kind_at base.schema ty.name) ≡ inputs → (name : List ℕ) (o : Option Value) → variable other name ≡ o → IfSome o (IsOf base.schema ty) →
      map fill (filter_map (field_slot inputs places name) (names_given o)) ≡ condition_of base.schema inputs columns o
  variable_is ty i name None e h = refl
  variable_is ty i name (Some v.Null) e h = refl
  variable_is ty i name (Some (v.Int n)) e h = refl
  variable_is ty i name (Some (v.Bool b)) e h = refl
  variable_is ty i name (Some (v.Text t)) e h = refl
  variable_is ty i name (Some (v.Case c)) e h = refl
  variable_is ty i name (Some (v.List' s xs)) e h = refl
  variable_is ty i name (Some (v.Object' s row)) e h =
      fields_are name (member_list row) (at_field name (v.Object' s row) e (member_list row) (each_found (member_list row) h.2))
      (subst (λ l. AreListed base.schema l (member_list row)) i (fields_listed base.schema (inputs_of (kind_at base.schema ty.name)) row h.1))

  -- ---- by an object

  written_slot : (name : List ℕ) (a : ArgValue) (w : Value) → value_with other a ≡ Some w → IsOf base.schema (type_in inputs name) w → IsSlotOf name (λ ty. cell_slot base.schema ty a) w
  written_slot name a w e h column ty k t =
      let fits : IfSome (value_with other a) (IsOf base.schema ty) = subst (λ o. IfSome o (IsOf base.schema ty)) (sym e) (subst (λ x. IsOf base.schema x w) t h) in
      slot_is base other table column ty a k fits ∙ ap (cell_or_null base.schema ty) e

  abbrev AreMembers : List Equal → List Member → Type 0
  AreMembers es ms = es ≡ filter_map (equal_of base.schema inputs places) ms

  member_is : (name : List ℕ) (a : ArgValue) (slots : List SlotEqual) (ms : List Member) (o : Option Value) → value_with other a ≡ o → (b : Bool) → is_some o ≡ b → AreListed base.schema inputs (and_given name o ms) →
      (AreListed base.schema inputs ms → AreMembers (map fill slots) ms) → AreMembers (map fill (cons_option (if_given b (equal_slot inputs places name (λ ty. cell_slot base.schema ty a))) slots)) (and_given name o ms)
  member_is name a slots ms None e true p h next = cc
  member_is name a slots ms None e false p h next = next h
  member_is name a slots ms (Some w) e false p h next = cc
  member_is name a slots ms (Some w) e true p h next =
      map_cons fill (equal_slot inputs places name (λ ty. cell_slot base.schema ty a)) slots
      ∙ ap (λ x. cons_option x (map fill slots)) (equal_is name (λ ty. cell_slot base.schema ty a) w (written_slot name a w e h.0))
      ∙ ap (cons_option (equal_of base.schema inputs places (record { name = name; value = w }))) (next h.1)

  members_are : {n : _} (vars : Vars) (ms : Row_of-ArgMember n) → Each (IsAlike vars other) (member_vars ms) → AreListed base.schema inputs (members_with other ms) → AreMembers (map fill (member_slots base.schema vars inputs places ms)) (members_with other ms)
  members_are vars end_of-ArgMember s h = refl
  members_are vars (more_of-ArgMember name a rest) s h =
      member_is name a (member_slots base.schema vars inputs places rest) (members_with other rest) (value_with other a) refl (is_some (value_with vars a))
      (present_same vars other a (Each-left (IsAlike vars other) (vars_in a) (member_vars rest) s)) h
      (members_are vars rest (Each-right (IsAlike vars other) (vars_in a) (member_vars rest) s))

  object_is : (ty : TypeRef) → inputs_of (kind_at base.schema ty.name) ≡ inputs → {n : _} (vars : Vars) (ms : Row_of-ArgMember n) → Each (IsAlike vars other) (member_vars ms) → IsOf base.schema ty (value.Object (members_with other ms)) →
      map fill (member_slots base.schema vars inputs places ms) ≡ condition_of base.schema inputs columns (Some (value.Object (members_with other ms)))
  object_is ty i vars ms s h =
      let rolled = members_of-Object (members_with other ms) in
      let listed : AreListed base.schema inputs (members_with other ms) = subst (λ l. AreListed base.schema inputs l) rolled (subst (λ l. AreListed base.schema l (members_of (value.Object (members_with other ms)))) i (members_listed base.schema ty (value.Object (members_with other ms)) h)) in
      members_are vars ms s listed ∙ ap (filter_map (equal_of base.schema inputs places)) (sym rolled)

  -- the condition of the argument, filled
  pub condition_is : (ty : TypeRef) → inputs_of (kind_at base.schema ty.name) ≡ inputs → (vars : Vars) (w : Option ArgValue) → Hold (noted_condition vars w) other →
      names_given (option_and_then (value_with other) w) ≡ names_given (option_and_then (value_with vars) w) → IfSome (option_and_then (value_with other) w) (IsOf base.schema ty) →
      map fill (condition_slots base.schema vars inputs columns w) ≡ condition_of base.schema inputs columns (option_and_then (value_with other) w)
  condition_is ty i vars None s n h = refl
  condition_is ty i vars (Some (Variable name)) s n h =
      ap (λ l. map fill (filter_map (field_slot inputs places name) l)) (sym n) ∙ variable_is ty i name (variable other name) refl h
  condition_is ty i vars (Some (Object' k ms)) s n h = object_is ty i vars ms (shape_alike vars other (member_vars ms) s) h
  condition_is ty i vars (Some Null) s n h = refl
  condition_is ty i vars (Some (Int x)) s n h = refl
  condition_is ty i vars (Some (BoolOf b)) s n h = refl
  condition_is ty i vars (Some (Text t)) s n h = refl
  condition_is ty i vars (Some (Case c)) s n h = refl
  condition_is ty i vars (Some (List' k xs)) s n h = refl
