-- The step of a client's id shows the id that was given.
use Rattle.std.proofs.Common.{◌≡◌, ◌≢◌, ℕ, List, [], ◌∷◌, Option, Some, None, Bool, true, false, refl, sym, ap, ◌∙◌, subst}
use Rattle.std.specs.Prelude.{IfSome, IsSomeAnd, if◌then◌else◌}
use Rattle.std.specs.Option.{option_and_then}
use Rattle.std.specs.Str.{bytes_eq}
use Rattle.std.proofs.lemmas.Slice.Eq.{bytes_eq-Decides}
use Rattle.gql_input.specs.Arguments.{and_given, value_with, members_with}
use Rattle.gql_input.specs.Inputs.{text, reads_at}
use Rattle.gql_input.specs.declared.argument.ArgValue.{ArgValue, Variable, Null, Int, Bool as BoolOf, Text, Case, List', Object', Row_of-ArgMember, end_of-ArgMember, more_of-ArgMember}
use Rattle.pg_base.specs.Base.{BaseParts}
use Rattle.pg_base.specs.Lists.{Each, AreDistinct}
use Rattle.pg_base.specs.Schema.{SchemaParts, kind_at, inputs_of}
use Rattle.pg_base.specs.Value.{members_of, member_in}
use Rattle.pg_base.specs.Vars.{variable}
use Rattle.pg_base.specs.declared.schema.ArgDef.{ArgDef}
use Rattle.pg_base.specs.declared.schema.TypeRef.{TypeRef}
use Rattle.pg_base.specs.declared.value.Member.{Member}
use Rattle.pg_base.specs.declared.value.Value.{Value}
use Rattle.pg_base.specs.declared.value.Value as v
use Rattle.pg_base.specs.declared.value.Value.TheVariants as value
use Rattle.pg_base.specs.declared.vars.Vars.{Vars}
use Rattle.place_tree.specs.Arguments.{argument, written, text_of, type_in}
use Rattle.place_tree.specs.Exec.{text_or_null, input_id, client_id}
use Rattle.place_tree.specs.declared.place.Place.{Place}
use Rattle.plan_constraints.proofs.Parts.{members_of-Object}
use Rattle.plan_constraints.specs.Path.{below}
use Rattle.plan_constraints.specs.declared.part.Part.TheVariants as part
use Rattle.plan_steps.specs.Denoted.{input_leaf}
use Rattle.plan_steps.specs.Fitting.{IsOf}
use Rattle.plan_steps.specs.Serves.{input_of}
use Rattle.plan_steps.specs.Values.{input_or_null}
use Rattle.plan_steps.specs.declared.plan.Step.{Step}
use Rattle.step_plan.specs.Added.{id_name, written_in, id_written, id_in}
use Rattle.step_plan.specs.Planned.{names_in, HasFieldsOnce}
use Rattle.step_plan.proofs.Cells.{holds_as}
use Rattle.step_plan.proofs.Conditions.{AreListed, members_listed}
use Rattle.step_plan.proofs.Facts.{IsInputArg}

-- ---- fields by their names

member_typed : (schema : SchemaParts) (inputs : List ArgDef) (ms : List Member) (name : List ℕ) → AreListed schema inputs ms → IfSome (member_in ms name) (IsOf schema (type_in inputs name))
member_typed schema inputs [] name h = tt
member_typed schema inputs (m ∷ ms) name h = by (bytes_eq m.name name) refl (member_typed schema inputs ms name h.1)
  where
    by : (b : Bool) → bytes_eq m.name name ≡ b → IfSome (member_in ms name) (IsOf schema (type_in inputs name)) → IfSome (if b then Some m.value else member_in ms name) (IsOf schema (type_in inputs name))
    by true e rest = subst (λ n. IsOf schema (type_in inputs n) m.value) ((bytes_eq-Decides m.name name).0 e) h.0
    by false e rest = rest

other_first : (name : List ℕ) (m : Member) (ms : List Member) → m.name ≢ name → member_in (m ∷ ms) name ≡ member_in ms name
other_first name m ms d = by (bytes_eq m.name name) refl
  where
    by : (b : Bool) → bytes_eq m.name name ≡ b → (if b then Some m.value else member_in ms name) ≡ member_in ms name
    by true e = absurd (d ((bytes_eq-Decides m.name name).0 e))
    by false e = refl

other_given : (name field : List ℕ) (o : Option Value) (ms : List Member) → field ≢ name → member_in (and_given field o ms) name ≡ member_in ms name
other_given name field None ms d = refl
other_given name field (Some w) ms d = other_first name (record { name = field; value = w }) ms d

absent : {n : _} (other : Vars) (name : List ℕ) (row : Row_of-ArgMember n) → Each (λ field. name ≢ field) (names_in row) → member_in (members_with other row) name ≡ None
absent other name end_of-ArgMember h = refl
absent other name (more_of-ArgMember field a rest) h =
    other_given name field (value_with other a) (members_with other rest) (λ e. h.0 (sym e)) ∙ absent other name rest h.1

first_given : (name field : List ℕ) (o : Option Value) (ms : List Member) → bytes_eq field name ≡ true → member_in ms name ≡ None → member_in (and_given field o ms) name ≡ o
first_given name field None ms e h = h
first_given name field (Some w) ms e h = ap (λ b. if b then Some w else member_in ms name) e

-- a field that is written once is found where it is given
pub found_written : {n : _} (other : Vars) (name : List ℕ) (row : Row_of-ArgMember n) → AreDistinct (names_in row) → member_in (members_with other row) name ≡ option_and_then (value_with other) (written_in row name)
found_written other name end_of-ArgMember h = refl
found_written other name (more_of-ArgMember field a rest) h = by (bytes_eq field name) refl (found_written other name rest h.1)
  where
    by : (b : Bool) → bytes_eq field name ≡ b → member_in (members_with other rest) name ≡ option_and_then (value_with other) (written_in rest name)
        → member_in (and_given field (value_with other a) (members_with other rest)) name ≡ option_and_then (value_with other) (if b then Some a else written_in rest name)
    by true e next =
        first_given name field (value_with other a) (members_with other rest) e
        (absent other name rest (subst (λ n. Each (λ x. n ≢ x) (names_in rest)) ((bytes_eq-Decides field name).0 e) h.0))
    by false e next = other_given name field (value_with other a) (members_with other rest) (λ q. let t : bytes_eq field name ≡ true = (bytes_eq-Decides field name).1 q in cc) ∙ next

-- ---- a value that is a text or null

leaf_is : (schema : SchemaParts) (ty : TypeRef) (o : Option Value) → reads_at schema ty.name ≡ text → IfSome o (IsOf schema ty) → input_leaf (input_or_null o) ≡ text_or_null (text_of o)
leaf_is schema ty None r h = refl
leaf_is schema ty (Some v.Null) r h = refl
leaf_is schema ty (Some (v.Int n)) r h = let g = holds_as schema ty (v.Int n) text r h in cc
leaf_is schema ty (Some (v.Bool b)) r h = let g = holds_as schema ty (v.Bool b) text r h in cc
leaf_is schema ty (Some (v.Text t)) r h = refl
leaf_is schema ty (Some (v.Case c)) r h = refl
leaf_is schema ty (Some (v.List' s xs)) r h = refl
leaf_is schema ty (Some (v.Object' s xs)) r h = refl

-- ---- the id

module _ (base : BaseParts) (args : List ArgDef) (law : IsInputArg base args) (other : Vars) where
  abbrev inputs : List ArgDef
  inputs = inputs_of (kind_at base.schema law.input.ty.name)

  abbrev Shows : Step → Option Value → Type 0
  Shows s given = IsSomeAnd (input_of other (Some s)) (λ w. input_leaf w ≡ input_id given)

  id_of_value : (w : Value) → IsOf base.schema law.input.ty w → input_leaf (input_or_null (member_in (members_of w) id_name)) ≡ input_id (Some w)
  id_of_value w h = leaf_is base.schema (type_in inputs id_name) (member_in (members_of w) id_name) law.reads (member_typed base.schema inputs (members_of w) id_name (members_listed base.schema law.input.ty w h))

  by_variable : (name : List ℕ) (o : Option Value) → variable other name ≡ o → IfSome o (IsOf base.schema law.input.ty) → input_leaf (input_or_null (below o (part.Name id_name ∷ []))) ≡ input_id o
  by_variable name None e h = refl
  by_variable name (Some w) e h = id_of_value w h

  by_member : (o : Option ArgValue) → IfSome (option_and_then (value_with other) o) (IsOf base.schema (type_in inputs id_name))
      → IsSomeAnd (input_of other (Some (id_written o))) (λ w. input_leaf w ≡ text_or_null (text_of (option_and_then (value_with other) o)))
  by_member None h = refl
  by_member (Some (Variable name)) h = leaf_is base.schema (type_in inputs id_name) (variable other name) law.reads h
  by_member (Some Null) h = refl
  by_member (Some (Int n)) h = refl
  by_member (Some (BoolOf b)) h = refl
  by_member (Some (Text t)) h = refl
  by_member (Some (Case c)) h = refl
  by_member (Some (List' s xs)) h = refl
  by_member (Some (Object' s ms)) h = refl

  by_object : {n : _} (row : Row_of-ArgMember n) → AreDistinct (names_in row) → IsOf base.schema law.input.ty (value.Object (members_with other row)) → Shows (id_written (written_in row id_name)) (Some (value.Object (members_with other row)))
  by_object row d h =
      let all = members_with other row in
      let rolled = members_of-Object all in
      let listed : AreListed base.schema inputs all = subst (AreListed base.schema inputs) rolled (members_listed base.schema law.input.ty (value.Object all) h) in
      let typed : IfSome (option_and_then (value_with other) (written_in row id_name)) (IsOf base.schema (type_in inputs id_name)) =
      subst (λ o. IfSome o (IsOf base.schema (type_in inputs id_name))) (found_written other id_name row d) (member_typed base.schema inputs all id_name listed) in
      let same : text_or_null (text_of (option_and_then (value_with other) (written_in row id_name))) ≡ input_id (Some (value.Object all)) =
      sym (ap (λ o. text_or_null (text_of o)) (found_written other id_name row d)) ∙ sym (ap (λ l. text_or_null (text_of (member_in l id_name))) rolled) in
      subst (λ x. IsSomeAnd (input_of other (Some (id_written (written_in row id_name)))) (λ w. input_leaf w ≡ x)) same (by_member (written_in row id_name) typed)

  by_input : (w : Option ArgValue) → IfSome w HasFieldsOnce → IfSome (option_and_then (value_with other) w) (IsOf base.schema law.input.ty) → Shows (id_in w) (option_and_then (value_with other) w)
  by_input None d h = refl
  by_input (Some (Variable name)) d h = by_variable name (variable other name) refl h
  by_input (Some Null) d h = refl
  by_input (Some (Int n)) d h = refl
  by_input (Some (BoolOf b)) d h = refl
  by_input (Some (Text t)) d h = refl
  by_input (Some (Case c)) d h = refl
  by_input (Some (List' s xs)) d h = refl
  by_input (Some (Object' s ms)) d h = by_object ms d h

-- the step shows the id that is given to the mutation
pub id_shows : (base : BaseParts) (args : List ArgDef) (law : IsInputArg base args) (other : Vars) (mutation : Place) → IfSome (written mutation.args 0) HasFieldsOnce → IfSome (argument other mutation 0) (IsOf base.schema law.input.ty)
    → IsSomeAnd (input_of other (Some (id_in (written mutation.args 0)))) (λ w. input_leaf w ≡ client_id other (Some mutation))
id_shows base args law other mutation d h = by_input base args law other (written mutation.args 0) d h
