-- A filled window is that of the arguments.
use Rattle.std.proofs.Common.{◌≡◌, ℕ, List, Option, Some, None, Bool, true, false, refl, sym, ap, ◌∙◌}
use Rattle.std.specs.Prelude.{unwrap_or}
use Rattle.std.specs.Option.{option_and_then}
use Rattle.gql_input.specs.Arguments.{value_with}
use Rattle.gql_input.specs.declared.argument.ArgValue.{ArgValue, Variable, Null, Int, Bool as BoolOf, Text, Case, List', Object'}
use Rattle.pg_base.specs.Base.{BaseParts}
use Rattle.pg_base.specs.Vars.{variable}
use Rattle.pg_base.specs.declared.cell.Mark.{Mark}
use Rattle.pg_base.specs.declared.value.Value.{Value}
use Rattle.pg_base.specs.declared.value.Value as v
use Rattle.pg_base.specs.declared.vars.Vars.{Vars}
use Rattle.place_tree.specs.Arguments as a
use Rattle.place_tree.specs.Arguments.{argument, written, is_given, number_of, text_of, mark_in, window_of}
use Rattle.place_tree.specs.Fields.{columns_of}
use Rattle.place_tree.specs.declared.place.Place.{Place}
use Rattle.plan_steps.specs.Filled.{slot_value, filled_window}
use Rattle.plan_steps.specs.declared.plan.Slot.{Slot}
use Rattle.rel_model.specs.declared.window.By.{By}
use Rattle.rel_model.specs.declared.window.Window.{Window}
use Rattle.step_plan.specs.Slots.{variable_slot, window_slot, window_slots}

no_number : (o : Option Value) → is_given o ≡ false → number_of o ≡ None
no_number None h = refl
no_number (Some v.Null) h = refl
no_number (Some (v.Int n)) h = cc
no_number (Some (v.Bool b)) h = cc
no_number (Some (v.Text t)) h = cc
no_number (Some (v.Case c)) h = cc
no_number (Some (v.List' s xs)) h = cc
no_number (Some (v.Object' s xs)) h = cc

no_text : (o : Option Value) → is_given o ≡ false → text_of o ≡ None
no_text None h = refl
no_text (Some v.Null) h = refl
no_text (Some (v.Int n)) h = cc
no_text (Some (v.Bool b)) h = cc
no_text (Some (v.Text t)) h = cc
no_text (Some (v.Case c)) h = cc
no_text (Some (v.List' s xs)) h = cc
no_text (Some (v.Object' s xs)) h = cc

-- an argument that is given alike with both variables
abbrev pub IsAlike : Vars → Vars → Option ArgValue → Type 0
IsAlike vars other w = is_given (option_and_then (value_with other) w) ≡ is_given (option_and_then (value_with vars) w)

variable_number : (other : Vars) (name : List ℕ) (b : Bool) → is_given (variable other name) ≡ b → number_of (slot_value other (variable_slot b name)) ≡ number_of (variable other name)
variable_number other name true e = refl
variable_number other name false e = sym (no_number (variable other name) e)

variable_text : (other : Vars) (name : List ℕ) (b : Bool) → is_given (variable other name) ≡ b → text_of (slot_value other (variable_slot b name)) ≡ text_of (variable other name)
variable_text other name true e = refl
variable_text other name false e = sym (no_text (variable other name) e)

number_is : (vars other : Vars) (w : Option ArgValue) → IsAlike vars other w → number_of (slot_value other (window_slot vars w)) ≡ number_of (option_and_then (value_with other) w)
number_is vars other None h = refl
number_is vars other (Some (Variable name)) h = variable_number other name (is_given (variable vars name)) h
number_is vars other (Some Null) h = refl
number_is vars other (Some (Int n)) h = refl
number_is vars other (Some (BoolOf b)) h = refl
number_is vars other (Some (Text t)) h = refl
number_is vars other (Some (Case c)) h = refl
number_is vars other (Some (List' s xs)) h = refl
number_is vars other (Some (Object' s xs)) h = refl

pub text_is : (vars other : Vars) (w : Option ArgValue) → IsAlike vars other w → text_of (slot_value other (window_slot vars w)) ≡ text_of (option_and_then (value_with other) w)
text_is vars other None h = refl
text_is vars other (Some (Variable name)) h = variable_text other name (is_given (variable vars name)) h
text_is vars other (Some Null) h = refl
text_is vars other (Some (Int n)) h = refl
text_is vars other (Some (BoolOf b)) h = refl
text_is vars other (Some (Text t)) h = refl
text_is vars other (Some (Case c)) h = refl
text_is vars other (Some (List' s xs)) h = refl
text_is vars other (Some (Object' s xs)) h = refl

-- the five parts are given alike
pub record AreAlike (vars other : Vars) (p : Place) : Type 0 where
  pub first : IsAlike vars other (written p.args a.first)
  pub last : IsAlike vars other (written p.args a.last)
  pub offset : IsAlike vars other (written p.args a.offset)
  pub before : IsAlike vars other (written p.args a.before)
  pub after : IsAlike vars other (written p.args a.after)

abbrev window_by : Option ℕ → Option ℕ → Option ℕ → Option Mark → Option Mark → Window
window_by first last offset before after = record { first = first; last = last; offset = unwrap_or offset 0; before = before; after = after }

-- the window of arguments, filled
pub window_is : (base : BaseParts) (vars other : Vars) (p : Place) (table : ℕ) (order : List By) → AreAlike vars other p → filled_window base other table order (window_slots vars p) ≡ window_of base.catalog (columns_of base.catalog table) order other p
window_is base vars other p table order s =
    let n1 = number_is vars other (written p.args a.first) s.first in
    let n2 = number_is vars other (written p.args a.last) s.last in
    let n3 = number_is vars other (written p.args a.offset) s.offset in
    let t4 = text_is vars other (written p.args a.before) s.before in
    let t5 = text_is vars other (written p.args a.after) s.after in
    let m : Option (List ℕ) → Option Mark = λ t. mark_in base.catalog (columns_of base.catalog table) order t in
    let w = window_slots vars p in
    let num : Option Slot → Option ℕ = λ x. number_of (slot_value other x) in
    let txt : Option Slot → Option (List ℕ) = λ x. text_of (slot_value other x) in
    ap (λ x. window_by x (num w.last) (num w.offset) (m (txt w.before)) (m (txt w.after))) n1
    ∙ ap (λ x. window_by (number_of (argument other p a.first)) x (num w.offset) (m (txt w.before)) (m (txt w.after))) n2
    ∙ ap (λ x. window_by (number_of (argument other p a.first)) (number_of (argument other p a.last)) x (m (txt w.before)) (m (txt w.after))) n3
    ∙ ap (λ x. window_by (number_of (argument other p a.first)) (number_of (argument other p a.last)) (number_of (argument other p a.offset)) (m x) (m (txt w.after))) t4
    ∙ ap (λ x. window_by (number_of (argument other p a.first)) (number_of (argument other p a.last)) (number_of (argument other p a.offset)) (m (text_of (argument other p a.before))) (m x)) t5
