-- What the slots of a window tell of its arguments, and of the error in them.
use Rattle.std.proofs.Common.{◌≡◌, ℕ, Bool, true, false, List, Option, Some, None, refl, sym, ap, ◌∙◌}
use Rattle.std.specs.Option.{option_and_then}
use Rattle.std.specs.Prelude.{is_some, is_ok, IfSome, ◌&&◌, ◌||◌, codes, ⊤}
use Rattle.gql_input.specs.Arguments.{value_with}
use Rattle.gql_input.specs.Inputs.{Reads, int, big_int, text, boolean, cases, fields, nothing, reads_at, has_fields}
use Rattle.gql_input.specs.Leaves.{boolean_at, case_at}
use Rattle.gql_input.specs.declared.argument.ArgValue.{ArgValue, Variable, Null, Int, Bool as BoolOf, Text, Case, List', Object'}
use Rattle.pg_base.specs.Base.{BaseParts}
use Rattle.pg_base.specs.Vars.{variable}
use Rattle.pg_base.specs.declared.schema.TypeRef.{TypeRef}
use Rattle.pg_base.specs.declared.value.Value.{Value}
use Rattle.pg_base.specs.declared.value.Value as v
use Rattle.pg_base.specs.declared.vars.Vars.{Vars}
use Rattle.place_tree.specs.Arguments as a
use Rattle.place_tree.specs.Arguments.{argument, written, is_given, is_negative, is_windowed, text_of, or_else, error_if, count_error, cursor_error, window_error}
use Rattle.place_tree.specs.Fields.{columns_of}
use Rattle.place_tree.specs.declared.place.Place.{Place}
use Rattle.plan_steps.specs.Fetches.{has_window}
use Rattle.plan_steps.specs.Filled.{slot_value}
use Rattle.plan_steps.specs.Fitting.{IsOf}
use Rattle.plan_steps.specs.Values.{order_names}
use Rattle.plan_steps.specs.declared.plan.Slot.{Slot}
use Rattle.plan_steps.specs.declared.plan.SlotWindow.{SlotWindow}
use Rattle.rel_model.specs.declared.window.By.{By}
use Rattle.step_plan.specs.Slots.{variable_slot, window_slot, window_slots}
use Rattle.step_plan.proofs.FilledWindows.{IsAlike, AreAlike, text_is}

-- ---- types of numbers and texts

abbrev pub IsNumberOrText : Reads → Type 0
IsNumberOrText int = ⊤
IsNumberOrText big_int = ⊥
IsNumberOrText text = ⊤
IsNumberOrText boolean = ⊥
IsNumberOrText (cases names) = ⊥
IsNumberOrText (fields args) = ⊥
IsNumberOrText nothing = ⊥

abbrev pub IsWindowType : BaseParts → TypeRef → Type 0
IsWindowType base ty = (ty.list ≡ false) × IsNumberOrText (reads_at base.schema ty.name)

no_truth : (r : Reads) → IsNumberOrText r → (b : Bool) → is_ok (boolean_at r b) ≡ true → ⊥
no_truth int k b h = cc
no_truth big_int k b h = absurd k
no_truth text k b h = cc
no_truth boolean k b h = absurd k
no_truth (cases names) k b h = absurd k
no_truth (fields args) k b h = absurd k
no_truth nothing k b h = absurd k

no_case : (r : Reads) → IsNumberOrText r → (c : List ℕ) → is_ok (case_at r c) ≡ true → ⊥
no_case int k c h = cc
no_case big_int k c h = absurd k
no_case text k c h = cc
no_case boolean k c h = absurd k
no_case (cases names) k c h = absurd k
no_case (fields args) k c h = absurd k
no_case nothing k c h = absurd k

no_object : (r : Reads) → IsNumberOrText r → has_fields r ≡ true → ⊥
no_object int k h = cc
no_object big_int k h = cc
no_object text k h = cc
no_object boolean k h = cc
no_object (cases names) k h = cc
no_object (fields args) k h = absurd k
no_object nothing k h = cc

no_list : (ty : TypeRef) → ty.list ≡ false → ty.list ≡ true → ⊥
no_list ty f t = cc

-- ---- one part

abbrev given_by : Vars → Option ArgValue → Option Value
given_by other w = option_and_then (value_with other) w

slot_there : (b : Bool) (name : List ℕ) → is_some (variable_slot b name) ≡ b
slot_there true name = refl
slot_there false name = refl

-- a slot is there where a value is given
slot_some : (base : BaseParts) (vars other : Vars) (ty : TypeRef) → IsWindowType base ty → (w : Option ArgValue) → IfSome (given_by other w) (IsOf base.schema ty) → IsAlike vars other w → is_some (window_slot vars w) ≡ is_given (given_by other w)
slot_some base vars other ty k None h e = refl
slot_some base vars other ty k (Some (Variable name)) h e = slot_there (is_given (variable vars name)) name ∙ sym e
slot_some base vars other ty k (Some Null) h e = refl
slot_some base vars other ty k (Some (Int n)) h e = refl
slot_some base vars other ty k (Some (BoolOf b)) h e = absurd (no_truth (reads_at base.schema ty.name) k.1 b h.1)
slot_some base vars other ty k (Some (Text t)) h e = refl
slot_some base vars other ty k (Some (Case c)) h e = absurd (no_case (reads_at base.schema ty.name) k.1 c h.1)
slot_some base vars other ty k (Some (List' s xs)) h e = absurd (no_list ty k.0 h.0)
slot_some base vars other ty k (Some (Object' s xs)) h e = absurd (no_object (reads_at base.schema ty.name) k.1 h.3)

variable_given : (other : Vars) (name : List ℕ) (b : Bool) → is_given (variable other name) ≡ b → is_given (slot_value other (variable_slot b name)) ≡ is_given (variable other name)
variable_given other name true e = refl
variable_given other name false e = sym e

-- and holds what is given
slot_given : (base : BaseParts) (vars other : Vars) (ty : TypeRef) → IsWindowType base ty → (w : Option ArgValue) → IfSome (given_by other w) (IsOf base.schema ty) → IsAlike vars other w → is_given (slot_value other (window_slot vars w)) ≡ is_given (given_by other w)
slot_given base vars other ty k None h e = refl
slot_given base vars other ty k (Some (Variable name)) h e = variable_given other name (is_given (variable vars name)) e
slot_given base vars other ty k (Some Null) h e = refl
slot_given base vars other ty k (Some (Int n)) h e = refl
slot_given base vars other ty k (Some (BoolOf b)) h e = absurd (no_truth (reads_at base.schema ty.name) k.1 b h.1)
slot_given base vars other ty k (Some (Text t)) h e = refl
slot_given base vars other ty k (Some (Case c)) h e = absurd (no_case (reads_at base.schema ty.name) k.1 c h.1)
slot_given base vars other ty k (Some (List' s xs)) h e = absurd (no_list ty k.0 h.0)
slot_given base vars other ty k (Some (Object' s xs)) h e = absurd (no_object (reads_at base.schema ty.name) k.1 h.3)

not_negative : (o : Option Value) → is_given o ≡ false → is_negative o ≡ false
not_negative None h = refl
not_negative (Some v.Null) h = refl
not_negative (Some (v.Int n)) h = cc
not_negative (Some (v.Bool b)) h = cc
not_negative (Some (v.Text t)) h = cc
not_negative (Some (v.Case c)) h = cc
not_negative (Some (v.List' s xs)) h = cc
not_negative (Some (v.Object' s xs)) h = cc

variable_negative : (other : Vars) (name : List ℕ) (b : Bool) → is_given (variable other name) ≡ b → is_negative (slot_value other (variable_slot b name)) ≡ is_negative (variable other name)
variable_negative other name true e = refl
variable_negative other name false e = sym (not_negative (variable other name) e)

slot_negative : (vars other : Vars) (w : Option ArgValue) → IsAlike vars other w → is_negative (slot_value other (window_slot vars w)) ≡ is_negative (given_by other w)
slot_negative vars other None e = refl
slot_negative vars other (Some (Variable name)) e = variable_negative other name (is_given (variable vars name)) e
slot_negative vars other (Some Null) e = refl
slot_negative vars other (Some (Int n)) e = refl
slot_negative vars other (Some (BoolOf b)) e = refl
slot_negative vars other (Some (Text t)) e = refl
slot_negative vars other (Some (Case c)) e = refl
slot_negative vars other (Some (List' s xs)) e = refl
slot_negative vars other (Some (Object' s xs)) e = refl

-- ---- the five parts

-- a window's arguments are numbers and texts
pub record AreCounted (base : BaseParts) (other : Vars) (p : Place) : Type 0 where
  pub number : TypeRef
  pub cursor : TypeRef
  pub is_number : IsWindowType base number
  pub is_cursor : IsWindowType base cursor
  pub first : IfSome (argument other p a.first) (IsOf base.schema number)
  pub last : IfSome (argument other p a.last) (IsOf base.schema number)
  pub offset : IfSome (argument other p a.offset) (IsOf base.schema number)
  pub before : IfSome (argument other p a.before) (IsOf base.schema cursor)
  pub after : IfSome (argument other p a.after) (IsOf base.schema cursor)

abbrev any_of : Bool → Bool → Bool → Bool → Bool → Bool
any_of b c d e f = b || (c || (d || (e || f)))

same_any : (b c d e f : Bool) → any_of b c d e f ≡ (b || c || d || e || f)
same_any true c d e f = refl
same_any false true d e f = refl
same_any false false true e f = refl
same_any false false false true f = refl
same_any false false false false f = refl

abbrev count_by : Bool → Bool → Bool → Bool → Bool → Bool → Option (List ℕ)
count_by n m k b c d =
    or_else (error_if n (codes "first is negative"))
    (or_else (error_if m (codes "last is negative"))
    (or_else (error_if k (codes "offset is negative"))
    (or_else (error_if (b && c) (codes "first with last"))
    (error_if (d && c) (codes "offset with last")))))

-- the first error of a window whose arguments are what its slots hold, where the order has these names
abbrev pub slots_error : BaseParts → Vars → ℕ → List By → SlotWindow → Option (List ℕ)
slots_error base vars table order w =
    or_else (count_error (slot_value vars w.first) (slot_value vars w.last) (slot_value vars w.offset))
    (or_else (cursor_error base.catalog (columns_of base.catalog table) (order_names base table order) order (text_of (slot_value vars w.after)))
    (cursor_error base.catalog (columns_of base.catalog table) (order_names base table order) order (text_of (slot_value vars w.before))))

module _ (base : BaseParts) (vars other : Vars) (p : Place) (alike : AreAlike vars other p) (are : AreCounted base other p) where
  abbrev w : SlotWindow
  w = window_slots vars p

  -- a slot is there where a part is asked for
  pub has_slots : has_window (window_slots vars p) ≡ is_windowed other p
  has_slots =
      let f = slot_some base vars other are.number are.is_number (written p.args a.first) are.first alike.first in
      let l = slot_some base vars other are.number are.is_number (written p.args a.last) are.last alike.last in
      let o = slot_some base vars other are.number are.is_number (written p.args a.offset) are.offset alike.offset in
      let b = slot_some base vars other are.cursor are.is_cursor (written p.args a.before) are.before alike.before in
      let t = slot_some base vars other are.cursor are.is_cursor (written p.args a.after) are.after alike.after in
      ap (λ x. any_of x (is_some w.last) (is_some w.offset) (is_some w.before) (is_some w.after)) f
      ∙ ap (λ x. any_of (is_given (argument other p a.first)) x (is_some w.offset) (is_some w.before) (is_some w.after)) l
      ∙ ap (λ x. any_of (is_given (argument other p a.first)) (is_given (argument other p a.last)) x (is_some w.before) (is_some w.after)) o
      ∙ ap (λ x. any_of (is_given (argument other p a.first)) (is_given (argument other p a.last)) (is_given (argument other p a.offset)) x (is_some w.after)) b
      ∙ ap (λ x. any_of (is_given (argument other p a.first)) (is_given (argument other p a.last)) (is_given (argument other p a.offset)) (is_given (argument other p a.before)) x) t
      ∙ same_any (is_given (argument other p a.first)) (is_given (argument other p a.last)) (is_given (argument other p a.offset)) (is_given (argument other p a.before)) (is_given (argument other p a.after))

  counts : count_error (slot_value other w.first) (slot_value other w.last) (slot_value other w.offset) ≡ count_error (argument other p a.first) (argument other p a.last) (argument other p a.offset)
  counts =
      let n = slot_negative vars other (written p.args a.first) alike.first in
      let m = slot_negative vars other (written p.args a.last) alike.last in
      let k = slot_negative vars other (written p.args a.offset) alike.offset in
      let f = slot_given base vars other are.number are.is_number (written p.args a.first) are.first alike.first in
      let l = slot_given base vars other are.number are.is_number (written p.args a.last) are.last alike.last in
      let o = slot_given base vars other are.number are.is_number (written p.args a.offset) are.offset alike.offset in
      let gf : Bool = is_given (slot_value other w.first) in
      let gl : Bool = is_given (slot_value other w.last) in
      let go : Bool = is_given (slot_value other w.offset) in
      let nf : Bool = is_negative (argument other p a.first) in
      let nl : Bool = is_negative (argument other p a.last) in
      let no_ : Bool = is_negative (argument other p a.offset) in
      ap (λ x. count_by x (is_negative (slot_value other w.last)) (is_negative (slot_value other w.offset)) gf gl go) n
      ∙ ap (λ x. count_by nf x (is_negative (slot_value other w.offset)) gf gl go) m
      ∙ ap (λ x. count_by nf nl x gf gl go) k
      ∙ ap (λ x. count_by nf nl no_ x gl go) f
      ∙ ap (λ x. count_by nf nl no_ (is_given (argument other p a.first)) x go) l
      ∙ ap (λ x. count_by nf nl no_ (is_given (argument other p a.first)) (is_given (argument other p a.last)) x) o

  -- the error of the arguments is that of the slots
  pub slots_tell : (table : ℕ) (order : List By) → slots_error base other table order (window_slots vars p) ≡ window_error base.catalog (columns_of base.catalog table) (order_names base table order) order other p
  slots_tell table order =
      let t = text_is vars other (written p.args a.after) alike.after in
      let b = text_is vars other (written p.args a.before) alike.before in
      let c : Option (List ℕ) → Option (List ℕ) = λ x. cursor_error base.catalog (columns_of base.catalog table) (order_names base table order) order x in
      ap (λ x. or_else x (or_else (c (text_of (slot_value other w.after))) (c (text_of (slot_value other w.before))))) counts
      ∙ ap (λ x. or_else (count_error (argument other p a.first) (argument other p a.last) (argument other p a.offset)) (or_else (c x) (c (text_of (slot_value other w.before))))) t
      ∙ ap (λ x. or_else (count_error (argument other p a.first) (argument other p a.last) (argument other p a.offset)) (or_else (c (text_of (argument other p a.after))) (c x))) b

-- ---- a window without slots

no_slot : (s : Option Slot) → is_some s ≡ false → s ≡ None
no_slot None h = refl
no_slot (Some x) h = cc

neither : (b c : Bool) → (b || c) ≡ false → (b ≡ false) × (c ≡ false)
neither true c h = cc
neither false c h = (refl, h)

-- it has no error
pub without_slots : (base : BaseParts) (vars : Vars) (table : ℕ) (order : List By) (w : SlotWindow) → has_window w ≡ false → slots_error base vars table order w ≡ None
without_slots base vars table order w h =
    let h1 = neither (is_some w.first) _ h in
    let h2 = neither (is_some w.last) _ h1.1 in
    let h3 = neither (is_some w.offset) _ h2.1 in
    let h4 = neither (is_some w.before) _ h3.1 in
    let c : Option Slot → Option (List ℕ) = λ x. cursor_error base.catalog (columns_of base.catalog table) (order_names base table order) order (text_of (slot_value vars x)) in
    ap (λ x. or_else (count_error (slot_value vars x) (slot_value vars w.last) (slot_value vars w.offset)) (or_else (c w.after) (c w.before))) (no_slot w.first h1.0)
    ∙ ap (λ x. or_else (count_error None (slot_value vars x) (slot_value vars w.offset)) (or_else (c w.after) (c w.before))) (no_slot w.last h2.0)
    ∙ ap (λ x. or_else (count_error None None (slot_value vars x)) (or_else (c w.after) (c w.before))) (no_slot w.offset h3.0)
    ∙ ap (λ x. or_else (c x) (c w.before)) (no_slot w.after h4.1)
    ∙ ap (λ x. c x) (no_slot w.before h4.0)
