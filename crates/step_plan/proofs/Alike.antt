-- Fields of one name and type, with the same arguments as they are written, add the same fetch but for what it hangs on and
-- whether it asks for rows.
use Rattle.std.proofs.Common.{◌≡◌, ℕ, ◌+◌, Bool, true, false, List, [], ◌∷◌, Option, Some, None, refl, sym, ap, ◌∙◌}
use Rattle.std.specs.Prelude.{slice_get, option_map}
use Rattle.pg_base.specs.Base.{BaseParts}
use Rattle.pg_base.specs.Schema.{SchemaParts}
use Rattle.pg_base.specs.declared.does.Does.{Does}
use Rattle.pg_base.specs.declared.does.Does.TheVariants as does
use Rattle.pg_base.specs.declared.schema.ArgDef.{ArgDef}
use Rattle.pg_base.specs.declared.schema.FieldDef.{FieldDef}
use Rattle.pg_base.specs.declared.table_def.KeyDef.{KeyDef}
use Rattle.pg_base.specs.declared.table_def.LinkDef.{LinkDef}
use Rattle.pg_base.specs.declared.vars.Vars.{Vars}
use Rattle.place_tree.specs.Arguments.{written}
use Rattle.place_tree.specs.Fields.{field_of, key_at, link_at, finds_one}
use Rattle.place_tree.specs.declared.place.Place.{Place}
use Rattle.place_tree.specs.declared.place.PlaceArg.{PlaceArg}
use Rattle.plan_steps.specs.Fetches.{bare, AreAlike}
use Rattle.plan_steps.specs.declared.plan.FetchStep.{FetchStep, FetchStep-F, roll-FetchStep, out-roll-FetchStep}
use Rattle.plan_steps.specs.declared.plan.Slot.{Slot}
use Rattle.step_plan.specs.Added.{row_of, list_step, row_step, add_link, add_key, add_backward, added_by, added_for, added}
use Rattle.step_plan.specs.Slots.{slot_or_null, key_slots}
use Rattle.step_plan.specs.declared.making.Added.{Added}
use Rattle.step_plan.specs.declared.making.Added.TheVariants as adds
use Rattle.step_plan.specs.declared.making.Footing.{Footing}
use Rattle.step_plan.specs.declared.making.Footing.TheVariants as footing
use Rattle.step_plan.proofs.Places.{inside}
use Rattle.step_plan.proofs.Told.{fetch_added, row_parts, list_parts, bare_parts}

-- a place of a type, a field and arguments
abbrev place_with : ℕ → ℕ → List PlaceArg → Place
place_with ty field args = record { parent = None; key = []; ty = ty; field = field; args = args; pos = record { line = 0; column = 0 } }

abbrev plain_place : Place → Place
plain_place p = place_with p.ty p.field p.args

same_plain : (p q : Place) → AreAlike p q → plain_place p ≡ plain_place q
same_plain p q e = ap (λ ty. place_with ty p.field p.args) e.0 ∙ ap (λ n. place_with q.ty n p.args) e.1.0 ∙ ap (place_with q.ty q.field) e.1.1

abbrev stripped : FetchStep-F FetchStep → FetchStep
stripped f = roll-FetchStep (bare_parts f)

same_keys : (schema : SchemaParts) (p q : Place) → p.args ≡ q.args → (arg : ℕ) (args : List ArgDef) → key_slots schema p arg args ≡ key_slots schema q arg args
same_keys schema p q e arg [] = refl
same_keys schema p q e arg (a ∷ args) =
    ap (λ l. slot_or_null schema a.ty (written l arg) ∷ key_slots schema p (arg + 1) args) e
    ∙ ap (λ l. slot_or_null schema a.ty (written q.args arg) ∷ l) (same_keys schema p q e (arg + 1) args)

abbrev bare_added : Added → Option FetchStep
bare_added a = option_map bare (fetch_added a)

module _ (base : BaseParts) (vars : Vars) (places : List Place) (p : Place) (shown : Bool) (g : Footing) (f : FieldDef) where
  abbrev q : Place
  q = plain_place p

  lists_alike : (t : ℕ) (by : List ℕ) (parent other : Option ℕ) (columns : List ℕ) → bare (list_step base vars p shown f t by parent columns) ≡ bare (list_step base vars q true f t by other columns)
  lists_alike t by parent other columns =
      ap stripped (out-roll-FetchStep (list_parts base vars p shown f t by parent columns)) ∙ sym (ap stripped (out-roll-FetchStep (list_parts base vars q true f t by other columns)))

  rows_alike : (t : ℕ) (by : List ℕ) (parent other : Option ℕ) (columns : List ℕ) (key slots : List Slot) → key ≡ slots → bare (row_step t by parent columns key) ≡ bare (row_step t by other columns slots)
  rows_alike t by parent other columns key slots e =
      ap (λ l. bare (row_step t by parent columns l)) e ∙ ap stripped (out-roll-FetchStep (row_parts t by parent columns slots)) ∙ sym (ap stripped (out-roll-FetchStep (row_parts t by other columns slots)))

  backward_alike : (t row : ℕ) (link : LinkDef) (one : Bool) → bare_added (add_backward base vars p shown f t row link one) ≡ bare_added (add_backward base vars q true f t 0 link one)
  backward_alike t row link true = ap Some (rows_alike t link.columns (Some row) (Some 0) link.target_columns [] [] refl)
  backward_alike t row link false = ap Some (lists_alike t link.columns (Some row) (Some 0) link.target_columns)

  field_alike : (d : Does) → bare_added (added_by base vars places p shown g f d) ≡ bare_added (added_by base vars [] q true footing.Nothing f d)
  field_alike (does.All t) = ap Some (lists_alike t [] None None [])
  field_alike (does.ByKey t k) = by (key_at base.catalog t k)
    where
      by : (o : Option KeyDef) → bare_added (add_key o (λ y. adds.Row (row_step t y.columns None [] (key_slots base.schema p 0 f.args)))) ≡ bare_added (add_key o (λ y. adds.Row (row_step t y.columns None [] (key_slots base.schema q 0 f.args))))
      by None = refl
      by (Some y) = ap Some (rows_alike t y.columns None None [] (key_slots base.schema p 0 f.args) (key_slots base.schema q 0 f.args) (same_keys base.schema p q refl 0 f.args))
  field_alike (does.Forward t l) = by (link_at base.catalog t l)
    where
      by : (o : Option LinkDef) → bare_added (add_link o (λ y. adds.Row (row_step y.target y.target_columns (Some (row_of g)) y.columns []))) ≡ bare_added (add_link o (λ y. adds.Row (row_step y.target y.target_columns (Some 0) y.columns [])))
      by None = refl
      by (Some y) = ap Some (rows_alike y.target y.target_columns (Some (row_of g)) (Some 0) y.columns [] [] refl)
  field_alike (does.Backward t l) = by (link_at base.catalog t l)
    where
      by : (o : Option LinkDef) → bare_added (add_link o (λ y. add_backward base vars p shown f t (row_of g) y (finds_one (slice_get base.catalog.tables t) y)))
          ≡ bare_added (add_link o (λ y. add_backward base vars q true f t 0 y (finds_one (slice_get base.catalog.tables t) y)))
      by None = refl
      by (Some y) = backward_alike t (row_of g) y (finds_one (slice_get base.catalog.tables t) y)
  field_alike (does.Column t c) = refl
  field_alike (does.Create t) = refl
  field_alike (does.Update t k) = refl
  field_alike (does.Delete t k) = refl
  field_alike does.Nodes = refl
  field_alike does.Edges = refl
  field_alike does.PageInfo = refl
  field_alike does.Total = refl
  field_alike does.Node = refl
  field_alike does.Cursor = refl
  field_alike does.HasNext = refl
  field_alike does.HasPrevious = refl
  field_alike does.Start = refl
  field_alike does.End = refl
  field_alike does.ClientId = refl
  field_alike does.Payload = refl

place_alike : (base : BaseParts) (vars : Vars) (places : List Place) (p : Place) (shown : Bool) (g : Footing) (o : Option FieldDef) → bare_added (added_for base vars places p shown g o) ≡ bare_added (added_for base vars [] (plain_place p) true footing.Nothing o)
place_alike base vars places p shown g None = refl
place_alike base vars places p shown g (Some f) = field_alike base vars places p shown g f f.does

pub added_alike : (base : BaseParts) (vars : Vars) (places : List Place) (p r : Place) (shown told : Bool) (g h : Footing) (x y : FetchStep) → AreAlike p r
    → fetch_added (added base vars places p shown g) ≡ Some x → fetch_added (added base vars places r told h) ≡ Some y → bare x ≡ bare y
added_alike base vars places p r shown told g h x y e is other =
    inside (bare x) (bare y) (
    sym (ap (option_map bare) is)
    ∙ place_alike base vars places p shown g (field_of base.schema p)
    ∙ ap (λ z. bare_added (added base vars [] z true footing.Nothing)) (same_plain p r e)
    ∙ sym (place_alike base vars places r told h (field_of base.schema r))
    ∙ ap (option_map bare) other)
