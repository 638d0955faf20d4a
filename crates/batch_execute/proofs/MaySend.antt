-- By the roles of places, the same steps are asked for.
use Rattle.std.proofs.Common.{◌≡◌, ℕ, zero, suc, ◌+◌, List, [], ◌∷◌, Option, Some, None, Bool, true, false, refl, sym, ap, ◌∙◌, arith}
use Rattle.std.specs.Prelude.{slice_get, ◌==◌, ◌&&◌, ◌||◌, not, is_some}
use Rattle.std.specs.List.{list_any}
use Rattle.pg_base.specs.Base.{BaseParts}
use Rattle.pg_base.specs.declared.does.Does.{Does}
use Rattle.pg_base.specs.declared.does.Does.TheVariants as does
use Rattle.pg_base.specs.declared.vars.Vars.{Vars}
use Rattle.rel_model.specs.declared.tables.Tables.{Tables}
use Rattle.place_tree.specs.declared.fetch.Fetch.{Fetch}
use Rattle.place_tree.specs.declared.fetch.Shape.{Shape}
use Rattle.place_tree.specs.declared.fetch.Shape.TheVariants as shape
use Rattle.place_tree.specs.declared.place.Place.{Place}
use Rattle.place_tree.specs.declared.place.Tree.{Tree}
use Rattle.place_tree.specs.Fetch.{fetch_of, argument_error}
use Rattle.place_tree.specs.Fields.{does_of}
use Rattle.plan_steps.specs.declared.plan.OutPlace.{OutPlace}
use Rattle.plan_steps.specs.declared.plan.Root.{Root}
use Rattle.plan_steps.specs.Denoted.{moment}
use Rattle.plan_steps.specs.Sent as sent
use Rattle.plan_steps.specs.Under.{root_place, is_below}
use Rattle.batch_execute.specs.declared.role.Role.{Role}
use Rattle.batch_execute.specs.declared.role.Role.TheVariants.{Failed, OfList, OfRow, Each, Same, OfLeaf}
use Rattle.batch_execute.specs.Asking.{is_field, is_well, serves_any_well, may_ask}
use Rattle.batch_execute.specs.Roles.{role_by, role_in, role_or, role_with, role_of, roles_from, roles_of}
use Rattle.batch_execute.proofs.Listed.{role_from}

-- ---- the role at a place

role_past : (base : BaseParts) (vars : Vars) (all places : List Place) (n i : ℕ) → slice_get places i ≡ None → slice_get (roles_from base vars all n places) i ≡ None
role_past base vars all [] n i e = refl
role_past base vars all (q ∷ places) n zero e = cc
role_past base vars all (q ∷ places) n (suc i) e = role_past base vars all places (n + 1) i e

by_other : (d : Option Does) → is_field (Some (role_by d)) ≡ false
by_other None = refl
by_other (Some (does.Column table column)) = refl
by_other (Some (does.Forward table link)) = refl
by_other (Some (does.Backward table link)) = refl
by_other (Some (does.All table)) = refl
by_other (Some (does.ByKey table key)) = refl
by_other (Some (does.Create table)) = refl
by_other (Some (does.Update table key)) = refl
by_other (Some (does.Delete table key)) = refl
by_other (Some does.Nodes) = refl
by_other (Some does.Edges) = refl
by_other (Some does.PageInfo) = refl
by_other (Some does.Node) = refl
by_other (Some does.Payload) = refl
by_other (Some does.Total) = refl
by_other (Some does.HasNext) = refl
by_other (Some does.HasPrevious) = refl
by_other (Some does.Start) = refl
by_other (Some does.End) = refl
by_other (Some does.Cursor) = refl
by_other (Some does.ClientId) = refl

well_field : (o : Option Role) → is_field o ≡ false → is_well o ≡ false
well_field None e = refl
well_field (Some (Failed message)) e = cc
well_field (Some (OfList shown)) e = cc
well_field (Some OfRow) e = cc
well_field (Some Each) e = refl
well_field (Some Same) e = refl
well_field (Some OfLeaf) e = refl

field_or : (shown : Bool) (s : Shape) (o : Option (List ℕ)) → is_field (Some (role_or o (role_in shown s))) ≡ true
field_or shown s (Some message) = refl
field_or shown shape.List None = refl
field_or shown shape.Row None = refl

well_or : (shown : Bool) (s : Shape) (o : Option (List ℕ)) → is_well (Some (role_or o (role_in shown s))) ≡ not (is_some o)
well_or shown s (Some message) = refl
well_or shown shape.List None = refl
well_or shown shape.Row None = refl

-- ---- tests

and_none : (a : Bool) → (a && false) ≡ false
and_none true = refl
and_none false = refl

and_joined : (a b c : Bool) → ((a && b) && c) ≡ (a && (b && c))
and_joined true b c = refl
and_joined false b c = refl

none_and : (a b c : Bool) → ((a && (b && false)) && c) ≡ false
none_and true true c = refl
none_and true false c = refl
none_and false b c = refl

all_and : (a b c : Bool) → ((a && b) && c) ≡ ((a && (b && true)) && c)
all_and true true c = refl
all_and true false c = refl
all_and false b c = refl

module _ (base : BaseParts) (tables : Tables) (vars : Vars) (r : Root) (tree : Tree) (k : ℕ) where
  abbrev roles : List Role
  roles = roles_of base vars tree.places

  abbrev here : OutPlace → Bool
  here o = is_below tree.places (root_place r) o.place

  module _ (o : OutPlace) where
    role_at : (p : Place) → slice_get tree.places o.place ≡ Some p → slice_get roles o.place ≡ Some (role_of base vars tree.places o.place p)
    role_at p at = let z : 0 + o.place ≡ o.place = omega arith in role_from base vars tree.places tree.places 0 o.place p at ∙ ap (λ j. Some (role_of base vars tree.places j p)) z

    field_at : (p : Place) → (((o.step == k) && here o) && is_field (Some (role_of base vars tree.places o.place p))) ≡ sent.serves (moment base tables vars r) tree r k o (Some p)
    field_at p = by (fetch_of base vars p) where
      by : (f : Option Fetch) → (((o.step == k) && here o) && is_field (Some (role_with base vars tree.places o.place p f))) ≡ ((o.step == k) && (here o && sent.is_row_field f))
      by None = ap (λ b. ((o.step == k) && here o) && b) (by_other (does_of base.schema p)) ∙ and_joined (o.step == k) (here o) false
      by (Some f) = ap (λ b. ((o.step == k) && here o) && b) (field_or _ f.shape (argument_error base vars p)) ∙ and_joined (o.step == k) (here o) true

    well_at : (p : Place) → (((o.step == k) && here o) && is_well (Some (role_of base vars tree.places o.place p))) ≡ (sent.serves (moment base tables vars r) tree r k o (Some p) && sent.has_no_error (moment base tables vars r) (Some p))
    well_at p = by (fetch_of base vars p) where
      by : (f : Option Fetch) → (((o.step == k) && here o) && is_well (Some (role_with base vars tree.places o.place p f))) ≡ (((o.step == k) && (here o && sent.is_row_field f)) && not (is_some (argument_error base vars p)))
      by None =
          ap (λ b. ((o.step == k) && here o) && b) (well_field (Some (role_by (does_of base.schema p))) (by_other (does_of base.schema p)))
          ∙ and_none ((o.step == k) && here o) ∙ sym (none_and (o.step == k) (here o) (not (is_some (argument_error base vars p))))
      by (Some f) =
          ap (λ b. ((o.step == k) && here o) && b) (well_or _ f.shape (argument_error base vars p))
          ∙ all_and (o.step == k) (here o) (not (is_some (argument_error base vars p)))

    field_same : (((o.step == k) && here o) && is_field (slice_get roles o.place)) ≡ sent.serves (moment base tables vars r) tree r k o (slice_get tree.places o.place)
    field_same = by (slice_get tree.places o.place) refl where
      by : (q : Option Place) → slice_get tree.places o.place ≡ q → (((o.step == k) && here o) && is_field (slice_get roles o.place)) ≡ sent.serves (moment base tables vars r) tree r k o q
      by None e = ap (λ x. ((o.step == k) && here o) && is_field x) (role_past base vars tree.places tree.places 0 o.place e) ∙ and_none ((o.step == k) && here o)
      by (Some p) e = ap (λ x. ((o.step == k) && here o) && is_field x) (role_at p e) ∙ field_at p

    well_same : (((o.step == k) && here o) && is_well (slice_get roles o.place)) ≡ (sent.serves (moment base tables vars r) tree r k o (slice_get tree.places o.place) && sent.has_no_error (moment base tables vars r) (slice_get tree.places o.place))
    well_same = by (slice_get tree.places o.place) refl where
      by : (q : Option Place) → slice_get tree.places o.place ≡ q → (((o.step == k) && here o) && is_well (slice_get roles o.place)) ≡ (sent.serves (moment base tables vars r) tree r k o q && sent.has_no_error (moment base tables vars r) q)
      by None e = ap (λ x. ((o.step == k) && here o) && is_well x) (role_past base vars tree.places tree.places 0 o.place e) ∙ and_none ((o.step == k) && here o)
      by (Some p) e = ap (λ x. ((o.step == k) && here o) && is_well x) (role_at p e) ∙ well_at p

  -- ---- the law

  pub asks_same : (out : List OutPlace) → may_ask tree.places (roles_of base vars tree.places) out (root_place r) k ≡ sent.may_ask (moment base tables vars r) tree r out k
  asks_same out =
      ap (λ test. not (list_any test out) || serves_any_well tree.places roles out (root_place r) k) (λ i o. field_same o i)
      ∙ ap (λ test. not (sent.serves_some (moment base tables vars r) tree r out k) || list_any test out) (λ i o. well_same o i)
