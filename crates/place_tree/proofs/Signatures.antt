-- Equal signatures ask the same.
use Rattle.std.proofs.Common.{◌≡◌, ℕ, List, [], ◌∷◌, Option, None, Bool, true, refl, sym, ap, ◌∙◌, eqb-true}
use Rattle.std.specs.Prelude.{◌==◌}
use Rattle.std.specs.Cmp.{first_so, second_so}
use Rattle.std.specs.Cmp.Lexicographic.{pointwise}
use Rattle.pg_base.specs.declared.pos.Pos.{Pos}
use Rattle.gql_input.specs.declared.argument.ArgValue.{ArgValue}
use Rattle.pg_base.specs.declared.vars.Vars.{Vars}
use Rattle.pg_base.specs.Base.{BaseParts}
use Rattle.place_tree.proofs.Same.{same_arg_true}
use Rattle.place_tree.specs.declared.place.PlaceArg.{PlaceArg}
use Rattle.place_tree.specs.declared.place.Place.{Place}
use Rattle.place_tree.specs.Fold.{same_place}
use Rattle.place_tree.specs.Fetch.{fetch_of, argument_error}
use Rattle.place_tree.specs.Needs.{RowField, Signature, same_written, same_row_field, same_signature}
use Rattle.place_tree.proofs.Folds.{same_place_true}

pointwise_true : {A : Type 0} (E : A → A → Bool) → ((x y : A) → E x y ≡ true → x ≡ y) → (xs ys : List A) → pointwise E xs ys ≡ true → xs ≡ ys
pointwise_true E same [] [] h = refl
pointwise_true E same [] (y ∷ ys) h = cc
pointwise_true E same (x ∷ xs) [] h = cc
pointwise_true E same (x ∷ xs) (y ∷ ys) h =
    ap (λ v. v ∷ xs) (same x y (first_so _ _ h)) ∙ ap (λ vs. y ∷ vs) (pointwise_true E same xs ys (second_so (E x y) _ h))

same_written_true : (a b : PlaceArg) → same_written a b ≡ true → a ≡ b
same_written_true a b h =
    let arg : ℕ → ArgValue → PlaceArg = λ n v. record { arg = n; value = v } in
    ap (λ n. arg n a.value) (eqb-true a.arg b.arg (first_so _ _ h)) ∙ ap (λ v. arg b.arg v) (same_arg_true a.value b.value (second_so (a.arg == b.arg) _ h))

same_row_field_true : (f g : RowField) → same_row_field f g ≡ true → f ≡ g
same_row_field_true f g h =
    let make : ℕ → ℕ → List PlaceArg → RowField = λ t n args. record { ty = t; field = n; args = args } in
    let rest = second_so (f.ty == g.ty) _ h in
    ap (λ t. make t f.field f.args) (eqb-true f.ty g.ty (first_so _ _ h))
    ∙ ap (λ n. make g.ty n f.args) (eqb-true f.field g.field (first_so _ _ rest))
    ∙ ap (λ args. make g.ty g.field args) (pointwise_true same_written same_written_true f.args g.args (second_so (f.field == g.field) _ rest))

pub same_signature_true : (s t : Signature) → same_signature s t ≡ true → s ≡ t
same_signature_true s t h =
    let make : Option ℕ → List RowField → Signature = λ r path. record { root = r; path = path } in
    ap (λ r. make r s.path) (same_place_true s.root t.root (first_so _ _ h))
    ∙ ap (λ path. make t.root path) (pointwise_true same_row_field same_row_field_true s.path t.path (second_so (same_place s.root t.root) _ h))

-- ---- what a place asks goes by its field and its arguments

-- the field of a place, with its arguments
abbrev pub asked_by : Place → RowField
asked_by p = record { ty = p.ty; field = p.field; args = p.args }

no_pos : Pos
no_pos = record { line = 1; column = 1 }

abbrev some_place : RowField → Place
some_place f = record { parent = None; key = []; ty = f.ty; field = f.field; args = f.args; pos = no_pos }

fetch_by_field : (base : BaseParts) (vars : Vars) (p : Place) → fetch_of base vars p ≡ fetch_of base vars (some_place (asked_by p))
unfolding fetch_of
fetch_by_field base vars p = refl

error_by_field : (base : BaseParts) (vars : Vars) (p : Place) → argument_error base vars p ≡ argument_error base vars (some_place (asked_by p))
unfolding argument_error fetch_of
error_by_field base vars p = refl

pub same_fetch : (base : BaseParts) (vars : Vars) (p q : Place) → asked_by p ≡ asked_by q → fetch_of base vars p ≡ fetch_of base vars q
same_fetch base vars p q e = fetch_by_field base vars p ∙ ap (λ f. fetch_of base vars (some_place f)) e ∙ sym (fetch_by_field base vars q)

pub same_error : (base : BaseParts) (vars : Vars) (p q : Place) → asked_by p ≡ asked_by q → argument_error base vars p ≡ argument_error base vars q
same_error base vars p q e = error_by_field base vars p ∙ ap (λ f. argument_error base vars (some_place f)) e ∙ sym (error_by_field base vars q)
