-- The fields and arguments of a valid schema have numbers of 32 bits, and none is that of `__typename`.
use Rattle.std.proofs.Common.{◌≡◌, ◌<◌, ◌^◌, ℕ, zero, suc, List, [], ◌∷◌, length, Option, Some, None, refl, subst, arith}
use Rattle.std.specs.Prelude.{slice_get}
use Rattle.pg_base.specs.Lists.{Each}
use Rattle.pg_base.specs.Schema.{SchemaParts, IsValidSchema, IsValidType, IsValidField, AreFew, kind_of, kind_at, fields_of, field_at}
use Rattle.pg_base.specs.declared.schema.TypeDef.{TypeDef}
use Rattle.pg_base.specs.declared.schema.FieldDef.{FieldDef}

each_at : {A : Type 0} (P : A → Type 0) (xs : List A) (i : ℕ) (x : A) → Each P xs → slice_get xs i ≡ Some x → P x
each_at P [] i x all e = absurd cc
each_at P (y ∷ ys) zero x all e = let same : y ≡ x = cc in subst P same all.0
each_at P (y ∷ ys) (suc i) x all e = each_at P ys i x all.1 e

fields_by : (s : SchemaParts) → IsValidSchema s → (ty : ℕ) (o : Option TypeDef) → slice_get s.types ty ≡ o → AreFew (fields_of (kind_of o))
fields_by s valid ty None e = omega arith
fields_by s valid ty (Some t) e = (each_at (IsValidType s) s.types ty t valid.types e).few_fields

pub few_fields : (s : SchemaParts) → IsValidSchema s → (ty : ℕ) → length (fields_of (kind_at s ty)) < 2 ^ 32
few_fields s valid ty = fields_by s valid ty (slice_get s.types ty) refl

valid_by : (s : SchemaParts) → IsValidSchema s → (ty : ℕ) (o : Option TypeDef) → slice_get s.types ty ≡ o → Each (IsValidField s) (fields_of (kind_of o))
valid_by s valid ty None e = tt
valid_by s valid ty (Some t) e = (each_at (IsValidType s) s.types ty t valid.types e).fields

pub few_args : (s : SchemaParts) → IsValidSchema s → (ty field : ℕ) (f : FieldDef) → field_at s ty field ≡ Some f → length f.args < 2 ^ 32
few_args s valid ty field f e =
    (each_at (IsValidField s) (fields_of (kind_at s ty)) field f (valid_by s valid ty (slice_get s.types ty) refl) e).few
