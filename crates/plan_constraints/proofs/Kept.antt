-- What a noted constraint keeps: the value, or its shape.
use Rattle.std.proofs.Common.{◌≡◌, List, Option, Some, None, true, false, refl, sym, ap, ◌∙◌}
use Rattle.std.specs.Prelude.{is_some, IsSomeAnd}
use Rattle.pg_base.specs.declared.value.Value.{Value, Null, Int, Bool as BoolOf, Text, Case, List', Object'}
use Rattle.pg_base.specs.declared.vars.Vars.{Vars}
use Rattle.pg_base.specs.Value.{is_null}
use Rattle.plan_constraints.specs.declared.part.Part.{Part}
use Rattle.plan_constraints.specs.Path.{value_at}
use Rattle.plan_constraints.specs.Constraints.{Meets, shape, whole}
use Rattle.plan_constraints.specs.Laws.{IsShapedAs}

null_is : (v : Value) → is_null v ≡ true → v ≡ Null
null_is Null h = refl
null_is _ h = cc

none_is : {A : Type 0} (o : Option A) → is_some o ≡ false → o ≡ None
none_is None h = refl
none_is (Some x) h = cc

some_null : (o : Option Value) → IsSomeAnd o (λ v. is_null v ≡ true) → o ≡ Some Null
some_null None h = absurd h
some_null (Some v) h = ap Some (null_is v h)

-- whatever meets the whole has the value
pub whole_keeps : (vars : Vars) (path : List Part) (v : Option Value) → Meets vars (whole path v) → value_at vars path ≡ v
whole_keeps vars path None h = none_is (value_at vars path) h
whole_keeps vars path (Some Null) h = some_null (value_at vars path) h
whole_keeps vars path (Some (Int n)) h = h
whole_keeps vars path (Some (BoolOf b)) h = h
whole_keeps vars path (Some (Text t)) h = h
whole_keeps vars path (Some (Case c)) h = h
whole_keeps vars path (Some (List' s xs)) h = h
whole_keeps vars path (Some (Object' s xs)) h = h

inside : (v w : Value) → Some v ≡ Some w → v ≡ w
inside v w e = ap (λ o. or v o) e
  where
    or : Value → Option Value → Value
    or d None = d
    or d (Some x) = x

shaped_by : (o : Option Value) (v : Value) → IsSomeAnd o (λ w. is_null w ≡ is_null v) → IsShapedAs o (Some v)
shaped_by None v h = absurd h
shaped_by (Some w) v h = record { present = refl; null = λ a b p q. ap is_null (sym (inside w a p)) ∙ h ∙ ap is_null (inside v b q) }

pub shape_keeps : (vars : Vars) (path : List Part) (v : Option Value) → Meets vars (shape path v) → IsShapedAs (value_at vars path) v
shape_keeps vars path None h = record { present = h; null = λ a b p q. cc }
shape_keeps vars path (Some v) h = shaped_by (value_at vars path) v h
