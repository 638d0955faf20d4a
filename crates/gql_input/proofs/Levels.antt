-- Lists of one, level by level.
use Rattle.std.proofs.Common.{◌≡◌, ℕ, suc, ◌<◌, Some, None, refl, ap, arith}
use Rattle.gql_types.specs.Types.{Ty, named, list_of, item_of}
use Rattle.gql_input.specs.Coercions.{in_lists}

-- how many lists a type has around its innermost type
abbrev pub levels : Ty → ℕ
levels (named name non_null) = 0
levels (list_of item non_null) = suc (levels item)

pub fewer : (ty item : Ty) → Some item ≡ item_of ty → levels item < levels ty
fewer (named name non_null) item e = cc
fewer (list_of inner non_null) item e = let same : item ≡ inner = cc in rw same (omega arith)

pub no_level : {V : Type 0} (one : V → V) (ty : Ty) (v : V) → None ≡ item_of ty → v ≡ in_lists one ty v
no_level one (named name non_null) v e = refl
no_level one (list_of inner non_null) v e = cc

pub one_level : {V : Type 0} (one : V → V) (ty item : Ty) (v : V) → Some item ≡ item_of ty → one (in_lists one item v) ≡ in_lists one ty v
one_level one (named name non_null) item v e = cc
one_level one (list_of inner non_null) item v e = let same : item ≡ inner = cc in ap (λ t. one (in_lists one t v)) same
