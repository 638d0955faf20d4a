-- A place that is put to a name without one, and one that is not.
use Rattle.std.proofs.Common.{◌≡◌, ℕ, Bool, true, false, cond, List, [], ◌∷◌, Option, Some, None, refl, sym, ap, ◌∙◌}
use Rattle.std.specs.Prelude.{if◌then◌else◌}
use Rattle.std.specs.Str.{bytes_eq}
use Rattle.std.proofs.lemmas.Slice.Eq.{bytes_eq-Decides}
use Rattle.gql_nodes.specs.Names.{place_in, with_place, first_of, when_named}

same_place : (es : List (List ℕ × ℕ)) (k other : List ℕ) (v p : ℕ) (b : Bool) → bytes_eq other k ≡ b → place_in es k ≡ Some p → place_in es other ≡ first_of (place_in es other) (if b then Some v else None)
same_place es k other v p true e at =
    let same : other ≡ k = (bytes_eq-Decides other k).0 e in
    let there : place_in es other ≡ Some p = ap (place_in es) same ∙ at in
    there ∙ sym (ap (λ o. first_of o (Some v)) there)
same_place es k other v p false e at = kept (place_in es other)
  where
    kept : (o : Option ℕ) → o ≡ first_of o None
    kept None = refl
    kept (Some x) = refl

pub kept_first : (es : List (List ℕ × ℕ)) (k other : List ℕ) (v p : ℕ) → place_in es k ≡ Some p → place_in es other ≡ first_of (place_in es other) (when_named other k v)
kept_first es k other v p at = same_place es k other v p (bytes_eq other k) refl at

put_by : (o rest : Option ℕ) (x : ℕ) (c : Bool) (more : Option ℕ) → rest ≡ first_of o more → cond c (Some x) rest ≡ first_of (cond c (Some x) o) more
put_by o rest x true more e = refl
put_by o rest x false more e = e

put_later : (e : List ℕ × ℕ) (es : List (List ℕ × ℕ)) (k other : List ℕ) (v : ℕ) (b : Bool) → bytes_eq k e.0 ≡ b → cond b (Some e.1) (place_in es k) ≡ None
    → (place_in es k ≡ None → place_in (with_place es k v) other ≡ first_of (place_in es other) (when_named other k v))
    → place_in (cond b ((e.0, v) ∷ es) (e ∷ with_place es k v)) other ≡ first_of (place_in (e ∷ es) other) (when_named other k v)
put_later e es k other v true is none go = absurd (cc)
put_later e es k other v false is none go = put_by (place_in es other) (place_in (with_place es k v) other) e.1 (bytes_eq other e.0) (when_named other k v) (go none)

pub put_first : (es : List (List ℕ × ℕ)) (k other : List ℕ) (v : ℕ) → place_in es k ≡ None → place_in (with_place es k v) other ≡ first_of (place_in es other) (when_named other k v)
put_first [] k other v none = refl
put_first (e ∷ es) k other v none = put_later e es k other v (bytes_eq k e.0) refl none (put_first es k other v)
