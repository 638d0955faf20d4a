-- Names of which no two are equal.
use Rattle.std.proofs.Common.{◌≡◌, ◌≢◌, ℕ, Bool, true, false, cond, List, [], ◌∷◌, map, Some, None, refl, ap, ◌∙◌}
use Rattle.std.specs.Prelude.{if◌then◌else◌}
use Rattle.std.specs.Str.{bytes_eq}
use Rattle.std.proofs.lemmas.Slice.Eq.{bytes_eq-Decides}
use Rattle.pg_base.specs.Lists.{Each, AreDistinct}
use Rattle.pg_base.specs.declared.schema.ArgDef.{ArgDef}
use Rattle.gql_types.specs.Types.{arg_named}
use Rattle.place_tree.specs.Arguments.{type_in}

pub same_bytes : (s t : List ℕ) → bytes_eq s t ≡ true → s ≡ t
same_bytes s t h = (bytes_eq-Decides s t).0 h

pub equal_bytes : (s t : List ℕ) → s ≡ t → bytes_eq s t ≡ true
equal_bytes s t h = (bytes_eq-Decides s t).1 h

pub other_bytes : (s t : List ℕ) → (s ≡ t → ⊥) → bytes_eq s t ≡ false
other_bytes s t h = by (bytes_eq s t) refl
  where
    by : (b : Bool) → bytes_eq s t ≡ b → bytes_eq s t ≡ false
    by true e = absurd (h (same_bytes s t e))
    by false e = e

pub some_is : {A : Type 0} (x y : A) → Some x ≡ Some y → x ≡ y
some_is x y e = cc

pub no_some : {A : Type 0} (y : A) → None ≡ Some y → ⊥
no_some y e = cc

pub not_both : (b : Bool) → b ≡ true → b ≡ false → ⊥
not_both true e h = cc
not_both false e h = cc

-- ---- definitions by their names

abbrev pub arg_names : List ArgDef → List (List ℕ)
arg_names defs = map (λ a. a.name) defs

-- the definition is the first one with its name
pub record IsKnown (defs : List ArgDef) (d : ArgDef) : Type 0 where
  pub type_is : type_in defs d.name ≡ d.ty
  pub found : arg_named defs d.name ≡ Some d

known_here : (d : ArgDef) (defs : List ArgDef) → IsKnown (d ∷ defs) d
known_here d defs = record {
  type_is = ap (λ b. if b then d.ty else type_in defs d.name) (equal_bytes d.name d.name refl);
  found = ap (λ b. cond b (Some d) (arg_named defs d.name)) (equal_bytes d.name d.name refl);
}

known_there : (e d : ArgDef) (defs : List ArgDef) → (e.name ≡ d.name → ⊥) → IsKnown defs d → IsKnown (e ∷ defs) d
known_there e d defs h k =
    let other = other_bytes e.name d.name h in
    record {
      type_is = ap (λ b. if b then e.ty else type_in defs d.name) other ∙ k.type_is;
      found = ap (λ b. cond b (Some e) (arg_named defs d.name)) other ∙ k.found;
    }

each_there : (e : ArgDef) (defs ds : List ArgDef) → Each (λ y. e.name ≢ y) (arg_names ds) → Each (IsKnown defs) ds → Each (IsKnown (e ∷ defs)) ds
each_there e defs [] h k = tt
each_there e defs (d ∷ ds) h k = (known_there e d defs h.0 k.0, each_there e defs ds h.1 k.1)

pub all_known : (defs : List ArgDef) → AreDistinct (arg_names defs) → Each (IsKnown defs) defs
all_known [] h = tt
all_known (d ∷ defs) h = (known_here d defs, each_there d defs defs h.0 (all_known defs h.1))

-- the type of the first one with the name
pub type_found : (defs : List ArgDef) (name : List ℕ) (d : ArgDef) → arg_named defs name ≡ Some d → type_in defs name ≡ d.ty
type_found [] name d e = absurd (no_some d e)
type_found (a ∷ defs) name d e = by (bytes_eq a.name name) e (type_found defs name d)
  where
    by : (b : Bool) → cond b (Some a) (arg_named defs name) ≡ Some d → (arg_named defs name ≡ Some d → type_in defs name ≡ d.ty) → (if b then a.ty else type_in defs name) ≡ d.ty
    by true h later = ap (λ (x : ArgDef). x.ty) (some_is a d h)
    by false h later = later h
