-- The fields of an object at an input type: each is of its definition's type, and none is there twice.
use Rattle.std.proofs.Common.{◌≡◌, ◌≢◌, ℕ, Bool, true, false, List, [], ◌∷◌, map, Option, Some, None, Result, Ok, Err, inl, inr, ◌⊎◌, refl, sym, ap, subst, ◌∙◌}
use Rattle.std.specs.Prelude.{if◌then◌else◌, ◌==◌, codes}
use Rattle.std.specs.Str.{bytes_eq}
use Rattle.pg_base.specs.Lists.{Each, AreDistinct}
use Rattle.pg_base.specs.Schema.{SchemaParts, kind_at, type_name_at, int as int_type, string as string_type, boolean as boolean_type}
use Rattle.pg_base.specs.declared.schema.ArgDef.{ArgDef}
use Rattle.pg_base.specs.declared.schema.TypeKind.{TypeKind}
use Rattle.pg_base.specs.declared.schema.TypeKind.TheVariants as kind
use Rattle.gql_types.specs.Types.{ty_of}
use Rattle.gql_input.specs.Coercions.{Coercion, Given, map_ok, and_some, given_for, member_at, members_at, fields_at, has_unknown, missing, unknown_field}
use Rattle.gql_input.specs.Inputs.{Reads, int, big_int, text, boolean, cases, fields, nothing, reads_of, reads_at}
use Rattle.fitting_trees.proofs.Named.{same_bytes, some_is, no_some, arg_names, IsKnown}
use Rattle.fitting_trees.proofs.Leaves.{OkAs, ok_is, err_ok}

-- ---- what reads fields is an input type

some_reads : (b : Bool) (x y : Reads) (args : List ArgDef) (A : Type 0) → (x ≡ fields args → A) → (y ≡ fields args → A) → (if b then x else y) ≡ fields args → A
some_reads true x y args A f g e = f e
some_reads false x y args A f g e = g e

int_no : {A : Type 0} (args : List ArgDef) → int ≡ fields args → A
int_no args e = absurd (cc)

big_no : {A : Type 0} (args : List ArgDef) → big_int ≡ fields args → A
big_no args e = absurd (cc)

text_no : {A : Type 0} (args : List ArgDef) → text ≡ fields args → A
text_no args e = absurd (cc)

boolean_no : {A : Type 0} (args : List ArgDef) → boolean ≡ fields args → A
boolean_no args e = absurd (cc)

cases_no : {A : Type 0} (names : List (List ℕ)) (args : List ArgDef) → cases names ≡ fields args → A
cases_no names args e = absurd (cc)

nothing_no : {A : Type 0} (args : List ArgDef) → nothing ≡ fields args → A
nothing_no args e = absurd (cc)

same_fields : (xs ys : List ArgDef) → fields xs ≡ fields ys → xs ≡ ys
same_fields xs ys e = cc

scalar_by : {A : Type 0} (b c : Bool) (args : List ArgDef) → (if b then big_int else (if c then text else nothing)) ≡ fields args → A
scalar_by true c args h = big_no args h
scalar_by false true args h = text_no args h
scalar_by false false args h = nothing_no args h

input_of : (k : TypeKind) (name : List ℕ) (args : List ArgDef) → reads_of k name ≡ fields args → k ≡ kind.Input args
input_of kind.Scalar name args e = scalar_by (bytes_eq name (codes "BigInt")) (bytes_eq name (codes "Cursor")) args e
input_of (kind.Object of) name args e = nothing_no args e
input_of (kind.Enum names) name args e = cases_no names args e
input_of (kind.Input inputs) name args e = ap kind.Input (same_fields inputs args e)

pub reads_input : (schema : SchemaParts) (n : ℕ) (args : List ArgDef) → reads_at schema n ≡ fields args → kind_at schema n ≡ kind.Input args
reads_input schema n args e = by (n == int_type) (n == string_type) (n == boolean_type) e
  where
    by : (a b c : Bool) → (if a then int else (if b then text else (if c then boolean else reads_of (kind_at schema n) (type_name_at schema n)))) ≡ fields args → kind_at schema n ≡ kind.Input args
    by true b c h = int_no args h
    by false true c h = text_no args h
    by false false true h = boolean_no args h
    by false false false h = input_of (kind_at schema n) (type_name_at schema n) args h

-- ---- one field after the other

pub record HasMore {V E : Type 0} (first : Result (Option V) E) (rest : Result (List V) E) (all : List V) : Type 0 where
  pub item : V
  pub items : List V
  pub first_is : first ≡ Ok (Some item)
  pub rest_is : rest ≡ Ok items
  pub all_is : item ∷ items ≡ all

pub record HasNone {V E : Type 0} (first : Result (Option V) E) (rest : Result (List V) E) (all : List V) : Type 0 where
  pub first_is : first ≡ Ok None
  pub rest_is : rest ≡ Ok all

pub and_some_parts : {V E : Type 0} (first : Result (Option V) E) (rest : Result (List V) E) (all : List V) → and_some first rest ≡ Ok all
    → HasNone first rest all ⊎ HasMore first rest all
and_some_parts (Err n) rest all e = err_ok n all e
and_some_parts (Ok None) rest all e = inl (record { first_is = refl; rest_is = e })
and_some_parts (Ok (Some v)) (Err n) all e = err_ok n all e
and_some_parts (Ok (Some v)) (Ok vs) all e = inr (record { item = v; items = vs; first_is = refl; rest_is = refl; all_is = ok_is (v ∷ vs) all e })

pub record IsMapped {V W E : Type 0} (f : V → W) (c : Result V E) (y : W) : Type 0 where
  pub from : V
  pub from_is : c ≡ Ok from
  pub is : f from ≡ y

pub map_ok_parts : {V W : Type 0} (f : V → W) (c : Coercion V) (y : W) → map_ok f c ≡ Ok y → IsMapped f c y
map_ok_parts f (Err n) y e = err_ok n y e
map_ok_parts f (Ok x) y e = record { from = x; from_is = refl; is = ok_is (f x) y e }

pub record IsFor {V M : Type 0} (mk : V → M) (o : Option (Coercion V)) (m : M) : Type 0 where
  pub from : V
  pub from_is : o ≡ Some (Ok from)
  pub is : mk from ≡ m

none_some : {M A E : Type 0} (m : M) → OkAs (Option M) E None ≡ Ok (Some m) → A
none_some m e = absurd (no_some m (ok_is None (Some m) e))

of_mapped : {V M : Type 0} (mk : V → M) (c : Coercion V) (m : M) → map_ok (λ x. Some (mk x)) c ≡ Ok (Some m) → IsFor mk (Some c) m
of_mapped mk (Err n) m e = err_ok n (Some m) e
of_mapped mk (Ok x) m e = record { from = x; from_is = refl; is = some_is (mk x) m (ok_is (Some (mk x)) (Some m) e) }

member_parts : {V M : Type 0} (mk : V → M) (non_null : Bool) (o : Option (Coercion V)) (m : M) → member_at mk non_null o ≡ Ok (Some m) → IsFor mk o m
member_parts mk true None m e = err_ok missing (Some m) e
member_parts mk false None m e = none_some m e
member_parts mk true (Some c) m e = of_mapped mk c m e
member_parts mk false (Some c) m e = of_mapped mk c m e

-- what a given field becomes is right for a definition of its name
abbrev pub OnGiven : {V M : Type 0} → (List ℕ → V → M) → (M → Type 0) → List ArgDef → Given V → Type 0
OnGiven {V} member OnMember full g = (d : ArgDef) (x : V) → IsKnown full d → g.name ≡ d.name → g.at (ty_of d.ty) ≡ Ok x → OnMember (member d.name x)

module _ {V M : Type 0} (member : List ℕ → V → M) (name_of : M → List ℕ) (OnMember : M → Type 0) (full : List ArgDef) where
  found_for : (given : List (Given V)) (d : ArgDef) (x : V) → Each (OnGiven member OnMember full) given → IsKnown full d → given_for given d ≡ Some (Ok x) → OnMember (member d.name x)
  found_for [] d x h known e = absurd (no_some (Ok x) e)
  found_for (g ∷ given) d x h known e = by (bytes_eq g.name d.name) refl e (found_for given d x h.1 known)
    where
      by : (b : Bool) → bytes_eq g.name d.name ≡ b → (if b then Some (g.at (ty_of d.ty)) else given_for given d) ≡ Some (Ok x) → (given_for given d ≡ Some (Ok x) → OnMember (member d.name x)) → OnMember (member d.name x)
      by true same f later = h.0 d x known (same_bytes g.name d.name same) (some_is (g.at (ty_of d.ty)) (Ok x) f)
      by false same f later = later f

  pub record AreMade (defs : List ArgDef) (ms : List M) : Type 0 where
    pub each : Each OnMember ms
    pub apart : (n : List ℕ) → Each (λ y. n ≢ y) (arg_names defs) → Each (λ y. n ≢ y) (map name_of ms)
    pub distinct : AreDistinct (arg_names defs) → AreDistinct (map name_of ms)

  module _ (named : (n : List ℕ) (x : V) → name_of (member n x) ≡ n) (given : List (Given V)) (right : Each (OnGiven member OnMember full) given) where
    one_made : (d : ArgDef) (defs : List ArgDef) (m : M) (ms : List M) → IsKnown full d → IsFor (member d.name) (given_for given d) m → AreMade defs ms → AreMade (d ∷ defs) (m ∷ ms)
    one_made d defs m ms known f h =
        let same : d.name ≡ name_of m = sym (named d.name f.from) ∙ ap name_of f.is in
        record {
          each = (subst OnMember f.is (found_for given d f.from right known f.from_is), h.each);
          apart = λ n k. (subst (λ y. n ≢ y) same k.0, h.apart n k.1);
          distinct = λ k. (subst (λ n. Each (λ y. n ≢ y) (map name_of ms)) same (h.apart d.name k.0), h.distinct k.1);
        }

    none_made : (d : ArgDef) (defs : List ArgDef) (ms : List M) → AreMade defs ms → AreMade (d ∷ defs) ms
    none_made d defs ms h = record { each = h.each; apart = λ n k. h.apart n k.1; distinct = λ k. h.distinct k.1 }

    pub all_made : (defs : List ArgDef) (ms : List M) → Each (IsKnown full) defs → members_at member defs given ≡ Ok ms → AreMade defs ms
    all_made [] ms known e = subst (AreMade []) (ok_is [] ms e) (record { each = tt; apart = λ n k. tt; distinct = λ k. tt })
    all_made (d ∷ defs) ms known e =
        elim (and_some_parts (member_at (member d.name) d.ty.not_null (given_for given d)) (members_at member defs given) ms e) as (λ _. AreMade (d ∷ defs) ms) [
          | inl h ↦ none_made d defs ms (all_made defs ms known.1 h.rest_is)
          | inr h ↦ subst (AreMade (d ∷ defs)) h.all_is (one_made d defs h.item h.items known.0 (member_parts (member d.name) d.ty.not_null (given_for given d) h.item h.first_is) (all_made defs h.items known.1 h.rest_is))
        ]

-- ---- the whole object

pub known_fields : {V M : Type 0} (member : List ℕ → V → M) (args : List ArgDef) (given : List (Given V)) (ms : List M) → fields_at member args given ≡ Ok ms
    → (has_unknown args given ≡ false) × (members_at member args given ≡ Ok ms)
known_fields member args given ms e = by (has_unknown args given) refl e
  where
    by : (b : Bool) → has_unknown args given ≡ b → (if b then Err unknown_field else members_at member args given) ≡ Ok ms → (has_unknown args given ≡ false) × (members_at member args given ≡ Ok ms)
    by true h f = err_ok unknown_field ms f
    by false h f = (h, f)
