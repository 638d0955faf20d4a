-- A schema without faults has distinct names of GraphQL, and no more fields than the limit.
use Rattle.std.proofs.Common.{◌≡◌, ℕ, suc, ◌+◌, ◌≤◌, Bool, true, false, not, List, [], ◌∷◌, ◌++◌, map, filter, length, Option, Some, None, refl, ap, ◌∙◌, subst, arith}
use Rattle.std.specs.Prelude.{slice_get, nat_lt, codes, if◌then◌else◌}
use Rattle.std.specs.Str.{bytes_eq}
use Rattle.std.proofs.lemmas.Bool.Decides.{nat_tests}
use Rattle.std.proofs.lemmas.Slice.Eq.{bytes_eq-Decides}
use Rattle.pg_base.specs.Limits.{most_fields}
use Rattle.pg_base.specs.Lists.{Each, AreDistinct}
use Rattle.pg_base.specs.Catalog.{CatalogParts}
use Rattle.pg_base.specs.Schema.{fields_of}
use Rattle.pg_base.specs.declared.schema.FieldDef.{FieldDef}
use Rattle.pg_base.specs.declared.schema.TypeDef.{TypeDef}
use Rattle.pg_base.specs.declared.schema.TypeKind.{TypeKind}
use Rattle.pg_base.specs.declared.schema.TypeKind.TheVariants as kind
use Rattle.pg_base.specs.declared.build_fault.Origin.TheVariants as origin
use Rattle.pg_base.specs.declared.build_fault.BuildFault.TheVariants as fault
use Rattle.pg_base.specs.Listing.{when, map_at}
use Rattle.pg_base.specs.SchemaOf.{schema_of}
use Rattle.pg_base.specs.SchemaFaults.{is_name, Named, named, not_names, meetings, all_meetings, Part, field_part, parts_of, names_of_parts, part_meetings, is_empty, type_faults, faults_from, built_in_names, faults_of, build_fault}
use Rattle.schema_laws.specs.Named.{IsSchemaName, part_names, argument_names, IsNamed, field_count, AreNamed}
use Rattle.schema_laws.proofs.Eaches.{Each-map, Each-weaker}

-- ---- lists without items

left_empty : {A : Type 0} (xs ys : List A) → xs ++ ys ≡ [] → xs ≡ []
left_empty [] ys e = refl
left_empty (x ∷ xs) ys e = cc

right_empty : {A : Type 0} (xs ys : List A) → xs ++ ys ≡ [] → ys ≡ []
right_empty [] ys e = e
right_empty (x ∷ xs) ys e = cc

when_empty : {A : Type 0} (test : Bool) (x : A) → when test x ≡ [] → test ≡ false
when_empty true x e = cc
when_empty false x e = refl

map_empty : {A B : Type 0} (f : A → B) (xs : List A) → map f xs ≡ [] → xs ≡ []
map_empty f [] e = refl
map_empty f (x ∷ xs) e = cc

none_kept : {A : Type 0} (test : Bool) (x : A) (xs : List A) → (if test then x ∷ xs else xs) ≡ [] → (test ≡ false) × (xs ≡ [])
none_kept true x xs e = cc
none_kept false x xs e = (refl, e)

-- ---- names that don't stand among the earlier ones

IsNew : List Named → List ℕ → Type 0
IsNew earlier name = filter (λ e. bytes_eq e.name name) earlier ≡ []

is_new : (owner : Option (List ℕ)) (earlier : List Named) (n : Named) → meetings owner earlier n ≡ [] → IsNew earlier n.name
unfolding IsNew
is_new owner earlier n e = map_empty (λ e. fault.NamesMeet owner n.name e.origin n.origin) (filter (λ e. bytes_eq e.name n.name) earlier) e

differs : (name other : List ℕ) → bytes_eq name other ≡ false → name ≡ other → ⊥
differs name other h e = let t : bytes_eq name other ≡ true = (bytes_eq-Decides name other).1 e in cc

-- of names that are new after one more, each differs from that one
apart : (n : Named) (earlier : List Named) (names : List (List ℕ)) → Each (IsNew (n ∷ earlier)) names → Each (λ other. n.name ≡ other → ⊥) names
unfolding IsNew
apart n earlier [] h = tt
apart n earlier (other ∷ names) h =
    (differs n.name other (none_kept (bytes_eq n.name other) n (filter (λ e. bytes_eq e.name other) earlier) h.0).0, apart n earlier names h.1)

fewer : (n : Named) (earlier : List Named) (names : List (List ℕ)) → Each (IsNew (n ∷ earlier)) names → Each (IsNew earlier) names
unfolding IsNew
fewer n earlier [] h = tt
fewer n earlier (other ∷ names) h = ((none_kept (bytes_eq n.name other) n (filter (λ e. bytes_eq e.name other) earlier) h.0).1, fewer n earlier names h.1)

one_more : (earlier : List Named) (n : Named) (names : List (List ℕ)) → IsNew earlier n.name
    → Each (IsNew (n ∷ earlier)) names × AreDistinct names → Each (IsNew earlier) (n.name ∷ names) × AreDistinct (n.name ∷ names)
one_more earlier n names e h = ((e, fewer n earlier names h.0), (apart n earlier names h.0, h.1))

names_only : List Named → List (List ℕ)
names_only names = map (λ n. n.name) names

distinct : (owner : Option (List ℕ)) (earlier names : List Named) → all_meetings owner earlier names ≡ [] → Each (IsNew earlier) (names_only names) × AreDistinct (names_only names)
unfolding names_only
distinct owner earlier [] e = (tt, tt)
distinct owner earlier (n ∷ names) e =
    one_more earlier n (names_only names) (is_new owner earlier n (left_empty (meetings owner earlier n) (all_meetings owner (n ∷ earlier) names) e))
    (distinct owner (n ∷ earlier) names (right_empty (meetings owner earlier n) (all_meetings owner (n ∷ earlier) names) e))

-- ---- fields and arguments

own_names : List Part → List (List ℕ)
own_names parts = map (λ p. p.own.name) parts

distinct_parts : (owner : Option (List ℕ)) (earlier : List Named) (parts : List Part) → part_meetings owner earlier parts ≡ []
    → (Each (IsNew earlier) (own_names parts) × AreDistinct (own_names parts)) × Each (λ p. AreDistinct (map (λ n. n.name) p.args)) parts
unfolding own_names names_only
distinct_parts owner earlier [] e = ((tt, tt), tt)
distinct_parts owner earlier (p ∷ parts) e =
    let mine = meetings owner earlier p.own in
    let own = all_meetings owner [] p.args in
    let others = part_meetings owner (p.own ∷ earlier) parts in
    let front = left_empty (mine ++ own) others e in
    let later = distinct_parts owner (p.own ∷ earlier) parts (right_empty (mine ++ own) others e) in
    let new = is_new owner earlier p.own (left_empty mine own front) in
    (one_more earlier p.own (own_names parts) new later.0, ((distinct owner [] p.args (right_empty mine own front)).1, later.1))

IsNamedOne : Named → Type 0
IsNamedOne n = IsSchemaName n.name

is_true : (b : Bool) → not b ≡ false → b ≡ true
is_true true h = refl
is_true false h = cc

all_names : (names : List Named) → not_names names ≡ [] → Each IsNamedOne names
unfolding IsNamedOne
all_names [] e = tt
all_names (n ∷ names) e =
    let here = when (not (is_name n.name)) (fault.NotAName n.name) in
    (is_true (is_name n.name) (when_empty (not (is_name n.name)) (fault.NotAName n.name) (left_empty here (not_names names) e)), all_names names (right_empty here (not_names names) e))

left_each : (P : Named → Type 0) (xs ys : List Named) → Each P (xs ++ ys) → Each P xs
left_each P [] ys h = tt
left_each P (x ∷ xs) ys h = (h.0, left_each P xs ys h.1)

right_each : (P : Named → Type 0) (xs ys : List Named) → Each P (xs ++ ys) → Each P ys
right_each P [] ys h = h
right_each P (x ∷ xs) ys h = right_each P xs ys h.1

HasNames : Part → Type 0
HasNames p = IsNamedOne p.own × Each IsNamedOne p.args

named_parts : (parts : List Part) → Each IsNamedOne (names_of_parts parts) → Each HasNames parts
unfolding HasNames
named_parts [] h = tt
named_parts (p ∷ parts) h = ((h.0, left_each IsNamedOne p.args (names_of_parts parts) h.1), named_parts parts (right_each IsNamedOne p.args (names_of_parts parts) h.1))

-- ---- the names of parts are those of the type

map_map_at : {A B C : Type 0} (f : ℕ → A → B) (g : B → C) (h : A → C) → ((n : ℕ) (x : A) → g (f n x) ≡ h x) → (from : ℕ) (xs : List A) → map g (map_at f from xs) ≡ map h xs
map_map_at f g h same from [] = refl
map_map_at f g h same from (x ∷ xs) = ap (λ y. y ∷ map g (map_at f (suc from) xs)) (same from x) ∙ ap (λ ys. h x ∷ ys) (map_map_at f g h same (suc from) xs)

same_map : (xs : List (List ℕ)) → map (λ x. x) xs ≡ xs
same_map [] = refl
same_map (x ∷ xs) = ap (λ ys. x ∷ ys) (same_map xs)

own_names-is : (ty : ℕ) (k : TypeKind) → own_names (parts_of ty k) ≡ part_names k
unfolding own_names
own_names-is ty kind.Scalar = refl
own_names-is ty (kind.Object fields) = map_map_at (field_part ty) (λ p. p.own.name) (λ f. f.name) (λ n f. refl) 0 fields
own_names-is ty (kind.Enum cases) =
    map_map_at (λ i c. let p : Part = record { own = named c (origin.Field ty i); args = [] } in p) (λ p. p.own.name) (λ c. c) (λ n c. refl) 0 cases ∙ same_map cases
own_names-is ty (kind.Input args) =
    map_map_at (λ i a. let p : Part = record { own = named a.name (origin.Field ty i); args = [] } in p) (λ p. p.own.name) (λ a. a.name) (λ n a. refl) 0 args

-- the names of each part's arguments
arg_names : List Part → List (List (List ℕ))
arg_names parts = map (λ p. map (λ n. n.name) p.args) parts

arg_names-is : (ty : ℕ) (fields : List FieldDef) → arg_names (parts_of ty (kind.Object fields)) ≡ argument_names (kind.Object fields)
unfolding arg_names
arg_names-is ty fields =
    map_map_at (field_part ty) (λ p. map (λ n. n.name) p.args) (λ f. map (λ a. a.name) f.args)
    (λ place f. map_map_at (λ i a. named a.name (origin.Argument ty place i)) (λ n. n.name) (λ a. a.name) (λ i a. refl) 0 f.args) 0 fields

-- what holds of the names of each part's arguments holds of those of each field's
of_arguments : (P : List (List ℕ) → Type 0) (ty : ℕ) (k : TypeKind) → Each P (arg_names (parts_of ty k)) → Each P (argument_names k)
of_arguments P ty kind.Scalar h = tt
of_arguments P ty (kind.Object fields) h = subst (λ names. Each P names) (arg_names-is ty fields) h
of_arguments P ty (kind.Enum cases) h = tt
of_arguments P ty (kind.Input args) h = tt

-- ---- types

named_type : (earlier : List Named) (ty fields : ℕ) (t : TypeDef) → type_faults earlier ty fields t ≡ [] → IsNamed t × IsNew earlier t.name × (nat_lt most_fields fields ≡ false)
unfolding own_names IsNamedOne HasNames arg_names
named_type earlier ty fields t e =
    let parts = parts_of ty t.kind in
    let a1 = when (nat_lt most_fields fields) fault.TooManyFields in
    let a2 = not_names (named t.name (origin.Type ty) ∷ []) in
    let a3 = when (is_empty t.kind) (fault.NoFields t.name) in
    let a4 = not_names (names_of_parts parts) in
    let a5 = meetings None earlier (named t.name (origin.Type ty)) in
    let a6 = part_meetings (Some t.name) [] parts in
    let f5 = left_empty (a1 ++ a2 ++ a3 ++ a4 ++ a5) a6 e in
    let f4 = left_empty (a1 ++ a2 ++ a3 ++ a4) a5 f5 in
    let f3 = left_empty (a1 ++ a2 ++ a3) a4 f4 in
    let f2 = left_empty (a1 ++ a2) a3 f3 in
    let apart_parts = distinct_parts (Some t.name) [] parts (right_empty (a1 ++ a2 ++ a3 ++ a4 ++ a5) a6 e) in
    let own : Each HasNames parts = named_parts parts (all_names (names_of_parts parts) (right_empty (a1 ++ a2 ++ a3) a4 f4)) in (
      record {
        name = (all_names (named t.name (origin.Type ty) ∷ []) (right_empty a1 a2 f2)).0;
        parts = subst (λ names. Each IsSchemaName names) (own_names-is ty t.kind) (Each-map IsSchemaName (λ p. p.own.name) parts (Each-weaker HasNames (λ p. IsSchemaName p.own.name) parts (λ p h. h.0) own));
        arguments = of_arguments (Each IsSchemaName) ty t.kind
            (Each-map (Each IsSchemaName) (λ p. map (λ n. n.name) p.args) parts (Each-weaker HasNames (λ p. Each IsSchemaName (map (λ n. n.name) p.args)) parts (λ p h. Each-map IsSchemaName (λ n. n.name) p.args h.1) own));
        distinct_parts = subst (λ names. AreDistinct names) (own_names-is ty t.kind) apart_parts.0.1;
        distinct_arguments = of_arguments AreDistinct ty t.kind (Each-map AreDistinct (λ p. map (λ n. n.name) p.args) parts apart_parts.1);
        some = when_empty (is_empty t.kind) (fault.NoFields t.name) (right_empty (a1 ++ a2) a3 f3);
      },
      is_new None earlier (named t.name (origin.Type ty)) (right_empty (a1 ++ a2 ++ a3 ++ a4) a5 f5),
      when_empty (nat_lt most_fields fields) fault.TooManyFields (left_empty a1 a2 f2),
    )

type_names : List TypeDef → List (List ℕ)
type_names types = map (λ t. t.name) types

record HoldTogether (earlier : List Named) (fields : ℕ) (types : List TypeDef) : Type 0 where
  distinct : Each (IsNew earlier) (type_names types) × AreDistinct (type_names types)
  each : Each IsNamed types
  few : fields + field_count types ≤ most_fields

below : (n : ℕ) → nat_lt most_fields n ≡ false → n ≤ most_fields
below n h = grind (arith, nat_tests, h)

named_types : (earlier : List Named) (ty fields : ℕ) (types : List TypeDef) → fields ≤ most_fields → faults_from earlier ty fields types ≡ [] → HoldTogether earlier fields types
unfolding type_names
named_types earlier ty fields [] le e = record { distinct = (tt, tt); each = tt; few = omega (arith, le) }
named_types earlier ty fields (t ∷ types) le e =
    let count = fields + length (fields_of t.kind) in
    let mine = type_faults earlier ty count t in
    let others = faults_from (named t.name (origin.Type ty) ∷ earlier) (suc ty) count types in
    let here = named_type earlier ty count t (left_empty mine others e) in
    let later = named_types (named t.name (origin.Type ty) ∷ earlier) (suc ty) count types (below count here.2) (right_empty mine others e) in
    let few = later.few in record {
      distinct = one_more earlier (named t.name (origin.Type ty)) (type_names types) here.1 later.distinct;
      each = (here.0, later.each);
      few = omega (arith, few);
    }

first_none : {A : Type 0} (xs : List A) → slice_get xs 0 ≡ None → xs ≡ []
first_none [] e = refl
first_none (x ∷ xs) e = cc

-- after the names that stand in no list
after_built_in : (names : List (List ℕ)) → Each (IsNew built_in_names) names × AreDistinct names
    → AreDistinct (codes "Boolean" ∷ codes "String" ∷ codes "Int" ∷ names)
unfolding IsNew
after_built_in names h =
    let int = named (codes "Int") origin.BuiltIn in
    let string = named (codes "String") origin.BuiltIn in
    let boolean = named (codes "Boolean") origin.BuiltIn in
    let one = one_more (string ∷ boolean ∷ []) int names refl h in
    let two = one_more (boolean ∷ []) string (codes "Int" ∷ names) refl one in
    (one_more [] boolean (codes "String" ∷ codes "Int" ∷ names) refl two).1

pub build_fault-none : (catalog : CatalogParts) → build_fault catalog ≡ None → AreNamed (schema_of catalog).types
unfolding build_fault type_names
build_fault-none catalog e =
    let types = (schema_of catalog).types in
    let all = named_types built_in_names 0 0 types (omega arith) (first_none (faults_of types) e) in
    let few = all.few in
    record { distinct = after_built_in (type_names types) all.distinct; each = all.each; few_fields = omega (arith, few) }
