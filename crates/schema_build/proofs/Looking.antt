-- How the first fault of a schema is found: part after part, name after name.
use Rattle.std.proofs.Common.{◌≡◌, ℕ, suc, ◌+◌, ◌<◌, ◌≤◌, Bool, true, false, List, [], ◌∷◌, ◌++◌, map, filter, find, length, Option, Some, None, refl, ap, sym, ◌∙◌, subst, arith, drop, get_or, add-one, append-nil, is_some, Bor}
use Rattle.std.specs.Prelude.{nat_lt, if◌then◌else◌}
use Rattle.std.specs.Option.{option_map, option_copied}
use Rattle.std.specs.Str.{bytes_eq}
use Rattle.std.specs.HashMap.{HashMap}
use Rattle.std.specs.Map.{lookup}
use Rattle.std.proofs.lemmas.Bool.Decides.{nat_tests}
use Rattle.pg_base.proofs.ListSteps.{drop-item}
use Rattle.pg_base.specs.Limits.{most_fields}
use Rattle.pg_base.specs.Lists.{Each}
use Rattle.pg_base.specs.Schema.{SchemaParts, IsValidSchema, IsValidType, IsValidField, fields_of}
use Rattle.pg_base.specs.declared.schema.ArgDef.{ArgDef}
use Rattle.pg_base.specs.declared.schema.FieldDef.{FieldDef}
use Rattle.pg_base.specs.declared.schema.TypeDef.{TypeDef}
use Rattle.pg_base.specs.declared.schema.TypeKind.{TypeKind}
use Rattle.pg_base.specs.declared.schema.TypeKind.TheVariants as kind
use Rattle.pg_base.specs.declared.build_fault.Origin.{Origin}
use Rattle.pg_base.specs.declared.build_fault.Origin.TheVariants as origin
use Rattle.pg_base.specs.declared.build_fault.BuildFault.{BuildFault}
use Rattle.pg_base.specs.declared.build_fault.BuildFault.TheVariants as fault
use Rattle.pg_base.specs.Listing.{when, map_at}
use Rattle.pg_base.specs.SchemaFaults.{Named, named, not_names, meetings, all_meetings, Part, part, field_part, parts_of, names_of_parts, part_meetings, is_empty, type_faults, faults_from, built_in_names, faults_of}
use Rattle.schema_laws.proofs.Eaches.{Each-weaker}
use Rattle.schema_build.specs.Looking.{HasFew, IsPut, first, is_odd, names_in_field, names_in_fields, names_in, fault_alone, met, HasNames, IsAdded, IsLooked, HasFewArgs}

-- ---- the first of lists one after the other

pub first_after : {A : Type 0} (xs ys : List A) → None ≡ first xs → first (xs ++ ys) ≡ first ys
first_after [] ys e = refl
first_after (x ∷ xs) ys e = cc

pub first_in : {A : Type 0} (xs ys : List A) (x : A) → Some x ≡ first xs → Some x ≡ first (xs ++ ys)
first_in [] ys x e = cc
first_in (y ∷ xs) ys x e = e

some_none : {A : Type 0} (found : Option A) → is_some found ≡ true → found ≡ None → ⊥
some_none None e f = cc
some_none (Some x) e f = cc

pub first_found : {A : Type 0} (xs ys : List A) (found : Option A) → is_some found ≡ true → found ≡ first xs → found ≡ first (xs ++ ys)
first_found xs ys None e f = cc
first_found xs ys (Some x) e f = first_in xs ys x f

pub is_none : {A : Type 0} (found : Option A) → is_some found ≡ false → found ≡ None
is_none None e = refl
is_none (Some x) e = cc

-- ---- names by themselves

odd_one : (n : Named) (ns : List Named) (odd : Bool) (rest : Option (List ℕ))
    → first (not_names ns) ≡ option_map (λ name. fault.NotAName name) rest
    → first (when odd (fault.NotAName n.name) ++ not_names ns) ≡ option_map (λ name. fault.NotAName name) (if odd then Some n.name else rest)
odd_one n ns true rest e = refl
odd_one n ns false rest e = e

pub first_odd : (ns : List Named) → first (not_names ns) ≡ option_map (λ name. fault.NotAName name) (find is_odd (map (λ n. n.name) ns))
first_odd [] = refl
first_odd (n ∷ ns) = odd_one n ns (is_odd n.name) (find is_odd (map (λ m. m.name) ns)) (first_odd ns)

map_names : {A : Type 0} (g : A → List ℕ) (h : ℕ → Origin) (from : ℕ) (xs : List A)
    → map (λ n. n.name) (map_at (λ i x. named (g x) (h i)) from xs) ≡ map g xs
map_names g h from [] = refl
map_names g h from (x ∷ xs) = ap (λ l. g x ∷ l) (map_names g h (suc from) xs)

map-append : {A B : Type 0} (f : A → B) (xs ys : List A) → map f (xs ++ ys) ≡ map f xs ++ map f ys
map-append f [] ys = refl
map-append f (x ∷ xs) ys = ap (λ l. f x ∷ l) (map-append f xs ys)

field_names : (ty from : ℕ) (fields : List FieldDef)
    → map (λ n. n.name) (names_of_parts (map_at (field_part ty) from fields)) ≡ names_in_fields fields
field_names ty from [] = refl
field_names ty from (f ∷ fields) =
    let own = map_at (λ i a. named a.name (origin.Argument ty from i)) 0 f.args in
    let rest = names_of_parts (map_at (field_part ty) (suc from) fields) in
    ap (λ l. f.name ∷ l) (map-append (λ n. n.name) own rest)
    ∙ ap (λ l. f.name ∷ (l ++ map (λ n. n.name) rest)) (map_names (λ a. a.name) (λ i. origin.Argument ty from i) 0 f.args)
    ∙ ap (λ l. names_in_field f ++ l) (field_names ty (suc from) fields)

plain_names : {A : Type 0} (g : A → List ℕ) (h : ℕ → Origin) (from : ℕ) (xs : List A)
    → map (λ n. n.name) (names_of_parts (map_at (λ i x. part (named (g x) (h i)) []) from xs)) ≡ map g xs
plain_names g h from [] = refl
plain_names g h from (x ∷ xs) = ap (λ l. g x ∷ l) (plain_names g h (suc from) xs)

map_same : {A : Type 0} (xs : List A) → map (λ x. x) xs ≡ xs
map_same [] = refl
map_same (x ∷ xs) = ap (λ l. x ∷ l) (map_same xs)

pub part_names : (ty : ℕ) (k : TypeKind) → map (λ n. n.name) (names_of_parts (parts_of ty k)) ≡ names_in k
part_names ty kind.Scalar = refl
part_names ty (kind.Object fields) = field_names ty 0 fields
part_names ty (kind.Enum cases) = plain_names (λ c. c) (λ i. origin.Field ty i) 0 cases ∙ map_same cases
part_names ty (kind.Input args) = plain_names (λ a. a.name) (λ i. origin.Field ty i) 0 args

alone_step : (name : List ℕ) (odd empty : Bool) (rest : List BuildFault)
    → first (((when odd (fault.NotAName name) ++ []) ++ when empty (fault.NoFields name)) ++ rest)
    ≡ (if odd then Some (fault.NotAName name) else (if empty then Some (fault.NoFields name) else first rest))
alone_step name true empty rest = refl
alone_step name false true rest = refl
alone_step name false false rest = refl

-- what the type's own faults are, before it is compared with others
abbrev pub own_faults : ℕ → TypeDef → List BuildFault
own_faults ty t =
    (not_names (named t.name (origin.Type ty) ∷ []) ++ when (is_empty t.kind) (fault.NoFields t.name)) ++ not_names (names_of_parts (parts_of ty t.kind))

pub first_alone : (ty : ℕ) (t : TypeDef) → first (own_faults ty t) ≡ fault_alone t
first_alone ty t =
    alone_step t.name (is_odd t.name) (is_empty t.kind) (not_names (names_of_parts (parts_of ty t.kind)))
    ∙ ap (λ o. if is_odd t.name then Some (fault.NotAName t.name) else (if is_empty t.kind then Some (fault.NoFields t.name) else o))
    (first_odd (names_of_parts (parts_of ty t.kind)) ∙ ap (λ l. option_map (λ name. fault.NotAName name) (find is_odd l)) (part_names ty t.kind))

-- ---- the first name that is none, as a loop over fields meets it

after_step : (x : List ℕ) (xs ys : List (List ℕ)) (odd : Bool) → None ≡ (if odd then Some x else find is_odd xs)
    → (None ≡ find is_odd xs → find is_odd (xs ++ ys) ≡ find is_odd ys) → (if odd then Some x else find is_odd (xs ++ ys)) ≡ find is_odd ys
after_step x xs ys true e f = cc
after_step x xs ys false e f = f e

find_after : (xs ys : List (List ℕ)) → None ≡ find is_odd xs → find is_odd (xs ++ ys) ≡ find is_odd ys
find_after [] ys e = refl
find_after (x ∷ xs) ys e = after_step x xs ys (is_odd x) e (find_after xs ys)

in_step : (x : List ℕ) (xs ys : List (List ℕ)) (odd : Bool) (found : Option (List ℕ)) → found ≡ (if odd then Some x else find is_odd xs)
    → (found ≡ find is_odd xs → found ≡ find is_odd (xs ++ ys)) → found ≡ (if odd then Some x else find is_odd (xs ++ ys))
in_step x xs ys true found e f = e
in_step x xs ys false found e f = f e

find_in : (xs ys : List (List ℕ)) (found : Option (List ℕ)) → is_some found ≡ true → found ≡ find is_odd xs → found ≡ find is_odd (xs ++ ys)
find_in [] ys None e f = cc
find_in [] ys (Some y) e f = cc
find_in (x ∷ xs) ys found e f = in_step x xs ys (is_odd x) found f (find_in xs ys found e)

argument_names : FieldDef → List (List ℕ)
argument_names f = map (λ a. a.name) f.args

module _ (fields : List FieldDef) (i : ℕ) (f : FieldDef) (lt : i < length fields) (e : f ≡ get_or fields i f)
    (so_far : find is_odd (names_in_fields (drop i fields)) ≡ find is_odd (names_in_fields fields)) (own : is_odd f.name ≡ false) where
  rest_names : List (List ℕ)
  rest_names = names_in_fields (drop (i + 1) fields)

  split_names : find is_odd (argument_names f ++ rest_names) ≡ find is_odd (names_in_fields fields)
  unfolding argument_names rest_names
  split_names =
      let here : (if is_odd f.name then Some f.name else find is_odd (argument_names f ++ rest_names)) ≡ find is_odd (names_in_fields fields) =
      sym (ap (λ l. find is_odd (names_in_fields l)) (drop-item fields i f lt e)) ∙ so_far in
      sym (ap (λ b. if b then Some f.name else find is_odd (argument_names f ++ rest_names)) own) ∙ here

  pub odd_stop : (found : Option (List ℕ)) → is_some found ≡ true → found ≡ find is_odd (map (λ a. a.name) f.args) → found ≡ find is_odd (names_in_fields fields)
  unfolding argument_names
  odd_stop found some h = find_in (argument_names f) rest_names found some h ∙ split_names

  pub odd_step : (found : Option (List ℕ)) → is_some found ≡ false → found ≡ find is_odd (map (λ a. a.name) f.args)
      → find is_odd (names_in_fields (drop (i + 1) fields)) ≡ find is_odd (names_in_fields fields)
  unfolding argument_names rest_names
  odd_step found none h = sym (find_after (argument_names f) rest_names (sym (is_none found none) ∙ h)) ∙ split_names

-- ---- names that meet

-- the fault of a name that meets the one at a place
abbrev pub meets_at : Option (List ℕ) → Named → Option Origin → Option BuildFault
meets_at owner n place = option_map (λ earlier. fault.NamesMeet owner n.name earlier n.origin) place

meet_step : (owner : Option (List ℕ)) (e : Named) (earlier : List Named) (n : Named) (same : Bool)
    → first (meetings owner earlier n) ≡ meets_at owner n (met earlier n.name)
    → first (map (λ other. fault.NamesMeet owner n.name other.origin n.origin) (if same then e ∷ filter (λ other. bytes_eq other.name n.name) earlier else filter (λ other. bytes_eq other.name n.name) earlier))
    ≡ meets_at owner n (if same then Some e.origin else met earlier n.name)
meet_step owner e earlier n true h = refl
meet_step owner e earlier n false h = h

pub first_meeting : (owner : Option (List ℕ)) (earlier : List Named) (n : Named) → first (meetings owner earlier n) ≡ meets_at owner n (met earlier n.name)
first_meeting owner [] n = refl
first_meeting owner (e ∷ earlier) n = meet_step owner e earlier n (bytes_eq e.name n.name) (first_meeting owner earlier n)

-- one more name in the map, where the answer tells what it had
pub added : {S : Type 0} (owner : Option (List ℕ)) (n : Named) (before now : HashMap (List ℕ) Origin S) (found : Option BuildFault) (had : Option Origin)
    → IsPut n before now had → found ≡ meets_at owner n had → IsAdded owner n before now found
added owner n before now found had put f = record {
  fault = λ earlier has. f ∙ ap (meets_at owner n) (put.stood ∙ has n.name) ∙ sym (first_meeting owner earlier n);
  grown = λ earlier has name. put.stands name ∙ ap (λ o. if bytes_eq n.name name then Some n.origin else o) (has name);
}

pub no_names : {S : Type 0} (names : HashMap (List ℕ) Origin S) → names.entries ≡ [] → HasNames [] names
no_names names e = λ name. ap (λ es. lookup (bytes_eq name) es) e

-- ---- the names of parts, one after the other

-- what is left of some names, of which all before were met and differ
pub record AreMet {S : Type 0} (owner : Option (List ℕ)) (all rest : List Named) (names : HashMap (List ℕ) Origin S) : Type 0 where
  pub earlier : List Named
  pub has : HasNames earlier names
  pub same : first (all_meetings owner [] all) ≡ first (all_meetings owner earlier rest)

pub met_step : {A S : Type 0} (owner : Option (List ℕ)) (all : List Named) (f : ℕ → A → Named) (xs : List A) (i at : ℕ) (x : A)
    (before now : HashMap (List ℕ) Origin S) (found : Option BuildFault)
    → i < length xs → x ≡ get_or xs i x → AreMet owner all (map_at f at (drop i xs)) before
    → IsAdded owner (f at x) before now found → is_some found ≡ false
    → AreMet owner all (map_at f (at + 1) (drop (i + 1) xs)) now
met_step owner all f xs i at x before now found lt e m added none =
    let rest = map_at f (suc at) (drop (i + 1) xs) in
    let split : first (all_meetings owner [] all) ≡ first (meetings owner m.earlier (f at x) ++ all_meetings owner (f at x ∷ m.earlier) rest) =
    m.same ∙ ap (λ l. first (all_meetings owner m.earlier (map_at f at l))) (drop-item xs i x lt e) in
    let skip = first_after (meetings owner m.earlier (f at x)) (all_meetings owner (f at x ∷ m.earlier) rest) (sym (is_none found none) ∙ added.fault m.earlier m.has) in
    rw add-one (record { earlier = f at x ∷ m.earlier; has = added.grown m.earlier m.has; same = split ∙ skip })

pub met_stop : {A S : Type 0} (owner : Option (List ℕ)) (all : List Named) (f : ℕ → A → Named) (xs : List A) (i at : ℕ) (x : A)
    (before now : HashMap (List ℕ) Origin S) (found : Option BuildFault)
    → i < length xs → x ≡ get_or xs i x → AreMet owner all (map_at f at (drop i xs)) before
    → IsAdded owner (f at x) before now found → is_some found ≡ true → found ≡ first (all_meetings owner [] all)
met_stop owner all f xs i at x before now found lt e m added some =
    let rest = map_at f (suc at) (drop (i + 1) xs) in
    let split : first (all_meetings owner [] all) ≡ first (meetings owner m.earlier (f at x) ++ all_meetings owner (f at x ∷ m.earlier) rest) =
    m.same ∙ ap (λ l. first (all_meetings owner m.earlier (map_at f at l))) (drop-item xs i x lt e) in
    first_found (meetings owner m.earlier (f at x)) (all_meetings owner (f at x ∷ m.earlier) rest) found some (added.fault m.earlier m.has) ∙ sym split

pub met_end : {A S : Type 0} (owner : Option (List ℕ)) (all : List Named) (f : ℕ → A → Named) (xs : List A) (i at : ℕ) (names : HashMap (List ℕ) Origin S)
    → drop i xs ≡ [] → AreMet owner all (map_at f at (drop i xs)) names → None ≡ first (all_meetings owner [] all)
met_end owner all f xs i at names e m = sym (m.same ∙ ap (λ l. first (all_meetings owner m.earlier (map_at f at l))) e)

-- parts without arguments are names
pub plain_meetings : {A : Type 0} (owner : Option (List ℕ)) (earlier : List Named) (f : ℕ → A → Named) (from : ℕ) (xs : List A)
    → part_meetings owner earlier (map_at (λ i x. part (f i x) []) from xs) ≡ all_meetings owner earlier (map_at f from xs)
plain_meetings owner earlier f from [] = refl
plain_meetings owner earlier f from (x ∷ xs) =
    ap (λ l. l ++ part_meetings owner (f from x ∷ earlier) (map_at (λ i y. part (f i y) []) (suc from) xs)) (append-nil (meetings owner earlier (f from x)))
    ∙ ap (λ l. meetings owner earlier (f from x) ++ l) (plain_meetings owner (f from x ∷ earlier) f (suc from) xs)

-- ---- fields, one after the other

pub record FieldsMet {S : Type 0} (owner : Option (List ℕ)) (all rest : List Part) (names : HashMap (List ℕ) Origin S) : Type 0 where
  pub earlier : List Named
  pub has : HasNames earlier names
  pub same : first (part_meetings owner [] all) ≡ first (part_meetings owner earlier rest)

module _ {S : Type 0} (owner : Option (List ℕ)) (all : List Part) (ty : ℕ) (fields : List FieldDef) (i at : ℕ) (f : FieldDef)
    (before now : HashMap (List ℕ) Origin S) (lt : i < length fields) (e : f ≡ get_or fields i f)
    (m : FieldsMet owner all (map_at (field_part ty) at (drop i fields)) before) where
  abbrev mine : List BuildFault
  mine = meetings owner m.earlier (named f.name (origin.Field ty at))

  abbrev own : List BuildFault
  own = all_meetings owner [] (map_at (λ k a. named a.name (origin.Argument ty at k)) 0 f.args)

  abbrev others : List BuildFault
  others = part_meetings owner (named f.name (origin.Field ty at) ∷ m.earlier) (map_at (field_part ty) (suc at) (drop (i + 1) fields))

  split : first (part_meetings owner [] all) ≡ first ((mine ++ own) ++ others)
  split = m.same ∙ ap (λ l. first (part_meetings owner m.earlier (map_at (field_part ty) at l))) (drop-item fields i f lt e)

  pub field_stop : (found : Option BuildFault) → IsAdded owner (named f.name (origin.Field ty at)) before now found → is_some found ≡ true
      → found ≡ first (part_meetings owner [] all)
  field_stop found added some =
      first_found (mine ++ own) others found some (first_found mine own found some (added.fault m.earlier m.has)) ∙ sym split

  none_mine : (found : Option BuildFault) → IsAdded owner (named f.name (origin.Field ty at)) before now found → is_some found ≡ false → None ≡ first mine
  none_mine found added none = sym (is_none found none) ∙ added.fault m.earlier m.has

  none_own : (found own_found : Option BuildFault) → IsAdded owner (named f.name (origin.Field ty at)) before now found → is_some found ≡ false
      → (args : List ArgDef) → args ≡ f.args → own_found ≡ first (all_meetings owner [] (map_at (λ k a. named a.name (origin.Argument ty at k)) 0 args))
      → own_found ≡ first (mine ++ own)
  none_own found own_found new none args same o =
      o ∙ ap (λ l. first (all_meetings owner [] (map_at (λ k a. named a.name (origin.Argument ty at k)) 0 l))) same ∙ sym (first_after mine own (none_mine found new none))

  pub args_stop : (found own_found : Option BuildFault) → IsAdded owner (named f.name (origin.Field ty at)) before now found → is_some found ≡ false
      → (args : List ArgDef) → args ≡ f.args → own_found ≡ first (all_meetings owner [] (map_at (λ k a. named a.name (origin.Argument ty at k)) 0 args))
      → is_some own_found ≡ true → own_found ≡ first (part_meetings owner [] all)
  args_stop found own_found new none args same o some =
      first_found (mine ++ own) others own_found some (none_own found own_found new none args same o) ∙ sym split

  pub field_step : (found own_found : Option BuildFault) → IsAdded owner (named f.name (origin.Field ty at)) before now found → is_some found ≡ false
      → (args : List ArgDef) → args ≡ f.args → own_found ≡ first (all_meetings owner [] (map_at (λ k a. named a.name (origin.Argument ty at k)) 0 args))
      → is_some own_found ≡ false → FieldsMet owner all (map_at (field_part ty) (at + 1) (drop (i + 1) fields)) now
  field_step found own_found new none args same o nothing =
      rw add-one (record {
        earlier = named f.name (origin.Field ty at) ∷ m.earlier;
        has = new.grown m.earlier m.has;
        same = split ∙ first_after (mine ++ own) others (sym (is_none own_found nothing) ∙ none_own found own_found new none args same o);
      })

pub fields_end : {S : Type 0} (owner : Option (List ℕ)) (all : List Part) (ty : ℕ) (fields : List FieldDef) (i at : ℕ) (names : HashMap (List ℕ) Origin S)
    → drop i fields ≡ [] → FieldsMet owner all (map_at (field_part ty) at (drop i fields)) names → None ≡ first (part_meetings owner [] all)
fields_end owner all ty fields i at names e m = sym (m.same ∙ ap (λ l. first (part_meetings owner m.earlier (map_at (field_part ty) at l))) e)

-- ---- one type

rest_faults : (earlier : List Named) (ty fields : ℕ) (t : TypeDef) → nat_lt most_fields fields ≡ false
    → (own_faults ty t ++ meetings None earlier (named t.name (origin.Type ty))) ++ part_meetings (Some t.name) [] (parts_of ty t.kind) ≡ type_faults earlier ty fields t
rest_faults earlier ty fields t e =
    ap (λ big. ((((when big fault.TooManyFields ++ not_names (named t.name (origin.Type ty) ∷ [])) ++ when (is_empty t.kind) (fault.NoFields t.name))
    ++ not_names (names_of_parts (parts_of ty t.kind))) ++ meetings None earlier (named t.name (origin.Type ty))) ++ part_meetings (Some t.name) [] (parts_of ty t.kind)) (sym e)

not_big : (n : ℕ) → n ≤ most_fields → nat_lt most_fields n ≡ false
not_big n h = grind (arith, nat_tests)

is_big : (n : ℕ) → most_fields < n → nat_lt most_fields n ≡ true
is_big n h = grind (arith, nat_tests)

first_big : (big : Bool) (a b c d e : List BuildFault) → big ≡ true → Some fault.TooManyFields ≡ first (((((when big fault.TooManyFields ++ a) ++ b) ++ c) ++ d) ++ e)
first_big true a b c d e h = refl
first_big false a b c d e h = cc

module _ {S : Type 0} (ty fields : ℕ) (t : TypeDef) (before now : HashMap (List ℕ) Origin S) where
  pub looked_many : most_fields < fields → IsLooked ty fields t before now (Some fault.TooManyFields)
  looked_many h = record {
    fault = λ earlier has. first_big (nat_lt most_fields fields) (not_names (named t.name (origin.Type ty) ∷ [])) (when (is_empty t.kind) (fault.NoFields t.name))
        (not_names (names_of_parts (parts_of ty t.kind))) (meetings None earlier (named t.name (origin.Type ty))) (part_meetings (Some t.name) [] (parts_of ty t.kind)) (is_big fields h);
    grown = λ earlier has e. absurd cc;
  }

  pub looked_alone : (found : Option BuildFault) → fields ≤ most_fields → found ≡ fault_alone t → is_some found ≡ true → IsLooked ty fields t before now found
  looked_alone found few alone some = record {
    fault = λ earlier has.
        let mine = own_faults ty t in
        let met_type = meetings None earlier (named t.name (origin.Type ty)) in
        let met_parts = part_meetings (Some t.name) [] (parts_of ty t.kind) in
        first_found (mine ++ met_type) met_parts found some (first_found mine met_type found some (alone ∙ sym (first_alone ty t)))
        ∙ ap first (rest_faults earlier ty fields t (not_big fields few));
    grown = λ earlier has e. absurd (some_none found some e);
  }

  pub looked_met : (alone found : Option BuildFault) → fields ≤ most_fields → alone ≡ fault_alone t → is_some alone ≡ false
      → IsAdded None (named t.name (origin.Type ty)) before now found → is_some found ≡ true → IsLooked ty fields t before now found
  looked_met alone found few own none new some = record {
    fault = λ earlier has.
        let mine = own_faults ty t in
        let met_type = meetings None earlier (named t.name (origin.Type ty)) in
        let met_parts = part_meetings (Some t.name) [] (parts_of ty t.kind) in
        first_found (mine ++ met_type) met_parts found some
        (new.fault earlier has ∙ sym (first_after mine met_type (sym (is_none alone none) ∙ own ∙ sym (first_alone ty t))))
        ∙ ap first (rest_faults earlier ty fields t (not_big fields few));
    grown = λ earlier has e. absurd (some_none found some e);
  }

  pub looked_parts : (alone named_found found : Option BuildFault) → fields ≤ most_fields → alone ≡ fault_alone t → is_some alone ≡ false
      → IsAdded None (named t.name (origin.Type ty)) before now named_found → is_some named_found ≡ false
      → found ≡ first (part_meetings (Some t.name) [] (parts_of ty t.kind)) → IsLooked ty fields t before now found
  looked_parts alone named_found found few own none new unmet parts = record {
    fault = λ earlier has.
        let mine = own_faults ty t in
        let met_type = meetings None earlier (named t.name (origin.Type ty)) in
        let met_parts = part_meetings (Some t.name) [] (parts_of ty t.kind) in
        let skip = first_after mine met_type (sym (is_none alone none) ∙ own ∙ sym (first_alone ty t)) in
        parts ∙ sym (first_after (mine ++ met_type) met_parts (sym (is_none named_found unmet) ∙ new.fault earlier has ∙ sym skip))
        ∙ ap first (rest_faults earlier ty fields t (not_big fields few));
    grown = λ earlier has e. new.grown earlier has;
  }

-- ---- types, one after the other

few_args : (schema : SchemaParts) (f : FieldDef) → IsValidField schema f → HasFewArgs f
few_args schema f h = h.few

few_parts : (schema : SchemaParts) (t : TypeDef) → IsValidType schema t → HasFew t
few_parts schema t h = record {
  fields = h.few_fields;
  args = Each-weaker (IsValidField schema) HasFewArgs (fields_of t.kind) (few_args schema) h.fields;
  inputs = h.few_inputs;
  cases = h.few_cases;
}

pub all_few : (schema : SchemaParts) → IsValidSchema schema → Each HasFew schema.types
all_few schema h = Each-weaker (IsValidType schema) HasFew schema.types (few_parts schema) h.types

-- what is left of the types, of which all before have no fault
pub record AreLooked {S : Type 0} (types : List TypeDef) (ty fields : ℕ) (rest : List TypeDef) (names : HashMap (List ℕ) Origin S) : Type 0 where
  pub earlier : List Named
  pub has : HasNames earlier names
  pub few : fields ≤ most_fields
  pub same : first (faults_of types) ≡ first (faults_from earlier ty fields rest)

not_many : (big : Bool) (a b c d e : List BuildFault) → None ≡ first (((((when big fault.TooManyFields ++ a) ++ b) ++ c) ++ d) ++ e) → big ≡ false
not_many true a b c d e h = cc
not_many false a b c d e h = refl

at_most : (n : ℕ) → nat_lt most_fields n ≡ false → n ≤ most_fields
at_most n h = grind (arith, nat_tests)

-- of a type without a fault
few_with_own : (earlier : List Named) (ty fields : ℕ) (t : TypeDef) → None ≡ first (type_faults earlier ty fields t) → fields ≤ most_fields
few_with_own earlier ty fields t h =
    at_most fields (not_many (nat_lt most_fields fields) (not_names (named t.name (origin.Type ty) ∷ [])) (when (is_empty t.kind) (fault.NoFields t.name))
    (not_names (names_of_parts (parts_of ty t.kind))) (meetings None earlier (named t.name (origin.Type ty))) (part_meetings (Some t.name) [] (parts_of ty t.kind)) h)

pub each_item : {A : Type 0} (P : A → Type 0) (xs : List A) (i : ℕ) (x : A) → i < length xs → x ≡ get_or xs i x → Each P (drop i xs) → P x × Each P (drop (i + 1) xs)
each_item P xs i x lt e h = subst (Each P) (drop-item xs i x lt e) h

module _ {S : Type 0} (types : List TypeDef) (i ty fields : ℕ) (t : TypeDef) (before now : HashMap (List ℕ) Origin S)
    (lt : i < length types) (e : t ≡ get_or types i t) (m : AreLooked types ty fields (drop i types) before)
    (count : ℕ) (counted : count ≡ length (fields_of t.kind)) where
  abbrev with_own : ℕ
  with_own = fields + length (fields_of t.kind)

  abbrev type_own : List BuildFault
  type_own = type_faults m.earlier ty with_own t

  abbrev type_others : List BuildFault
  type_others = faults_from (named t.name (origin.Type ty) ∷ m.earlier) (suc ty) with_own (drop (i + 1) types)

  type_split : first (faults_of types) ≡ first (type_own ++ type_others)
  type_split = m.same ∙ ap (λ l. first (faults_from m.earlier ty fields l)) (drop-item types i t lt e)

  looked_own : (found : Option BuildFault) → IsLooked ty (fields + count) t before now found → IsLooked ty with_own t before now found
  looked_own found looked = subst (λ n. IsLooked ty (fields + n) t before now found) counted looked

  pub type_stop : (found : Option BuildFault) → IsLooked ty (fields + count) t before now found → is_some found ≡ true → found ≡ first (faults_of types)
  type_stop found looked some = first_found type_own type_others found some ((looked_own found looked).fault m.earlier m.has) ∙ sym type_split

  pub type_step : (found : Option BuildFault) → IsLooked ty (fields + count) t before now found → is_some found ≡ false
      → AreLooked types (ty + 1) (fields + count) (drop (i + 1) types) now
  type_step found looked none =
      let nothing = is_none found none in
      let own = looked_own found looked in
      rw (add-one, counted) (record {
        earlier = named t.name (origin.Type ty) ∷ m.earlier;
        has = own.grown m.earlier m.has nothing;
        few = few_with_own m.earlier ty with_own t (sym nothing ∙ own.fault m.earlier m.has);
        same = type_split ∙ first_after type_own type_others (sym nothing ∙ own.fault m.earlier m.has);
      })

pub types_start : {S : Type 0} (types : List TypeDef) (names : HashMap (List ℕ) Origin S) → HasNames built_in_names names → AreLooked types 0 0 types names
types_start types names h = record { earlier = built_in_names; has = h; few = omega arith; same = refl }

pub types_end : {S : Type 0} (types : List TypeDef) (i ty fields : ℕ) (names : HashMap (List ℕ) Origin S)
    → drop i types ≡ [] → AreLooked types ty fields (drop i types) names → None ≡ first (faults_of types)
types_end types i ty fields names e m = sym (m.same ∙ ap (λ l. first (faults_from m.earlier ty fields l)) e)

-- a borrowed text and what it is
pub copied_some : {A : Type 0} (o : Option (Bor A)) (b : Bool) → is_some o ≡ b → is_some (option_copied o) ≡ b
copied_some None b e = e
copied_some (Some x) b e = e
