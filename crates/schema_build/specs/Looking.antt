-- How the first fault of a schema is looked for: names by themselves, and where equal ones meet.
use Rattle.std.specs.Prelude.{◌≡◌, ◌<◌, ◌^◌, ℕ, Bool, not, if◌then◌else◌, List, [], ◌∷◌, ◌++◌, Option, Some, None, slice_get, map, find, length}
use Rattle.std.specs.Option.{option_map}
use Rattle.std.specs.Str.{bytes_eq}
use Rattle.std.specs.HashMap.{HashMap, get}
use Rattle.pg_base.specs.declared.build_fault.Origin.{Origin}
use Rattle.pg_base.specs.declared.build_fault.Origin.TheVariants as origin
use Rattle.pg_base.specs.declared.build_fault.BuildFault.{BuildFault}
use Rattle.pg_base.specs.declared.build_fault.BuildFault.TheVariants as fault
use Rattle.pg_base.specs.declared.schema.FieldDef.{FieldDef}
use Rattle.pg_base.specs.declared.schema.TypeKind.{TypeKind}
use Rattle.pg_base.specs.declared.schema.TypeKind.TheVariants as kind
use Rattle.pg_base.specs.declared.schema.TypeDef.{TypeDef}
use Rattle.pg_base.specs.Lists.{Each}
use Rattle.pg_base.specs.Schema.{fields_of, inputs_of, cases_of}
use Rattle.pg_base.specs.SchemaFaults.{Named, named, meetings, is_name, is_empty, type_faults}
use Rattle.schema_build.specs.declared.meetings.Holder.{Holder}
use Rattle.schema_build.specs.declared.meetings.Holder.TheVariants as holder

abbrev pub first : {A : Type 0} → List A → Option A
first faults = slice_get faults 0

-- ---- names by themselves

abbrev pub is_odd : List ℕ → Bool
is_odd name = not (is_name name)

abbrev pub names_in_field : FieldDef → List (List ℕ)
names_in_field f = f.name ∷ map (λ a. a.name) f.args

-- each field's name before those of its arguments
abbrev pub names_in_fields : List FieldDef → List (List ℕ)
names_in_fields [] = []
names_in_fields (f ∷ fields) = names_in_field f ++ names_in_fields fields

abbrev pub names_in : TypeKind → List (List ℕ)
names_in kind.Scalar = []
names_in (kind.Object fields) = names_in_fields fields
names_in (kind.Enum cases) = cases
names_in (kind.Input args) = map (λ a. a.name) args

-- the first fault of a type that speaks of no other name
abbrev pub fault_alone : TypeDef → Option BuildFault
fault_alone t =
    if is_odd t.name then Some (fault.NotAName t.name) else
    (if is_empty t.kind then Some (fault.NoFields t.name) else
    option_map (λ name. fault.NotAName name) (find is_odd (names_in t.kind)))

-- ---- what can be numbered with 32 bits

abbrev pub HasFewArgs : FieldDef → Type 0
HasFewArgs f = length f.args < 2 ^ 32

pub record HasFewParts (k : TypeKind) : Type 0 where
  pub fields : length (fields_of k) < 2 ^ 32
  pub args : Each HasFewArgs (fields_of k)
  pub inputs : length (inputs_of k) < 2 ^ 32
  pub cases : length (cases_of k) < 2 ^ 32

abbrev pub HasFew : TypeDef → Type 0
HasFew t = HasFewParts t.kind

-- ---- names that meet

-- where arguments of a field, or parts of a type, stand
abbrev pub place_in : Holder → ℕ → Origin
place_in (holder.OfType ty) at = origin.Field ty at
place_in (holder.OfField ty field) at = origin.Argument ty field at

-- where the latest of the earlier names that is equal stands
abbrev pub met : List Named → List ℕ → Option Origin
met [] name = None
met (e ∷ earlier) name = if bytes_eq e.name name then Some e.origin else met earlier name

-- the map has each of the earlier names, with the place of the latest that is equal
abbrev pub HasNames : {S : Type 0} → List Named → HashMap (List ℕ) Origin S → Type 0
HasNames earlier names = (name : List ℕ) → get bytes_eq names name ≡ met earlier name

-- one more name is met from now on, and the map had what stood for its equal
pub record IsPut {S : Type 0} (n : Named) (before now : HashMap (List ℕ) Origin S) (had : Option Origin) : Type 0 where
  pub stood : had ≡ get bytes_eq before n.name
  pub stands : (name : List ℕ)
      → get bytes_eq now name ≡ (if bytes_eq n.name name then Some n.origin else get bytes_eq before name)

-- the fault of one more name, which is met from now on
pub record IsAdded {S : Type 0} (owner : Option (List ℕ)) (n : Named) (before now : HashMap (List ℕ) Origin S)
    (found : Option BuildFault) : Type 0 where
  pub fault : (earlier : List Named) → HasNames earlier before → found ≡ first (meetings owner earlier n)
  pub grown : (earlier : List Named) → HasNames earlier before → HasNames (n ∷ earlier) now

-- the first fault of a type, whose name is met from now on where there is none
pub record IsLooked {S : Type 0} (ty fields : ℕ) (t : TypeDef) (before now : HashMap (List ℕ) Origin S)
    (found : Option BuildFault) : Type 0 where
  pub fault : (earlier : List Named) → HasNames earlier before → found ≡ first (type_faults earlier ty fields t)
  pub grown : (earlier : List Named) → HasNames earlier before → found ≡ None
      → HasNames (named t.name (origin.Type ty) ∷ earlier) now
