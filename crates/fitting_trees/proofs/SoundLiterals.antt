-- In a document that breaks no rule a literal at a position becomes a value there, and its variables fit.
use Rattle.std.proofs.Common.{◌≡◌, ℕ, Bool, true, false, not, ◌&&◌, ◌||◌, List, [], ◌∷◌, length, Option, Some, None, Ok, Err, is_some, is_none, refl, sym, ap, ◌∙◌, subst}
use Rattle.std.specs.Prelude.{slice_get, option_map, if◌then◌else◌, IfSome}
use Rattle.std.specs.Str.{bytes_eq}
use Rattle.pg_base.specs.Lists.{Each}
use Rattle.pg_base.specs.Schema.{SchemaParts, kind_at, inputs_of}
use Rattle.pg_base.specs.Vars.{variable}
use Rattle.pg_base.specs.declared.pos.Pos.{Pos}
use Rattle.pg_base.specs.declared.schema.ArgDef.{ArgDef}
use Rattle.pg_base.specs.declared.schema.TypeKind.TheVariants as kind
use Rattle.pg_base.specs.declared.schema.TypeRef.{TypeRef}
use Rattle.pg_base.specs.declared.vars.Vars.{Vars}
use Rattle.gql_reader.specs.declared.tree.Document.{Document}
use Rattle.gql_reader.specs.declared.tree.ValueKind.{ValueKind, Variable, Int, Float, String, Boolean, Null, Enum}
use Rattle.gql_reader.specs.declared.tree.ValueKind.{List', Object', Row_of-Value, end_of-Value, more_of-Value}
use Rattle.gql_reader.specs.declared.tree.ValueKind.{Row_of-ObjectField, end_of-ObjectField, more_of-ObjectField}
use Rattle.gql_types.specs.Types.{Ty, named, list_of, innermost, is_not_null, item_of, ty_of, arg_named, inputs_in, inputs_at, expected}
use Rattle.gql_nodes.specs.Names.{is_among, with_name}
use Rattle.gql_nodes.specs.Nodes.{Node, at_value, at_object_field, At, put, put_value, put_items, put_object_fields, nodes}
use Rattle.gql_input.specs.declared.argument.ArgMember.{ArgMember}
use Rattle.gql_input.specs.declared.argument.ArgValue.{ArgValue}
use Rattle.gql_input.specs.declared.argument.ArgValue.TheVariants as argument
use Rattle.gql_input.specs.Coercions.{Coercion, Given, is_ok, null_given, unknown_field, map_ok, and_more, and_some, in_lists, list_at, fields_at, given_for, member_at, members_at, has_unknown}
use Rattle.gql_input.specs.Inputs.{Reads, int, big_int, text, boolean, cases, fields, nothing, has_fields, reads_at}
use Rattle.gql_input.specs.Leaves.{Leaf, as_argument, boolean_at, spelled_at, string_at, case_at}
use Rattle.gql_input.specs.Literals.{one, many, member, leaf_at, fits, object_at, literal_at, literals_at, literal_fields}
use Rattle.gql_rules.specs.Rules.{IsValidDocument, on_scopes}
use Rattle.gql_scopes.specs.declared.rule.ScopeRule.TheVariants as scope
use Rattle.gql_scopes.specs.Conditions.{if_some}
use Rattle.gql_scopes.specs.InputObjectRequiredFields.{is_null, gives, lacks}
use Rattle.place_tree.specs.Arguments.{item_type}
use Rattle.plan_steps.specs.Fitting.{IsOf}
use Rattle.fitting_trees.proofs.Named.{same_bytes, some_is, no_some, not_both, IsKnown, all_known, type_found}
use Rattle.fitting_trees.proofs.Suited.{false_true}
use Rattle.fitting_trees.proofs.Fields.{reads_input}
use Rattle.fitting_trees.proofs.GivenValues.{HasDistinctInputs}
use Rattle.fitting_trees.proofs.LiteralValues.{UsesFit, ItemsFit, FieldsFit}
use Rattle.fitting_trees.proofs.Growth.{IsFront, front_before, stands_there, items_grow, fields_grow, value_grows}

-- ---- small facts

pub must : (b : Bool) → (not b ≡ true → ⊥) → b ≡ true
must true h = refl
must false h = absurd (h refl)

pub never : (b : Bool) → (b ≡ true → ⊥) → b ≡ false
never true h = absurd (h refl)
never false h = refl

pub is_there : {A : Type 0} (o : Option A) → is_none o ≡ false → (x : A) × (o ≡ Some x)
is_there None h = false_true (sym h)
is_there (Some x) h = (x, refl)

or_left : (a b : Bool) → (a || b) ≡ false → a ≡ false
or_left true b e = e
or_left false b e = refl

or_right : (a b : Bool) → (a || b) ≡ false → b ≡ false
or_right true b e = false_true (sym e)
or_right false b e = e

leaf_ok : (t : Ty) (c : Coercion Leaf) → is_ok c ≡ true → (a : ArgValue) × (leaf_at t c ≡ Ok a)
leaf_ok t (Err n) h = false_true h
leaf_ok t (Ok l) h = (in_lists one t (as_argument l), refl)

null_ok : (t : Ty) → not (is_not_null t) ≡ true → (if is_not_null t then Err null_given else Ok argument.Null) ≡ Ok argument.Null
null_ok t h = by (is_not_null t) h
  where
    by : (b : Bool) → not b ≡ true → (if b then Err null_given else Ok argument.Null) ≡ Ok argument.Null
    by true h = false_true h
    by false h = refl

list_flag : (r : TypeRef) → is_some (item_of (ty_of r)) ≡ true → r.list ≡ true
list_flag r h = by r.list h
  where
    by : (b : Bool) → is_some (item_of (if b then list_of (named r.name r.item_not_null) r.not_null else named r.name r.not_null)) ≡ true → b ≡ true
    by true h = refl
    by false h = h

item_is : (r : TypeRef) → r.list ≡ true → item_of (ty_of r) ≡ Some (ty_of (item_type r))
item_is r e = ap (λ b. item_of (if b then list_of (named r.name r.item_not_null) r.not_null else named r.name r.not_null)) e

innermost_of : (r : TypeRef) → innermost (ty_of r) ≡ r.name
innermost_of r = by r.list
  where
    by : (b : Bool) → innermost (if b then list_of (named r.name r.item_not_null) r.not_null else named r.name r.not_null) ≡ r.name
    by true = refl
    by false = refl

has_args : (of : Reads) → has_fields of ≡ true → (args : List ArgDef) × (of ≡ fields args)
has_args int h = false_true h
has_args big_int h = false_true h
has_args text h = false_true h
has_args boolean h = false_true h
has_args (cases names) h = false_true h
has_args (fields args) h = (args, refl)
has_args nothing h = false_true h

-- ---- fields that are given

-- the field is one of the input type, and becomes a value at its type
pub record IsSoundField (args : List ArgDef) (g : Given ArgValue) : Type 0 where
  pub def : ArgDef
  pub found : arg_named args g.name ≡ Some def
  pub value : ArgValue
  pub is : g.at (ty_of def.ty) ≡ Ok value

known_all : (args : List ArgDef) (given : List (Given ArgValue)) → Each (IsSoundField args) given → has_unknown args given ≡ false
known_all args [] h = refl
known_all args (g ∷ given) h = ap (λ o. is_none o || has_unknown args given) h.0.found ∙ known_all args given h.1

found_ok : (args : List ArgDef) (given : List (Given ArgValue)) (d : ArgDef) (c : Coercion ArgValue) → Each (IsSoundField args) given → IsKnown args d → given_for given d ≡ Some c → (a : ArgValue) × (c ≡ Ok a)
found_ok args [] d c h known e = absurd (no_some c e)
found_ok args (g ∷ given) d c h known e = by (bytes_eq g.name d.name) refl e (found_ok args given d c h.1 known)
  where
    by : (b : Bool) → bytes_eq g.name d.name ≡ b → (if b then Some (g.at (ty_of d.ty)) else given_for given d) ≡ Some c → (given_for given d ≡ Some c → (a : ArgValue) × (c ≡ Ok a)) → (a : ArgValue) × (c ≡ Ok a)
    by true same f later =
        let def_is : h.0.def ≡ d = some_is h.0.def d (sym h.0.found ∙ ap (arg_named args) (same_bytes g.name d.name same) ∙ known.found) in
        (h.0.value, sym (some_is (g.at (ty_of d.ty)) c f) ∙ ap (λ (x : ArgDef). g.at (ty_of x.ty)) (sym def_is) ∙ h.0.is)
    by false same f later = later f

-- a definition of a non-null type is given
abbrev IsMet : List (Given ArgValue) → ArgDef → Type 0
IsMet given d = (d.ty.not_null ≡ true) → given_for given d ≡ None → ⊥

one_ok : (args : List ArgDef) (given : List (Given ArgValue)) (d : ArgDef) (o : Option (Coercion ArgValue)) → Each (IsSoundField args) given → IsKnown args d → IsMet given d → given_for given d ≡ o
    → (m : Option ArgMember) × (member_at (member d.name) d.ty.not_null o ≡ Ok m)
one_ok args given d None h known met e = by d.ty.not_null refl
  where
    by : (b : Bool) → d.ty.not_null ≡ b → (m : Option ArgMember) × (member_at (member d.name) b None ≡ Ok m)
    by true n = absurd (met n e)
    by false n = (None, refl)
one_ok args given d (Some c) h known met e =
    let k = found_ok args given d c h known e in
    let made : map_ok (λ x. Some (member d.name x)) c ≡ Ok (Some (member d.name k.0)) = ap (map_ok (λ x. Some (member d.name x))) k.1 in
    (Some (member d.name k.0), by d.ty.not_null made)
  where
    by : (b : Bool) {m : Option ArgMember} → map_ok (λ x. Some (member d.name x)) c ≡ Ok m → member_at (member d.name) b (Some c) ≡ Ok m
    by true e = e
    by false e = e

both_ok : (c : Coercion (Option ArgMember)) (rest : Coercion (List ArgMember)) (m : Option ArgMember) (ms : List ArgMember) → c ≡ Ok m → rest ≡ Ok ms → (l : List ArgMember) × (and_some c rest ≡ Ok l)
both_ok c rest None ms e f = (ms, ap (λ x. and_some x rest) e ∙ f)
both_ok c rest (Some x) ms e f = (x ∷ ms, ap (λ y. and_some y rest) e ∙ ap (and_some (Ok (Some x))) f)

members_ok : (args : List ArgDef) (given : List (Given ArgValue)) (defs : List ArgDef) → Each (IsSoundField args) given → Each (IsKnown args) defs → Each (IsMet given) defs → (ms : List ArgMember) × (members_at member defs given ≡ Ok ms)
members_ok args given [] h known met = ([], refl)
members_ok args given (d ∷ defs) h known met =
    let first = one_ok args given d (given_for given d) h known.0 met.0 refl in
    let rest = members_ok args given defs h known.1 met.1 in
    both_ok (member_at (member d.name) d.ty.not_null (given_for given d)) (members_at member defs given) first.0 rest.0 first.1 rest.1

-- what isn't given in an object has no field there
absent : {n : _} (schema : SchemaParts) (members : Row_of-ObjectField n) (d : ArgDef) → given_for (literal_fields schema members) d ≡ None → gives members d.name ≡ false
absent schema end_of-ObjectField d e = refl
absent schema (more_of-ObjectField name k at here rest) d e = by (bytes_eq name d.name) refl e (absent schema rest d)
  where
    by : (b : Bool) → bytes_eq name d.name ≡ b → (if b then Some (literal_at schema k (ty_of d.ty)) else given_for (literal_fields schema rest) d) ≡ None → (given_for (literal_fields schema rest) d ≡ None → gives rest d.name ≡ false)
        → ((bytes_eq name d.name && not (is_null k)) || gives rest d.name) ≡ false
    by true same f later = absurd (no_some (literal_at schema k (ty_of d.ty)) (sym f))
    by false same f later = ap (λ b. (b && not (is_null k)) || gives rest d.name) same ∙ later f

all_met : {n : _} (schema : SchemaParts) (members : Row_of-ObjectField n) (defs : List ArgDef) → lacks members defs ≡ false → Each (IsMet (literal_fields schema members)) defs
all_met schema members [] e = tt
all_met schema members (d ∷ defs) e = (
  λ non_null none.
      let here : (d.ty.not_null && not (gives members d.name)) ≡ true = ap (λ b. b && not (gives members d.name)) non_null ∙ ap not (absent schema members d none) in
      not_both (d.ty.not_null && not (gives members d.name)) here (or_left (d.ty.not_null && not (gives members d.name)) (lacks members defs) e),
  all_met schema members defs (or_right (d.ty.not_null && not (gives members d.name)) (lacks members defs) e),
)

-- ---- literals

-- the literal becomes a value at the type, and its variables fit there
pub record IsSound (schema : SchemaParts) (vars : Vars) (r : TypeRef) (k : ValueKind) : Type 0 where
  pub value : ArgValue
  pub is : literal_at schema k (ty_of r) ≡ Ok value
  pub uses : UsesFit schema vars r k

pub record AreSound {n : _} (schema : SchemaParts) (vars : Vars) (r : TypeRef) (items : Row_of-Value n) : Type 0 where
  pub values : List ArgValue
  pub is : literals_at schema items (ty_of r) ≡ Ok values
  pub uses : ItemsFit schema vars r items

pub record AreSoundFields {n : _} (schema : SchemaParts) (vars : Vars) (args : List ArgDef) (members : Row_of-ObjectField n) : Type 0 where
  pub each : Each (IsSoundField args) (literal_fields schema members)
  pub uses : FieldsFit schema vars args members

abbrev if_lacks : {n : _} → Row_of-ObjectField n → Option (List ArgDef) → Bool
if_lacks members o = if_some (lacks members) o

module _ (schema : SchemaParts) (document : Document) (valid : IsValidDocument schema document) (distinct : HasDistinctInputs schema) (vars : Vars) (within : ℕ)
    (used : (i : ℕ) (r : TypeRef) (name : List ℕ) (at : Pos) → slice_get (nodes schema document) i ≡ Some (record { within = within; node = at_value (Some (ty_of r)) (Variable name) at }) → IfSome (variable vars name) (IsOf schema r)) where
  abbrev Front : List At → Type 0
  Front made = IsFront (nodes schema document) made

  fits_there : (i : ℕ) (r : TypeRef) (k : ValueKind) (at : Pos) → slice_get (nodes schema document) i ≡ Some (record { within = within; node = at_value (Some (ty_of r)) k at }) → fits schema k (ty_of r) ≡ true
  fits_there i r k at e = must (fits schema k (ty_of r)) (valid (on_scopes scope.ValuesOfCorrectType) i (record { within = within; node = at_value (Some (ty_of r)) k at }) e)

  leaf_sound : (r : TypeRef) (k : ValueKind) (c : Coercion Leaf) → literal_at schema k (ty_of r) ≡ leaf_at (ty_of r) c → UsesFit schema vars r k → is_ok c ≡ true → IsSound schema vars r k
  leaf_sound r k c e u h = let ok = leaf_ok (ty_of r) c h in record { value = ok.0; is = e ∙ ok.1; uses = u }

  list_sound : (r : TypeRef) (n : _) (items : _) → r.list ≡ true → AreSound schema vars (item_type r) items → IsSound schema vars r (List' n items)
  list_sound r n items flag h = record {
    value = many h.values;
    is = ap (λ o. list_at many o (literals_at schema items)) (item_is r flag) ∙ ap (map_ok many) h.is;
    uses = h.uses;
  }

  object_sound : (r : TypeRef) (n : _) (members : _) (args : List ArgDef) → reads_at schema (innermost (ty_of r)) ≡ fields args → kind_at schema (innermost (ty_of r)) ≡ kind.Input args
      → lacks members args ≡ false → AreSoundFields schema vars args members → IsSound schema vars r (Object' n members)
  object_sound r n members args of_is input full h =
      let given : List (Given ArgValue) = literal_fields schema members in
      let ms = members_ok args given args h.each (all_known args (distinct (innermost (ty_of r)) args input)) (all_met schema members args full) in
      let whole : fields_at member args given ≡ Ok ms.0 = ap (λ b. if b then Err unknown_field else members_at member args given) (known_all args given h.each) ∙ ms.1 in
      record {
        value = in_lists one (ty_of r) (argument.Object ms.0);
        is = ap (λ o. map_ok (in_lists one (ty_of r)) (object_at o given)) of_is ∙ ap (λ c. map_ok (in_lists one (ty_of r)) (map_ok argument.Object c)) whole;
        uses = subst (λ (l : List ArgDef). FieldsFit schema vars l members) (sym (ap (λ m. inputs_of (kind_at schema m)) (sym (innermost_of r)) ∙ ap inputs_of input)) h.uses;
      }

  field_sound : (args : List ArgDef) (i : ℕ) (repeated : Bool) (name : List ℕ) (at : Pos) → slice_get (nodes schema document) i ≡ Some (record { within = within; node = at_object_field repeated (Some args) name at }) → (d : ArgDef) × (arg_named args name ≡ Some d)
  field_sound args i repeated name at e =
      is_there (arg_named args name) (never (is_none (arg_named args name)) (valid (on_scopes scope.InputObjectFieldNames) i (record { within = within; node = at_object_field repeated (Some args) name at }) e))

  mutual
    pub literal_sound : (k : ValueKind) (r : TypeRef) (at : Pos) (list : List At) → Front (put_value schema within (Some (ty_of r)) k at list) → IsSound schema vars r k
    literal_sound (Variable name) r at list p =
        record { value = argument.Variable name; is = refl; uses = used (length list) r name at (stands_there (nodes schema document) within (at_value (Some (ty_of r)) (Variable name) at) list p) }
    literal_sound (Int digits) r at list p =
        leaf_sound r (Int digits) (spelled_at (reads_at schema (innermost (ty_of r))) digits) refl tt (fits_there (length list) r (Int digits) at (stands_there (nodes schema document) within _ list p))
    literal_sound (Float digits) r at list p = false_true (fits_there (length list) r (Float digits) at (stands_there (nodes schema document) within _ list p))
    literal_sound (String chars) r at list p =
        leaf_sound r (String chars) (string_at (reads_at schema (innermost (ty_of r))) chars) refl tt (fits_there (length list) r (String chars) at (stands_there (nodes schema document) within _ list p))
    literal_sound (Boolean b) r at list p =
        leaf_sound r (Boolean b) (boolean_at (reads_at schema (innermost (ty_of r))) b) refl tt (fits_there (length list) r (Boolean b) at (stands_there (nodes schema document) within _ list p))
    literal_sound Null r at list p =
        record { value = argument.Null; is = null_ok (ty_of r) (fits_there (length list) r Null at (stands_there (nodes schema document) within _ list p)); uses = tt }
    literal_sound (Enum name) r at list p =
        leaf_sound r (Enum name) (case_at (reads_at schema (innermost (ty_of r))) name) refl tt (fits_there (length list) r (Enum name) at (stands_there (nodes schema document) within _ list p))
    literal_sound (List' n items) r at list p =
        let x : Node = at_value (Some (ty_of r)) (List' n items) at in
        let next : List At = put within x list in
        let front : Front next = front_before (nodes schema document) next _ (items_grow schema within (item_of (ty_of r)) items next) p in
        let flag = list_flag r (fits_there (length list) r (List' n items) at (stands_there (nodes schema document) within x list front)) in
        list_sound r n items flag (items_sound items (item_type r) next (subst (λ o. Front (put_items schema within o items next)) (item_is r flag) p))
    literal_sound (Object' n members) r at list p =
        let x : Node = at_value (Some (ty_of r)) (Object' n members) at in
        let next : List At = put within x list in
        let front : Front next = front_before (nodes schema document) next _ (fields_grow schema within [] (inputs_at schema (Some (ty_of r))) members next) p in
        let there = stands_there (nodes schema document) within x list front in
        let a = has_args (reads_at schema (innermost (ty_of r))) (fits_there (length list) r (Object' n members) at there) in
        let input = reads_input schema (innermost (ty_of r)) a.0 a.1 in
        let inputs : inputs_at schema (Some (ty_of r)) ≡ Some a.0 = ap inputs_in input in
        object_sound r n members a.0 a.1 input
        (never (lacks members a.0) (λ h. valid (on_scopes scope.InputObjectRequiredFields) (length list) (record { within = within; node = x }) there (ap (if_lacks members) inputs ∙ h)))
        (fields_sound [] members a.0 next (subst (λ o. Front (put_object_fields schema within [] o members next)) inputs p))

    items_sound : {n : _} (items : Row_of-Value n) (r : TypeRef) (list : List At) → Front (put_items schema within (Some (ty_of r)) items list) → AreSound schema vars r items
    items_sound end_of-Value r list p = record { values = []; is = refl; uses = tt }
    items_sound (more_of-Value k at rest) r list p =
        let next : List At = put_value schema within (Some (ty_of r)) k at list in
        let first = literal_sound k r at list (front_before (nodes schema document) next _ (items_grow schema within (Some (ty_of r)) rest next) p) in
        let later = items_sound rest r next p in
        record {
          values = first.value ∷ later.values;
          is = ap (λ c. and_more c (literals_at schema rest (ty_of r))) first.is ∙ ap (and_more (Ok first.value)) later.is;
          uses = (first.uses, later.uses);
        }

    fields_sound : {n : _} (before : List (List ℕ)) (members : Row_of-ObjectField n) (args : List ArgDef) (list : List At) → Front (put_object_fields schema within before (Some args) members list) → AreSoundFields schema vars args members
    fields_sound before end_of-ObjectField args list p = record { each = tt; uses = tt }
    fields_sound before (more_of-ObjectField name k place at rest) args list p =
        let x : Node = at_object_field (is_among name before) (Some args) name at in
        let put_x : List At = put within x list in
        let next : List At = put_value schema within (expected (Some args) name) k place put_x in
        let front : Front next = front_before (nodes schema document) next _ (fields_grow schema within (with_name before name) (Some args) rest next) p in
        let d = field_sound args (length list) (is_among name before) name at (stands_there (nodes schema document) within x list (front_before (nodes schema document) put_x next (value_grows schema within (expected (Some args) name) k place put_x) front)) in
        let first = literal_sound k d.0.ty place put_x (subst (λ o. Front (put_value schema within o k place put_x)) (ap (option_map (λ (y : ArgDef). ty_of y.ty)) d.1) front) in
        let later = fields_sound (with_name before name) rest args next p in
        record {
          each = (record { def = d.0; found = d.1; value = first.value; is = first.is }, later.each);
          uses = (subst (λ (q : TypeRef). UsesFit schema vars q k) (sym (type_found args name d.0 d.1)) first.uses, later.uses);
        }
