-- What a literal becomes at a type is a value of the type, with any variables that fit where they stand.
use Rattle.std.proofs.Common.{◌≡◌, ◌≢◌, ℕ, Bool, true, false, List, [], ◌∷◌, map, Option, Some, None, Ok, Err, refl, sym, ap, subst, ◌∙◌}
use Rattle.std.specs.Prelude.{if◌then◌else◌, IfSome, unwrap_or, ⊤}
use Rattle.pg_base.specs.Lists.{Each, AreDistinct}
use Rattle.pg_base.specs.Schema.{SchemaParts, kind_at, inputs_of}
use Rattle.pg_base.specs.Vars.{variable}
use Rattle.pg_base.specs.declared.schema.ArgDef.{ArgDef}
use Rattle.pg_base.specs.declared.schema.TypeRef.{TypeRef}
use Rattle.pg_base.specs.declared.value.Member.{Member}
use Rattle.pg_base.specs.declared.value.Value.{Value}
use Rattle.pg_base.specs.declared.value.Value.TheVariants as value
use Rattle.pg_base.specs.declared.vars.Vars.{Vars}
use Rattle.gql_reader.specs.declared.tree.ValueKind.{ValueKind, Variable, Int, Float, String, Boolean, Null, Enum}
use Rattle.gql_reader.specs.declared.tree.ValueKind.{List', Object'}
use Rattle.gql_reader.specs.declared.tree.ValueKind.{Row_of-Value, end_of-Value, more_of-Value}
use Rattle.gql_reader.specs.declared.tree.ValueKind.{Row_of-ObjectField, end_of-ObjectField, more_of-ObjectField}
use Rattle.gql_types.specs.Types.{Ty, named, list_of, innermost, is_not_null, ty_of}
use Rattle.gql_input.specs.declared.argument.ArgMember.{ArgMember}
use Rattle.gql_input.specs.declared.argument.ArgValue.{ArgValue}
use Rattle.gql_input.specs.declared.argument.ArgValue.TheVariants as argument
use Rattle.gql_input.specs.Arguments.{value_with, and_given, no_vars, constant}
use Rattle.gql_input.specs.Coercions.{Coercion, Given, wrong_kind, null_given, map_ok, and_more, in_lists, fields_at}
use Rattle.gql_input.specs.Inputs.{Reads, int, big_int, text, boolean, cases, fields, nothing, reads_at, has_fields}
use Rattle.gql_input.specs.Leaves.{Leaf, number, truth, words, one_of, as_value, as_argument, boolean_at, spelled_at, string_at, case_at}
use Rattle.gql_input.specs.Listed.{each_value, each_member}
use Rattle.gql_input.specs.Literals.{one, many, member, leaf_at, object_at, literal_at, literals_at, literal_fields}
use Rattle.gql_input.proofs.ArgumentFacts.{list_is, object_is}
use Rattle.place_tree.specs.Arguments.{item_type, type_in}
use Rattle.plan_steps.specs.Fitting.{IsOf}
use Rattle.fitting_trees.proofs.Named.{all_known}
use Rattle.fitting_trees.proofs.Leaves.{ok_is, err_ok, Fit, boolean_fits, integer_text_fits, string_fits, case_fits}
use Rattle.fitting_trees.proofs.Suited.{Suits, suits_itself, LeafFits, list_is_of, object_is_of, leaf_is_of, MemberIsOf}
use Rattle.fitting_trees.proofs.Fields.{reads_input, map_ok_parts, OnGiven, all_made, known_fields}
use Rattle.fitting_trees.proofs.GivenValues.{HasDistinctInputs}

-- ---- variables where they stand

-- each variable of a literal at a type fits where it stands
abbrev mutual
  pub UsesFit : SchemaParts → Vars → TypeRef → ValueKind → Type 0
  UsesFit schema vars r (Variable name) = IfSome (variable vars name) (IsOf schema r)
  UsesFit schema vars r (Int t) = ⊤
  UsesFit schema vars r (Float t) = ⊤
  UsesFit schema vars r (String t) = ⊤
  UsesFit schema vars r (Boolean b) = ⊤
  UsesFit schema vars r Null = ⊤
  UsesFit schema vars r (Enum name) = ⊤
  UsesFit schema vars r (List' _ items) = ItemsFit schema vars (item_type r) items
  UsesFit schema vars r (Object' _ members) = FieldsFit schema vars (inputs_of (kind_at schema r.name)) members

  pub ItemsFit : {n : _} → SchemaParts → Vars → TypeRef → Row_of-Value n → Type 0
  ItemsFit schema vars r end_of-Value = ⊤
  ItemsFit schema vars r (more_of-Value k at rest) = UsesFit schema vars r k × ItemsFit schema vars r rest

  pub FieldsFit : {n : _} → SchemaParts → Vars → List ArgDef → Row_of-ObjectField n → Type 0
  FieldsFit schema vars inputs end_of-ObjectField = ⊤
  FieldsFit schema vars inputs (more_of-ObjectField name k at here rest) =
      UsesFit schema vars (type_in inputs name) k × FieldsFit schema vars inputs rest

mutual
  pub no_uses : (schema : SchemaParts) (r : TypeRef) (k : ValueKind) → UsesFit schema no_vars r k
  no_uses schema r (Variable name) = tt
  no_uses schema r (Int t) = tt
  no_uses schema r (Float t) = tt
  no_uses schema r (String t) = tt
  no_uses schema r (Boolean b) = tt
  no_uses schema r Null = tt
  no_uses schema r (Enum name) = tt
  no_uses schema r (List' _ items) = no_item_uses schema (item_type r) items
  no_uses schema r (Object' _ members) = no_field_uses schema (inputs_of (kind_at schema r.name)) members

  no_item_uses : {n : _} (schema : SchemaParts) (r : TypeRef) (items : Row_of-Value n) → ItemsFit schema no_vars r items
  no_item_uses schema r end_of-Value = tt
  no_item_uses schema r (more_of-Value k at rest) = (no_uses schema r k, no_item_uses schema r rest)

  no_field_uses : {n : _} (schema : SchemaParts) (inputs : List ArgDef) (members : Row_of-ObjectField n) → FieldsFit schema no_vars inputs members
  no_field_uses schema inputs end_of-ObjectField = tt
  no_field_uses schema inputs (more_of-ObjectField name k at here rest) = (no_uses schema (type_in inputs name) k, no_field_uses schema inputs rest)

-- ---- values with variables

pub record IsObjectOf (of : Reads) (given : List (Given ArgValue)) (x : ArgValue) : Type 0 where
  pub args : List ArgDef
  pub members : List ArgMember
  pub of_is : of ≡ fields args
  pub made : fields_at member args given ≡ Ok members
  pub is : argument.Object members ≡ x

pub object_parts : (of : Reads) (given : List (Given ArgValue)) (x : ArgValue) → object_at of given ≡ Ok x → IsObjectOf of given x
object_parts int given x e = err_ok wrong_kind x e
object_parts big_int given x e = err_ok wrong_kind x e
object_parts text given x e = err_ok wrong_kind x e
object_parts boolean given x e = err_ok wrong_kind x e
object_parts (cases names) given x e = err_ok wrong_kind x e
object_parts (fields args) given x e =
    let m = map_ok_parts argument.Object (fields_at member args given) x e in
    record { args = args; members = m.from; of_is = refl; made = m.from_is; is = m.is }
object_parts nothing given x e = err_ok wrong_kind x e

pub if_given : (schema : SchemaParts) (r : TypeRef) (o : Option Value) → IfSome o (IsOf schema r) → IsOf schema r (unwrap_or o value.Null)
if_given schema r None h = tt
if_given schema r (Some v) h = h

module _ (schema : SchemaParts) (vars : Vars) where
  -- with the variables it is of the type, if it is given
  abbrev pub Becomes : TypeRef → ArgValue → Type 0
  Becomes r a = IfSome (value_with vars a) (IsOf schema r)

  leaf_becomes : (r : TypeRef) (l : Leaf) → IsOf schema r (as_value l) → Becomes r (as_argument l)
  leaf_becomes r (number z) h = h
  leaf_becomes r (truth b) h = h
  leaf_becomes r (words t) h = h
  leaf_becomes r (one_of name) h = h

  items_become : (r : TypeRef) (xs : List ArgValue) → Each (Becomes r) xs → Each (IsOf schema r) (each_value vars xs)
  items_become r [] h = tt
  items_become r (x ∷ xs) h = (if_given schema r (value_with vars x) h.0, items_become r xs h.1)

  list_becomes : (r : TypeRef) (xs : List ArgValue) → r.list ≡ true → Each (Becomes (item_type r)) xs → Becomes r (argument.List xs)
  list_becomes r xs flag h =
      subst (λ o. IfSome o (IsOf schema r)) (list_is vars (argument.List xs) xs xs (each_value vars xs) refl refl refl)
      (list_is_of schema r (each_value vars xs) flag (items_become (item_type r) xs h))

  abbrev pub MemberBecomes : List ArgDef → ArgMember → Type 0
  MemberBecomes inputs m = Becomes (type_in inputs m.name) m.value

  record AreGiven (inputs : List ArgDef) (ms : List ArgMember) (made : List Member) : Type 0 where
    pub each : Each (MemberIsOf schema inputs) made
    pub apart : (n : List ℕ) → Each (λ y. n ≢ y) (map (λ m. m.name) ms) → Each (λ y. n ≢ y) (map (λ m. m.name) made)
    pub distinct : AreDistinct (map (λ m. m.name) ms) → AreDistinct (map (λ m. m.name) made)

  one_given : (inputs : List ArgDef) (m : ArgMember) (ms : List ArgMember) (made : List Member) (o : Option Value) → IfSome o (IsOf schema (type_in inputs m.name)) → AreGiven inputs ms made
      → AreGiven inputs (m ∷ ms) (and_given m.name o made)
  one_given inputs m ms made None h k = record { each = k.each; apart = λ n d. k.apart n d.1; distinct = λ d. k.distinct d.1 }
  one_given inputs m ms made (Some v) h k =
      record { each = (h, k.each); apart = λ n d. (d.0, k.apart n d.1); distinct = λ d. (k.apart m.name d.0, k.distinct d.1) }

  members_become : (inputs : List ArgDef) (ms : List ArgMember) → Each (MemberBecomes inputs) ms → AreGiven inputs ms (each_member vars ms)
  members_become inputs [] h = record { each = tt; apart = λ n d. tt; distinct = λ d. tt }
  members_become inputs (m ∷ ms) h = one_given inputs m ms (each_member vars ms) (value_with vars m.value) h.0 (members_become inputs ms h.1)

  object_becomes : (r : TypeRef) (ms : List ArgMember) → r.list ≡ false → has_fields (reads_at schema r.name) ≡ true → Each (MemberBecomes (inputs_of (kind_at schema r.name))) ms → AreDistinct (map (λ m. m.name) ms) → Becomes r (argument.Object ms)
  object_becomes r ms flat reads h d =
      let given = members_become (inputs_of (kind_at schema r.name)) ms h in
      subst (λ o. IfSome o (IsOf schema r)) (object_is vars (argument.Object ms) ms ms (each_member vars ms) refl refl refl)
      (object_is_of schema r (each_member vars ms) flat reads given.each (given.distinct d))

  wrapped_becomes : (t : Ty) (r : TypeRef) (a : ArgValue) → Suits t r → ((q : TypeRef) → q.list ≡ false → innermost t ≡ q.name → Becomes q a) → Becomes r (in_lists one t a)
  wrapped_becomes (named n b) r a s h = h r s.0 s.1
  wrapped_becomes (list_of (named n b) c) r a s h = list_becomes r (a ∷ []) s.0 (h (item_type r) refl s.1, tt)
  wrapped_becomes (list_of (list_of u b) c) r a s h = absurd s

  -- ---- literals

  abbrev pub IsRight : (TypeRef → Type 0) → (Ty → Coercion ArgValue) → Type 0
  IsRight Uses at = (t : Ty) (r : TypeRef) (a : ArgValue) → Uses r → Suits t r → at t ≡ Ok a → Becomes r a

  leaf_right : (t : Ty) (r : TypeRef) (a : ArgValue) (c : Coercion Leaf) → Suits t r → Fit (reads_at schema (innermost t)) c → leaf_at t c ≡ Ok a → Becomes r a
  leaf_right t r a c s f e =
      let m = map_ok_parts (λ l. in_lists one t (as_argument l)) c a e in
      subst (Becomes r) m.is (wrapped_becomes t r (as_argument m.from) s (λ q flat is.
      leaf_becomes q m.from (leaf_is_of schema q m.from flat (subst (λ n. LeafFits (reads_at schema n) m.from) is (f m.from m.from_is)))))

  null_right : (r : TypeRef) (a : ArgValue) (b : Bool) → (if b then Err null_given else Ok argument.Null) ≡ Ok a → Becomes r a
  null_right r a true e = err_ok null_given a e
  null_right r a false e = subst (Becomes r) (ok_is argument.Null a e) tt

  list_right : (r : TypeRef) (a : ArgValue) (c : Coercion (List ArgValue)) → r.list ≡ true → ((xs : List ArgValue) → c ≡ Ok xs → Each (Becomes (item_type r)) xs) → map_ok many c ≡ Ok a → Becomes r a
  list_right r a c flag h e =
      let m = map_ok_parts many c a e in
      subst (Becomes r) m.is (list_becomes r m.from flag (h m.from m.from_is))

  more_items : (r : TypeRef) (xs : List ArgValue) (c : Coercion ArgValue) (rest : Coercion (List ArgValue)) → ((a : ArgValue) → c ≡ Ok a → Becomes r a) → ((l : List ArgValue) → rest ≡ Ok l → Each (Becomes r) l)
      → and_more c rest ≡ Ok xs → Each (Becomes r) xs
  more_items r xs (Err n) rest f g e = err_ok n xs e
  more_items r xs (Ok a) (Err n) f g e = err_ok n xs e
  more_items r xs (Ok a) (Ok l) f g e = subst (Each (Becomes r)) (ok_is (a ∷ l) xs e) (f a refl, g l refl)

  -- a field that is given, among the inputs
  abbrev pub IsRightField : List ArgDef → Given ArgValue → Type 0
  IsRightField inputs g = (t : Ty) (a : ArgValue) → Suits t (type_in inputs g.name) → g.at t ≡ Ok a → Becomes (type_in inputs g.name) a

  field_given : (args : List ArgDef) (g : Given ArgValue) → IsRightField args g → OnGiven member (MemberBecomes args) args g
  field_given args g h d x known same e =
      let type_is : type_in args g.name ≡ d.ty = ap (type_in args) same ∙ known.type_is in
      subst (λ n. Becomes (type_in args n) x) same (h (ty_of d.ty) x (subst (Suits (ty_of d.ty)) (sym type_is) (suits_itself d.ty)) e)

  fields_given : (args : List ArgDef) (given : List (Given ArgValue)) → Each (IsRightField args) given → Each (OnGiven member (MemberBecomes args) args) given
  fields_given args [] h = tt
  fields_given args (g ∷ given) h = (field_given args g h.0, fields_given args given h.1)

  innermost_is : (t : Ty) (r : TypeRef) → Suits t r → innermost t ≡ r.name
  innermost_is (named n b) r s = s.1
  innermost_is (list_of (named n b) c) r s = s.1
  innermost_is (list_of (list_of u b) c) r s = absurd s

  module _ (distinct : HasDistinctInputs schema) where
    object_right : (t : Ty) (r : TypeRef) (a : ArgValue) (given : List (Given ArgValue)) → Suits t r → Each (IsRightField (inputs_of (kind_at schema r.name))) given
        → map_ok (in_lists one t) (object_at (reads_at schema (innermost t)) given) ≡ Ok a → Becomes r a
    object_right t r a given s h e =
        let m = map_ok_parts (in_lists one t) (object_at (reads_at schema (innermost t)) given) a e in
        let o = object_parts (reads_at schema (innermost t)) given m.from m.from_is in
        let input = reads_input schema (innermost t) o.args o.of_is in
        let apart = distinct (innermost t) o.args input in
        let inputs : inputs_of (kind_at schema r.name) ≡ o.args = ap (λ n. inputs_of (kind_at schema n)) (sym (innermost_is t r s)) ∙ ap inputs_of input in
        let right = subst (λ (l : List ArgDef). Each (IsRightField l) given) inputs h in
        let made = all_made member (λ (x : ArgMember). x.name) (MemberBecomes o.args) o.args (λ n x. refl) given (fields_given o.args given right) o.args o.members (all_known o.args apart) (known_fields member o.args given o.members o.made).1 in
        subst (Becomes r) m.is (wrapped_becomes t r m.from s (λ q flat is.
        subst (Becomes q) o.is (object_becomes q o.members flat (ap (λ n. has_fields (reads_at schema n)) (sym is) ∙ ap has_fields o.of_is)
        (subst (λ (l : List ArgDef). Each (MemberBecomes l) o.members) (sym (ap (λ n. inputs_of (kind_at schema n)) (sym is) ∙ ap inputs_of input)) made.each) (made.distinct apart))))

    mutual
      pub literal_becomes : (k : ValueKind) → IsRight (λ r. UsesFit schema vars r k) (literal_at schema k)
      literal_becomes (Variable name) t r a u s e = subst (Becomes r) (ok_is (argument.Variable name) a e) u
      literal_becomes (Int digits) t r a u s e = leaf_right t r a (spelled_at (reads_at schema (innermost t)) digits) s (integer_text_fits (reads_at schema (innermost t)) digits) e
      literal_becomes (Float digits) t r a u s e = err_ok wrong_kind a e
      literal_becomes (String chars) t r a u s e = leaf_right t r a (string_at (reads_at schema (innermost t)) chars) s (string_fits (reads_at schema (innermost t)) chars) e
      literal_becomes (Boolean b) t r a u s e = leaf_right t r a (boolean_at (reads_at schema (innermost t)) b) s (boolean_fits (reads_at schema (innermost t)) b) e
      literal_becomes Null t r a u s e = null_right r a (is_not_null t) e
      literal_becomes (Enum name) t r a u s e = leaf_right t r a (case_at (reads_at schema (innermost t)) name) s (case_fits (reads_at schema (innermost t)) name) e
      literal_becomes (List' _ items) (named n b) r a u s e = err_ok wrong_kind a e
      literal_becomes (List' _ items) (list_of (named n b) c) r a u s e =
          list_right r a (literals_at schema items (named n b)) s.0 (λ xs h. literals_become items (named n b) (item_type r) xs u (refl, s.1) h) e
      literal_becomes (List' _ items) (list_of (list_of v b) c) r a u s e = absurd s
      literal_becomes (Object' _ members) t r a u s e = object_right t r a (literal_fields schema members) s (fields_become (inputs_of (kind_at schema r.name)) members u) e

      literals_become : {n : _} (items : Row_of-Value n) (t : Ty) (r : TypeRef) (xs : List ArgValue) → ItemsFit schema vars r items → Suits t r → literals_at schema items t ≡ Ok xs → Each (Becomes r) xs
      literals_become end_of-Value t r xs u s e = subst (Each (Becomes r)) (ok_is [] xs e) tt
      literals_become (more_of-Value k at rest) t r xs u s e =
          more_items r xs (literal_at schema k t) (literals_at schema rest t) (λ a h. literal_becomes k t r a u.0 s h) (λ l h. literals_become rest t r l u.1 s h) e

      fields_become : {n : _} (inputs : List ArgDef) (members : Row_of-ObjectField n) → FieldsFit schema vars inputs members → Each (IsRightField inputs) (literal_fields schema members)
      fields_become inputs end_of-ObjectField u = tt
      fields_become inputs (more_of-ObjectField name k at here rest) u =
          (λ t a s e. literal_becomes k t (type_in inputs name) a u.0 s e, fields_become inputs rest u.1)

-- a default, which has no variables
pub constant_is_of : (schema : SchemaParts) → HasDistinctInputs schema → (k : ValueKind) (t : Ty) (r : TypeRef) (a : ArgValue) → Suits t r → literal_at schema k t ≡ Ok a → IsOf schema r (constant a)
constant_is_of schema distinct k t r a s e =
    if_given schema r (value_with no_vars a) (literal_becomes schema no_vars distinct k t r a (no_uses schema r k) s e)
