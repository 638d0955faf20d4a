-- What is given for a variable becomes a value of its type.
use Rattle.std.proofs.Common.{◌≡◌, ℕ, Bool, true, false, List, [], ◌∷◌, Ok, Err, refl, sym, ap, subst, ◌∙◌}
use Rattle.std.specs.Prelude.{if◌then◌else◌}
use Rattle.serde_json.specs.Data.{Data, null, boolean as boolean_given, number, string, array, object}
use Rattle.serde_json.specs.Data.{Items, no_items, item, Members, no_members, member as member_given}
use Rattle.serde_json.specs.Find.{as_i64}
use Rattle.pg_base.specs.Lists.{Each, AreDistinct}
use Rattle.pg_base.specs.Schema.{SchemaParts, kind_at, inputs_of}
use Rattle.pg_base.specs.declared.schema.ArgDef.{ArgDef}
use Rattle.pg_base.specs.declared.schema.TypeKind.TheVariants as kind
use Rattle.pg_base.specs.declared.schema.TypeRef.{TypeRef}
use Rattle.pg_base.specs.declared.value.Member.{Member}
use Rattle.pg_base.specs.declared.value.Value.{Value}
use Rattle.pg_base.specs.declared.value.Value.TheVariants as value
use Rattle.gql_types.specs.Types.{Ty, named, list_of, innermost, is_not_null, ty_of}
use Rattle.gql_input.specs.Coercions.{Coercion, Given, wrong_kind, null_given, map_ok, and_more, in_lists, fields_at}
use Rattle.gql_input.specs.Given.{one, many, member, leaf_at, object_at, given_at, items_at, given_fields}
use Rattle.gql_input.specs.Inputs.{Reads, int, big_int, text, boolean, cases, fields, nothing, reads_at, has_fields}
use Rattle.gql_input.specs.Leaves.{Leaf, as_value, boolean_at, number_at, json_string_at}
use Rattle.place_tree.specs.Arguments.{item_type}
use Rattle.plan_steps.specs.Fitting.{IsOf}
use Rattle.fitting_trees.proofs.Named.{arg_names, all_known}
use Rattle.fitting_trees.proofs.Leaves.{ok_is, err_ok, Fit, boolean_fits, number_fits, json_string_fits}
use Rattle.fitting_trees.proofs.Suited.{Suits, suits_itself, list_is_of, object_is_of, wrapped_is_of, leaf_in_lists, MemberIsOf}
use Rattle.fitting_trees.proofs.Fields.{reads_input, map_ok_parts, OnGiven, all_made, known_fields}

-- no two fields of an input type have one name
abbrev pub HasDistinctInputs : SchemaParts → Type 0
HasDistinctInputs schema = (n : ℕ) (args : List ArgDef) → kind_at schema n ≡ kind.Input args → AreDistinct (arg_names args)

pub record IsObjectOf (of : Reads) (given : List (Given Value)) (x : Value) : Type 0 where
  pub args : List ArgDef
  pub members : List Member
  pub of_is : of ≡ fields args
  pub made : fields_at member args given ≡ Ok members
  pub is : value.Object members ≡ x

object_parts : (of : Reads) (given : List (Given Value)) (x : Value) → object_at of given ≡ Ok x → IsObjectOf of given x
object_parts int given x e = err_ok wrong_kind x e
object_parts big_int given x e = err_ok wrong_kind x e
object_parts text given x e = err_ok wrong_kind x e
object_parts boolean given x e = err_ok wrong_kind x e
object_parts (cases names) given x e = err_ok wrong_kind x e
object_parts (fields args) given x e =
    let m = map_ok_parts value.Object (fields_at member args given) x e in
    record { args = args; members = m.from; of_is = refl; made = m.from_is; is = m.is }
object_parts nothing given x e = err_ok wrong_kind x e

module _ (schema : SchemaParts) (distinct : HasDistinctInputs schema) where
  abbrev pub IsRight : (Ty → Coercion Value) → Type 0
  IsRight at = (t : Ty) (r : TypeRef) (v : Value) → Suits t r → at t ≡ Ok v → IsOf schema r v

  null_right : (t : Ty) (r : TypeRef) (v : Value) → (b : Bool) → (if b then Err null_given else Ok value.Null) ≡ Ok v → IsOf schema r v
  null_right t r v true e = err_ok null_given v e
  null_right t r v false e = subst (IsOf schema r) (ok_is value.Null v e) tt

  leaf_right : (t : Ty) (r : TypeRef) (v : Value) (c : Coercion Leaf) → Suits t r → Fit (reads_at schema (innermost t)) c → leaf_at t c ≡ Ok v → IsOf schema r v
  leaf_right t r v c s f e =
      let m = map_ok_parts (λ l. in_lists one t (as_value l)) c v e in
      subst (IsOf schema r) m.is (leaf_in_lists schema t r m.from s (f m.from m.from_is))

  list_right : (r : TypeRef) (v : Value) (c : Coercion (List Value)) → r.list ≡ true → ((vs : List Value) → c ≡ Ok vs → Each (IsOf schema (item_type r)) vs) → map_ok many c ≡ Ok v → IsOf schema r v
  list_right r v c flag h e =
      let m = map_ok_parts many c v e in
      subst (IsOf schema r) m.is (list_is_of schema r m.from flag (h m.from m.from_is))

  given_right : (args : List ArgDef) (g : Given Value) → IsRight g.at → OnGiven member (MemberIsOf schema args) args g
  given_right args g h d x known same e = subst (λ (q : TypeRef). IsOf schema q x) (sym known.type_is) (h (ty_of d.ty) d.ty x (suits_itself d.ty) e)

  all_right : (args : List ArgDef) (given : List (Given Value)) → Each (λ g. IsRight g.at) given → Each (OnGiven member (MemberIsOf schema args) args) given
  all_right args [] h = tt
  all_right args (g ∷ given) h = (given_right args g h.0, all_right args given h.1)

  object_right : (t : Ty) (r : TypeRef) (v : Value) (given : List (Given Value)) → Suits t r → Each (λ g. IsRight g.at) given
      → map_ok (in_lists one t) (object_at (reads_at schema (innermost t)) given) ≡ Ok v → IsOf schema r v
  object_right t r v given s h e =
      let m = map_ok_parts (in_lists one t) (object_at (reads_at schema (innermost t)) given) v e in
      let o = object_parts (reads_at schema (innermost t)) given m.from m.from_is in
      let input = reads_input schema (innermost t) o.args o.of_is in
      let apart = distinct (innermost t) o.args input in
      let made = all_made member (λ (x : Member). x.name) (MemberIsOf schema o.args) o.args (λ n x. refl) given (all_right o.args given h) o.args o.members (all_known o.args apart) (known_fields member o.args given o.members o.made).1 in
      subst (IsOf schema r) m.is (wrapped_is_of schema t r m.from s (λ q flat is.
      subst (IsOf schema q) o.is (object_is_of schema q o.members flat (ap (λ n. has_fields (reads_at schema n)) (sym is) ∙ ap has_fields o.of_is)
      (subst (λ (l : List ArgDef). Each (MemberIsOf schema l) o.members) (sym (ap (λ n. inputs_of (kind_at schema n)) (sym is) ∙ ap inputs_of input)) made.each) (made.distinct apart))))

  more_items : (t : Ty) (r : TypeRef) (vs : List Value) (c : Coercion Value) (rest : Coercion (List Value)) → ((v : Value) → c ≡ Ok v → IsOf schema r v) → ((l : List Value) → rest ≡ Ok l → Each (IsOf schema r) l)
      → and_more c rest ≡ Ok vs → Each (IsOf schema r) vs
  more_items t r vs (Err n) rest f g e = err_ok n vs e
  more_items t r vs (Ok v) (Err n) f g e = err_ok n vs e
  more_items t r vs (Ok v) (Ok l) f g e = subst (Each (IsOf schema r)) (ok_is (v ∷ l) vs e) (f v refl, g l refl)

  mutual
    pub given_is_of : (d : Data) → IsRight (given_at schema d)
    given_is_of null t r v s e = null_right t r v (is_not_null t) e
    given_is_of (boolean_given b) t r v s e = leaf_right t r v (boolean_at (reads_at schema (innermost t)) b) s (boolean_fits (reads_at schema (innermost t)) b) e
    given_is_of (number n) t r v s e = leaf_right t r v (number_at (reads_at schema (innermost t)) (as_i64 n)) s (number_fits (reads_at schema (innermost t)) (as_i64 n)) e
    given_is_of (string words) t r v s e = leaf_right t r v (json_string_at (reads_at schema (innermost t)) words) s (json_string_fits (reads_at schema (innermost t)) words) e
    given_is_of (array items) (named n b) r v s e = err_ok wrong_kind v e
    given_is_of (array items) (list_of (named n b) c) r v s e =
        list_right r v (items_at schema items (named n b)) s.0 (λ vs h. items_are_of items (named n b) (item_type r) vs (refl, s.1) h) e
    given_is_of (array items) (list_of (list_of u b) c) r v s e = absurd s
    given_is_of (object members) t r v s e = object_right t r v (given_fields schema members) s (fields_are_of members) e

    items_are_of : (items : Items) (t : Ty) (r : TypeRef) (vs : List Value) → Suits t r → items_at schema items t ≡ Ok vs → Each (IsOf schema r) vs
    items_are_of no_items t r vs s e = subst (Each (IsOf schema r)) (ok_is [] vs e) tt
    items_are_of (item d rest) t r vs s e = more_items t r vs (given_at schema d t) (items_at schema rest t) (λ v h. given_is_of d t r v s h) (λ l h. items_are_of rest t r l s h) e

    fields_are_of : (members : Members) → Each (λ g. IsRight g.at) (given_fields schema members)
    fields_are_of no_members = tt
    fields_are_of (member_given name d rest) = (given_is_of d, fields_are_of rest)
