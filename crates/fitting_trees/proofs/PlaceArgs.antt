-- The arguments of a place are those of the field's node, at their definitions' types.
use Rattle.std.proofs.Common.{◌≡◌, ◌<◌, ℕ, zero, suc, ◌+◌, Bool, true, false, not, ◌&&◌, ◌||◌, List, [], ◌∷◌, map, Option, Some, None, Ok, Err, is_some, refl, sym, ap, ◌∙◌, subst, arith, eq-eqb, ne_eqb}
use Rattle.std.specs.Prelude.{slice_get, if◌then◌else◌, IfSome, ⊤, ◌==◌}
use Rattle.std.specs.List.{list_any}
use Rattle.std.specs.Str.{bytes_eq}
use Rattle.pg_base.specs.Lists.{Each, AreDistinct}
use Rattle.pg_base.specs.Schema.{SchemaParts}
use Rattle.pg_base.specs.Vars.{variable}
use Rattle.pg_base.specs.declared.schema.ArgDef.{ArgDef}
use Rattle.pg_base.specs.declared.vars.Vars.{Vars}
use Rattle.gql_reader.specs.declared.tree.Argument.{Argument}
use Rattle.gql_reader.specs.declared.tree.Value as tree
use Rattle.gql_reader.specs.declared.tree.ValueKind.{ValueKind, Variable, Int, Float, String, Boolean, Null, Enum, List', Object'}
use Rattle.gql_types.specs.Types.{Ty, named, list_of, item_of, innermost, is_not_null, ty_of, expected}
use Rattle.gql_nodes.specs.Names.{is_among, with_name}
use Rattle.gql_nodes.specs.Nodes.{At, at_argument, put, put_value, put_argument, put_arguments}
use Rattle.gql_input.specs.declared.argument.ArgMember.{ArgMember}
use Rattle.gql_input.specs.declared.argument.ArgValue.{ArgValue}
use Rattle.gql_input.specs.declared.argument.ArgValue.TheVariants as argument
use Rattle.gql_input.specs.declared.argument.ArgValue.TheBlock.{hidden-the_row-ArgValue-0, hidden-the_row-ArgMember-1}
use Rattle.gql_input.specs.Arguments.{value_with}
use Rattle.gql_input.specs.Coercions.{Coercion, Given, wrong_kind, null_given, in_lists, list_at}
use Rattle.gql_input.specs.Inputs.{reads_at}
use Rattle.gql_input.specs.Leaves.{Leaf, number, truth, words, one_of, as_argument, boolean_at, spelled_at, string_at, case_at}
use Rattle.gql_input.specs.Literals.{one, many, member, leaf_at, object_at, literal_at, literals_at, literal_fields}
use Rattle.gql_validate.specs.RequiredArguments.{is_null, gives}
use Rattle.place_tree.specs.Arguments.{written}
use Rattle.place_tree.specs.declared.place.PlaceArg.{PlaceArg}
use Rattle.gql_collect.specs.Asking.{argument_in}
use Rattle.gql_collect.specs.Growing.{with_literal, with_arg, args_from}
use Rattle.step_plan.specs.Planned.{HasFieldsOnce, names_in}
use Rattle.fitting_trees.proofs.Named.{same_bytes, some_is, no_some, all_known}
use Rattle.fitting_trees.proofs.Leaves.{ok_is, err_ok}
use Rattle.fitting_trees.proofs.Suited.{false_true}
use Rattle.fitting_trees.proofs.Fields.{reads_input, map_ok_parts, OnGiven, all_made, known_fields}
use Rattle.fitting_trees.proofs.GivenValues.{HasDistinctInputs}
use Rattle.fitting_trees.proofs.LiteralValues.{object_parts}
use Rattle.fitting_trees.proofs.Growth.{IsFront, front_before, arguments_grow}

-- ---- what is written for an argument

args_after : (schema : SchemaParts) (arguments : List Argument) (start j : ℕ) (defs : List ArgDef) → j < start → written (args_from schema arguments start defs) j ≡ None
args_after schema arguments start j [] lt = refl
args_after schema arguments start j (d ∷ defs) lt = with_none (argument_in arguments d.name) (args_from schema arguments (start + 1) defs) (args_after schema arguments (start + 1) j defs (omega arith))
  where
    other : (start == j) ≡ false
    other = ne_eqb start j (omega arith)

    coerced_none : (c : Coercion ArgValue) (rest : List PlaceArg) → written rest j ≡ None → written (with_literal start c rest) j ≡ None
    coerced_none (Ok v) rest h = ap (λ b. if b then Some v else written rest j) other ∙ h
    coerced_none (Err n) rest h = h

    with_none : (o : Option tree.Value) (rest : List PlaceArg) → written rest j ≡ None → written (with_arg schema start d o rest) j ≡ None
    with_none None rest h = h
    with_none (Some v) rest h = coerced_none (literal_at schema v.kind (ty_of d.ty)) rest h

-- what a literal gives, if it is given
abbrev pub of_coerced : Coercion ArgValue → Option ArgValue
of_coerced (Ok v) = Some v
of_coerced (Err n) = None

abbrev pub of_literal : SchemaParts → ArgDef → Option tree.Value → Option ArgValue
of_literal schema d None = None
of_literal schema d (Some v) = of_coerced (literal_at schema v.kind (ty_of d.ty))

written_here : (schema : SchemaParts) (k : ℕ) (d : ArgDef) (o : Option tree.Value) (rest : List PlaceArg) → written rest k ≡ None → written (with_arg schema k d o rest) k ≡ of_literal schema d o
written_here schema k d None rest h = h
written_here schema k d (Some v) rest h = by (literal_at schema v.kind (ty_of d.ty))
  where
    by : (c : Coercion ArgValue) → written (with_literal k c rest) k ≡ of_coerced c
    by (Ok x) = ap (λ b. if b then Some x else written rest k) (eq-eqb k k refl)
    by (Err n) = h

written_later : (schema : SchemaParts) (k j : ℕ) (d : ArgDef) (o : Option tree.Value) (rest : List PlaceArg) → k < j → written (with_arg schema k d o rest) j ≡ written rest j
written_later schema k j d None rest lt = refl
written_later schema k j d (Some v) rest lt = by (literal_at schema v.kind (ty_of d.ty))
  where
    by : (c : Coercion ArgValue) → written (with_literal k c rest) j ≡ written rest j
    by (Ok x) = ap (λ b. if b then Some x else written rest j) (ne_eqb k j (omega (arith, lt)))
    by (Err n) = refl

written_from : (schema : SchemaParts) (arguments : List Argument) (start k : ℕ) (defs : List ArgDef) (d : ArgDef) → slice_get defs k ≡ Some d → written (args_from schema arguments start defs) (start + k) ≡ of_literal schema d (argument_in arguments d.name)
written_from schema arguments start k [] d e = absurd (no_some d e)
written_from schema arguments start zero (x ∷ defs) d e =
    let here : start + 0 ≡ start = omega arith in
    let lt : start < start + 1 = omega arith in
    ap (written (args_from schema arguments start (x ∷ defs))) here
    ∙ written_here schema start x (argument_in arguments x.name) (args_from schema arguments (start + 1) defs) (args_after schema arguments (start + 1) start defs lt)
    ∙ ap (λ (y : ArgDef). of_literal schema y (argument_in arguments y.name)) (some_is x d e)
written_from schema arguments start (suc k) (x ∷ defs) d e =
    let lt : start < start + suc k = omega arith in
    let on : start + suc k ≡ start + 1 + k = omega arith in
    written_later schema start (start + suc k) x (argument_in arguments x.name) (args_from schema arguments (start + 1) defs) lt
    ∙ ap (written (args_from schema arguments (start + 1) defs)) on
    ∙ written_from schema arguments (start + 1) k defs d e

pub written_is : (schema : SchemaParts) (arguments : List Argument) (k : ℕ) (defs : List ArgDef) (d : ArgDef) → slice_get defs k ≡ Some d → written (args_from schema arguments 0 defs) k ≡ of_literal schema d (argument_in arguments d.name)
written_is schema arguments k defs d e = let at : k ≡ 0 + k = omega arith in ap (written (args_from schema arguments 0 defs)) at ∙ written_from schema arguments 0 k defs d e

-- ---- which value of the document it is

module _ (all : List At) (schema : SchemaParts) (within : ℕ) where
  pub record StandsAt (ty : Option Ty) (v : tree.Value) : Type 0 where
    pub list : List At
    pub front : IsFront all (put_value schema within ty v.kind v.pos list)

  pub argument_stands : (before : List (List ℕ)) (defs : Option (List ArgDef)) (arguments : List Argument) (list : List At) (name : List ℕ) (v : tree.Value) → argument_in arguments name ≡ Some v → IsFront all (put_arguments schema within before defs arguments list)
      → StandsAt (expected defs name) v
  argument_stands before defs [] list name v e p = absurd (no_some v e)
  argument_stands before defs (a ∷ arguments) list name v e p =
      by (bytes_eq a.name name) refl e (λ f. argument_stands (with_name before a.name) defs arguments (put_argument schema within (is_among a.name before) defs a list) name v f p)
    where
      here : bytes_eq a.name name ≡ true → StandsAt (expected defs name) a.value
      here same =
          let x : List At = put within (at_argument (is_among a.name before) defs a) list in
          let stands : StandsAt (expected defs a.name) a.value = record {
            list = x;
            front = front_before all _ _ (arguments_grow schema within (with_name before a.name) defs arguments (put_argument schema within (is_among a.name before) defs a list)) p;
          } in
          subst (λ (n : List ℕ). StandsAt (expected defs n) a.value) (same_bytes a.name name same) stands

      by : (b : Bool) → bytes_eq a.name name ≡ b → (if b then Some a.value else argument_in arguments name) ≡ Some v → (argument_in arguments name ≡ Some v → StandsAt (expected defs name) v) → StandsAt (expected defs name) v
      by true same f later = subst (StandsAt (expected defs name)) (some_is a.value v f) (here same)
      by false same f later = later f

-- an argument that is given without null is there
pub gives_some : (arguments : List Argument) (name : List ℕ) → list_any (gives name) arguments ≡ true → argument_in arguments name ≡ None → ⊥
gives_some [] name h e = false_true h
gives_some (a ∷ arguments) name h e = by (bytes_eq a.name name) h e (gives_some arguments name)
  where
    by : (b : Bool) → ((b && not (is_null a.value.kind)) || list_any (gives name) arguments) ≡ true → (if b then Some a.value else argument_in arguments name) ≡ None → (list_any (gives name) arguments ≡ true → argument_in arguments name ≡ None → ⊥) → ⊥
    by true h f later = no_some a.value (sym f)
    by false h f later = later h f

-- ---- what isn't a variable is given

module _ (vars : Vars) where
  abbrev IsGiven : ArgValue → Type 0
  IsGiven a = is_some (value_with vars a) ≡ true

  leaf_given : (l : Leaf) → IsGiven (as_argument l)
  leaf_given (number z) = refl
  leaf_given (truth b) = refl
  leaf_given (words t) = refl
  leaf_given (one_of name) = refl

  list_given : (xs : List ArgValue) → IsGiven (argument.List xs)
  unfolding hidden-the_row-ArgValue-0 denote.Hole.Carrier.hidden
  list_given xs = refl

  object_given : (ms : List ArgMember) → IsGiven (argument.Object ms)
  unfolding hidden-the_row-ArgMember-1 denote.Hole.Carrier.hidden
  object_given ms = refl

  wrapped_given : (t : Ty) (a : ArgValue) → IsGiven a → IsGiven (in_lists one t a)
  wrapped_given (named n b) a h = h
  wrapped_given (list_of u b) a h = list_given (in_lists one u a ∷ [])

  leaf_at_given : (t : Ty) (c : Coercion Leaf) (a : ArgValue) → leaf_at t c ≡ Ok a → IsGiven a
  leaf_at_given t c a e = let m = map_ok_parts (λ l. in_lists one t (as_argument l)) c a e in subst IsGiven m.is (wrapped_given t (as_argument m.from) (leaf_given m.from))

  list_at_given : (o : Option Ty) (items : Ty → Coercion (List ArgValue)) (a : ArgValue) → list_at many o items ≡ Ok a → IsGiven a
  list_at_given None items a e = err_ok wrong_kind a e
  list_at_given (Some u) items a e = let m = map_ok_parts many (items u) a e in subst IsGiven m.is (list_given m.from)

  null_at_given : (b : Bool) (a : ArgValue) → (if b then Err null_given else Ok argument.Null) ≡ Ok a → IsGiven a
  null_at_given true a e = err_ok null_given a e
  null_at_given false a e = subst IsGiven (ok_is argument.Null a e) refl

  -- a literal that becomes a value is given, if its variable is where it is one
  pub literal_given : (schema : SchemaParts) (k : ValueKind) (t : Ty) (a : ArgValue) → ((name : List ℕ) → k ≡ Variable name → is_some (variable vars name) ≡ true) → literal_at schema k t ≡ Ok a → IsGiven a
  literal_given schema (Variable name) t a sure e = subst IsGiven (ok_is (argument.Variable name) a e) (sure name refl)
  literal_given schema (Int digits) t a sure e = leaf_at_given t (spelled_at (reads_at schema (innermost t)) digits) a e
  literal_given schema (Float digits) t a sure e = err_ok wrong_kind a e
  literal_given schema (String chars) t a sure e = leaf_at_given t (string_at (reads_at schema (innermost t)) chars) a e
  literal_given schema (Boolean b) t a sure e = leaf_at_given t (boolean_at (reads_at schema (innermost t)) b) a e
  literal_given schema Null t a sure e = null_at_given (is_not_null t) a e
  literal_given schema (Enum name) t a sure e = leaf_at_given t (case_at (reads_at schema (innermost t)) name) a e
  literal_given schema (List' _ items) t a sure e = list_at_given (item_of t) (literals_at schema items) a e
  literal_given schema (Object' _ members) t a sure e =
      let m = map_ok_parts (in_lists one t) (object_at (reads_at schema (innermost t)) (literal_fields schema members)) a e in
      let o = object_parts (reads_at schema (innermost t)) (literal_fields schema members) m.from m.from_is in
      subst IsGiven m.is (wrapped_given t m.from (subst IsGiven o.is (object_given o.members)))

-- ---- no field twice

leaf_once : (l : Leaf) → HasFieldsOnce (as_argument l)
leaf_once (number z) = tt
leaf_once (truth b) = tt
leaf_once (words t) = tt
leaf_once (one_of name) = tt

list_once : (xs : List ArgValue) → HasFieldsOnce (argument.List xs)
unfolding hidden-the_row-ArgValue-0 denote.Hole.Carrier.hidden
list_once xs = tt

names_row : (ms : List ArgMember) → names_in (hidden-the_row-ArgMember-1 ms) ≡ map (λ m. m.name) ms
unfolding hidden-the_row-ArgMember-1 denote.Hole.Carrier.hidden
names_row [] = refl
names_row (m ∷ ms) = ap (λ l. m.name ∷ l) (names_row ms)

object_once : (ms : List ArgMember) → AreDistinct (map (λ m. m.name) ms) → HasFieldsOnce (argument.Object ms)
unfolding hidden-the_row-ArgMember-1 denote.Hole.Carrier.hidden
object_once ms d = subst (λ (l : List (List ℕ)). AreDistinct l) (sym (names_row ms)) d

wrapped_once : (t : Ty) (a : ArgValue) → HasFieldsOnce a → HasFieldsOnce (in_lists one t a)
wrapped_once (named n b) a h = h
wrapped_once (list_of u b) a h = list_once (in_lists one u a ∷ [])

leaf_at_once : (t : Ty) (c : Coercion Leaf) (a : ArgValue) → leaf_at t c ≡ Ok a → HasFieldsOnce a
leaf_at_once t c a e = let m = map_ok_parts (λ l. in_lists one t (as_argument l)) c a e in subst HasFieldsOnce m.is (wrapped_once t (as_argument m.from) (leaf_once m.from))

list_at_once : (o : Option Ty) (items : Ty → Coercion (List ArgValue)) (a : ArgValue) → list_at many o items ≡ Ok a → HasFieldsOnce a
list_at_once None items a e = err_ok wrong_kind a e
list_at_once (Some u) items a e = let m = map_ok_parts many (items u) a e in subst HasFieldsOnce m.is (list_once m.from)

null_at_once : (b : Bool) (a : ArgValue) → (if b then Err null_given else Ok argument.Null) ≡ Ok a → HasFieldsOnce a
null_at_once true a e = err_ok null_given a e
null_at_once false a e = subst HasFieldsOnce (ok_is argument.Null a e) tt

right_given : (args : List ArgDef) (given : List (Given ArgValue)) → Each (OnGiven member (λ (m : ArgMember). ⊤) args) given
right_given args [] = tt
right_given args (g ∷ given) = (λ d x known same e. tt, right_given args given)

literal_once : (schema : SchemaParts) → HasDistinctInputs schema → (k : ValueKind) (t : Ty) (a : ArgValue) → literal_at schema k t ≡ Ok a → HasFieldsOnce a
literal_once schema distinct (Variable name) t a e = subst HasFieldsOnce (ok_is (argument.Variable name) a e) tt
literal_once schema distinct (Int digits) t a e = leaf_at_once t (spelled_at (reads_at schema (innermost t)) digits) a e
literal_once schema distinct (Float digits) t a e = err_ok wrong_kind a e
literal_once schema distinct (String chars) t a e = leaf_at_once t (string_at (reads_at schema (innermost t)) chars) a e
literal_once schema distinct (Boolean b) t a e = leaf_at_once t (boolean_at (reads_at schema (innermost t)) b) a e
literal_once schema distinct Null t a e = null_at_once (is_not_null t) a e
literal_once schema distinct (Enum name) t a e = leaf_at_once t (case_at (reads_at schema (innermost t)) name) a e
literal_once schema distinct (List' _ items) t a e = list_at_once (item_of t) (literals_at schema items) a e
literal_once schema distinct (Object' _ members) t a e =
    let given : List (Given ArgValue) = literal_fields schema members in
    let m = map_ok_parts (in_lists one t) (object_at (reads_at schema (innermost t)) given) a e in
    let o = object_parts (reads_at schema (innermost t)) given m.from m.from_is in
    let apart = distinct (innermost t) o.args (reads_input schema (innermost t) o.args o.of_is) in
    let made = all_made member (λ (x : ArgMember). x.name) (λ (x : ArgMember). ⊤) o.args (λ n x. refl) given (right_given o.args given) o.args o.members (all_known o.args apart) (known_fields member o.args given o.members o.made).1 in
    subst HasFieldsOnce m.is (wrapped_once t m.from (subst HasFieldsOnce o.is (object_once o.members (made.distinct apart))))

module _ (schema : SchemaParts) (distinct : HasDistinctInputs schema) where
  coerced_once : (k j : ℕ) (c : Coercion ArgValue) (rest : List PlaceArg) → ((a : ArgValue) → c ≡ Ok a → HasFieldsOnce a) → IfSome (written rest j) HasFieldsOnce → IfSome (written (with_literal k c rest) j) HasFieldsOnce
  coerced_once k j (Err n) rest f h = h
  coerced_once k j (Ok a) rest f h = by (k == j)
    where
      by : (b : Bool) → IfSome (if b then Some a else written rest j) HasFieldsOnce
      by true = f a refl
      by false = h

  arg_once : (k j : ℕ) (d : ArgDef) (o : Option tree.Value) (rest : List PlaceArg) → IfSome (written rest j) HasFieldsOnce → IfSome (written (with_arg schema k d o rest) j) HasFieldsOnce
  arg_once k j d None rest h = h
  arg_once k j d (Some v) rest h = coerced_once k j (literal_at schema v.kind (ty_of d.ty)) rest (λ a e. literal_once schema distinct v.kind (ty_of d.ty) a e) h

  pub args_once : (arguments : List Argument) (start j : ℕ) (defs : List ArgDef) → IfSome (written (args_from schema arguments start defs) j) HasFieldsOnce
  args_once arguments start j [] = tt
  args_once arguments start j (d ∷ defs) = arg_once start j d (argument_in arguments d.name) (args_from schema arguments (start + 1) defs) (args_once arguments (start + 1) j defs)
