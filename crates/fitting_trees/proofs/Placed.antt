-- Each place that is collected from a valid document has arguments that fit.
use Rattle.std.proofs.Common.{◌≡◌, ℕ, zero, suc, ◌+◌, Bool, true, false, not, ◌&&◌, ◌||◌, cond, List, [], ◌∷◌, length, Option, Some, None, Ok, is_some, refl, sym, ap, ◌∙◌, subst, arith}
use Rattle.std.specs.Prelude.{slice_get, option_and_then, option_map, if◌then◌else◌, IfSome, find, codes}
use Rattle.std.specs.List.{list_any}
use Rattle.std.specs.Str.{bytes_eq}
use Rattle.pg_base.specs.Base.{BaseParts}
use Rattle.pg_base.specs.Lists.{Each, AreDistinct}
use Rattle.pg_base.specs.Schema.{SchemaParts, kind_at, fields_of, field_at, is_object}
use Rattle.pg_base.specs.declared.pos.Pos.{Pos}
use Rattle.pg_base.specs.declared.schema.ArgDef.{ArgDef}
use Rattle.pg_base.specs.declared.schema.FieldDef.{FieldDef}
use Rattle.pg_base.specs.declared.schema.TypeRef.{TypeRef}
use Rattle.pg_base.specs.declared.vars.Vars.{Vars}
use Rattle.gql_reader.specs.declared.tree.Document.{Document}
use Rattle.gql_reader.specs.declared.tree.Field.{Field}
use Rattle.gql_reader.specs.declared.tree.Selection.{Selection}
use Rattle.gql_reader.specs.declared.tree.Value as tree
use Rattle.gql_reader.specs.declared.tree.ValueKind.{ValueKind, Variable}
use Rattle.gql_types.specs.Types.{ty_of, expected}
use Rattle.gql_nodes.specs.Fields.{Known, known_of, field_among, field_named, below, args_of, typename_field}
use Rattle.gql_nodes.specs.Fields as on_nodes
use Rattle.gql_nodes.specs.Nodes.{at_field, at_value, At, put_value, nodes}
use Rattle.gql_nodes.specs.Uses.{Reaches}
use Rattle.gql_input.specs.declared.argument.ArgValue.{ArgValue}
use Rattle.gql_input.specs.Arguments.{value_with}
use Rattle.gql_input.specs.Literals.{literal_at}
use Rattle.gql_rules.specs.Rules.{IsValidDocument, on_shapes}
use Rattle.gql_validate.specs.declared.rule.ShapeRule.TheVariants as shape
use Rattle.gql_validate.specs.RequiredArguments.{gives, is_lacking, lacks}
use Rattle.gql_validate.specs.LeafFieldSelections.{are_unlike, selects_badly}
use Rattle.place_tree.specs.Arguments.{written, argument}
use Rattle.place_tree.specs.Fields.{typename}
use Rattle.place_tree.specs.declared.place.Place.{Place}
use Rattle.gql_collect.specs.Asking.{argument_in}
use Rattle.gql_collect.specs.Growing.{place_from, place_in, fields_at, number_of, args_in, args_from, place_of}
use Rattle.plan_steps.specs.Fitting.{IsOf, FitsArg, FitsPlace}
use Rattle.step_plan.specs.Planned.{HasFieldsOnce, HasOwnArgs}
use Rattle.schema_laws.proofs.Eaches.{Each-get}
use Rattle.fitting_trees.proofs.OwnArgs.{args_below}
use Rattle.fitting_trees.proofs.Named.{some_is, no_some, not_both, arg_names, IsKnown, all_known}
use Rattle.fitting_trees.proofs.Suited.{suits_itself, false_true}
use Rattle.fitting_trees.proofs.GivenValues.{HasDistinctInputs}
use Rattle.fitting_trees.proofs.LiteralValues.{literal_becomes}
use Rattle.fitting_trees.proofs.Growth.{IsFront, stands_there}
use Rattle.fitting_trees.proofs.SoundLiterals.{literal_sound, must, never}
use Rattle.fitting_trees.proofs.Uses.{IsUsed}
use Rattle.fitting_trees.proofs.Collecting.{Comes, StandsBelow}
use Rattle.fitting_trees.proofs.PlaceArgs.{of_coerced, of_literal, written_is, argument_stands, gives_some, literal_given, args_once}

-- ---- schemas

-- what is known of the names and numbers of a schema
pub record IsNamedSchema (schema : SchemaParts) : Type 0 where
  pub inputs : HasDistinctInputs schema
  pub arguments : (ty n : ℕ) (d : FieldDef) → field_at schema ty n ≡ Some d → AreDistinct (arg_names d.args)
  pub no_typename : (ty : ℕ) → field_at schema ty typename ≡ None

any_at : {A : Type 0} (test : A → Bool) (xs : List A) (k : ℕ) (x : A) → slice_get xs k ≡ Some x → list_any test xs ≡ false → test x ≡ false
any_at test [] k x e h = absurd (no_some x e)
any_at test (y ∷ xs) zero x e h = subst (λ z. test z ≡ false) (some_is y x e) (first (test y) (list_any test xs) h)
  where
    first : (a b : Bool) → (a || b) ≡ false → a ≡ false
    first true b h = h
    first false b h = refl
any_at test (y ∷ xs) (suc k) x e h = any_at test xs k x e (second (test y) (list_any test xs) h)
  where
    second : (a b : Bool) → (a || b) ≡ false → b ≡ false
    second true b h = false_true (sym h)
    second false b h = h

found_place : (fields : List FieldDef) (start n : ℕ) (name : List ℕ) → place_from start fields name ≡ Some n → (k : ℕ) × (start + k ≡ n) × ((d : FieldDef) → slice_get fields k ≡ Some d → find (λ f. bytes_eq f.name name) fields ≡ Some d)
found_place [] start n name e = absurd (no_some n e)
found_place (f ∷ fields) start n name e = by (bytes_eq f.name name) refl e (found_place fields (start + 1) n name)
  where
    by : (b : Bool) → bytes_eq f.name name ≡ b → (if b then Some start else place_from (start + 1) fields name) ≡ Some n
        → (place_from (start + 1) fields name ≡ Some n → (k : ℕ) × (start + 1 + k ≡ n) × ((d : FieldDef) → slice_get fields k ≡ Some d → find (λ f. bytes_eq f.name name) fields ≡ Some d))
        → (k : ℕ) × (start + k ≡ n) × ((d : FieldDef) → slice_get (f ∷ fields) k ≡ Some d → find (λ f. bytes_eq f.name name) (f ∷ fields) ≡ Some d)
    by true same h later =
        let at : start + 0 ≡ start = omega arith in
        (zero, at ∙ some_is start n h, λ d g. ap (λ b. cond b (Some f) (find (λ f. bytes_eq f.name name) fields)) same ∙ g)
    by false same h later =
        let r = later h in
        let on : start + suc r.0 ≡ start + 1 + r.0 = omega arith in
        (suc r.0, on ∙ r.1, λ d g. ap (λ b. cond b (Some f) (find (λ f. bytes_eq f.name name) fields)) same ∙ r.2 d g)

-- the field by its number is the field by its name
pub known_by_number : (schema : SchemaParts) → IsNamedSchema schema → (ty n : ℕ) (name : List ℕ) (d : FieldDef) → number_of schema ty name ≡ Some n → field_at schema ty n ≡ Some d → on_nodes.field_of schema (Some ty) name ≡ Some (known_of d)
known_by_number schema named ty n name d e at = by (bytes_eq name (codes "__typename")) e
  where
    by : (b : Bool) → (if b then Some typename else place_in (fields_at schema ty) name) ≡ Some n → (if b then Some typename_field else field_among (fields_of (kind_at schema ty)) name) ≡ Some (known_of d)
    by true h = absurd (no_some d (sym (named.no_typename ty) ∙ ap (field_at schema ty) (some_is typename n h) ∙ at))
    by false h =
        let r = found_place (fields_at schema ty) 0 n name h in
        let place : r.0 ≡ n = omega (arith, r.1) in
        ap (option_map known_of) (r.2 d (ap (slice_get (fields_at schema ty)) place ∙ at))

module _ (base : BaseParts) (named : IsNamedSchema base.schema) (document : Document) (valid : IsValidDocument base.schema document) (place : ℕ) (vars : Vars)
    (used : (within i : ℕ) (r : TypeRef) (name : List ℕ) (at : Pos) → Reaches (nodes base.schema document) document place within
    → slice_get (nodes base.schema document) i ≡ Some (record { within = within; node = at_value (Some (ty_of r)) (Variable name) at }) → IsUsed base.schema document valid vars r name) where
  -- an argument's value, of which all is known
  value_fits : (within : ℕ) → Reaches (nodes base.schema document) document place within → (a : ArgDef) (k : ValueKind) (at : Pos) (list : List At) → IsFront (nodes base.schema document) (put_value base.schema within (Some (ty_of a.ty)) k at list)
      → (v : ArgValue) × (literal_at base.schema k (ty_of a.ty) ≡ Ok v) × IfSome (value_with vars v) (IsOf base.schema a.ty) × (a.ty.not_null ≡ true → is_some (value_with vars v) ≡ true)
  value_fits within reach a k at list p =
      let all : List At = nodes base.schema document in
      let s = literal_sound base.schema document valid named.inputs vars within (λ i r name pos e. (used within i r name pos reach e).fits) k a.ty at list p in (
        s.value,
        s.is,
        literal_becomes base.schema vars named.inputs k (ty_of a.ty) a.ty s.value s.uses (suits_itself a.ty) s.is,
        λ n. literal_given vars base.schema k (ty_of a.ty) s.value
            (λ name is. (used within (length list) a.ty name at reach (stands_there all within (at_value (Some (ty_of a.ty)) (Variable name) at) list (subst (λ (x : ValueKind). IsFront all (put_value base.schema within (Some (ty_of a.ty)) x at list)) is p))).sure n) s.is,
      )

  module _ (Base : ℕ → Type 0) (ty : ℕ) (f : Field) (k : ℕ) (comes : Comes base.schema document place Base ty f k) (n : ℕ) (number : number_of base.schema ty f.name ≡ Some n) (parent : Option ℕ) (key : List ℕ) where
    arg_fits : (d : FieldDef) (arg : ℕ) (a : ArgDef) → field_at base.schema ty n ≡ Some d → slice_get d.args arg ≡ Some a → (p : Place) → p.args ≡ args_from base.schema f.arguments 0 d.args → FitsArg base.schema vars p arg a
    arg_fits d arg a is at p args = by (argument_in f.arguments a.name) refl
      where
        known : on_nodes.field_of base.schema (Some ty) f.name ≡ Some (known_of d)
        known = known_by_number base.schema named ty n f.name d number is

        given : (o : Option tree.Value) → argument_in f.arguments a.name ≡ o → argument vars p arg ≡ option_and_then (value_with vars) (of_literal base.schema a o)
        given o e = ap (λ l. option_and_then (value_with vars) (written l arg)) args ∙ ap (option_and_then (value_with vars)) (written_is base.schema f.arguments arg d.args a at ∙ ap (of_literal base.schema a) e)

        by : (o : Option tree.Value) → argument_in f.arguments a.name ≡ o → FitsArg base.schema vars p arg a
        by None e =
            let lacking : lacks f.arguments (args_of (on_nodes.field_of base.schema (Some ty) f.name)) ≡ false = never (lacks f.arguments (args_of (on_nodes.field_of base.schema (Some ty) f.name)))
            (λ h. valid (on_shapes shape.RequiredArguments) k (record { within = comes.within; node = at_field comes.owner (Some ty) (on_nodes.field_of base.schema (Some ty) f.name) f }) comes.stands (ap (λ b. b || false) h)) in
            let own : is_lacking f.arguments a ≡ false = any_at (is_lacking f.arguments) d.args arg a at (ap (λ o. lacks f.arguments (args_of o)) (sym known) ∙ lacking) in (
              subst (λ o. IfSome o (IsOf base.schema a.ty)) (sym (given None e)) tt,
              λ m. absurd (gives_some f.arguments a.name (must (list_any (gives a.name) f.arguments) (λ h. not_both (is_lacking f.arguments a) (ap (λ b. b && not (list_any (gives a.name) f.arguments)) m ∙ h) own)) e),
            )
        by (Some v) e =
            let all : List At = nodes base.schema document in
            let stands = argument_stands all base.schema comes.within [] (args_of (on_nodes.field_of base.schema (Some ty) f.name)) f.arguments comes.list a.name v e comes.arguments in
            let first = (Each-get (IsKnown d.args) d.args arg a (all_known d.args (named.arguments ty n d is)) at).found in
            let type_is : expected (args_of (on_nodes.field_of base.schema (Some ty) f.name)) a.name ≡ Some (ty_of a.ty) = ap (λ o. expected (args_of o) a.name) known ∙ ap (option_map (λ (x : ArgDef). ty_of x.ty)) first in
            let fits = value_fits comes.within comes.own.reach a v.kind v.pos stands.list (subst (λ o. IsFront all (put_value base.schema comes.within o v.kind v.pos stands.list)) type_is stands.front) in
            let value_is : argument vars p arg ≡ value_with vars fits.0 = given (Some v) e ∙ ap (λ c. option_and_then (value_with vars) (of_coerced c)) fits.1 in
            (subst (λ o. IfSome o (IsOf base.schema a.ty)) (sym value_is) fits.2, λ m. ap is_some value_is ∙ fits.3 m)

    place_fits : (p : Place) (o : Option FieldDef) → field_at base.schema ty n ≡ o → p.args ≡ args_from base.schema f.arguments 0 (args_in o) → IfSome o (λ d. (arg : ℕ) → IfSome (slice_get d.args arg) (FitsArg base.schema vars p arg))
    place_fits p None is args = tt
    place_fits p (Some d) is args = λ arg. by arg (slice_get d.args arg) refl
      where
        by : (arg : ℕ) (o : Option ArgDef) → slice_get d.args arg ≡ o → IfSome o (FitsArg base.schema vars p arg)
        by arg None at = tt
        by arg (Some a) at = arg_fits d arg a is at p args

    -- what is asked of each place
    pub placed : FitsPlace base vars (place_of base.schema parent ty key f n) × IfSome (written (place_of base.schema parent ty key f n).args 0) HasFieldsOnce × HasOwnArgs base.schema (place_of base.schema parent ty key f n)
    placed = (
      place_fits (place_of base.schema parent ty key f n) (field_at base.schema ty n) refl refl,
      args_once base.schema named.inputs f.arguments 0 0 (args_in (field_at base.schema ty n)),
      args_below base.schema f.arguments 0 (length (args_in (field_at base.schema ty n))) (args_in (field_at base.schema ty n)) (omega arith),
    )

    -- the selections below a field whose type is no object type
    below_by : (d : FieldDef) (b : Bool) (selections : List Selection) → is_object (kind_at base.schema d.ty.name) ≡ b → are_unlike b selections ≡ false → Each (StandsBelow base.schema document place comes.within k (if b then Some d.ty.name else None)) selections
        → Each (StandsBelow base.schema document place comes.within k (Some d.ty.name)) selections
    below_by d true selections is fit h = h
    below_by d false [] is fit h = tt
    below_by d false (s ∷ selections) is fit h = false_true (sym fit)

    -- what the field's selections stand on
    pub below_stand : (d : FieldDef) → field_at base.schema ty n ≡ Some d → Each (StandsBelow base.schema document place comes.within k (Some d.ty.name)) f.selections
    below_stand d is =
        let known = known_by_number base.schema named ty n f.name d number is in
        let fit : selects_badly base.schema (on_nodes.field_of base.schema (Some ty) f.name) f.selections ≡ false = never (selects_badly base.schema (on_nodes.field_of base.schema (Some ty) f.name) f.selections)
        (λ h. valid (on_shapes shape.LeafFieldSelections) k (record { within = comes.within; node = at_field comes.owner (Some ty) (on_nodes.field_of base.schema (Some ty) f.name) f }) comes.stands h) in
        below_by d (is_object (kind_at base.schema d.ty.name)) f.selections refl (ap (λ o. selects_badly base.schema o f.selections) (sym known) ∙ fit)
        (subst (λ o. Each (StandsBelow base.schema document place comes.within k (below base.schema o)) f.selections) known comes.selections)
