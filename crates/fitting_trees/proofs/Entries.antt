-- What a coerced variable holds is of its type, and it holds something where its type or its default asks for it.
use Rattle.std.proofs.Common.{◌≡◌, ◌≢◌, ◌⊎◌, ℕ, Bool, true, false, cond, List, [], ◌∷◌, map, Option, Some, None, Result, Ok, Err, is_some, inl, inr, refl, sym, ap, subst, ◌∙◌}
use Rattle.std.specs.Prelude.{if◌then◌else◌, IfSome, find}
use Rattle.std.specs.Str.{bytes_eq}
use Rattle.serde_json.specs.Data.{Data}
use Rattle.serde_json.specs.Find.{get}
use Rattle.pg_base.specs.Lists.{Each, AreDistinct}
use Rattle.pg_base.specs.Schema.{SchemaParts}
use Rattle.pg_base.specs.Vars.{value_in}
use Rattle.pg_base.specs.declared.schema.TypeRef.{TypeRef}
use Rattle.pg_base.specs.declared.value.Value.{Value}
use Rattle.pg_base.specs.declared.vars.Variable.{Variable}
use Rattle.pg_base.specs.declared.vars.Vars.{Vars}
use Rattle.gql_reader.specs.declared.tree.Value as tree
use Rattle.gql_reader.specs.declared.tree.OperationDefinition.{OperationDefinition}
use Rattle.gql_reader.specs.declared.tree.VariableDefinition.{VariableDefinition}
use Rattle.gql_types.specs.Types.{Ty, ty_written, is_not_null}
use Rattle.gql_input.specs.declared.fault.VarFault.{VarFault}
use Rattle.gql_input.specs.Arguments.{constant}
use Rattle.gql_input.specs.Coerced.{by_default, entry_at, entry_if, entry_of, named, entries_of, as_vars, coerced}
use Rattle.gql_input.specs.Coercions.{Coercion, missing}
use Rattle.gql_input.specs.Given.{given_at}
use Rattle.gql_input.specs.Literals.{literal_at}
use Rattle.plan_steps.specs.Fitting.{IsOf}
use Rattle.fitting_trees.proofs.Named.{same_bytes, other_bytes, some_is, no_some}
use Rattle.fitting_trees.proofs.Leaves.{ok_is, err_ok}
use Rattle.fitting_trees.proofs.Suited.{Suits, false_true}
use Rattle.fitting_trees.proofs.Fields.{map_ok_parts, and_some_parts}
use Rattle.fitting_trees.proofs.GivenValues.{HasDistinctInputs, given_is_of}
use Rattle.fitting_trees.proofs.LiteralValues.{constant_is_of}

-- the type takes no null, or there is a default
abbrev pub IsSure : Ty → Option tree.Value → Type 0
IsSure t default = (is_not_null t ≡ true) ⊎ (is_some default ≡ true)

-- what is held fits the type
pub record Holds (schema : SchemaParts) (t : Ty) (default : Option tree.Value) (o : Option Value) : Type 0 where
  pub fits : (r : TypeRef) → Suits t r → IfSome o (IsOf schema r)
  pub sure : IsSure t default → is_some o ≡ true

module _ (schema : SchemaParts) (distinct : HasDistinctInputs schema) where
  default_holds : (t : Ty) (default : Option tree.Value) (o : Option Value) → by_default schema t default ≡ Ok o → Holds schema t default o
  default_holds t (Some literal) o e =
      let m = map_ok_parts (λ v. Some (constant v)) (literal_at schema literal.kind t) o e in
      subst (Holds schema t (Some literal)) m.is (record {
        fits = λ r s. constant_is_of schema distinct literal.kind t r m.from s m.from_is;
        sure = λ h. refl;
      })
  default_holds t None o e = by (is_not_null t) refl e
    where
      by : (b : Bool) → is_not_null t ≡ b → (if b then Err missing else Ok None) ≡ Ok o → Holds schema t None o
      by true h f = err_ok missing o f
      by false h f = subst (Holds schema t None) (ok_is None o f) (record {
        fits = λ r s. tt;
        sure = λ k. elim k [ inl y ↦ false_true (sym h ∙ y) | inr y ↦ false_true y ];
      })

  entry_holds : (t : Ty) (default : Option tree.Value) (d : Option Data) (o : Option Value) → entry_at schema default d t ≡ Ok o → Holds schema t default o
  entry_holds t default None o e = default_holds t default o e
  entry_holds t default (Some d) o e =
      let m = map_ok_parts (λ v. Some v) (given_at schema d t) o e in
      subst (Holds schema t default) m.is (record {
        fits = λ r s. given_is_of schema distinct d t r m.from s m.from_is;
        sure = λ h. refl;
      })

  entry_if_holds : (t : Ty) (default : Option tree.Value) (d : Option Data) (ty : Option Ty) (o : Option Value) → ty ≡ Some t → entry_if schema default d ty ≡ Ok o → Holds schema t default o
  entry_if_holds t default d None o is e = absurd (no_some t is)
  entry_if_holds t default d (Some u) o is e = entry_holds t default d o (subst (λ (x : Ty). entry_at schema default d x ≡ Ok o) (some_is u t is) e)

  -- ---- all entries

  abbrev pub variable_names : List VariableDefinition → List (List ℕ)
  variable_names variables = map (λ v. v.name) variables

  abbrev pub variable_of : List VariableDefinition → List ℕ → Option VariableDefinition
  variable_of variables name = find (λ v. bytes_eq v.name name) variables

  -- what is held for a name is what its definition asks for; for a name without one nothing is
  pub record AreHeld (variables : List VariableDefinition) (entries : List Variable) : Type 0 where
    pub held : (name : List ℕ) (v : VariableDefinition) (t : Ty) → variable_of variables name ≡ Some v → ty_written schema v.ty ≡ Some t → Holds schema t v.default (value_in entries name)
    pub none : (name : List ℕ) → Each (λ n. name ≢ n) (variable_names variables) → value_in entries name ≡ None

  -- the entry that one definition gives
  abbrev IsEntry : VariableDefinition → Option Value → Type 0
  IsEntry v o = (t : Ty) → ty_written schema v.ty ≡ Some t → Holds schema t v.default o

  found_here : (v : VariableDefinition) (rest : List VariableDefinition) (name : List ℕ) (w : VariableDefinition) (P : VariableDefinition → Type 0) → variable_of (v ∷ rest) name ≡ Some w
      → (bytes_eq v.name name ≡ true → P v) → (bytes_eq v.name name ≡ false → variable_of rest name ≡ Some w → P w) → P w
  found_here v rest name w P e f g = by (bytes_eq v.name name) refl e
    where
      by : (b : Bool) → bytes_eq v.name name ≡ b → cond b (Some v) (variable_of rest name) ≡ Some w → P w
      by true h k = subst P (some_is v w k) (f h)
      by false h k = g h k

  apart_from : (a b : List ℕ) (names : List (List ℕ)) → a ≡ b → Each (λ n. a ≢ n) names → Each (λ n. b ≢ n) names
  apart_from a b names e h = subst (λ (x : List ℕ). Each (λ n. x ≢ n) names) e h

  none_more : (v : VariableDefinition) (rest : List VariableDefinition) (entries : List Variable) → Each (λ n. v.name ≢ n) (variable_names rest) → IsEntry v None → AreHeld rest entries → AreHeld (v ∷ rest) entries
  none_more v rest entries apart entry h = record {
    held = λ name w t found written. found_here v rest name w (λ (x : VariableDefinition). ty_written schema x.ty ≡ Some t → Holds schema t x.default (value_in entries name)) found
        (λ same is. subst (Holds schema t v.default) (sym (h.none name (apart_from v.name name (variable_names rest) (same_bytes v.name name same) apart))) (entry t is))
        (λ other later is. h.held name w t later is) written;
    none = λ name far. h.none name far.1;
  }

  one_more : (v : VariableDefinition) (rest : List VariableDefinition) (entries : List Variable) (x : Value) → IsEntry v (Some x) → AreHeld rest entries → AreHeld (v ∷ rest) (record { name = v.name; value = x } ∷ entries)
  one_more v rest entries x entry h = record {
    held = λ name w t found written. found_here v rest name w (λ (y : VariableDefinition). ty_written schema y.ty ≡ Some t → Holds schema t y.default (if bytes_eq v.name name then Some x else value_in entries name)) found
        (λ same is. subst (λ b. Holds schema t v.default (if b then Some x else value_in entries name)) (sym same) (entry t is))
        (λ other later is. subst (λ b. Holds schema t w.default (if b then Some x else value_in entries name)) (sym other) (h.held name w t later is)) written;
    none = λ name far. ap (λ b. if b then Some x else value_in entries name) (other_bytes v.name name (λ e. far.0 (sym e))) ∙ h.none name far.1;
  }

  entry_named : (v : VariableDefinition) (c : Coercion (Option Value)) → named v c ≡ Ok None → c ≡ Ok None
  entry_named v (Err n) e = err_ok _ None e
  entry_named v (Ok None) e = refl
  entry_named v (Ok (Some x)) e = absurd (no_some _ (sym (ok_is _ None e)))

  pub record IsNamed (v : VariableDefinition) (c : Coercion (Option Value)) (entry : Variable) : Type 0 where
    pub value : Value
    pub c_is : c ≡ Ok (Some value)
    pub is : record { name = v.name; value = value } ≡ entry

  entry_given : (v : VariableDefinition) (c : Coercion (Option Value)) (entry : Variable) → named v c ≡ Ok (Some entry) → IsNamed v c entry
  entry_given v (Err n) entry e = err_ok _ (Some entry) e
  entry_given v (Ok None) entry e = absurd (no_some entry (ok_is None (Some entry) e))
  entry_given v (Ok (Some x)) entry e = record { value = x; c_is = refl; is = some_is _ entry (ok_is (Some (record { name = v.name; value = x })) (Some entry) e) }

  all_held : (given : Data) (variables : List VariableDefinition) (entries : List Variable) → AreDistinct (variable_names variables) → entries_of schema given variables ≡ Ok entries → AreHeld variables entries
  all_held given [] entries d e = subst (AreHeld []) (ok_is [] entries e) (record { held = λ name v t found written. absurd (no_some v found); none = λ name far. refl })
  all_held given (v ∷ rest) entries d e =
      let own : (o : Option Value) → entry_of schema v given ≡ Ok o → IsEntry v o = λ o h t is. entry_if_holds t v.default (get v.name given) (ty_written schema v.ty) o is h in
      elim (and_some_parts (named v (entry_of schema v given)) (entries_of schema given rest) entries e) as (λ _. AreHeld (v ∷ rest) entries) [
        | inl h ↦ none_more v rest entries d.0 (own None (entry_named v (entry_of schema v given) h.first_is)) (all_held given rest entries d.1 h.rest_is)
        | inr h ↦
            let n = entry_given v (entry_of schema v given) h.item h.first_is in
            subst (AreHeld (v ∷ rest)) h.all_is
            (subst (λ (x : Variable). AreHeld (v ∷ rest) (x ∷ h.items)) n.is (one_more v rest h.items n.value (own (Some n.value) n.c_is) (all_held given rest h.items d.1 h.rest_is)))
      ]

  vars_held : (given : Data) (variables : List VariableDefinition) (c : Result (List Variable) VarFault) (vars : Vars) → c ≡ entries_of schema given variables → AreDistinct (variable_names variables) → as_vars c ≡ Ok vars → AreHeld variables vars.entries
  vars_held given variables (Err fault) vars is d e = err_ok fault vars e
  vars_held given variables (Ok entries) vars is d e = subst (λ (x : Vars). AreHeld variables x.entries) (ok_is (record { entries = entries }) vars e) (all_held given variables entries d (sym is))

  -- the variables of an operation, of which no two have one name
  pub variables_held : (o : OperationDefinition) (given : Data) (vars : Vars) → AreDistinct (variable_names o.variables) → coerced schema o given ≡ Ok vars → AreHeld o.variables vars.entries
  variables_held o given vars d e = vars_held given o.variables (entries_of schema given o.variables) vars refl d e
