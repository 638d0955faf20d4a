-- The JSON of input values, and texts with a sign between two.
use Rattle.std.specs.Prelude.{ℕ, Bool, true, false, if◌then◌else◌, List, [], ◌∷◌, ◌++◌, codes}
use Rattle.json_out.specs.JsonText.{json_int, json_key, json_text}
use Rattle.pg_base.specs.declared.value.Member.{Member}
use Rattle.pg_base.specs.declared.value.Value.{Value, Null, Int, Bool as BoolOf, Text, Case, List', Object'}
use Rattle.pg_base.specs.declared.value.Value.{Row_of-Value, end_of-Value, more_of-Value, Row_of-Member, end_of-Member}
use Rattle.pg_base.specs.declared.value.Value.{more_of-Member}

-- a byte before each but the first; `due` says that the first comes after others
abbrev pub before : ℕ → Bool → List ℕ
before sign due = if due then sign ∷ [] else []

abbrev pub separated : {A : Type 0} → ℕ → (A → List ℕ) → Bool → List A → List ℕ
separated sign text due [] = []
separated sign text due (x ∷ xs) = before sign due ++ (text x ++ separated sign text true xs)

abbrev pub truth_text : Bool → List ℕ
truth_text b = if b then codes "true" else codes "false"

-- a case of an enum is shown by its name
abbrev mutual
  pub value_json : Value → List ℕ
  value_json Null = codes "null"
  value_json (Int n) = json_int n
  value_json (BoolOf b) = truth_text b
  value_json (Text s) = json_text s
  value_json (Case s) = json_text s
  value_json (List' _ xs) = 91 ∷ (items_json false xs ++ 93 ∷ [])
  value_json (Object' _ xs) = 123 ∷ (members_json false xs ++ 125 ∷ [])

  pub items_json : {n : _} → Bool → Row_of-Value n → List ℕ
  items_json due end_of-Value = []
  items_json due (more_of-Value v vs) = before 44 due ++ (value_json v ++ items_json true vs)

  pub members_json : {n : _} → Bool → Row_of-Member n → List ℕ
  members_json due end_of-Member = []
  members_json due (more_of-Member name v ms) =
      before 44 due ++ ((json_key name ++ value_json v) ++ members_json true ms)

abbrev pub member_json : Member → List ℕ
member_json m = json_key m.name ++ value_json m.value
