-- What is met, as the code keeps it.
use Rattle.std.specs.Prelude.{◌≡◌, ◌<◌, ◌≤◌, ℕ, Bool, true, List, [], length, map, unwrap_or, Option, Some, None, Result, Ok, Err, ⊤}
use Rattle.std.specs.Borrow.{Bor}
use Rattle.std.specs.HashMap.{HashMap, get}
use Rattle.std.specs.Str.{bytes_eq}
use Rattle.gql_reader.specs.declared.tree.Field.{Field}
use Rattle.gql_collect.specs.declared.request.Request as code
use Rattle.pg_base.specs.Limits.{most_places}
use Rattle.place_tree.specs.declared.place.Place.{Place}
use Rattle.place_tree.specs.declared.place.Tree.{Tree}
use Rattle.gql_collect.specs.declared.fault.CollectFault.{CollectFault}
use Rattle.gql_collect.specs.declared.fault.CollectFault.TheVariants.{TooMany, Memory}
use Rattle.gql_collect.specs.Collected.{Request, Met}

abbrev pub fields_of : List (Bor Field) → List Field
fields_of fields = map (λ f. f.now) fields

-- what a map by response keys has for a key
abbrev pub group_in : {S : Type 0} → HashMap (List ℕ) (List (Bor Field)) S → List ℕ → List Field
group_in groups key = fields_of (unwrap_or (get bytes_eq groups key) [])

abbrev pub met_by : List (Bor Field) → List (List ℕ) → List (List ℕ) → Met
met_by fields entered asked = record { fields = fields_of fields; entered = entered; asked = asked }

abbrev pub request_of : code.Request → Request
request_of r = record { schema = r.schema.now; definitions = r.fragments; vars = r.vars.now }

abbrev pub is_for : (List ℕ → Bool) → Option (List ℕ) → Bool
is_for applies None = true
is_for applies (Some name) = applies name

-- ---- places

abbrev pub grown : List Place → List (List ℕ) → Tree
grown places asked = record { places = places; asked = asked }

-- these are the fields that were met, and the variables that were asked
pub record IsMet (found : List Field) (names : List (List ℕ)) (met : Met) : Type 0 where
  pub fields : found ≡ met.fields
  pub asked : names ≡ met.asked

-- what is due was appended, or has too many places
abbrev pub Grows : {A : Type 0} → Result A CollectFault → Tree → Tree → Type 0
Grows (Ok x) made due = (made ≡ due) × (length due.places ≤ most_places)
Grows (Err TooMany) made due = most_places < length due.places
Grows (Err Memory) made due = ⊤
