-- What a request comes to before a store is asked.
use Rattle.std.specs.Prelude.{◌≡◌, ℕ, nat_lt, if◌then◌else◌, List, length, ⊤}
use Rattle.pg_base.specs.Base.{BaseParts}
use Rattle.pg_base.specs.Limits.{most_places}
use Rattle.pg_base.specs.declared.vars.Vars.{Vars}
use Rattle.gql_collect.specs.Trees.{tree_of}
use Rattle.gql_reader.specs.declared.tree.Document.{Document}
use Rattle.place_tree.specs.declared.place.Tree.{Tree}
use Rattle.request_core.specs.declared.preparing.Prepared.{Prepared}
use Rattle.request_core.specs.declared.preparing.Prepared.TheVariants as prepared_is
use Rattle.kept_responses.specs.Kept.{AsksFor}
use Rattle.request_core.specs.Asked.{AskedParts, EndsAsked, wanted_with}
use Rattle.request_core.specs.Refusals.{too_many}
use Rattle.request_core.specs.Request.{Request, Ends}
use Rattle.request_core.specs.Spent.{MayRespond}

-- it is refused, with this response
abbrev pub IsRefused : Prepared → List ℕ → Type 0
IsRefused prepared refused = prepared ≡ prepared_is.Refused refused

-- a tree with few enough places
abbrev pub prepared_tree : Tree → Vars → Prepared
prepared_tree tree vars =
    if nat_lt most_places (length tree.places) then prepared_is.Refused too_many else prepared_is.Accepted tree vars

-- the operation at a place of the document comes to this
abbrev pub Prepares : BaseParts → Prepared → Document → ℕ → Vars → Type 0
Prepares base prepared read place vars = prepared ≡ prepared_tree (tree_of base.schema read place vars) vars

-- the request comes to this: its first refusal, or its tree
abbrev pub IsPrepared : BaseParts → Request → Prepared → Type 0
IsPrepared base request prepared = Ends base.schema request (IsRefused prepared) (Prepares base prepared)

-- what is accepted may be asked of a store
abbrev pub MayFollow : BaseParts → Prepared → Type 0
MayFollow base (prepared_is.Refused text) = ⊤
MayFollow base (prepared_is.Accepted tree vars) = MayRespond base tree vars

-- ---- what is asked of a house

-- it comes to this: its first refusal, or its tree
abbrev pub IsPreparedFor : BaseParts → AskedParts → Prepared → Type 0
IsPreparedFor base a prepared = EndsAsked base.schema a (IsRefused prepared) (Prepares base prepared)

-- the tree may be asked of a store, and it is the one for which a plan is looked for
pub record MayBeServed (base : BaseParts) (a : AskedParts) (tree : Tree) (vars : Vars) : Type 0 where
  pub may : MayRespond base tree vars
  pub asks : AsksFor base (wanted_with a vars) tree

-- so is what is accepted
abbrev pub MayServe : BaseParts → AskedParts → Prepared → Type 0
MayServe base a (prepared_is.Refused text) = ⊤
MayServe base a (prepared_is.Accepted tree vars) = MayBeServed base a tree vars
