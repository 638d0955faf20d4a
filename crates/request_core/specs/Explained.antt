-- What is explained of a request: the text of the plan that serves it.
use Rattle.std.specs.Prelude.{◌≡◌, ◌⊎◌, ℕ, nat_lt, Bool, true, false, List, [], ◌∷◌, ◌++◌, length, Some, None}
use Rattle.pg_base.specs.Base.{BaseParts}
use Rattle.pg_base.specs.Limits.{most_places}
use Rattle.pg_base.specs.declared.vars.Vars.{Vars}
use Rattle.gql_collect.specs.Trees.{tree_of}
use Rattle.gql_reader.specs.declared.tree.Document.{Document}
use Rattle.place_tree.specs.declared.place.Tree.{Tree}
use Rattle.place_tree.specs.Needs.{needed_statements}
use Rattle.plan_cache.specs.Shelf.{Asked, Look}
use Rattle.plan_constraints.specs.Noted.{noted}
use Rattle.plan_steps.specs.View.{Planned, IsSoundFor}
use Rattle.planned_response.specs.Plans.{IsMadeFor}
use Rattle.explain_text.specs.Explained.{explained}
use Rattle.kept_responses.specs.Kept.{KeptParts, key_for, Fits}
use Rattle.request_core.specs.declared.explaining.Explanation.{Explanation}
use Rattle.request_core.specs.declared.explaining.Explanation.TheVariants as explanation
use Rattle.request_core.specs.Asked.{AskedParts, EndsAsked, wanted_with}
use Rattle.request_core.specs.Refusals.{too_many}
use Rattle.request_core.specs.Request.{Request, Ends}

-- it refuses with this response
abbrev pub Refuses : Explanation → List ℕ → Type 0
Refuses x refused = x ≡ explanation.Refused refused

-- it is the text of this plan, which is sound, and of the number of statements that the tree needs
pub record IsTextOf (base : BaseParts) (vars : Vars) (tree : Tree) (p : Planned) (x : Explanation) : Type 0 where
  pub sound : IsSoundFor p
  pub base_ : p.base ≡ base
  pub text_ : x ≡ explanation.Plan (explained (needed_statements base vars tree) base p.constraints p.plan)

-- it is the text of a plan that is sound, and is made for the tree and the variables: of the number of statements that
-- the tree needs, of what is noted of these variables, and of the plan's fetches
pub record IsTextOfNew (base : BaseParts) (vars : Vars) (tree : Tree) (x : Explanation) : Type 0 where
  pub planned : Planned
  pub made : IsMadeFor base tree vars planned
  pub sound : IsSoundFor planned
  pub text_ : x ≡ explanation.Plan
      (explained (needed_statements base vars tree) base (noted base vars tree) planned.plan)

-- ---- where plans are kept

-- it is the text of the plan that is found, which fits what is asked
pub record IsFoundText (base : BaseParts) (wanted : Asked) (tree : Tree) (history : List KeptParts) (x : Explanation)
    : Type 0 where
  pub kept : KeptParts
  pub look : Look key_for wanted history (Some kept)
  pub fits : Fits kept
  pub is : IsTextOf base wanted.vars tree kept.planned x

-- none is found: it is the text of one that is made
pub record IsMadeText (base : BaseParts) (wanted : Asked) (tree : Tree) (history : List KeptParts) (x : Explanation)
    : Type 0 where
  pub look : Look key_for wanted history None
  pub new : IsTextOfNew base wanted.vars tree x

abbrev pub ExplainsTree : BaseParts → Asked → Tree → List KeptParts → Explanation → Type 0
ExplainsTree base wanted tree history x =
    IsFoundText base wanted tree history x ⊎ IsMadeText base wanted tree history x

-- the tree has too many places, or its plan is explained
abbrev pub ExplainsBy : Bool → BaseParts → Asked → Tree → List KeptParts → Explanation → Type 0
ExplainsBy true base wanted tree history x = Refuses x too_many
ExplainsBy false base wanted tree history x = ExplainsTree base wanted tree history x

-- the same of the operation at a place of the document
abbrev pub Explains : BaseParts → AskedParts → List KeptParts → Explanation → Document → ℕ → Vars → Type 0
Explains base a history x read place vars =
    let tree = tree_of base.schema read place vars in
    ExplainsBy (nat_lt most_places (length tree.places)) base (wanted_with a vars) tree history x

-- it is the first refusal of what is asked, or the text of the plan that serves it
abbrev pub IsExplanation : BaseParts → AskedParts → List KeptParts → Explanation → Type 0
IsExplanation base a history x = EndsAsked base.schema a (Refuses x) (Explains base a history x)

-- ---- where none is kept

-- the tree has too many places, or a plan is made for it and explained
abbrev pub ExplainsNewBy : Bool → BaseParts → Vars → Tree → Explanation → Type 0
ExplainsNewBy true base vars tree x = Refuses x too_many
ExplainsNewBy false base vars tree x = IsTextOfNew base vars tree x

abbrev pub ExplainsNew : BaseParts → Explanation → Document → ℕ → Vars → Type 0
ExplainsNew base x read place vars =
    let tree = tree_of base.schema read place vars in
    ExplainsNewBy (nat_lt most_places (length tree.places)) base vars tree x

-- it is the first refusal of the request, or the text of the plan that is made for it
abbrev pub IsExplained : BaseParts → Request → Explanation → Type 0
IsExplained base request x = Ends base.schema request (Refuses x) (ExplainsNew base x)

-- the lines that tell it
abbrev pub lines_of : Explanation → List ℕ
lines_of (explanation.Refused text) = text ++ 10 ∷ []
lines_of (explanation.Plan text) = text
