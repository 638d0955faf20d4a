-- What is asked of a house: the tree to which it comes may be served by a plan, and a request of files ends as what it
-- asks does.
use Rattle.std.proofs.Common.{◌≡◌, inl, inr, ℕ, ◌≤◌, Bool, true, false, List, length, Option, Some, None, refl, sym, ap, ◌∙◌, subst}
use Rattle.std.specs.Prelude.{nat_lt, if◌then◌else◌}
use Rattle.serde_json.specs.Data.{Data}
use Rattle.pg_base.specs.Base.{BaseParts, IsBase}
use Rattle.pg_base.specs.Catalog.{IsValidCatalog}
use Rattle.pg_base.specs.Limits.{most_places}
use Rattle.pg_base.specs.Schema.{SchemaParts}
use Rattle.pg_base.specs.SchemaFaults.{build_fault}
use Rattle.pg_base.specs.declared.vars.Vars.{Vars}
use Rattle.gql_collect.specs.Trees.{tree_of}
use Rattle.gql_input.specs.Body.{is_variables}
use Rattle.gql_reader.specs.declared.tree.Document.{Document}
use Rattle.place_tree.specs.declared.place.Tree.{Tree}
use Rattle.fitting_trees.specs.ValidTrees.{ValidTreesArePlannable, QueryTreesHaveNoMutations}
use Rattle.request_core.specs.declared.preparing.Prepared.{Prepared}
use Rattle.request_core.specs.declared.preparing.Prepared.TheVariants as prepared_is
use Rattle.request_core.specs.Asked.{AskedParts, IsAskedBy, EndsAsked, wanted_with}
use Rattle.request_core.specs.Prepared.{IsRefused, Prepares, IsPreparedFor, MayBeServed, MayServe}
use Rattle.request_core.specs.Refusals.{bad_body, too_many}
use Rattle.request_core.specs.Request.{Request, AreGiven, AfterBody, Ends}
use Rattle.request_core.specs.Request.{asked as request_with}
use Rattle.request_core.proofs.Answered.{may_tree, below_of}
use Rattle.request_core.proofs.AsksOn.{IsAskedIn, asks_on}
use Rattle.request_core.proofs.EndsOn.{body_all}

abbrev pub request_for : AskedParts → Request
request_for a = request_with a.text a.operation None

module _ (base : BaseParts) (is : IsBase base) (catalog : IsValidCatalog base.catalog) (faultless : build_fault base.catalog ≡ None)
    (plannable : ValidTreesArePlannable) (queries : QueryTreesHaveNoMutations) (a : AskedParts) where
  served_tree : (read : Document) (place : ℕ) (vars : Vars) → IsAskedIn base.schema (request_for a) read place vars
      → length (tree_of base.schema read place vars).places ≤ most_places → MayBeServed base a (tree_of base.schema read place vars) vars
  served_tree read place vars there few = record {
    may = may_tree base is catalog faultless plannable queries read place vars there.asked few;
    asks = record { read = read; reads = there.reads; place = place; chosen_ = there.chosen_; collected = refl };
  }

  served_by : (tree : Tree) (vars : Vars) (prepared : Prepared) (b : Bool) → (b ≡ false → MayBeServed base a tree vars)
      → prepared ≡ (if b then prepared_is.Refused too_many else prepared_is.Accepted tree vars) → MayServe base a prepared
  served_by tree vars prepared true may e = subst (MayServe base a) (sym e) tt
  served_by tree vars prepared false may e = subst (MayServe base a) (sym e) (may refl)

  pub may_serve : (prepared : Prepared) → IsPreparedFor base a prepared → MayServe base a prepared
  may_serve prepared ends =
      body_all (MayServe base a prepared) base.schema (request_for a) a.given
      (asks_on base.schema (IsRefused prepared) (λ text. MayServe base a prepared) (λ text e. subst (MayServe base a) (sym e) tt)
      (request_for a) a.given (Prepares base prepared) (λ read place vars. MayServe base a prepared)
      (λ read place vars there e.
      let tree = tree_of base.schema read place vars in
      served_by tree vars prepared (nat_lt most_places (length tree.places)) (λ few. served_tree read place vars there (below_of most_places (length tree.places) few)) e)
      ends)

-- ---- requests of files

module _ (schema : SchemaParts) (R : List ℕ → Type 0) (A : Document → ℕ → Vars → Type 0) (request : Request) where
  -- it ends as what it asks
  pub ends_of : (a : AskedParts) → IsAskedBy request a → EndsAsked schema a R A → Ends schema request R A
  ends_of a is ends = inr (record {
    given = a.given;
    gives = is.gives;
    next = subst (λ (d : List ℕ). AfterBody schema (request_with d request.operation None) R A a.given) is.text_
        (subst (λ (o : Option (List ℕ)). AfterBody schema (request_with a.text o None) R A a.given) is.operation_ ends);
  })

  -- or asks nothing
  pub ends_bad : ((d : Data) → ¬ (AreGiven request.variables d)) → R bad_body → Ends schema request R A
  ends_bad none refused = inl (record { none = none; refused = refused })

-- what is given for variables is an object, or null
pub given_shape : (variables : Option (List ℕ)) (d : Data) → AreGiven variables d → is_variables d ≡ true
given_shape None d e = ap is_variables e
given_shape (Some bytes) d e = e.shape

-- what was copied of a request is what it asks
pub is_asked : (request : Request) (a : AskedParts) (given : Data) → a.text ≡ request.document → a.operation ≡ request.operation
    → a.given ≡ given → AreGiven request.variables given → IsAskedBy request a
is_asked request a given text operation same gives =
    record { text_ = text; operation_ = operation; gives = subst (AreGiven request.variables) (sym same) gives }

pub asked_shape : (variables : Option (List ℕ)) (d given : Data) → d ≡ given → AreGiven variables given → is_variables d ≡ true
asked_shape variables d given same gives = ap is_variables same ∙ given_shape variables given gives
