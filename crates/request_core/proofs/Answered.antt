-- The answer to a request, from what it comes to before a store is asked, and from what the store gives.
use Rattle.std.proofs.Common.{◌≡◌, ◌⊎◌, inl, inr, ℕ, ◌+◌, ◌<◌, ◌≤◌, Bool, true, false, List, length, Option, Some, None, refl, sym, ap, ◌∙◌, subst, arith}
use Rattle.std.specs.Prelude.{nat_lt, if◌then◌else◌}
use Rattle.std.proofs.lemmas.Bool.Decides.{nat_tests}
use Rattle.pg_base.specs.Base.{BaseParts, IsBase}
use Rattle.pg_base.specs.Catalog.{IsValidCatalog}
use Rattle.pg_base.specs.Limits.{most_places, most_visited_rows, most_response_bytes}
use Rattle.pg_base.specs.SchemaFaults.{build_fault}
use Rattle.pg_base.specs.declared.vars.Vars.{Vars}
use Rattle.gql_collect.specs.Trees.{tree_of}
use Rattle.gql_reader.specs.declared.tree.Document.{Document}
use Rattle.gql_reader.specs.declared.tree.OperationKind.TheVariants as kind
use Rattle.rel_model.specs.declared.tables.Tables.{Tables}
use Rattle.place_tree.specs.declared.place.Tree.{Tree}
use Rattle.place_tree.specs.Exec.{executed, visited}
use Rattle.place_tree.specs.Response.{response_text}
use Rattle.stmt_tree.specs.Form.{Rose}
use Rattle.planned_response.specs.Responses.{AreTold, IsResponse, IsTooLarge}
use Rattle.fitting_trees.specs.ValidTrees.{IsServed, ValidTreesArePlannable, QueryTreesHaveNoMutations}
use Rattle.request_core.specs.declared.preparing.Prepared.{Prepared}
use Rattle.request_core.specs.declared.preparing.Prepared.TheVariants as prepared_is
use Rattle.request_core.specs.Answer.{sized, executed_answer, tree_answer, Executes, IsAnswer}
use Rattle.request_core.specs.Prepared.{IsRefused, prepared_tree, Prepares, IsPrepared, MayFollow}
use Rattle.request_core.specs.Refusals.{too_large, too_many}
use Rattle.request_core.specs.Request.{Request, Ends}
use Rattle.request_core.specs.Spent.{Counts, MayRespond, IsStorageFault, IsRun, IsRefusal, RunsBy, RunsTree, Runs, AnswersOver}
use Rattle.request_core.proofs.EndsOn.{IsAsking, IsAsked, ends_on, ends_all}
use Rattle.request_core.proofs.Subscriptions.{never_subscribed}

-- ---- numbers that are tested

pub lt_true : (m n : ℕ) → m < n → nat_lt m n ≡ true
lt_true m n h = grind (arith, nat_tests, h)

lt_false : (m n : ℕ) → n ≤ m → nat_lt m n ≡ false
lt_false m n h = grind (arith, nat_tests, h)

pub below_of : (m n : ℕ) → nat_lt m n ≡ false → n ≤ m
below_of m n h = grind (arith, nat_tests, h)

-- ---- what a request comes to

module _ (base : BaseParts) (is : IsBase base) (catalog : IsValidCatalog base.catalog) (faultless : build_fault base.catalog ≡ None)
    (plannable : ValidTreesArePlannable) (queries : QueryTreesHaveNoMutations) where
  is_query : (read : Document) (place : ℕ) (vars : Vars) (asked : IsAsked base.schema read place vars) → asked.operation.kind ≡ kind.Query
  is_query read place vars asked = elim asked.asking [
    | inl e ↦ e
    | inr e ↦ absurd (never_subscribed base.schema read place asked.operation asked.valid asked.stands e)
  ]

  pub may_tree : (read : Document) (place : ℕ) (vars : Vars) (asked : IsAsked base.schema read place vars) → length (tree_of base.schema read place vars).places ≤ most_places
      → MayRespond base (tree_of base.schema read place vars) vars
  may_tree read place vars asked few =
      let served : IsServed base read place asked.operation asked.given vars = record {
        base_ = is;
        catalog = catalog;
        faultless = faultless;
        valid = asked.valid;
        stands = asked.stands;
        variables = asked.variables;
        few = few;
      } in
      record {
        plannable = plannable base read place asked.operation asked.given vars served;
        root_ = queries base read place asked.operation asked.given vars served (is_query read place vars asked);
        few = few;
      }

  may_by : (tree : Tree) (vars : Vars) (prepared : Prepared) (b : Bool) → (b ≡ false → MayRespond base tree vars)
      → prepared ≡ (if b then prepared_is.Refused too_many else prepared_is.Accepted tree vars) → MayFollow base prepared
  may_by tree vars prepared true may e = subst (MayFollow base) (sym e) tt
  may_by tree vars prepared false may e = subst (MayFollow base) (sym e) (may refl)

  pub may_follow : (request : Request) (prepared : Prepared) → IsPrepared base request prepared → MayFollow base prepared
  may_follow request prepared ends =
      ends_all (MayFollow base prepared) base.schema request
      (ends_on base.schema (IsRefused prepared) (λ text. MayFollow base prepared) (λ text e. subst (MayFollow base) (sym e) tt) request
      (Prepares base prepared) (λ read place vars. MayFollow base prepared)
      (λ read place vars asked e.
      let tree = tree_of base.schema read place vars in
      may_by tree vars prepared (nat_lt most_places (length tree.places)) (λ few. may_tree read place vars asked (below_of most_places (length tree.places) few)) e)
      ends)

-- ---- answers

pub refused_same : (a b : List ℕ) → prepared_is.Refused a ≡ prepared_is.Refused b → a ≡ b
refused_same a b e = cc

pub never_both : (text : List ℕ) (tree : Tree) (vars : Vars) → prepared_is.Refused text ≡ prepared_is.Accepted tree vars → ⊥
never_both text tree vars e = cc

pub same_tree : (t u : Tree) (v w : Vars) → prepared_is.Accepted t v ≡ prepared_is.Accepted u w → t ≡ u
same_tree t u v w e = cc

pub same_vars : (t u : Tree) (v w : Vars) → prepared_is.Accepted t v ≡ prepared_is.Accepted u w → v ≡ w
same_vars t u v w e = cc

module _ (base : BaseParts) (held : Option Tables) (text : List ℕ) where
  refused_by : (still : Counts) (tree : Tree) (vars : Vars) (b : Bool) → prepared_is.Refused text ≡ (if b then prepared_is.Refused too_many else prepared_is.Accepted tree vars)
      → RunsBy b base held vars tree still still text
  refused_by still tree vars true e = record { shown = refused_same text too_many e; still = refl }
  refused_by still tree vars false e = absurd (never_both text tree vars e)

  -- a refusal asks nothing
  pub refused_over : (still : Counts) (request : Request) (prepared : Prepared) → prepared ≡ prepared_is.Refused text → IsPrepared base request prepared → AnswersOver base held still still request text
  refused_over still request prepared is ends =
      ends_on base.schema (IsRefused prepared) (IsRefusal still still text) (λ refused e. record { shown = refused_same text refused (sym is ∙ e); still = refl }) request
      (Prepares base prepared) (Runs base held still still text)
      (λ read place vars asked e.
      let tree = tree_of base.schema read place vars in
      refused_by still tree vars (nat_lt most_places (length tree.places)) (sym is ∙ e))
      ends

  accepted_by : (before now : Counts) (tree other : Tree) (vars more : Vars) → IsRun base held vars tree before now text → (b : Bool)
      → prepared_is.Accepted tree vars ≡ (if b then prepared_is.Refused too_many else prepared_is.Accepted other more) → RunsBy b base held more other before now text
  accepted_by before now tree other vars more run true e = absurd (never_both too_many tree vars (sym e))
  accepted_by before now tree other vars more run false e =
      subst (λ (t : Tree). IsRun base held more t before now text) (same_tree tree other vars more e)
      (subst (λ (v : Vars). IsRun base held v tree before now text) (same_vars tree other vars more e) run)

  -- what is accepted is run
  pub accepted_over : (before now : Counts) (request : Request) (prepared : Prepared) (tree : Tree) (vars : Vars) → prepared ≡ prepared_is.Accepted tree vars
      → IsRun base held vars tree before now text → IsPrepared base request prepared → AnswersOver base held before now request text
  accepted_over before now request prepared tree vars is run ends =
      ends_on base.schema (IsRefused prepared) (IsRefusal before now text) (λ refused e. absurd (never_both refused tree vars (sym e ∙ is))) request
      (Prepares base prepared) (Runs base held before now text)
      (λ read place more asked e.
      let other = tree_of base.schema read place more in
      accepted_by before now tree other vars more run (nat_lt most_places (length other.places)) (sym is ∙ e))
      ends

-- ---- the text of a tree

module _ (base : BaseParts) (tables : Tables) (vars : Vars) (tree : Tree) where
  sized_is : (text : List ℕ) → length text ≤ most_response_bytes → sized text ≡ text
  sized_is text le = ap (λ b. if b then too_large else text) (lt_false most_response_bytes (length text) le)

  pub shown_is : (text : List ℕ) → IsResponse base tables vars tree text → text ≡ executed_answer base tables vars tree
  shown_is text r =
      let whole = response_text (executed base tables vars tree) in
      let fits = sized_is text r.fits in
      let few = ap (λ b. if b then too_large else sized whole) (lt_false most_visited_rows (visited base tables vars tree) r.few) in
      sym fits ∙ ap sized r.shown ∙ sym few

  large_by : (b : Bool) (whole : List ℕ) → sized whole ≡ too_large → too_large ≡ (if b then too_large else sized whole)
  large_by true whole e = refl
  large_by false whole e = sym e

  pub large_is : IsTooLarge base tables vars tree → too_large ≡ executed_answer base tables vars tree
  large_is h =
      let whole = response_text (executed base tables vars tree) in
      elim h [
        | inl many ↦ sym (ap (λ b. if b then too_large else sized whole) (lt_true most_visited_rows (visited base tables vars tree) many))
        | inr long ↦ large_by (nat_lt most_visited_rows (visited base tables vars tree)) whole (ap (λ b. if b then too_large else whole) (lt_true most_response_bytes (length whole) long))
      ]

-- ---- over a store that never fails

pub no_fault : (before now : ℕ) → before ≡ 0 → now ≡ 0 → Rose before now → ⊥
no_fault before now b n rose = omega (arith, b, n, rose)

module _ (base : BaseParts) (tables : Tables) (held : Option Tables) (told : AreTold base.catalog held tables) (before now : Counts) (text : List ℕ)
    (first : before.faults ≡ 0) (last : now.faults ≡ 0) where
  answer_by : (tree : Tree) (vars : Vars) (b : Bool) → RunsBy b base held vars tree before now text → text ≡ (if b then too_many else executed_answer base tables vars tree)
  answer_by tree vars true run = run.shown
  answer_by tree vars false run = elim (run.answer tables told) [
    | inl e ↦ e
    | inr s ↦ absurd (no_fault before.faults now.faults first last s.1)
  ]

  pub faultless_answer : (request : Request) → AnswersOver base held before now request text → IsAnswer base tables request text
  faultless_answer request ends =
      ends_on base.schema (IsRefusal before now text) (λ refused. text ≡ refused) (λ refused r. r.shown) request
      (Runs base held before now text) (Executes base tables text)
      (λ read place vars asked run.
      let tree = tree_of base.schema read place vars in
      answer_by tree vars (nat_lt most_places (length tree.places)) run)
      ends
