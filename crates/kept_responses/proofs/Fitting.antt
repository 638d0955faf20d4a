-- What is kept fits its key, and what is found is of the tree that is asked for.
use Rattle.std.proofs.Common.{◌≡◌, ℕ, ◌≤◌, Some, length, sym, ap, subst, ◌∙◌}
use Rattle.pg_base.specs.Base.{BaseParts}
use Rattle.pg_base.specs.Limits.{most_places}
use Rattle.pg_base.specs.declared.vars.Vars.{Vars}
use Rattle.gql_lex.specs.Lex.{lexed}
use Rattle.gql_reader.specs.Document.{ReadsDocument, lexemes}
use Rattle.gql_reader.specs.declared.tree.Document.{Document}
use Rattle.gql_reader.proofs.Documents.{one_document}
use Rattle.gql_input.specs.Chosen.{chosen}
use Rattle.gql_collect.specs.Trees.{tree_of}
use Rattle.place_tree.specs.declared.place.Tree.{Tree}
use Rattle.plan_cache.specs.Shelf.{Asked, Answers}
use Rattle.plan_constraints.specs.Constraints.{Hold}
use Rattle.plan_constraints.specs.Noted.{noted}
use Rattle.plan_steps.specs.declared.plan.Root.TheVariants as root
use Rattle.plan_steps.specs.Fitting.{FitTree}
use Rattle.plan_steps.specs.Sound.{IsRootOf}
use Rattle.plan_steps.specs.View.{Planned}
use Rattle.step_plan.specs.Laws.{NotedKeepTrees}
use Rattle.planned_response.specs.Plans.{IsMadeFor}
use Rattle.kept_responses.specs.Kept.{KeptParts, kept_parts, key_for, AsksFor, Fits}

same_place : (p q : ℕ) → Some p ≡ Some q → p ≡ q
same_place p q e = cc

-- ---- a plan that is made

module _ (law : NotedKeepTrees) (base : BaseParts) (asked : Asked) (tree : Tree) (asks : AsksFor base asked tree)
    (made : Planned) (is : IsMadeFor base tree asked.vars made) where
  -- in the document and at the place that the request has
  keeps_there : (vars : Vars) → Hold made.constraints vars → tree_of made.base.schema asks.read asks.place vars ≡ made.tree
  keeps_there vars hold =
      let noted_of : Hold (noted base asked.vars tree) vars = subst (λ cs. Hold cs vars) is.constraints_ hold in
      let at_home : Hold (noted base asked.vars (tree_of base.schema asks.read asks.place asked.vars)) vars =
      subst (λ (t : Tree). Hold (noted base asked.vars t) vars) (sym asks.collected) noted_of in
      ap (λ (b : BaseParts). tree_of b.schema asks.read asks.place vars) is.base_
      ∙ law base asks.read asks.place asked.vars vars at_home
      ∙ asks.collected
      ∙ sym is.tree_

  keeps : (read : Document) (place : ℕ) (vars : Vars) → ReadsDocument asked.text read
      → chosen read asked.operation ≡ Some place → Hold made.constraints vars
      → tree_of made.base.schema read place vars ≡ made.tree
  keeps read place vars reads chosen_ hold =
      let same : read ≡ asks.read =
      one_document (lexemes asked.text) (lexed asked.text).ending read asks.read reads asks.reads in
      let there : place ≡ asks.place =
      same_place place asks.place (sym chosen_ ∙ ap (λ (r : Document). chosen r asked.operation) same ∙ asks.chosen_) in
      ap (λ (r : Document). tree_of made.base.schema r place vars) same
      ∙ ap (λ p. tree_of made.base.schema asks.read p vars) there
      ∙ keeps_there vars hold

  pub fits : IsRootOf base tree root.Query → length tree.places ≤ most_places
      → Fits (kept_parts asked.text asked.operation made)
  fits root_ few = record {
    keeps = keeps;
    root_ = subst (λ (b : BaseParts). IsRootOf b made.tree root.Query) (sym is.base_)
        (subst (λ (t : Tree). IsRootOf base t root.Query) (sym is.tree_) root_);
    few = subst (λ (t : Tree). length t.places ≤ most_places) (sym is.tree_) few;
    lean = is.lean;
  }

-- ---- a plan that is found

module _ (base : BaseParts) (asked : Asked) (tree : Tree) (asks : AsksFor base asked tree) (kept : KeptParts)
    (fits : Fits kept) (based : kept.planned.base ≡ base) (answers : Answers asked (key_for kept)) where
  pub same_tree : kept.planned.tree ≡ tree
  same_tree =
      let reads = subst (λ text. ReadsDocument text asks.read) (sym answers.0) asks.reads in
      let chosen_ = subst (λ operation. chosen asks.read operation ≡ Some asks.place) (sym answers.1) asks.chosen_ in
      sym (fits.keeps asks.read asks.place asked.vars reads chosen_ answers.2)
      ∙ ap (λ (b : BaseParts). tree_of b.schema asks.read asks.place asked.vars) based
      ∙ asks.collected

  pub fits_there : FitTree base asked.vars tree → FitTree kept.planned.base asked.vars kept.planned.tree
  fits_there fit =
      subst (λ (b : BaseParts). FitTree b asked.vars kept.planned.tree) (sym based)
      (subst (λ (t : Tree). FitTree base asked.vars t) (sym same_tree) fit)
