-- What is explained of a request.
use Rattle.std.proofs.Common.{◌≡◌, ◌⊎◌, inl, inr, ℕ, Bool, true, false, List, [], ◌∷◌, ◌++◌, length, Option, Some, None, refl, sym, ap, ◌∙◌, subst}
use Rattle.std.specs.Prelude.{nat_lt, if◌then◌else◌}
use Rattle.pg_base.specs.Base.{BaseParts}
use Rattle.pg_base.specs.Limits.{most_places}
use Rattle.pg_base.specs.declared.vars.Vars.{Vars}
use Rattle.gql_collect.specs.Trees.{tree_of}
use Rattle.gql_reader.specs.declared.tree.Document.{Document}
use Rattle.place_tree.specs.declared.place.Tree.{Tree}
use Rattle.place_tree.specs.Needs.{needed_statements}
use Rattle.plan_cache.specs.Shelf.{Asked, Look}
use Rattle.plan_constraints.specs.declared.constraint.Constraint.{Constraint}
use Rattle.plan_steps.specs.View.{Planned, IsSoundFor}
use Rattle.explain_text.specs.Explained.{explained}
use Rattle.planned_response.specs.Plans.{IsMadeFor}
use Rattle.kept_responses.specs.Kept.{KeptParts, key_for}
use Rattle.request_core.specs.declared.explaining.Explanation.{Explanation}
use Rattle.request_core.specs.declared.explaining.Explanation.TheVariants as explanation
use Rattle.request_core.specs.declared.preparing.Prepared.{Prepared}
use Rattle.request_core.specs.declared.preparing.Prepared.TheVariants as prepared_is
use Rattle.request_core.specs.Asked.{AskedParts, EndsAsked, wanted_with}
use Rattle.request_core.specs.Explained.{Refuses, IsTextOf, IsTextOfNew, ExplainsTree, ExplainsBy, Explains, IsExplanation, ExplainsNewBy, ExplainsNew}
use Rattle.request_core.specs.Prepared.{IsRefused, Prepares, IsPreparedFor}
use Rattle.request_core.specs.Refusals.{too_many}
use Rattle.request_core.proofs.Answered.{refused_same, never_both, same_tree, same_vars}
use Rattle.request_core.proofs.AskedTrees.{request_for}
use Rattle.request_core.proofs.EndsOn.{body_on}

-- ---- the text of a plan

-- the plan is one over the base
abbrev pub IsBased : BaseParts → KeptParts → Type 0
IsBased base kept = kept.planned.base ≡ base

pub text_of : (base : BaseParts) (vars : Vars) (tree : Tree) (p : Planned) (needs : ℕ) (x : Explanation) → IsSoundFor p → p.base ≡ base
    → needs ≡ needed_statements base vars tree → x ≡ explanation.Plan (explained needs p.base p.constraints p.plan) → IsTextOf base vars tree p x
text_of base vars tree p needs x sound same count e = record {
  sound = sound;
  base_ = same;
  text_ = e ∙ ap (λ (n : ℕ). explanation.Plan (explained n p.base p.constraints p.plan)) count
      ∙ ap (λ (b : BaseParts). explanation.Plan (explained (needed_statements base vars tree) b p.constraints p.plan)) same;
}

pub text_at : (base : BaseParts) (vars : Vars) (tree : Tree) (r p : Planned) (needs : ℕ) (x : Explanation) → r ≡ p → IsSoundFor r → p.base ≡ base
    → needs ≡ needed_statements base vars tree → x ≡ explanation.Plan (explained needs r.base r.constraints r.plan) → IsTextOf base vars tree p x
text_at base vars tree r p needs x same sound based count e =
    text_of base vars tree p needs x (subst IsSoundFor same sound) based count
    (e ∙ ap (λ (q : Planned). explanation.Plan (explained needs q.base q.constraints q.plan)) same)

-- the same of one that is made
pub text_new : (base : BaseParts) (vars : Vars) (tree : Tree) (p : Planned) (needs : ℕ) (x : Explanation) → IsSoundFor p → IsMadeFor base tree vars p
    → needs ≡ needed_statements base vars tree → x ≡ explanation.Plan (explained needs p.base p.constraints p.plan) → IsTextOfNew base vars tree x
text_new base vars tree p needs x sound made count e = record {
  planned = p;
  made = made;
  sound = sound;
  text_ = (text_of base vars tree p needs x sound made.base_ count e).text_
      ∙ ap (λ (cs : List Constraint). explanation.Plan (explained (needed_statements base vars tree) base cs p.plan)) made.constraints_;
}

-- ---- what a request comes to

module _ (base : BaseParts) (a : AskedParts) (history : List KeptParts) (x : Explanation) where
  refused_by : (text : List ℕ) (wanted : Asked) (tree : Tree) (vars : Vars) (b : Bool) → Refuses x text
      → prepared_is.Refused text ≡ (if b then prepared_is.Refused too_many else prepared_is.Accepted tree vars)
      → ExplainsBy b base wanted tree history x
  refused_by text wanted tree vars true r e = subst (Refuses x) (refused_same text too_many e) r
  refused_by text wanted tree vars false r e = absurd (never_both text tree vars e)

  -- it is refused
  pub explains_refused : (prepared : Prepared) (text : List ℕ) → prepared ≡ prepared_is.Refused text → Refuses x text → IsPreparedFor base a prepared → IsExplanation base a history x
  explains_refused prepared text is r ends =
      body_on base.schema (IsRefused prepared) (Refuses x) (λ refused e. subst (Refuses x) (refused_same text refused (sym is ∙ e)) r)
      (request_for a) (Prepares base prepared) (Explains base a history x)
      (λ read place vars there e.
      let tree = tree_of base.schema read place vars in
      refused_by text (wanted_with a vars) tree vars (nat_lt most_places (length tree.places)) r (sym is ∙ e))
      a.given ends

  accepted_by : (tree other : Tree) (vars more : Vars) (b : Bool) → ExplainsTree base (wanted_with a vars) tree history x
      → prepared_is.Accepted tree vars ≡ (if b then prepared_is.Refused too_many else prepared_is.Accepted other more)
      → ExplainsBy b base (wanted_with a more) other history x
  accepted_by tree other vars more true t e = absurd (never_both too_many tree vars (sym e))
  accepted_by tree other vars more false t e =
      subst (λ (t : Tree). ExplainsTree base (wanted_with a more) t history x) (same_tree tree other vars more e)
      (subst (λ (v : Vars). ExplainsTree base (wanted_with a v) tree history x) (same_vars tree other vars more e) t)

  -- its plan is explained
  pub explains_accepted : (prepared : Prepared) (tree : Tree) (vars : Vars) → prepared ≡ prepared_is.Accepted tree vars
      → ExplainsTree base (wanted_with a vars) tree history x → IsPreparedFor base a prepared → IsExplanation base a history x
  explains_accepted prepared tree vars is t ends =
      body_on base.schema (IsRefused prepared) (Refuses x) (λ refused e. absurd (never_both refused tree vars (sym e ∙ is)))
      (request_for a) (Prepares base prepared) (Explains base a history x)
      (λ read place more there e.
      let other = tree_of base.schema read place more in
      accepted_by tree other vars more (nat_lt most_places (length other.places)) t (sym is ∙ e))
      a.given ends

-- ---- where no plan is kept

none_there : (older younger : List KeptParts) (kept : KeptParts) → [] ≡ older ++ kept ∷ younger → ⊥
none_there [] younger kept e = cc
none_there (x ∷ older) younger kept e = cc

module _ (base : BaseParts) (a : AskedParts) (x : Explanation) where
  new_tree : (vars : Vars) (tree : Tree) → ExplainsTree base (wanted_with a vars) tree [] x → IsTextOfNew base vars tree x
  new_tree vars tree (inl found) = absurd (none_there found.look.0 found.look.1 found.kept found.look.2)
  new_tree vars tree (inr made) = made.new

  new_by : (b : Bool) (vars : Vars) (tree : Tree) → ExplainsBy b base (wanted_with a vars) tree [] x → ExplainsNewBy b base vars tree x
  new_by true vars tree t = t
  new_by false vars tree t = new_tree vars tree t

  pub explains_new : IsExplanation base a [] x → EndsAsked base.schema a (Refuses x) (ExplainsNew base x)
  explains_new ends =
      body_on base.schema (Refuses x) (Refuses x) (λ refused e. e)
      (request_for a) (Explains base a [] x) (ExplainsNew base x)
      (λ read place vars there t.
      let tree = tree_of base.schema read place vars in
      new_by (nat_lt most_places (length tree.places)) vars tree t)
      a.given ends
