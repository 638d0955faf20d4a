use Rattle.std.proofs.Common.{sym, ap, ◌∙◌, subst}
use Rattle.plan_steps.specs.Sound.{IsLean}
use Rattle.inline_select.specs.Inlined.{inlined}
use Rattle.inline_select.proofs.Drafted.{stays_sound, is_lean}
use Rattle.inline_select.proofs.inlining.inline.Goals as goal

-- the plan that is made is the draft's, inlined
pub renew-requires : goal.renew-requires
renew-requires c =
    let d = c.args.draft in
    stays_sound d.base d.plan d.tree d.constraints c.requires.over_tree c.requires.merged c.know.ensures c.in_ok-plan.plan (c.in_ok-plan.ensures ∙ ap inlined c.plan.ensures)

pub returns-clause-lean : goal.returns-clause-lean
returns-clause-lean c =
    let d = c.args.draft in
    subst (λ x. IsLean x.base x.plan x.tree x.constraints) (sym c.renew.ensures)
    (is_lean d.base d.plan d.tree d.constraints c.requires.over_tree c.requires.merged c.know.ensures c.in_ok-plan.plan (c.in_ok-plan.ensures ∙ ap inlined c.plan.ensures))
