use Rattle.std.proofs.Common.{sym, ap, ◌∙◌}
use Rattle.std.specs.Arc.{arc_value}
use Rattle.plan_cache.specs.Shelf as spec
use Rattle.plan_cache.proofs.Entered.{kept_after, entries_after, same_key}
use Rattle.plan_cache.proofs.shelf.Shelf.enter.Goals as goal

pub invariant_of-self : goal.invariant_of-self
invariant_of-self g c =
    kept_after _ _ _ _ _ c.push_back-oldest.ensures.items c.self.invariant.0 c.self.invariant.1 (
      c.requires.base ∙ ap (λ s. s.base) (sym c.self.view_is),
      same_key _ _ _ _ _ _ c.requires.text c.requires.operation c.requires.constraints,
    )

pub returns-clause-enter : goal.returns-clause-enter
returns-clause-enter g c before after shows entered =
    entries_after (λ k. arc_value k.entry) _ _ _ _ before c.push_back-oldest.ensures.items c.self.invariant.0
    (ap (λ s. s.entries) c.self.view_is ∙ shows)
    ∙ ap spec.live (sym entered)
