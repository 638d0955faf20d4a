use Rattle.std.proofs.Common.{◌≡◌, option_map, None, ap, ◌∙◌}
use Rattle.std.specs.Arc.{arc_value}
use Rattle.plan_cache.specs.Shelf as spec
use Rattle.plan_cache.proofs.Oldest.{looked, looked_at, kept_of}
use Rattle.plan_cache.proofs.shelf.Shelf.look.Goals as goal

pub returns-in-None-clause-look : goal.returns-in-None-clause-look
returns-in-None-clause-look g c history shows =
    looked (λ k. spec.key_of k.key.text k.key.operation k.key.constraints)
    (λ e. spec.key_of (g.E.Filed.text e) (g.E.Filed.operation e) (g.E.Filed.constraints e))
    (λ k. arc_value k.entry)
    (spec.asked_for c.args.text.now (option_map (λ name. name.now) c.args.operation) c.args.vars.now)
    (λ k. g.E.Filed.base (arc_value k.entry) ≡ arc_value c.self.inside.base)
    c.self.inside.kept.items None (spec.live history) (ap (λ s. s.entries) c.self.view_is ∙ shows)
    c.self.invariant.1 c.in-None.ensures

pub returns-in_ok-entry-in-Some-clause-look : goal.returns-in_ok-entry-in-Some-clause-look
returns-in_ok-entry-in-Some-clause-look g c history shows =
    looked_at (λ k. spec.key_of k.key.text k.key.operation k.key.constraints)
    (λ e. spec.key_of (g.E.Filed.text e) (g.E.Filed.operation e) (g.E.Filed.constraints e))
    (λ k. arc_value k.entry)
    (spec.asked_for c.args.text.now (option_map (λ name. name.now) c.args.operation) c.args.vars.now)
    (λ k. g.E.Filed.base (arc_value k.entry) ≡ arc_value c.self.inside.base)
    c.self.inside.kept.items c.in-Some.one.now (arc_value c.in_ok-entry-in-Some.entry) (spec.live history)
    (ap (λ s. s.entries) c.self.view_is ∙ shows) c.self.invariant.1 c.in-Some.ensures
    c.in_ok-entry-in-Some.ensures

pub returns-in-None-clause-oldest : goal.returns-in-None-clause-oldest
returns-in-None-clause-oldest g c =
    looked (λ k. spec.key_of k.key.text k.key.operation k.key.constraints)
    (λ e. spec.key_of (g.E.Filed.text e) (g.E.Filed.operation e) (g.E.Filed.constraints e))
    (λ k. arc_value k.entry)
    (spec.asked_for c.args.text.now (option_map (λ name. name.now) c.args.operation) c.args.vars.now)
    (λ k. g.E.Filed.base (arc_value k.entry) ≡ arc_value c.self.inside.base)
    c.self.inside.kept.items None c.args.self.now.entries (ap (λ s. s.entries) c.self.view_is)
    c.self.invariant.1 c.in-None.ensures

pub returns-in_ok-entry-in-Some-clause-oldest : goal.returns-in_ok-entry-in-Some-clause-oldest
returns-in_ok-entry-in-Some-clause-oldest g c =
    looked_at (λ k. spec.key_of k.key.text k.key.operation k.key.constraints)
    (λ e. spec.key_of (g.E.Filed.text e) (g.E.Filed.operation e) (g.E.Filed.constraints e))
    (λ k. arc_value k.entry)
    (spec.asked_for c.args.text.now (option_map (λ name. name.now) c.args.operation) c.args.vars.now)
    (λ k. g.E.Filed.base (arc_value k.entry) ≡ arc_value c.self.inside.base)
    c.self.inside.kept.items c.in-Some.one.now (arc_value c.in_ok-entry-in-Some.entry) c.args.self.now.entries
    (ap (λ s. s.entries) c.self.view_is) c.self.invariant.1 c.in-Some.ensures
    c.in_ok-entry-in-Some.ensures

pub returns-in_ok-entry-in-Some-clause-base : goal.returns-in_ok-entry-in-Some-clause-base
returns-in_ok-entry-in-Some-clause-base g c =
    ap g.E.Filed.base c.in_ok-entry-in-Some.ensures
    ∙ kept_of (λ k. spec.key_of k.key.text k.key.operation k.key.constraints)
    (λ e. spec.key_of (g.E.Filed.text e) (g.E.Filed.operation e) (g.E.Filed.constraints e))
    (λ k. arc_value k.entry)
    (spec.asked_for c.args.text.now (option_map (λ name. name.now) c.args.operation) c.args.vars.now)
    (λ k. g.E.Filed.base (arc_value k.entry) ≡ arc_value c.self.inside.base)
    c.self.inside.kept.items c.in-Some.one.now c.self.invariant.1 c.in-Some.ensures
    ∙ ap (λ s. s.base) c.self.view_is
