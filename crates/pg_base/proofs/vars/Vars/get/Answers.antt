use Rattle.std.proofs.Common.{refl, length, subst, ◌≤◌}
use Rattle.pg_base.proofs.Variables.{all_seen}
use Rattle.pg_base.proofs.vars.Vars.get.Goals as goal

pub returns-clause-none : goal.returns-clause-none
returns-clause-none c =
    let past : length c.args.self.now.entries ≤ c.loop-entry.entry-index = subst (λ es. length es ≤ c.loop-entry.entry-index) c.as_slice-entry-items.ensures c.loop-entry-test.false in
    (λ _. all_seen c.args.self.now c.args.name.now c.loop-entry.entry-index past c.loop-entry.invariant, λ _. refl)
