use Rattle.std.proofs.Common.{◌≡◌, drop}
use Rattle.pg_base.specs.Vars.{variable, value_in}
use Rattle.pg_base.proofs.vars.Vars.get.Given as goal

abbrev pub invariant-loop-entry : goal.invariant-loop-entry
invariant-loop-entry l = value_in (drop l.entry-index l.self.entries) l.name ≡ variable l.self l.name
