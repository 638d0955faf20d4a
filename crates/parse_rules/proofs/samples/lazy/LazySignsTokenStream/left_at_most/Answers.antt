use Rattle.std.proofs.Common.{◌≤◌, List, length, subst}
use Rattle.parse_rules.proofs.LazySigns.{signs_bound}
use Rattle.parse_rules.proofs.samples.lazy.LazySignsTokenStream.left_at_most.Goals as goal

pub returns : goal.returns
returns c = record { bound = subst (λ (ts : List _). length ts ≤ length c.self.inside.text.now) c.self.view_is (signs_bound c.self.inside.text.now) }
