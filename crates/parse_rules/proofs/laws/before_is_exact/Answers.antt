use Rattle.parse_rules.proofs.Skipped.{before_exact}
use Rattle.parse_rules.proofs.laws.before_is_exact.Goals as goal

pub returns : goal.returns
returns g c n a sees_it = let p = g.P.Part in before_exact p.brackets n p.follow p.test a sees_it
