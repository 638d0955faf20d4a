use Rattle.parse_rules.proofs.Skipped.{skip_exact}
use Rattle.parse_rules.proofs.laws.skip_while_is_exact.Goals as goal

pub returns : goal.returns
returns g c n a lowers unseen = let p = g.P.Part in skip_exact p.brackets n p.follow p.test a lowers unseen
