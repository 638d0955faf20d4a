use Rattle.parse_rules.proofs.Separated.{separated_exact}
use Rattle.parse_rules.proofs.laws.separated_is_exact.Goals as goal

pub returns : goal.returns
returns g c n some exact way lowers hit keeps unseen = let p = g.P.Part in separated_exact p.brackets n p.follow p.behind p.test p.rule p.parser exact way lowers some hit keeps unseen
