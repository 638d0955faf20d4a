use Rattle.parse_rules.proofs.Separated.{while_onto_exact}
use Rattle.parse_rules.proofs.laws.while_onto_is_exact.Goals as goal

pub returns : goal.returns
returns g c n found exact = let p = g.P.Part in while_onto_exact p.brackets n p.behind p.test p.rule p.parser found exact
