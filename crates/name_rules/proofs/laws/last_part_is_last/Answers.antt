use Rattle.name_rules.proofs.PartLemmas.{parts_last}
use Rattle.name_rules.proofs.laws.last_part_is_last.Goals as goal

pub returns : goal.returns
returns c = parts_last c.args.name.now c.requires
