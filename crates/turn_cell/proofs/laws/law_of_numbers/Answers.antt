use Rattle.turn_cell.proofs.Turning.{numbers_differ}
use Rattle.turn_cell.proofs.laws.law_of_numbers.Goals as goal

pub returns : goal.returns
returns g c = numbers_differ _ c.requires
