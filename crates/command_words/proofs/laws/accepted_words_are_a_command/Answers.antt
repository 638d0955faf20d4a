use Rattle.command_words.proofs.Accepted.{accepted_named}
use Rattle.command_words.proofs.laws.accepted_words_are_a_command.Goals as goal

pub returns : goal.returns
returns c words = accepted_named words
