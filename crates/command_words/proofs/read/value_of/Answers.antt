use Rattle.clap.specs.Matches.{found_of}
use Rattle.command_words.proofs.Rows.{got}
use Rattle.command_words.proofs.read.value_of.Goals as goal

pub returns : goal.returns
returns c = got (found_of c.args.found.now) c.args.name.now c.get_str.result c.get_str.ensures
