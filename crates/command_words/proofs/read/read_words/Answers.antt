use Rattle.clap.specs.Simple.{app_of}
use Rattle.command_words.specs.Asked.{texts_of}
use Rattle.command_words.proofs.Accepted.{refused_when}
use Rattle.command_words.proofs.read.read_words.Goals as goal

pub returns-clause-refused : goal.returns-clause-refused
returns-clause-refused c _ =
    refused_when (app_of c.in_ok-commands.commands) (texts_of c.args.words.now) c.in-Ok.matches c.in_ok-commands.ensures c.in-Ok.ensures.matches c.in-None.ensures
