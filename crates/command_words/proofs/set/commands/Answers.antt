use Rattle.std.proofs.Common.{◌∙◌, ap₂}
use Rattle.clap.specs.Simple.{with_subcommand}
use Rattle.command_words.proofs.set.commands.Goals as goal

pub returns : goal.returns
returns c =
    let check = c.in_ok-subcommand.ensures.shape c.in_ok-check.ensures.globals ∙ ap₂ with_subcommand c.top.ensures c.in_ok-check.ensures.shape in
    let schema = c.in_ok-subcommand-2.ensures.shape c.in_ok-schema.ensures.globals ∙ ap₂ with_subcommand check c.in_ok-schema.ensures.shape in
    let query = c.in_ok-subcommand-3.ensures.shape c.in_ok-query.ensures.globals ∙ ap₂ with_subcommand schema c.in_ok-query.ensures.shape in
    c.in_ok-commands.ensures.shape c.in_ok-explain.ensures.globals ∙ ap₂ with_subcommand query c.in_ok-explain.ensures.shape
