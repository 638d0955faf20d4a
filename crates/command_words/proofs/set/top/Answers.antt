use Rattle.std.proofs.Common.{◌≡◌, ◌∙◌, ap, true}
use Rattle.clap.specs.Simple.{Shape, app_of, app_of_fields, on_top}
use Rattle.command_words.proofs.set.top.Goals as goal

pub returns : goal.returns
returns c =
    let no_name : Shape → Shape = λ s. record s { no_binary_name = true } in
    let no_flag : Shape → Shape = λ s. record s { disable_help_flag = true } in
    let no_help : Shape → Shape = λ s. record s { disable_help_subcommand = true } in
    let no_version : Shape → Shape = λ s. record s { disable_version_flag = true } in
    let required : Shape → Shape = λ s. record s { subcommand_required = true } in
    let named : app_of c.no_binary_name.result ≡ on_top no_name (app_of c.new.result) = ap app_of_fields c.no_binary_name.ensures in
    let flagless : app_of c.disable_help_flag.result ≡ on_top no_flag (app_of c.no_binary_name.result) = ap app_of_fields c.disable_help_flag.ensures in
    let helpless : app_of c.disable_help_subcommand.result ≡ on_top no_help (app_of c.disable_help_flag.result) = ap app_of_fields c.disable_help_subcommand.ensures in
    let unversioned : app_of c.disable_version_flag.result ≡ on_top no_version (app_of c.disable_help_subcommand.result) = ap app_of_fields c.disable_version_flag.ensures in
    let wanting : app_of c.subcommand_required.result ≡ on_top required (app_of c.disable_version_flag.result) = ap app_of_fields c.subcommand_required.ensures in
    wanting ∙ ap (on_top required) (unversioned ∙ ap (on_top no_version) (helpless ∙ ap (on_top no_help) (flagless
    ∙ ap (on_top no_flag) (named ∙ ap (on_top no_name) c.new.ensures.app))))
