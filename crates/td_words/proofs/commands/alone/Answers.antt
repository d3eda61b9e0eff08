use Rattle.std.proofs.Common.{◌∙◌, ap, true}
use Rattle.clap.specs.Words.{App}
use Rattle.clap.specs.Simple.{app_of_fields}
use Rattle.clap.specs.declared.builder.command.Command.{Command, Command-F}
use Rattle.td_words.proofs.commands.alone.Goals as goal

pub returns-clause-app : goal.returns-clause-app
returns-clause-app c =
    let named = ap app_of_fields c.after_help.ensures ∙ ap app_of_fields c.about.ensures ∙ c.new.ensures.app in
    ap app_of_fields c.subcommand_required.ensures ∙ ap (λ (a : App). record a { top = record a.top { subcommand_required = true } }) named

pub returns-clause-globals : goal.returns-clause-globals
returns-clause-globals c =
    let named = ap (λ (f : Command-F Command). f.has_globals) c.about.ensures ∙ c.new.ensures.local in
    let more = ap (λ (f : Command-F Command). f.has_globals) c.after_help.ensures ∙ named in
    ap (λ (f : Command-F Command). f.has_globals) c.subcommand_required.ensures ∙ more
