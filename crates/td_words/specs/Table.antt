-- The table of subcommands in the words of clap. No public contract cites this file.
use Rattle.std.specs.Prelude.{Bool, map}
use Rattle.clap.specs.Words.{Rule}
use Rattle.clap.specs.declared.builder.command.Command.{Command}
use Rattle.clap.specs.declared.builder.command.Command.TheViews.{out-Command}
use Rattle.td_words.specs.declared.table.Argument.{Argument}
use Rattle.td_words.specs.declared.table.Argument.TheVariants.{Word, Number, Workers, Picks, NumberOption, TextOption, Flag}
use Rattle.td_words.specs.declared.table.Row.{Row}
use Rattle.td_words.specs.Command.{Subcommand, word_rule, number_rule, workers_rule, picks_rule, option_rule, text_rule, flag_rule}

-- the rule of an argument
abbrev pub rule_in : Argument → Rule
rule_in (Word id value help) = word_rule id.now
rule_in (Number id value help) = number_rule id.now
rule_in Workers = workers_rule
rule_in Picks = picks_rule
rule_in (NumberOption id value help least most) = option_rule id.now least most
rule_in (TextOption id value help) = text_rule id.now
rule_in (Flag id help) = flag_rule id.now

-- the subcommand of a row
abbrev pub subcommand_in : Row → Subcommand
subcommand_in row = (row.name.now, map rule_in row.arguments.now)

-- the command has global arguments
abbrev pub has_globals : Command → Bool
has_globals c = (out-Command c).has_globals
