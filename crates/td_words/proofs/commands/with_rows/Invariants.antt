use Rattle.std.proofs.Common.{◌≡◌, map, drop}
use Rattle.std.specs.List.{fold}
use Rattle.clap.specs.Words.{app_of, with_subcommand}
use Rattle.td_words.specs.Command.{leaf_shape}
use Rattle.td_words.specs.Table.{subcommand_in}
use Rattle.td_words.proofs.commands.with_rows.Given as goal

-- the rows that are left make of the command what all make of it
abbrev pub invariant-loop-row : goal.invariant-loop-row
invariant-loop-row l =
    fold with_subcommand (app_of l.command) (map leaf_shape (map subcommand_in (drop l.row-index l.rows)))
    ≡ fold with_subcommand (app_of l.initial.command) (map leaf_shape (map subcommand_in l.rows))
