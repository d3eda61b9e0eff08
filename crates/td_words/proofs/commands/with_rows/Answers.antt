use Rattle.std.proofs.Common.{refl, map}
use Rattle.clap.specs.Words.{app_of, shape_of, with_subcommand}
use Rattle.td_words.specs.Command.{leaf_shape}
use Rattle.td_words.specs.Table.{subcommand_in}
use Rattle.td_words.proofs.Grown.{grown}
use Rattle.td_words.proofs.commands.with_rows.Goals as goal

pub loop-row-preserved : goal.loop-row-preserved
loop-row-preserved c =
    grown with_subcommand (λ row. leaf_shape (subcommand_in row)) (λ rows. map leaf_shape (map subcommand_in rows)) (λ row rows. refl) c.args.rows.now c.loop-row.row-index _ (app_of c.loop-row.command) (app_of c.in_ok-command.command) _ (shape_of c.in_ok-leaf.leaf)
    c.loop-row-test.true (c.in_ok-command.ensures.shape c.in_ok-leaf.ensures.globals) c.in_ok-leaf.ensures.shape c.loop-row.invariant
