use Rattle.std.proofs.Common.{◌∙◌, map}
use Rattle.std.proofs.lemmas.Result.{IfOk-weaker}
use Rattle.clap.specs.Words.{app_of}
use Rattle.td_words.specs.Command.{alone, batch_to_sim, format_to_upgrade, copy_to_load, stream_and_plan}
use Rattle.td_words.specs.Table.{subcommand_in}
use Rattle.td_words.proofs.Grown.{with_known, in_parts}
use Rattle.td_words.proofs.commands.command.Goals as goal

pub returns : goal.returns
returns c =
    let first = with_known (app_of c.alone.result) (app_of c.in_ok-td.td) alone (map subcommand_in c.batch_to_sim.result.now) batch_to_sim c.in_ok-td.ensures c.batch_to_sim.ensures c.alone.ensures.app in
    let second = with_known (app_of c.in_ok-td.td) (app_of c.in_ok-td-2.td) _ (map subcommand_in c.format_to_upgrade.result.now) format_to_upgrade c.in_ok-td-2.ensures c.format_to_upgrade.ensures first in
    let third = with_known (app_of c.in_ok-td-2.td) (app_of c.in_ok-td-3.td) _ (map subcommand_in c.copy_to_load.result.now) copy_to_load c.in_ok-td-3.ensures c.copy_to_load.ensures second in
    IfOk-weaker c.with_rows-4.result _ _ (λ made is. with_known (app_of c.in_ok-td-3.td) (app_of made) _ (map subcommand_in c.stream_and_plan.result.now) stream_and_plan is c.stream_and_plan.ensures third ∙ in_parts alone batch_to_sim format_to_upgrade copy_to_load stream_and_plan) c.with_rows-4.ensures
