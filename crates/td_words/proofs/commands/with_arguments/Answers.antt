use Rattle.std.proofs.Common.{◌∙◌, ap₂, refl, map, ◌||◌}
use Rattle.clap.specs.Words.{app_of, rule_of, with_rule}
use Rattle.td_words.specs.Table.{rule_in}
use Rattle.td_words.proofs.Grown.{grown}
use Rattle.td_words.proofs.commands.with_arguments.Goals as goal

pub loop-argument-preserved : goal.loop-argument-preserved
loop-argument-preserved c = record {
  app =
      grown with_rule rule_in (map rule_in) (λ argument arguments. refl) c.args.arguments.now c.loop-argument.argument-index _ (app_of c.loop-argument.command) (app_of c.in_ok-command.command) _ (rule_of c.arg_of.result)
      c.loop-argument-test.true (c.in_ok-command.ensures.shape c.arg_of.ensures.local) c.arg_of.ensures.rule c.loop-argument.invariant.app;
  globals = c.in_ok-command.ensures.globals ∙ ap₂ ◌||◌ c.loop-argument.invariant.globals c.arg_of.ensures.local;
}
