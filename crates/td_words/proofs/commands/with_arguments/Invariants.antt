use Rattle.std.proofs.Common.{◌≡◌, false, map, drop}
use Rattle.std.specs.List.{fold}
use Rattle.clap.specs.Words.{app_of, with_rule}
use Rattle.td_words.specs.Table.{has_globals, rule_in}
use Rattle.td_words.proofs.commands.with_arguments.Given as goal

-- the arguments that are left make of the command what all make of it
abbrev pub invariant-loop-argument : goal.invariant-loop-argument
invariant-loop-argument l = record {
  app : fold with_rule (app_of l.command) (map rule_in (drop l.argument-index l.arguments)) ≡ fold with_rule (app_of l.initial.command) (map rule_in l.arguments);
  globals : has_globals l.command ≡ false;
}
