use Rattle.std.proofs.Common.{◌≡◌, take, true, reverse}
use Rattle.std.specs.List.{list_all}
use Rattle.td_plan.specs.Blocks.{is_source_on}
use Rattle.td_plan.proofs.scope.Scope.reads_elsewhere.Given as goal

abbrev pub invariant-loop-source : goal.invariant-loop-source
invariant-loop-source l = list_all (is_source_on (reverse l.block) l.self.vertices) (take l.source-index l.sources) ≡ true
