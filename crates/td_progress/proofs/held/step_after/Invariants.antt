use Rattle.std.proofs.Common.{◌≡◌, take}
use Rattle.std.specs.List.{AllByRecursion}
use Rattle.std.specs.Map.{keys_of}
use Rattle.td_progress.specs.declared.ways.Side.TheVariants as sides
use Rattle.td_progress.specs.Ways.{number_of, row}
use Rattle.td_progress.specs.Held.{stepped, all_shifted_at, IsOfPlan, IsLaidOut}
use Rattle.td_progress.proofs.held.step_after.Given as goal

abbrev pub invariant-loop-number : goal.invariant-loop-number
invariant-loop-number l = record {
  entries : l.chains.entries ≡ all_shifted_at l.ways l.class l.epoch (stepped l.step) (take l.number-index (row l.ways sides.After (number_of l.ways l.class.place))) l.fn.chains.entries;
  each : AllByRecursion (IsOfPlan l.ways) l.chains.entries;
  laid : IsLaidOut l.ways (keys_of l.chains.entries);
}
