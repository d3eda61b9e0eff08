use Rattle.std.proofs.Common.{◌≡◌, ◌-◌}
use Rattle.std.specs.List.{AllByRecursion, range_with_len}
use Rattle.td_progress.specs.Ways.{places_of}
use Rattle.td_progress.specs.Held.{stepped, all_shifted_at, IsOfPlan}
use Rattle.td_progress.proofs.held.step_in_loops.Given as goal

abbrev pub invariant-loop-index : goal.invariant-loop-index
invariant-loop-index l = record {
  entries : l.chains.entries ≡ all_shifted_at l.ways l.class l.epoch (stepped l.step) (range_with_len (places_of l.ways) (l.index - places_of l.ways)) l.fn.chains.entries;
  each : AllByRecursion (IsOfPlan l.ways) l.chains.entries;
}
