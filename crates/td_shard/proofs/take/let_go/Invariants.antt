use Rattle.std.proofs.Common.{ℕ, ◌≡◌, ◌+◌, ◌≤◌, length}
use Rattle.std.specs.Option.{option_map}
use Rattle.std.specs.HashMap.{get, spare}
use Rattle.td_shard.specs.declared.runs.Lane.{Lane}
use Rattle.td_shard.specs.Runs.{lane_eq, last_on, AreLinked, AreNumbered, all_of}
use Rattle.td_shard.proofs.take.let_go.Given as goal

abbrev pub invariant-loop-runs : goal.invariant-loop-runs
invariant-loop-runs l = record {
  linked : AreLinked lane_eq l.runs.parts;
  lasts : (q : Lane) → get lane_eq l.lasts q ≡ option_map (λ i. l.runs.first + i) (last_on lane_eq q l.runs.parts);
  messages : all_of l.runs.parts ≡ all_of l.fn.runs.parts;
  numbered : (next : ℕ) → AreNumbered next l.fn.runs.parts → AreNumbered next l.runs.parts;
  runs : l.runs.runs ≡ l.fn.runs.runs;
  room : l.runs.room ≡ l.fn.runs.room;
  spare : spare l.fn.lasts ≤ spare l.lasts;
}

abbrev pub decreases-loop-runs : goal.decreases-loop-runs
decreases-loop-runs l = length l.runs.parts
