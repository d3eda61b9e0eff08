use Rattle.std.proofs.Common.{◌≡◌, ◌+◌, ◌-◌, ◌*◌, ◌≤◌, length, take}
use Rattle.std.specs.Option.{option_map}
use Rattle.std.specs.HashMap.{get, spare}
use Rattle.td_shard.specs.declared.runs.Lane.{Lane}
use Rattle.td_shard.specs.Runs.{lane_eq, last_on, AreLinked, AreAppended, AreUpTo, to_each}
use Rattle.td_shard.proofs.mailbox.append_each.Given as goal

abbrev pub invariant-loop-outlet : goal.invariant-loop-outlet
invariant-loop-outlet l = record {
  linked : AreLinked lane_eq l.runs.parts;
  lasts : (q : Lane) → get lane_eq l.lasts q ≡ option_map (λ i. l.runs.first + i) (last_on lane_eq q l.runs.parts);
  appended : AreAppended l.number (length l.recs) (to_each l.time l.number l.recs (take l.outlet-index l.outlets)) l.fn.runs l.runs;
  up_to : AreUpTo l.number l.fn.runs.parts → AreUpTo l.number l.runs.parts;
  runs : l.runs.runs ≡ l.fn.runs.runs - l.outlet-index;
  room : l.runs.room ≡ l.fn.runs.room - length l.recs * l.outlet-index;
  spare : spare l.fn.lasts ≤ spare l.lasts + l.outlet-index;
}
