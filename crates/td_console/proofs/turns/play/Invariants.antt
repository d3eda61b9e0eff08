use Rattle.std.proofs.Common.{◌≡◌, ◌+◌, ◌-◌, ◌*◌, ◌%◌, ◌<◌, ◌≤◌, length}
use Rattle.std.specs.Prelude.{string_bytes}
use Rattle.td_machine.specs.Steps.{ends}
use Rattle.td_console.specs.Turns.{Played}
use Rattle.td_console.proofs.turns.play.Given as goal

-- the turns so far, and whose is the next
abbrev pub invariant-loop-idle : goal.invariant-loop-idle
invariant-loop-idle g l = record {
  so_far : (p : Played g.L.Law.answers l.workers l.idle (string_bytes l.fn.text) (string_bytes l.text) l.fn.hall l.hall) × (l.shard ≡ length p.turns % l.workers);
  idle : l.idle ≤ l.workers;
  shard : l.shard < l.workers;
  place : l.place < length l.picks;
}

-- a turn that had a task used a number of which there are finitely many, and any other is idle
abbrev pub decreases-loop-idle : goal.decreases-loop-idle
decreases-loop-idle g l = (ends - l.hall.taken) * 17 + (16 - l.idle)
