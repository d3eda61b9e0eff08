use Rattle.std.proofs.Common.{◌≡◌, ◌↔◌, false}
use Rattle.td_disk.specs.Disk.{IsDurable}
use Rattle.td_gate.specs.CrashSafe.{CrashSafe}
use Rattle.td_gate.specs.Reads.{IsRead}
use Rattle.td_store.specs.group.Groups.{AreShut, ClosesSome}
use Rattle.td_store.proofs.group.free.close_gates.Given as goal

abbrev pub invariant-loop-k : goal.invariant-loop-k
invariant-loop-k g l =
    ((g.D.Disk.view l.device).capacity ≡ (g.D.Disk.view l.initial.device).capacity)
    × ((g.D.Disk.view l.device).failures ≡ (g.D.Disk.view l.initial.device).failures)
    × ((g.D.Disk.view l.initial.device).lawful ↔ (g.D.Disk.view l.device).lawful)
    × ((g.D.Disk.view l.initial.device).lawful → IsDurable (g.D.Disk.view l.initial.device).state → CrashSafe (ClosesSome l.journal l.first l.k) (g.D.Disk.view l.initial.device).state (g.D.Disk.view l.device).state)
    × ((g.D.Disk.view l.initial.device).lawful → AreShut l.journal (g.D.Disk.view l.device).state.bytes l.first l.k)
    × (l.wrote ≡ false → IsRead g.D.Disk.view l.initial.device l.device)
    × ((g.D.Disk.view l.initial.device).lawful → AreShut l.journal (g.D.Disk.view l.initial.device).state.bytes l.first l.count → l.wrote ≡ false)
