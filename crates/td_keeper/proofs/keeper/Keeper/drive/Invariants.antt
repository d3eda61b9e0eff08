use Rattle.std.proofs.Common.{◌≡◌, ◌≤◌, ◌↔◌, length}
use Rattle.std.specs.Vec.{vec_capacity}
use Rattle.td_keeper.specs.Driven.{Driven}
use Rattle.td_keeper.proofs.keeper.Keeper.drive.Given as goal

-- the commands so far were obeyed, and there is room for the replies to the others
abbrev pub invariant-loop-command : goal.invariant-loop-command
invariant-loop-command g l = record {
  driven : Driven g.D.Disk.view g.L.Law.answers l.yielded l.replies.items l.fn.self l.self;
  count : length l.replies.items ≡ length l.yielded;
  room : length l.fn.commands.items ≤ vec_capacity l.replies;
  size : (g.D.Disk.view l.self.device).capacity ≡ (g.D.Disk.view l.fn.self.device).capacity;
  lawful : (g.D.Disk.view l.fn.self.device).lawful ↔ (g.D.Disk.view l.self.device).lawful;
}
