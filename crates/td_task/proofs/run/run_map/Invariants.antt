use Rattle.std.proofs.Common.{◌≡◌, ◌+◌, ◌*◌, ◌≤◌, length, map, take}
use Rattle.td_task.proofs.run.run_map.Given as goal

abbrev pub invariant-loop-rec : goal.invariant-loop-rec
invariant-loop-rec g l = record {
  sent : l.sent.lists ≡ map (g.L.Law.answers.emit l.code l.port) (take l.rec-index l.recs);
  lists : length l.recs ≤ l.sent.more_lists + l.rec-index;
  records : length l.recs * 8 ≤ l.sent.more_members + l.rec-index * 8;
}
