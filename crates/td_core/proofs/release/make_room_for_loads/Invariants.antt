use Rattle.std.proofs.Common.{◌≡◌, ◌+◌, ◌<◌, ℕ, drop, get_or, map}
use Rattle.td_core.specs.Released.{load_of, messages_in, runs_in}
use Rattle.td_core.proofs.release.make_room_for_loads.Given as goal

abbrev pub invariant-loop-load : goal.invariant-loop-load
invariant-loop-load l = record {
  messages : (s : ℕ) → s < l.workers → get_or l.counts.messages s 0 + messages_in l.routes l.workers (map load_of (drop l.load-index l.loads)) s ≡ messages_in l.routes l.workers (map load_of l.loads) s;
  runs : (s : ℕ) → s < l.workers → get_or l.counts.runs s 0 + runs_in l.routes l.workers (map load_of (drop l.load-index l.loads)) s ≡ runs_in l.routes l.workers (map load_of l.loads) s;
}
