use Rattle.std.proofs.Common.{◌≡◌, ◌+◌, ◌-◌, ◌≤◌, length, map, take, vec_len, vec_capacity}
use Rattle.td_core.specs.Released.{load_of, loads_in}
use Rattle.td_core.proofs.release.loads_of.Given as goal

abbrev pub invariant-loop-input : goal.invariant-loop-input
invariant-loop-input l = record {
  loads : map load_of l.loads.items ≡ loads_in (take l.input-index l.inputs) l.batch;
  room : vec_len l.loads + (length l.inputs - l.input-index) ≤ vec_capacity l.loads;
}
