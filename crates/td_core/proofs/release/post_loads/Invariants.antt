use Rattle.std.proofs.Common.{flat_map, map, take, drop}
use Rattle.td_core.specs.Posted.{IsPosted}
use Rattle.td_core.specs.Released.{HaveRoomForLoads, load_of, messages_of}
use Rattle.td_core.proofs.release.post_loads.Given as goal

abbrev pub invariant-loop-load : goal.invariant-loop-load
invariant-loop-load l = record {
  posted : IsPosted (flat_map (messages_of l.routes l.epoch) (map load_of (take l.load-index l.loads))) l.fn.shards.items l.shards.items;
  room : HaveRoomForLoads l.routes (map load_of (drop l.load-index l.loads)) l.shards.items;
}
