use Rattle.std.proofs.Common.{◌≡◌, flat_map, map, take}
use Rattle.td_core.specs.Released.{load_of, changes_of}
use Rattle.td_core.proofs.release.changes_in.Given as goal

abbrev pub invariant-loop-load : goal.invariant-loop-load
invariant-loop-load l = l.changes.items ≡ flat_map (changes_of l.routes l.epoch) (map load_of (take l.load-index l.loads))
