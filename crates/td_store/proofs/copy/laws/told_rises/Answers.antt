use Rattle.td_store.specs.standing.Told.{inputs_of, ring_of, floor_of}
use Rattle.td_store.proofs.copy.Rising.{rise_from}
use Rattle.td_store.proofs.copy.laws.told_rises.Goals as goal

pub returns : goal.returns
returns c plan head side s image tells =
    rise_from head.version s.last s.submitted
    (c.told_numbers_rise.ensures (inputs_of plan) (ring_of head.shape s.epoch) image (floor_of head.version s.last) s.epoch s.submitted tells.submitted)
