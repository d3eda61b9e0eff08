use Rattle.td_store.specs.standing.Told.{inputs_of, ring_of, floor_of}
use Rattle.td_report.proofs.Reread.{asks_for, are_read, told_new, fed_whole}
use Rattle.td_report.proofs.laws.dumps_are_fed.Goals as goal

pub returns-clause-asks : goal.returns-clause-asks
returns-clause-asks c plan head side s lawful may fits =
    asks_for plan head.shape s (are_read plan s.submitted fits (λ y. c.inputs_are_accepted.ensures plan y lawful) (c.batches_are_in_order.ensures.read (inputs_of plan)) may.batches)

pub returns-clause-new : goal.returns-clause-new
returns-clause-new c plan head side s image tells =
    told_new head.version s.last s.submitted (c.told_numbers_rise.ensures (inputs_of plan) (ring_of head.shape s.epoch) image (floor_of head.version s.last) s.epoch s.submitted tells.submitted)

pub returns-clause-whole : goal.returns-clause-whole
returns-clause-whole c run plan input s history asks new stands = fed_whole plan input s.last stands.before s.submitted history asks new stands.last stands.whole
