use Rattle.td_progress.proofs.Outside.{path_is_enough}
use Rattle.td_progress.proofs.laws.in_no_loop.Goals as goal

pub returns : goal.returns
returns c plan lawful =
    path_is_enough plan (c.edges_by_number.ensures.source plan lawful) (c.read_there.ensures plan lawful) (c.stands_at.ensures.kind plan lawful) (c.paths.ensures.epoch plan)
