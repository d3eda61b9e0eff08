use Rattle.td_stamp.proofs.Runs.{groups-runs}
use Rattle.td_stamp.proofs.laws.groups_are_runs.Goals as goal

pub returns : goal.returns
returns c = groups-runs
