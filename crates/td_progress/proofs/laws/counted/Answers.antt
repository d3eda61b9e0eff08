use Rattle.td_progress.proofs.Counted.{occurs, stands}
use Rattle.td_progress.proofs.laws.counted.Goals as goal

pub returns-clause-contains : goal.returns-clause-contains
returns-clause-contains c p xs = (occurs p xs, stands p xs)
