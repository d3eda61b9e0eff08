use Rattle.td_machine.proofs.NoneLeft.{none_to_take, first_unpassed}
use Rattle.td_machine.proofs.laws.none_left.Goals as goal

pub returns-clause-task : goal.returns-clause-task
returns-clause-task c = none_to_take

pub returns-clause-epoch : goal.returns-clause-epoch
returns-clause-epoch c = first_unpassed
