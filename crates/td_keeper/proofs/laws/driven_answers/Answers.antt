use Rattle.td_keeper.proofs.Answering.{all_of_history}
use Rattle.td_keeper.proofs.laws.driven_answers.Goals as goal

pub returns : goal.returns
returns g c commands replies old new history kept driven is =
    all_of_history g.D.Disk.view g.L.Law.answers c.run_joins.ensures.states c.driven_acknowledges.ensures commands replies old new history kept driven is
