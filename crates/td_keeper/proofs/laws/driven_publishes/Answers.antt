use Rattle.td_keeper.proofs.Publishing as publishing
use Rattle.td_keeper.proofs.laws.driven_publishes.Goals as goal

pub returns : goal.returns
returns g c commands replies old new driven = publishing.driven_publishes g.D.Disk.view g.L.Law.answers commands replies old new driven
