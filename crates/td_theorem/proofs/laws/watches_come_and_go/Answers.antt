use Rattle.td_theorem.proofs.Watches.{obeyed_of, obeyed_on}
use Rattle.td_theorem.proofs.laws.watches_come_and_go.Goals as goal

pub returns-clause-driven : goal.returns-clause-driven
returns-clause-driven g c commands replies old new is = obeyed_of g.D.Disk.view g.L.Law.answers commands replies old new is

pub returns-clause-attached : goal.returns-clause-attached
returns-clause-attached g c watch commands replies more others old mid new first later =
    obeyed_on g.D.Disk.view g.L.Law.answers watch commands replies more others old mid new first later
