use Rattle.td_keeper.proofs.Handing.{driven_hands}
use Rattle.td_keeper.proofs.laws.driven_hands_on.Goals as goal

pub returns : goal.returns
returns g c commands replies old new kept driven =
    driven_hands g.D.Disk.view g.L.Law.answers c.run_joins.ensures.outs c.advances_join.ensures.last commands replies old new kept driven
