use Rattle.td_keeper.proofs.Acknowledged.{driven_told}
use Rattle.td_keeper.proofs.laws.acknowledged_is_told.Goals as goal

pub returns : goal.returns
returns g c commands replies old new history kept driven stands queue held image left =
    let join = c.advances_join.ensures in
    driven_told g.D.Disk.view g.L.Law.answers join.submitted join.cut join.last c.advance_stands.ensures.each c.standings_advance.ensures.not_yet
    commands replies old new history c.run_joins.ensures.outs c.told_in_parts.ensures.together kept driven stands queue held image left
