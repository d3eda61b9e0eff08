use Rattle.td_keeper.proofs.Short.{driven_keeps_on}
use Rattle.td_keeper.proofs.laws.driven_keeps_to_its_base.Goals as goal

pub returns : goal.returns
returns g c commands replies old new lawful driven =
    let on = driven_keeps_on g.D.Disk.view g.L.Law.answers c.reached.ensures.sound commands replies old new lawful driven in
    (on.base, on.since)
