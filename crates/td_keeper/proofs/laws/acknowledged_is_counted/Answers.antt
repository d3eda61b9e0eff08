use Rattle.td_keeper.proofs.Acknowledging.{driven_counts}
use Rattle.td_keeper.proofs.laws.acknowledged_is_counted.Goals as goal

pub returns : goal.returns
returns g c commands replies old new kept lawful driven =
    let join = c.advances_join.ensures in
    let counts = driven_counts g.D.Disk.view g.L.Law.answers join.submitted join.cut join.last commands replies old new kept driven lawful in
    (counts.plan, counts.counted)
