use Rattle.td_keeper.proofs.Handed.{handed_counted}
use Rattle.td_keeper.proofs.laws.handed_is_counted.Goals as goal

pub returns : goal.returns
returns g c commands replies old new kept driven queue =
    handed_counted g.L.Law.answers commands replies old new (c.driven_acknowledges.ensures commands replies old new kept driven) (c.driven_hands_on.ensures commands replies old new kept driven) queue
