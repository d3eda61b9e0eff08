use Rattle.td_keeper.proofs.Owning.{opened_home}
use Rattle.td_keeper.proofs.engine.Engine.open.Goals as goal

pub invariant_of-result : goal.invariant_of-result
invariant_of-result g c = (opened_home c.args.keeper c.in-Ok.hall c.requires.collected c.in-Ok.ensures.opened, c.requires.fits)
