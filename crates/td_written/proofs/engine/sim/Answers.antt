use Rattle.td_written.proofs.engine.sim.Goals as goal

pub returns : goal.returns
returns g c = c.sim_by.ensures
