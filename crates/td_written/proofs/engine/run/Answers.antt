use Rattle.td_written.proofs.engine.run.Goals as goal

pub returns : goal.returns
returns g c = c.run_by.ensures
