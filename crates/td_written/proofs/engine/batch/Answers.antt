use Rattle.td_written.proofs.engine.batch.Goals as goal

pub returns : goal.returns
returns g c = c.batch_by.ensures
