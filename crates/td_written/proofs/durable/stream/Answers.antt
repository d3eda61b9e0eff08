use Rattle.td_written.proofs.durable.stream.Goals as goal

pub returns : goal.returns
returns g c = c.stream_by.ensures
