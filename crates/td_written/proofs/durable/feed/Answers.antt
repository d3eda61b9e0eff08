use Rattle.td_written.proofs.durable.feed.Goals as goal

pub returns : goal.returns
returns g c = c.feed_by.ensures
