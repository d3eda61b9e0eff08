use Rattle.td_written.proofs.durable.feed.Given as goal

-- the closures that a type parameter stands for
abbrev pub ghosts-feed_by : goal.ghosts-feed_by
ghosts-feed_by g a = record { closures = a.closures.items }
