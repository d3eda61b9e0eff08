use Rattle.td_written.proofs.durable.stream.Given as goal

-- the closures that a type parameter stands for
abbrev pub ghosts-stream_by : goal.ghosts-stream_by
ghosts-stream_by g a = record { closures = a.closures.items }
