use Rattle.td_written.proofs.engine.batch.Given as goal

-- the closures that a type parameter stands for
abbrev pub ghosts-batch_by : goal.ghosts-batch_by
ghosts-batch_by g a = record { closures = a.closures.items }
