use Rattle.td_written.proofs.engine.run.Given as goal

-- the closures that a type parameter stands for
abbrev pub ghosts-run_by : goal.ghosts-run_by
ghosts-run_by g a = record { closures = a.closures.items }
