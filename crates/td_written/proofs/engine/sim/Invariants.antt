use Rattle.td_written.proofs.engine.sim.Given as goal

-- the closures that a type parameter stands for
abbrev pub ghosts-sim_by : goal.ghosts-sim_by
ghosts-sim_by g a = record { closures = a.closures.items }
