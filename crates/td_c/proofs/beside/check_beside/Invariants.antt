use Rattle.td_c.proofs.beside.check_beside.Given as goal

-- the closures that a type parameter stands for
abbrev pub ghosts-check_by : goal.ghosts-check_by
ghosts-check_by a = record { closures = a.closures.items }
