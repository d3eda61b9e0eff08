use Rattle.td_c.proofs.beside.advance_beside.Given as goal

-- the closures that a type parameter stands for
abbrev pub ghosts-advance_by : goal.ghosts-advance_by
ghosts-advance_by a = record { closures = a.closures.items }
