use Rattle.td_c.proofs.beside.write_changes_beside.Given as goal

-- the closures that a type parameter stands for
abbrev pub ghosts-write_changes_by : goal.ghosts-write_changes_by
ghosts-write_changes_by a = record { closures = a.closures.items }
