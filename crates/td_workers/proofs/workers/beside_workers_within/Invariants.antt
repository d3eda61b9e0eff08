use Rattle.td_workers.proofs.workers.beside_workers_within.Given as goal

abbrev pub ghosts-in_pool-K-Ledger : goal.ghosts-in_pool-K-Ledger
ghosts-in_pool-K-Ledger g a = record { name = a.blank.name; parts = a.blank.parts }

abbrev pub ghosts-in_pool-K-Crew : goal.ghosts-in_pool-K-Crew
ghosts-in_pool-K-Crew g a = record { shards = a.blank.parts; start = a.hall.given; course = a.course }
