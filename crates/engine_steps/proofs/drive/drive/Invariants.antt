use Rattle.engine_steps.proofs.drive.drive.Given as goal

abbrev pub ghosts-drive_pool-K-Ledger : goal.ghosts-drive_pool-K-Ledger
ghosts-drive_pool-K-Ledger g a = record { name = a.blank.name; parts = a.blank.parts }

abbrev pub ghosts-drive_pool-K-Crew : goal.ghosts-drive_pool-K-Crew
ghosts-drive_pool-K-Crew g a = record { shards = a.blank.parts; start = a.hall.given; course = record { number = 0; log_name = 0; cells_name = 0 } }
