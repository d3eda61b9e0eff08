-- What was submitted, with how many records there were in place of these.
use Rattle.std.specs.Prelude.{ℕ, max, List, [], ◌∷◌, length}
use Rattle.td_journal.specs.declared.payload.Submitted.{Submitted}
use Rattle.td_journal.specs.declared.payload.Counts.{Counts}

abbrev pub counts_of : Submitted → Counts
counts_of s = record { request = s.request; records = length s.batch }

-- the greatest of a number and those of these epochs
abbrev pub greatest_counted : ℕ → List Counts → ℕ
greatest_counted q [] = q
greatest_counted q (c ∷ more) = greatest_counted (max q c.request) more
