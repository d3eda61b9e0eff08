-- What a ring of cells tells of the epochs after a checkpoint.
use Rattle.std.specs.Prelude.{ℕ, zero, suc, ◌%◌, List, [], ◌∷◌, Option, Result, Ok, Err}
use Rattle.td_gate.specs.Region.{opened}
use Rattle.td_journal.specs.declared.journal.Journal.{Journal}
use Rattle.td_journal.specs.declared.payload.Submitted.{Submitted}
use Rattle.td_journal.specs.declared.error.JournalError.{JournalError}
use Rattle.td_journal.specs.declared.error.JournalError.TheVariants.{Damaged}
use Rattle.td_journal.specs.Numbers.{raised}
use Rattle.td_journal.specs.Cell.{Found, cell_of, found_in}
use Rattle.td_journal.specs.Cell.Found.{ended, submitted, damaged}

-- what the ring of an image has for an epoch, where the numbers before it have this floor
abbrev pub found : List ℕ → Journal → List ℕ → Option ℕ → ℕ → Found
found inputs j image floor epoch = found_in inputs floor j.m epoch (epoch % j.n) (opened (cell_of j epoch) image)

-- one epoch before the others
abbrev pub before_others : Submitted → Result (List Submitted) JournalError → Result (List Submitted) JournalError
before_others s (Ok w) = Ok (s ∷ w)
before_others s (Err e) = Err e

abbrev pub led_by : Found → Result (List Submitted) JournalError → Result (List Submitted) JournalError
led_by ended rest = Ok []
led_by (submitted s) rest = before_others s rest
led_by (damaged i) rest = Err (Damaged i)

-- the floor after what was found
abbrev pub past : Option ℕ → Found → Option ℕ
past floor (submitted s) = raised floor s.request
past floor f = floor

-- what was submitted as the epochs from this one on, at most n, as long as each is found
abbrev pub submitted_from : (Option ℕ → ℕ → Found) → Option ℕ → ℕ → ℕ → Result (List Submitted) JournalError
submitted_from find floor zero epoch = Ok []
submitted_from find floor (suc n) epoch = led_by (find floor epoch) (submitted_from find (past floor (find floor epoch)) n (suc epoch))

-- WHAT WAS SUBMITTED AFTER A CHECKPOINT'S EPOCH, or the cell that is damaged. The floor is that of the checkpoint
abbrev pub told_after : List ℕ → Journal → List ℕ → Option ℕ → ℕ → Result (List Submitted) JournalError
told_after inputs j image floor checkpoint = submitted_from (found inputs j image) floor j.n (suc checkpoint)
