-- Worked examples of what a disk tells, by computation: cells of at most 4 records, two of them, and slots of at most 3 states.
use Rattle.std.specs.Prelude.{◌≡◌, ℕ, suc, List, [], ◌∷◌, ◌++◌, ℤ, pos, negsuc, true, replicate, set, take, Ok, Err}
use Rattle.std.proofs.Common.{refl}
use Rattle.std.specs.Fmt.{digits}
use Rattle.td_gate.specs.Fields.{number_at, number_bytes}
use Rattle.td_stamp.specs.declared.values.Entry.{Entry}
use Rattle.td_stamp.specs.States.{StateList}
use Rattle.td_plan.specs.Lines.{text_of}
use Rattle.td_plan.specs.Named.{total_plan, count_plan}
use Rattle.td_head.specs.Layout.{Sizes}
use Rattle.td_head.specs.Head.{head_bytes}
use Rattle.td_slots.specs.Slot.{slot_bytes}
use Rattle.td_journal.specs.Cell.{cell_bytes}
use Rattle.td_store.specs.declared.standing.error.Part.TheVariants.{Head, NoSlot, Slot, Cell}
use Rattle.td_store.specs.declared.standing.error.KeeperError.TheVariants.{NotFormatted, WrongPlan, Damaged}
use Rattle.td_store.specs.standing.Standing.{Standing, submission}
use Rattle.td_store.specs.standing.Told.{told}

abbrev pub sizes_423 : Sizes
sizes_423 = record { m = 4; n = 2; k = 3 }

-- a region that is open, and one that was never written
abbrev pub part : List ℕ → List ℕ
part payload = payload ++ 165 ∷ []

abbrev pub closed : ℕ → List ℕ
closed len = replicate (suc len) 0

-- a disk formatted for TOTAL, with these slots and cells
abbrev pub disk : List ℕ → List ℕ → List ℕ → List ℕ → List ℕ
disk slot_0 slot_1 cell_0 cell_1 = part (head_bytes 2 1 sizes_423 (text_of total_plan)) ++ (closed 4128 ++ (slot_0 ++ (slot_1 ++ (cell_0 ++ cell_1))))

-- the same in version 1 of the format
abbrev pub version_1 : List ℕ → List ℕ
version_1 image = set image 7 1

abbrev pub no_cell : List ℕ
no_cell = closed 120

abbrev pub no_slot : List ℕ
no_slot = closed 120

abbrev pub slot_after : ℕ → ℕ → StateList → List ℕ
slot_after epoch last states = part (slot_bytes 3 epoch last states)

abbrev pub cell_with : ℕ → ℕ → List Entry → List ℕ
cell_with epoch request batch = part (cell_bytes 4 epoch request batch)

abbrev pub entry : ℕ → ℤ → Entry
entry key val = record { input = 0; rec = record { key = key; val = val } }

abbrev pub first : List Entry
first = entry 7 (pos 5) ∷ []

abbrev pub second : List Entry
second = entry 7 (negsuc 1) ∷ []

abbrev pub states_1 : StateList
states_1 = ((1, 7), record { a = pos 5; b = pos 1 }) ∷ []

-- what was told of no epochs
abbrev pub nothing : Standing
nothing = record { epoch = 0; states = []; last = 0; submitted = [] }

-- a disk with one epoch, with this request number
abbrev pub one_epoch : ℕ → List ℕ
one_epoch request = disk (slot_after 0 0 []) no_slot no_cell (cell_with 1 request first)

-- as a format leaves it
fresh : told true total_plan (disk (slot_after 0 0 []) no_slot no_cell no_cell) ≡ Ok nothing
unfolding digits number_at number_bytes
fresh = refl

fresh_1 : told true total_plan (version_1 (disk (slot_after 0 0 []) no_slot no_cell no_cell)) ≡ Ok nothing
unfolding digits number_at number_bytes
fresh_1 = refl

-- two epochs after a format
two_epochs : told true total_plan (disk (slot_after 0 0 []) no_slot (cell_with 2 9 second) (cell_with 1 5 first)) ≡ Ok (record { epoch = 0; states = []; last = 0; submitted = submission 5 first ∷ submission 9 second ∷ [] })
unfolding digits number_at number_bytes
two_epochs = refl

two_epochs_1 : told true total_plan (version_1 (disk (slot_after 0 0 []) no_slot (cell_with 2 0 second) (cell_with 1 0 first))) ≡ Ok (record { epoch = 0; states = []; last = 0; submitted = submission 0 first ∷ submission 0 second ∷ [] })
unfolding digits number_at number_bytes
two_epochs_1 = refl

-- a cut at epoch 1 in slot 1, with the request number 5
cut : told true total_plan (disk (slot_after 0 0 []) (slot_after 1 5 states_1) (cell_with 2 9 second) (cell_with 1 5 first)) ≡ Ok (record { epoch = 1; states = states_1; last = 5; submitted = submission 9 second ∷ [] })
unfolding digits number_at number_bytes
cut = refl

-- the ring used again: cell 1 bears 3
third : told true total_plan (disk (slot_after 0 0 []) (slot_after 1 5 states_1) (cell_with 2 9 second) (cell_with 3 0 first)) ≡ Ok (record { epoch = 1; states = states_1; last = 5; submitted = submission 9 second ∷ submission 0 first ∷ [] })
unfolding digits number_at number_bytes
third = refl

-- the cell of epoch 1 is closed: what stands after it is not looked at
gap : told true total_plan (disk (slot_after 0 0 []) no_slot (cell_with 2 0 second) no_cell) ≡ Ok nothing
unfolding digits number_at number_bytes
gap = refl

-- a request again
again : told true total_plan (disk (slot_after 0 0 []) no_slot (cell_with 2 5 second) (cell_with 1 5 first)) ≡ Err (Damaged (Cell 0))
unfolding digits number_at number_bytes
again = refl

-- a request that the slot has already
as_the_slot : told true total_plan (disk (slot_after 0 5 []) no_slot no_cell (cell_with 1 5 first)) ≡ Err (Damaged (Cell 1))
unfolding digits number_at number_bytes
as_the_slot = refl

-- a request number in version 1
numbered_1 : told true total_plan (version_1 (one_epoch 5)) ≡ Err (Damaged (Cell 1))
unfolding digits number_at number_bytes
numbered_1 = refl

-- a count above M
too_many : told true total_plan (set (one_epoch 5) 8640 5) ≡ Err (Damaged (Cell 1))
unfolding digits number_at number_bytes
too_many = refl

-- a number in slot 0: damage in version 1, and in version 2 the last request
last_1 : told true total_plan (version_1 (set (one_epoch 0) 8273 1)) ≡ Err (Damaged (Slot 0))
unfolding digits number_at number_bytes
last_1 = refl

last_2 : told true total_plan (set (one_epoch 5) 8273 1) ≡ Ok (record { epoch = 0; states = []; last = 1; submitted = submission 5 first ∷ [] })
unfolding digits number_at number_bytes
last_2 = refl

-- another number in cell 1, or its gate closed
other_number : told true total_plan (set (one_epoch 5) 8628 7) ≡ Ok nothing
unfolding digits number_at number_bytes
other_number = refl

no_gate : told true total_plan (set (one_epoch 5) 8741 0) ≡ Ok nothing
unfolding digits number_at number_bytes
no_gate = refl

-- no slot is open
slots_closed : told true total_plan (set (one_epoch 5) 8378 0) ≡ Err (Damaged NoSlot)
unfolding digits number_at number_bytes
slots_closed = refl

-- the head: its gate closed, another version, a byte too few, the plan handed in another, nothing on the disk
head_closed : told true total_plan (set (one_epoch 5) 4128 0) ≡ Err NotFormatted
unfolding digits number_at number_bytes
head_closed = refl

version : told true total_plan (set (one_epoch 5) 7 9) ≡ Err (Damaged Head)
unfolding digits number_at number_bytes
version = refl

cut_short : told true total_plan (take 8741 (one_epoch 5)) ≡ Err (Damaged Head)
unfolding digits number_at number_bytes
cut_short = refl

shorter : told true total_plan (take 8257 (one_epoch 5)) ≡ Err NotFormatted
unfolding digits number_at number_bytes
shorter = refl

another : told true count_plan (one_epoch 5) ≡ Err WrongPlan
unfolding digits number_at number_bytes
another = refl

zeros : told true total_plan (replicate 8742 0) ≡ Err NotFormatted
unfolding digits number_at number_bytes
zeros = refl

none : told true total_plan [] ≡ Err NotFormatted
unfolding digits number_at number_bytes
none = refl
