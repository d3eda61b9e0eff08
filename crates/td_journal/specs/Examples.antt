-- Worked examples, by computation: cells of at most 4 records, two of them, from offset 8,500 on.
use Rattle.std.specs.Prelude.{◌≡◌, ℕ, slice_index, List, [], ◌∷◌, ℤ, pos, negsuc, length, replicate, Option, Some, None, Ok, Err, true, false}
use Rattle.std.proofs.Common.{refl}
use Rattle.td_gate.specs.Fields.{number_at, number_bytes}
use Rattle.td_stamp.specs.declared.values.Entry.{Entry}
use Rattle.td_journal.specs.declared.journal.Journal.{Journal}
use Rattle.td_journal.specs.declared.payload.Submitted.{Submitted}
use Rattle.td_journal.specs.declared.error.JournalError.TheVariants.{Damaged}
use Rattle.td_journal.specs.Numbers.{rise}
use Rattle.td_journal.specs.Cell.{Found, cell, cell_of, cell_bytes, found_in}
use Rattle.td_journal.specs.Cell.Found.{submitted, damaged}
use Rattle.td_journal.specs.Ring.{submitted_from}

abbrev pub ring_of_two : Journal
ring_of_two = record { at = 8500; m = 4; n = 2; kept = 0 }

places : (cell ring_of_two 0).at ∷ (cell_of ring_of_two 1).at ∷ (cell_of ring_of_two 3).at ∷ (cell ring_of_two 2).at ∷ [] ≡ 8500 ∷ 8621 ∷ 8621 ∷ 8742 ∷ []
places = refl

abbrev pub entry : ℕ → ℤ → Entry
entry key val = record { input = 0; rec = record { key = key; val = val } }

abbrev two_records : List Entry
two_records = entry 7 (negsuc 1) ∷ entry 7 (pos 5) ∷ []

-- cell 1 after epoch 1 = (input 0: (7, 5), (7, -2)), without a request number and with the number 5
abbrev written_with : ℕ → List ℕ
written_with request =
    0 ∷ 0 ∷ 0 ∷ 0 ∷ 0 ∷ 0 ∷ 0 ∷ 1 ∷ 0 ∷ 0 ∷ 0 ∷ 0 ∷ 0 ∷ 0 ∷ 0 ∷ request ∷ 0 ∷ 0 ∷ 0 ∷ 2 ∷ 0 ∷ 0 ∷ 0 ∷ 0
    ∷ 0 ∷ 0 ∷ 0 ∷ 0 ∷ 0 ∷ 0 ∷ 0 ∷ 0 ∷ 0 ∷ 0 ∷ 0 ∷ 0 ∷ 0 ∷ 0 ∷ 0 ∷ 7 ∷ 255 ∷ 255 ∷ 255 ∷ 255 ∷ 255 ∷ 255 ∷ 255 ∷ 254
    ∷ 0 ∷ 0 ∷ 0 ∷ 0 ∷ 0 ∷ 0 ∷ 0 ∷ 0 ∷ 0 ∷ 0 ∷ 0 ∷ 0 ∷ 0 ∷ 0 ∷ 0 ∷ 7 ∷ 0 ∷ 0 ∷ 0 ∷ 0 ∷ 0 ∷ 0 ∷ 0 ∷ 5
    ∷ replicate 48 0

written : cell_bytes 4 1 0 two_records ≡ written_with 0
unfolding number_at number_bytes
written = refl

written_numbered : cell_bytes 4 1 5 two_records ≡ written_with 5
unfolding number_at number_bytes
written_numbered = refl

-- cell 1 after epoch 1 = (input 0: (7, 5)) with the request number 5
written_one : cell_bytes 4 1 5 (entry 7 (pos 5) ∷ [])
    ≡ 0 ∷ 0 ∷ 0 ∷ 0 ∷ 0 ∷ 0 ∷ 0 ∷ 1 ∷ 0 ∷ 0 ∷ 0 ∷ 0 ∷ 0 ∷ 0 ∷ 0 ∷ 5 ∷ 0 ∷ 0 ∷ 0 ∷ 1 ∷ 0 ∷ 0 ∷ 0 ∷ 0
    ∷ 0 ∷ 0 ∷ 0 ∷ 0 ∷ 0 ∷ 0 ∷ 0 ∷ 0 ∷ 0 ∷ 0 ∷ 0 ∷ 0 ∷ 0 ∷ 0 ∷ 0 ∷ 7 ∷ 0 ∷ 0 ∷ 0 ∷ 0 ∷ 0 ∷ 0 ∷ 0 ∷ 5
    ∷ replicate 72 0
unfolding number_at number_bytes
written_one = refl

whole : length (cell_bytes 4 1 0 two_records) ≡ 120
unfolding number_at number_bytes
whole = refl

-- the number 5 is damage in version 1, and in version 2 after the numbers 5 and above
abbrev found_after : Option ℕ → Found
found_after floor = found_in (0 ∷ []) floor 4 1 1 (Some (written_with 5))

numbered : found_after (Some 4) ∷ found_after (Some 5) ∷ found_after None ∷ [] ≡ submitted (record { request = 5; batch = two_records }) ∷ damaged 1 ∷ damaged 1 ∷ []
unfolding number_at number_bytes
numbered = refl

-- an epoch without records, and with the number that stands for it in a list, in each cell
abbrev numbers_found : List ℕ → Option ℕ → ℕ → Found
numbers_found numbers floor e = found_in [] floor 4 e e (Some (cell_bytes 4 e (slice_index numbers e) []))

abbrev submitted_as : ℕ → Submitted
submitted_as r = record { request = r; batch = [] }

-- epochs 1 to 3 with the numbers 5, none, 6 after the number 4; and with 5, none, 5
rising : submitted_from (numbers_found (0 ∷ 5 ∷ 0 ∷ 6 ∷ [])) (Some 4) 3 1 ≡ Ok (submitted_as 5 ∷ submitted_as 0 ∷ submitted_as 6 ∷ [])
unfolding number_at number_bytes
rising = refl

falling : submitted_from (numbers_found (0 ∷ 5 ∷ 0 ∷ 5 ∷ [])) (Some 4) 3 1 ≡ Err (Damaged 3)
unfolding number_at number_bytes
falling = refl

rules : rise (Some 4) (submitted_as 5 ∷ submitted_as 0 ∷ submitted_as 6 ∷ []) ∷ rise (Some 4) (submitted_as 5 ∷ submitted_as 0 ∷ submitted_as 5 ∷ []) ∷ rise None (submitted_as 0 ∷ []) ∷ [] ≡ true ∷ false ∷ true ∷ []
rules = refl
