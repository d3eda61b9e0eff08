-- The refusals of a keeper: their numbers, their texts, and those of a disk's parts as a keeper gives them.
use Rattle.std.specs.Prelude.{◌≡◌, ◌⊎◌, ℕ, List, ◌++◌, codes}
use Rattle.std.specs.Fmt.{decimal}
use Rattle.td_head.specs.declared.error.HeadError.{HeadError}
use Rattle.td_head.specs.declared.error.HeadError.TheVariants as head
use Rattle.td_slots.specs.declared.error.SlotsError.{SlotsError}
use Rattle.td_slots.specs.declared.error.SlotsError.TheVariants as slots
use Rattle.td_journal.specs.declared.error.JournalError.{JournalError}
use Rattle.td_journal.specs.declared.error.JournalError.TheVariants as journal
use Rattle.td_store.specs.declared.standing.error.Part.{Part}
use Rattle.td_store.specs.declared.standing.error.Part.TheVariants.{Head, NoSlot, Slot, Cell}
use Rattle.td_store.specs.declared.standing.error.KeeperError.{KeeperError}
use Rattle.td_store.specs.declared.standing.error.KeeperError.TheVariants.{NotFormatted, WrongPlan, Damaged, Full, TooManyRecords, NoSuchInput, Foreign, NotPassed, CutWaiting, TooManyKeys, Broken, Device, Memory, Epochs, OldVersion, LastGeneration}

abbrev pub of_head : HeadError → KeeperError
of_head head.NotFormatted = NotFormatted
of_head head.Damaged = Damaged Head
of_head head.WrongPlan = WrongPlan
of_head head.Device = Device
of_head head.Memory = Memory
of_head head.LastGeneration = LastGeneration

abbrev pub of_slots : SlotsError → KeeperError
of_slots slots.TooManyKeys = TooManyKeys
of_slots (slots.Damaged i) = Damaged (Slot i)
of_slots slots.NoSlot = Damaged NoSlot
of_slots slots.Device = Device
of_slots slots.Memory = Memory

abbrev pub of_journal : JournalError → KeeperError
of_journal journal.Full = Full
of_journal journal.TooManyRecords = TooManyRecords
of_journal (journal.Damaged i) = Damaged (Cell i)
of_journal journal.Device = Device
of_journal journal.Memory = Memory

-- the number of a refusal
abbrev pub number_of : KeeperError → ℕ
number_of NotFormatted = 1
number_of WrongPlan = 2
number_of (Damaged part) = 3
number_of Full = 4
number_of TooManyRecords = 5
number_of NoSuchInput = 6
number_of Foreign = 7
number_of (NotPassed epoch) = 8
number_of CutWaiting = 9
number_of TooManyKeys = 10
number_of Broken = 11
number_of Device = 12
number_of Memory = 13
number_of Epochs = 14
number_of OldVersion = 15
number_of LastGeneration = 16

-- the text of a part
abbrev pub part_text : Part → List ℕ
part_text Head = codes "head"
part_text NoSlot = codes "no slot"
part_text (Slot side) = codes "slot " ++ decimal side
part_text (Cell cell) = codes "cell " ++ decimal cell

-- the text of a refusal
abbrev pub refusal_text : KeeperError → List ℕ
refusal_text NotFormatted = codes "not formatted"
refusal_text WrongPlan = codes "another plan"
refusal_text (Damaged part) = codes "damaged: " ++ part_text part
refusal_text Full = codes "journal full"
refusal_text TooManyRecords = codes "too many records"
refusal_text NoSuchInput = codes "no such input"
refusal_text Foreign = codes "foreign hall"
refusal_text (NotPassed epoch) = codes "epoch " ++ (decimal epoch ++ codes " not passed")
refusal_text CutWaiting = codes "cut waiting"
refusal_text TooManyKeys = codes "too many keys"
refusal_text Broken = codes "broken"
refusal_text Device = codes "device"
refusal_text Memory = codes "memory"
refusal_text Epochs = codes "no more epochs"
refusal_text OldVersion = codes "old version"
refusal_text LastGeneration = codes "last generation"

-- memory ran out, or the device failed
abbrev pub IsMemoryOrDevice : KeeperError → Type 0
IsMemoryOrDevice e = (e ≡ Memory) ⊎ (e ≡ Device)

-- the device failed, memory ran out, or else this holds
abbrev pub IsFailureOr : Type 0 → KeeperError → Type 0
IsFailureOr other e = (e ≡ Device) ⊎ ((e ≡ Memory) ⊎ other)
