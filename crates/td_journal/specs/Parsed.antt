-- What the reader of cells answers.
use Rattle.std.specs.Prelude.{◌≡◌, ℕ, Bool, true, false, List, map, All, Option, Some, None, Result, Ok, Err}
use Rattle.std.specs.Ordering.{is_le}
use Rattle.td_stamp.specs.declared.values.Entry.{Entry}
use Rattle.td_stamp.specs.Orders.{entry_cmp}
use Rattle.td_gate.specs.Fields.{is_chain}
use Rattle.td_journal.specs.declared.payload.Submitted.{Submitted}
use Rattle.td_journal.specs.declared.error.JournalError.{JournalError}
use Rattle.td_journal.specs.declared.error.JournalError.TheVariants.{Damaged}
use Rattle.td_journal.specs.Cell.{Found, is_batch, is_cell, submitted_in}
use Rattle.td_journal.specs.Cell.Found.{ended, submitted, damaged}

-- a record may come after the last of these
abbrev pub may_come_after : Option Entry → Entry → Bool
may_come_after None e = true
may_come_after (Some x) e = is_le (entry_cmp x e)

abbrev pub are_in_order : List Entry → Bool
are_in_order entries = is_chain (λ x y. is_le (entry_cmp x y)) entries

-- what is kept of a payload, where it is valid
abbrev pub IsKeptBy : {X : Type 0} → (Submitted → X) → List ℕ → Option ℕ → ℕ → List ℕ → Option X → Type 0
IsKeptBy of inputs floor m bytes None = is_cell inputs floor m bytes ≡ false
IsKeptBy of inputs floor m bytes (Some k) = (is_cell inputs floor m bytes ≡ true) × (of (submitted_in bytes) ≡ k)

-- what is kept of what a cell has for an epoch: of nothing, or of a batch of these inputs
abbrev pub IsKept : {X : Type 0} → (Submitted → X) → List ℕ → (Found → Type 0) → Option X → Type 0
IsKept of inputs Has None = Has ended
IsKept of inputs Has (Some k) = (s : Submitted) × (of s ≡ k) × (is_batch inputs s.batch ≡ true) × Has (submitted s)

-- WHAT IS KEPT of what a ring tells, whatever the disk: of so many batches of these inputs, of which this holds
abbrev pub AreKept : {X : Type 0} → (Submitted → X) → List ℕ → (List Submitted → Type 0) → List X → Type 0
AreKept of inputs Tells kept = (w : List Submitted) × (map of w ≡ kept) × All (λ s. is_batch inputs s.batch ≡ true) w × Tells w

-- a refusal that is a cell's damage
abbrev pub IsDamage : JournalError → Found → Type 0
IsDamage (Damaged i) f = f ≡ damaged i
IsDamage _ f = ⊥

-- the two answers of a ring
abbrev pub Told : List Submitted → Result (List Submitted) JournalError
Told w = Ok w

abbrev pub Refused : JournalError → Result (List Submitted) JournalError
Refused e = Err e
