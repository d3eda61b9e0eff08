-- What a disk gives that is read over and over.
use Rattle.std.specs.Prelude.{◌≡◌, ℕ, zero, suc, List, [], ◌++◌, length, Result, Ok, ⊤}
use Rattle.td_disk.specs.declared.error.Fault.{Fault}

-- These bytes are what n reads of a disk gave, the first from its first byte on, and each other one from the end of the one before on.
abbrev pub Reads : {D : Type 0} → (D → ℕ → List ℕ → Result ⊤ Fault → D → Type 0) → ℕ → List ℕ → D → D → Type 0
Reads gives zero bytes old new = (bytes ≡ []) × (new ≡ old)
Reads {D} gives (suc n) bytes old new =
    (front : List ℕ) × (last : List ℕ) × (mid : D) × (bytes ≡ front ++ last) × Reads gives n front old mid × gives mid (length front) last (Ok tt) new

-- A READING of a disk gave these bytes.
abbrev pub IsReading : {D : Type 0} → (D → ℕ → List ℕ → Result ⊤ Fault → D → Type 0) → List ℕ → D → D → Type 0
IsReading gives bytes old new = (n : ℕ) × Reads gives n bytes old new

-- EACH OF THE LAST n READINGS of a disk, one after another, GAVE THESE BYTES.
abbrev pub LastReadings : {D : Type 0} → (D → ℕ → List ℕ → Result ⊤ Fault → D → Type 0) → ℕ → List ℕ → D → Type 0
LastReadings gives zero bytes new = Unit {0}
LastReadings {D} gives (suc n) bytes new = (old : D) × IsReading gives bytes old new × LastReadings gives n bytes old
