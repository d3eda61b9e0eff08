-- What a put into a head leaves of the slots and the cells, and what they tell in version 2.
use Rattle.std.proofs.Common.{◌≡◌, ◌⊎◌, inl, inr, ℕ, ◌≤◌, Bool, true, false, ◌==◌, ◌||◌, List, refl, arith}
use Rattle.std.proofs.lemmas.Bool.{eqb-true}
use Rattle.td_gate.specs.Region.{Puts}
use Rattle.td_gate.specs.Regions.{Apart}
use Rattle.td_head.specs.Layout.{Sizes, head}
use Rattle.td_head.specs.Head.{is_version}
use Rattle.td_slots.specs.Slot.{slot, is_last}
use Rattle.td_slots.specs.Images.{SameSlots}
use Rattle.td_journal.specs.Cell.{cell}
use Rattle.td_journal.specs.Images.{SameCells}
use Rattle.td_store.specs.standing.Told.{slots_of, ring_of}
use Rattle.td_store.proofs.standing.Crash.{LeavesOthers}

module _ (others : LeavesOthers) (sizes : Sizes) (payload old new : List ℕ) (side : ℕ) (which : side ≤ 1) (put : Puts (head side) payload old new) where
  head_slot : (i : ℕ) → Apart (head side) (slot (slots_of sizes) i)
  head_slot i = inl (omega arith)

  pub slots_by_head : SameSlots (slots_of sizes) old new
  slots_by_head = record {
    first = others (head side) (slot (slots_of sizes) 0) payload old new (head_slot 0) put;
    second = others (head side) (slot (slots_of sizes) 1) payload old new (head_slot 1) put;
  }

  head_cell : (kept i : ℕ) → Apart (head side) (cell (ring_of sizes kept) i)
  head_cell kept i = inl (omega arith)

  pub cells_by_head : (kept : ℕ) → SameCells (ring_of sizes kept) old new
  cells_by_head kept i lt = others (head side) (cell (ring_of sizes kept) i) payload old new (head_cell kept i) put

-- the two versions
pub each_version : (version : ℕ) → is_version version ≡ true → (version ≡ 1) ⊎ (version ≡ 2)
each_version version is = by (version == 1) (version == 2) refl refl is
  where
    by : (a b : Bool) → (version == 1) ≡ a → (version == 2) ≡ b → (a || b) ≡ true → (version ≡ 1) ⊎ (version ≡ 2)
    by true b x y is = inl (eqb-true version 1 x)
    by false true x y is = inr (eqb-true version 2 y)
    by false false x y is = absurd cc

-- before version 2 a slot's number is 0
pub no_number : (last : ℕ) → is_last 1 last ≡ true → last ≡ 0
no_number last is = eqb-true last 0 is
