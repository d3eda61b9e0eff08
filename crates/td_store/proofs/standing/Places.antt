-- Where the parts of a disk lie.
use Rattle.std.proofs.Common.{inl, ℕ, arith}
use Rattle.td_gate.specs.Regions.{Apart}
use Rattle.td_head.specs.Layout.{Sizes, head_a, head_b}
use Rattle.td_slots.specs.Slot.{slot}
use Rattle.td_journal.specs.Cell.{cell}
use Rattle.td_store.specs.standing.Told.{slots_of, ring_of}

pub heads_slots : (sizes : Sizes) (i : ℕ) → Apart head_a (slot (slots_of sizes) i) × Apart head_b (slot (slots_of sizes) i)
heads_slots sizes i = (inl (omega arith), inl (omega arith))

pub heads_cells : (sizes : Sizes) (kept i : ℕ) → Apart head_a (cell (ring_of sizes kept) i) × Apart head_b (cell (ring_of sizes kept) i)
heads_cells sizes kept i = (inl (omega arith), inl (omega arith))

pub slots_cells : (sizes : Sizes) (kept i : ℕ) → Apart (slot (slots_of sizes) 0) (cell (ring_of sizes kept) i) × Apart (slot (slots_of sizes) 1) (cell (ring_of sizes kept) i)
slots_cells sizes kept i = (inl (omega arith), inl (omega arith))
