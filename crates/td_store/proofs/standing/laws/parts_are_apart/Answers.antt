use Rattle.std.proofs.Common.{arith, inl}
use Rattle.td_store.specs.standing.Told.{ring_of}
use Rattle.td_store.proofs.standing.Places.{heads_slots, heads_cells, slots_cells}
use Rattle.td_store.proofs.standing.laws.parts_are_apart.Goals as goal

pub returns-clause-heads : goal.returns-clause-heads
returns-clause-heads c = inl (omega arith)

pub returns-clause-heads_slots : goal.returns-clause-heads_slots
returns-clause-heads_slots c = heads_slots

pub returns-clause-heads_cells : goal.returns-clause-heads_cells
returns-clause-heads_cells c = heads_cells

pub returns-clause-slots : goal.returns-clause-slots
returns-clause-slots c sizes = inl (omega arith)

pub returns-clause-slots_cells : goal.returns-clause-slots_cells
returns-clause-slots_cells c = slots_cells

pub returns-clause-cells : goal.returns-clause-cells
returns-clause-cells c sizes kept i k not = c.cells.ensures.apart (ring_of sizes kept) i k not

pub returns-clause-ends : goal.returns-clause-ends
returns-clause-ends c sizes kept i lt = let e = c.cells.ensures.within (ring_of sizes kept) i lt in omega (arith, e)
