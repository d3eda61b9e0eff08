-- What the parts behind the heads hold, step by step.
use Rattle.std.proofs.Common.{◌≡◌, inr, ⊎_elim, ℕ, suc, ◌%◌, ◌<◌, true, List, [], ◌∷◌, ◌++◌, ap, ◌∙◌, ◌^◌, Option, Some, Ok}
use Rattle.td_plan.specs.Lines.{Line}
use Rattle.td_gate.specs.Region.{Closes, Puts}
use Rattle.td_gate.specs.Regions.{Apart, Replaces}
use Rattle.td_head.specs.Layout.{Sizes, head_a, head_b}
use Rattle.td_slots.specs.declared.slots.Slots.{Slots}
use Rattle.td_slots.specs.Slot.{slot}
use Rattle.td_slots.specs.Newest.{newest}
use Rattle.td_slots.specs.Images.{SameSlots}
use Rattle.td_journal.specs.declared.journal.Journal.{Journal}
use Rattle.td_journal.specs.declared.payload.Submitted.{Submitted}
use Rattle.td_journal.specs.Numbers.{may_come, floor_after}
use Rattle.td_journal.specs.Cell.{cell, cell_of, cell_bytes, IsCellBatch}
use Rattle.td_journal.specs.Ring.{told_after}
use Rattle.td_journal.specs.Images.{IsNext, IsBorne, NothingFollows, Clears}
use Rattle.td_store.specs.standing.Standing.{Standing, with_more}
use Rattle.td_store.specs.standing.Told.{inputs_of, folds_of, slots_of, ring_of}
use Rattle.td_store.specs.standing.Tells.{HasRoom, IsFresh}
use Rattle.td_store.specs.copy.Copied.{HasParts}
use Rattle.td_store.proofs.copy.Steps.{LeavesOthers, turned, no_head_after, clears_put}

-- the laws, as they are handed in
abbrev pub HeadsCells : Type 0
HeadsCells = (sizes : Sizes) (kept i : ℕ) → Apart head_a (cell (ring_of sizes kept) i) × Apart head_b (cell (ring_of sizes kept) i)

abbrev pub SlotsCells : Type 0
SlotsCells = (sizes : Sizes) (kept i : ℕ) → Apart (slot (slots_of sizes) 0) (cell (ring_of sizes kept) i) × Apart (slot (slots_of sizes) 1) (cell (ring_of sizes kept) i)

abbrev pub SlotsTell : Type 0
SlotsTell = (version : ℕ) (folds : List ℕ) (s : Slots) (old new : List ℕ) → SameSlots s old new → newest version folds s new ≡ newest version folds s old

abbrev pub FollowingCloses : Type 0
FollowingCloses = (inputs : List ℕ) (j : Journal) (old new : List ℕ) (floor : Option ℕ) (checkpoint e : ℕ) (w : List Submitted)
    → IsNext inputs j old floor checkpoint w e → IsBorne j old (suc e) → Closes (cell_of j (suc e)) old new
    → told_after inputs j new floor checkpoint ≡ Ok w

abbrev pub NextIsPut : Type 0
NextIsPut = (inputs : List ℕ) (j : Journal) (old new : List ℕ) (floor : Option ℕ) (checkpoint e : ℕ) (w : List Submitted) (x : Submitted)
    → IsNext inputs j old floor checkpoint w e → e < 2 ^ 63 → IsCellBatch inputs j.m x → may_come (floor_after floor w) x.request ≡ true
    → NothingFollows j old e → Replaces (cell_of j e) (cell_bytes j.m e x.request x.batch) old new
    → told_after inputs j new floor checkpoint ≡ Ok (w ++ x ∷ [])

module _ (others : LeavesOthers) (heads : HeadsCells) (apart : SlotsCells) (slots_tell : SlotsTell) (plan : List Line) (sizes : Sizes) (s : Standing) where
  -- the slots by a put into a cell
  slots_after : (i : ℕ) (p old new : List ℕ) → Puts (cell (ring_of sizes s.epoch) i) p old new → newest 2 (folds_of plan) (slots_of sizes) new ≡ newest 2 (folds_of plan) (slots_of sizes) old
  slots_after i p old new put =
      let c = cell (ring_of sizes s.epoch) i in
      slots_tell 2 (folds_of plan) (slots_of sizes) old new (record {
        first = others c (slot (slots_of sizes) 0) p old new (turned (slot (slots_of sizes) 0) c (apart sizes s.epoch i).0) put;
        second = others c (slot (slots_of sizes) 1) p old new (turned (slot (slots_of sizes) 1) c (apart sizes s.epoch i).1) put;
      })

  module _ (e : ℕ) (room : HasRoom sizes s e) where
    -- the cell behind the next epoch's is cleared
    pub cleared_parts : FollowingCloses → (old new : List ℕ) → HasParts plan sizes s old → Clears (ring_of sizes s.epoch) (suc e) old new → HasParts plan sizes s new
    cleared_parts closes old new parts clears =
        let ring = ring_of sizes s.epoch in
        let i = suc e % sizes.n in
        let put : Puts (cell_of ring (suc e)) [] old new = clears_put ring (suc e) old new clears in
        let next : IsNext (inputs_of plan) ring old (Some s.last) s.epoch s.submitted e = record { told = parts.cells; room = room.room; epoch = room.epoch } in
        record {
          no_head = no_head_after others (cell ring i) [] (heads sizes s.epoch i) old new put parts.no_head;
          slot = slots_after i [] old new put ∙ parts.slot;
          cells = ⊎_elim (λ same. ap (λ (image : List ℕ). told_after (inputs_of plan) ring image (Some s.last) s.epoch) same ∙ parts.cells)
              (λ closed. closes (inputs_of plan) ring old new (Some s.last) s.epoch e s.submitted next closed.0 closed.1) clears;
        }

    -- the next epoch is put
    pub next_parts : NextIsPut → (x : Submitted) → IsFresh 2 s x.request → IsCellBatch (inputs_of plan) sizes.m x → (old new : List ℕ) → HasParts plan sizes s old
        → NothingFollows (ring_of sizes s.epoch) old e → Replaces (cell_of (ring_of sizes s.epoch) e) (cell_bytes sizes.m e x.request x.batch) old new
        → HasParts plan sizes (with_more s (x ∷ [])) new
    next_parts puts x fresh ok old new parts nothing done =
        let ring = ring_of sizes s.epoch in
        let i = e % sizes.n in
        let p = cell_bytes sizes.m e x.request x.batch in
        let put : Puts (cell_of ring e) p old new = record { others = done.others; region = inr (inr done.region) } in
        let next : IsNext (inputs_of plan) ring old (Some s.last) s.epoch s.submitted e = record { told = parts.cells; room = room.room; epoch = room.epoch } in
        record {
          no_head = no_head_after others (cell ring i) p (heads sizes s.epoch i) old new put parts.no_head;
          slot = slots_after i p old new put ∙ parts.slot;
          cells = puts (inputs_of plan) ring old new (Some s.last) s.epoch e s.submitted x next room.small ok fresh nothing done;
        }
