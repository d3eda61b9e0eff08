-- What a put into a part of a disk makes of what it tells.
use Rattle.std.proofs.Common.{◌≡◌, inl, inr, ⊎_elim, ℕ, zero, suc, ◌+◌, ◌*◌, ◌-◌, ◌<◌, ◌≤◌, Bool, true, false, nat_lt, nat_le, ◌&&◌, List, take, refl, sym, ap, ◌∙◌, subst, arith, Result, Ok, Err}
use Rattle.std.proofs.Math.Nat.{mul-le-mul_right}
use Rattle.std.proofs.lemmas.Bool.{and_parts, leb-true, lt-ltb, le-ltb}
use Rattle.td_stamp.specs.States.{StateList}
use Rattle.td_plan.specs.Lines.{Line}
use Rattle.td_gate.specs.declared.region.Region.{Region}
use Rattle.td_gate.specs.Region.{opened, Puts}
use Rattle.td_gate.specs.Regions.{Apart}
use Rattle.td_head.specs.declared.error.HeadError.{HeadError}
use Rattle.td_head.specs.declared.head.Head.{Head}
use Rattle.td_head.specs.Layout.{Sizes, head_a, head_b, is_shape}
use Rattle.td_head.specs.Head.{headed}
use Rattle.td_head.specs.Images.{SameHeads}
use Rattle.td_slots.specs.declared.error.SlotsError.{SlotsError}
use Rattle.td_slots.specs.Slot.{slot, slot_len}
use Rattle.td_slots.specs.declared.slots.Checkpoint.{Checkpoint}
use Rattle.td_slots.specs.Newest.{newest, second_if, beside, after_write}
use Rattle.td_slots.specs.Images.{SameSlots}
use Rattle.td_journal.specs.declared.error.JournalError.{JournalError}
use Rattle.td_journal.specs.declared.payload.Submitted.{Submitted}
use Rattle.td_journal.specs.Numbers.{greatest}
use Rattle.td_journal.specs.Cell.{cell}
use Rattle.td_journal.specs.Ring.{told_after}
use Rattle.td_journal.specs.Images.{SameCells}
use Rattle.td_store.specs.standing.Standing.{Standing, cut_at}
use Rattle.td_store.specs.standing.Told.{Told, with_batches, from_checkpoint, from_head, inputs_of, folds_of, slots_of, ring_of, floor_of}
use Rattle.td_store.specs.standing.Tells.{Tells, checkpoint_of, side_after}
use Rattle.td_store.proofs.standing.Places.{heads_slots, heads_cells, slots_cells}

pub turned : (r s : Region) → Apart r s → Apart s r
turned r s apart = ⊎_elim (λ low. inr low) (λ high. inl high) apart

-- a put leaves what is held elsewhere
abbrev pub LeavesOthers : Type 0
LeavesOthers = (r s : Region) (payload old new : List ℕ) → Apart r s → Puts r payload old new → opened s new ≡ opened s old

module _ (others : LeavesOthers) (sizes : Sizes) (payload old new : List ℕ) where
  -- a cell
  module _ (kept i : ℕ) (put : Puts (cell (ring_of sizes kept) i) payload old new) where
    pub heads_by_cell : SameHeads old new
    heads_by_cell = record {
      size = put.others.size;
      first = others (cell (ring_of sizes kept) i) head_a payload old new (turned head_a (cell (ring_of sizes kept) i) (heads_cells sizes kept i).0) put;
      second = others (cell (ring_of sizes kept) i) head_b payload old new (turned head_b (cell (ring_of sizes kept) i) (heads_cells sizes kept i).1) put;
    }

    pub slots_by_cell : SameSlots (slots_of sizes) old new
    slots_by_cell = record {
      first = others (cell (ring_of sizes kept) i) (slot (slots_of sizes) 0) payload old new (turned (slot (slots_of sizes) 0) (cell (ring_of sizes kept) i) (slots_cells sizes kept i).0) put;
      second = others (cell (ring_of sizes kept) i) (slot (slots_of sizes) 1) payload old new (turned (slot (slots_of sizes) 1) (cell (ring_of sizes kept) i) (slots_cells sizes kept i).1) put;
    }

  -- a slot
  module _ (i : ℕ) (which : i ≤ 1) (put : Puts (slot (slots_of sizes) i) payload old new) where
    pub heads_by_slot : SameHeads old new
    heads_by_slot = record {
      size = put.others.size;
      first = others (slot (slots_of sizes) i) head_a payload old new (turned head_a (slot (slots_of sizes) i) (heads_slots sizes i).0) put;
      second = others (slot (slots_of sizes) i) head_b payload old new (turned head_b (slot (slots_of sizes) i) (heads_slots sizes i).1) put;
    }

    slot_cell : (kept k : ℕ) → Apart (slot (slots_of sizes) i) (cell (ring_of sizes kept) k)
    slot_cell kept k = let e : i * (slot_len sizes.k + 1) ≤ 1 * (slot_len sizes.k + 1) = mul-le-mul_right (slot_len sizes.k + 1) which in inl (omega (arith, e))

    pub cells_by_slot : (kept : ℕ) → SameCells (ring_of sizes kept) old new
    cells_by_slot kept k lt = others (slot (slots_of sizes) i) (cell (ring_of sizes kept) k) payload old new (slot_cell kept k) put

-- THE NEWEST after a cut
abbrev pub made : Checkpoint → Result Checkpoint SlotsError
made c = Ok c

module _ (s : Standing) (states : StateList) where
  abbrev pub last_at : ℕ → ℕ
  last_at k = greatest s.last (take k s.submitted)

  pub after_cut : (side k : ℕ) → (k ≡ 0 → states ≡ s.states) → after_write (checkpoint_of side s) (s.epoch + k) (last_at k) states ≡ checkpoint_of (side_after side k) (cut_at s k states)
  after_cut zero zero same =
      let test : nat_lt s.epoch (s.epoch + 0) ≡ false = le-ltb s.epoch (s.epoch + 0) (omega arith) in
      let epoch : s.epoch ≡ s.epoch + 0 = omega arith in
      let are : s.states ≡ states = sym (same refl) in
      ap (λ (t : Bool). second_if t (checkpoint_of 0 s) (beside (checkpoint_of 0 s) (s.epoch + 0) (last_at 0) states)) test
      ∙ (λ i. record { slot = 0; epoch = epoch i; last = s.last; states = are i })
  after_cut zero (suc k) same =
      let test : nat_lt s.epoch (s.epoch + suc k) ≡ true = lt-ltb s.epoch (s.epoch + suc k) (omega arith) in
      ap (λ (t : Bool). second_if t (checkpoint_of 0 s) (beside (checkpoint_of 0 s) (s.epoch + suc k) (last_at (suc k)) states)) test
  after_cut (suc i) k same =
      let test : nat_lt (s.epoch + k) s.epoch ≡ false = le-ltb (s.epoch + k) s.epoch (omega arith) in
      let none : 1 - suc i ≡ 0 = omega arith in
      ap (λ (t : Bool). second_if t (beside (checkpoint_of (suc i) s) (s.epoch + k) (last_at k) states) (checkpoint_of (suc i) s)) test
      ∙ (λ j. record { slot = none j; epoch = s.epoch + k; last = last_at k; states = states })

-- WHAT IS TOLD, part by part
pub told_by : (plan : List Line) (head : Head) (side : ℕ) (s : Standing) (image : List ℕ) → Tells plan head side s image → Told plan image (Ok s)
told_by plan head side s image t = record {
  canonical = t.canonical;
  text = t.text;
  is = ap (from_head plan image) t.head_is ∙ ap (from_checkpoint plan head image) t.checkpoint ∙ ap (with_batches (checkpoint_of side s)) t.submitted;
}

of_batches : (c : Checkpoint) (r : Result (List Submitted) JournalError) (s : Standing) → with_batches c r ≡ Ok s
    → (r ≡ Ok s.submitted) × (c.epoch ≡ s.epoch) × (c.states ≡ s.states) × (c.last ≡ s.last)
of_batches c (Ok w) s is =
    let e : record { epoch = c.epoch; states = c.states; last = c.last; submitted = w } ≡ s = cc in
    (ap (λ (z : Standing). Ok z.submitted) e, ap (λ (z : Standing). z.epoch) e, ap (λ (z : Standing). z.states) e, ap (λ (z : Standing). z.last) e)
of_batches c (Err e) s is = absurd cc

of_checkpoint : (plan : List Line) (head : Head) (image : List ℕ) (r : Result Checkpoint SlotsError) (s : Standing) → from_checkpoint plan head image r ≡ Ok s
    → (side : ℕ) × (r ≡ made (checkpoint_of side s)) × (told_after (inputs_of plan) (ring_of head.shape s.epoch) image (floor_of head.version s.last) s.epoch ≡ Ok s.submitted)
of_checkpoint plan head image (Err e) s is = absurd cc
of_checkpoint plan head image (Ok c) s is =
    let parts = of_batches c (told_after (inputs_of plan) (ring_of head.shape c.epoch) image (floor_of head.version c.last) c.epoch) s is in
    let same : c ≡ checkpoint_of c.slot s = λ i. record { slot = c.slot; epoch = parts.1 i; last = parts.3 i; states = parts.2 i } in (
      c.slot,
      ap made same,
      subst (λ (z : ℕ). told_after (inputs_of plan) (ring_of head.shape s.epoch) image (floor_of head.version z) s.epoch ≡ Ok s.submitted) parts.3
          (subst (λ (e : ℕ). told_after (inputs_of plan) (ring_of head.shape e) image (floor_of head.version c.last) e ≡ Ok s.submitted) parts.1 parts.0),
    )

pub parts_of : (plan : List Line) (s : Standing) (image : List ℕ) → Told plan image (Ok s) → (head : Head) × (side : ℕ) × Tells plan head side s image
parts_of plan s image t = of_head (headed t.canonical plan image) refl t.is
  where
    of_head : (r : Result Head HeadError) → headed t.canonical plan image ≡ r → from_head plan image r ≡ Ok s → (head : Head) × (side : ℕ) × Tells plan head side s image
    of_head (Err e) head is = absurd cc
    of_head (Ok told_head) head is =
        let parts = of_checkpoint plan told_head image (newest told_head.version (folds_of plan) (slots_of told_head.shape) image) s is in
        (told_head, parts.0, record { canonical = t.canonical; text = t.text; head_is = head; checkpoint = parts.1; submitted = parts.2 })

-- a shape has cells
pub some_cells : (sizes : Sizes) → is_shape sizes ≡ true → 0 < sizes.n
some_cells sizes is =
    let one = and_parts (nat_le 1 sizes.m && nat_le sizes.m 65536 && (nat_le 1 sizes.n && nat_le sizes.n 65536)) (nat_le 1 sizes.k && nat_le sizes.k 1048576) is in
    let two = and_parts (nat_le 1 sizes.m && nat_le sizes.m 65536) (nat_le 1 sizes.n && nat_le sizes.n 65536) one.0 in
    leb-true 1 sizes.n (and_parts (nat_le 1 sizes.n) (nat_le sizes.n 65536) two.1).0
