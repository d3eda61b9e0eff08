-- What a format makes of a disk.
use Rattle.std.proofs.Common.{◌≡◌, ◌==◌, if◌then◌else◌, ℕ, suc, ◌+◌, ◌*◌, ◌%◌, ◌<◌, ◌≤◌, true, List, [], length, Some, None, inl, ap, ◌∙◌, subst, arith}
use Rattle.std.proofs.Math.Nat.{mul-le-mul_right}
use Rattle.td_plan.specs.Lines.{Line, text_of}
use Rattle.td_disk.specs.Disk.{DiskState, IsDurable, bytes_at}
use Rattle.td_gate.specs.CrashSafe.{CrashSafe}
use Rattle.td_gate.specs.declared.region.Region.{Region}
use Rattle.td_gate.specs.Region.{opened, Puts}
use Rattle.td_gate.specs.Regions.{Apart}
use Rattle.td_head.specs.Layout.{Sizes, is_shape, size_of, head_a, head_b}
use Rattle.td_head.specs.Head.{head_bytes}
use Rattle.td_head.specs.Images.{IsZero}
use Rattle.td_slots.specs.Slot.{slot, slot_bytes}
use Rattle.td_journal.specs.Cell.{cell_of}
use Rattle.td_store.specs.standing.Told.{slots_of, ring_of}
use Rattle.td_store.specs.standing.Tells.{IsFormatted}
use Rattle.td_store.proofs.standing.Crash.{LeavesOthers, turned, some_cells}
use Rattle.td_store.proofs.standing.Places.{heads_slots, heads_cells, slots_cells}

-- a region whose gate byte is 0 is closed
zero_closed : (r : Region) (image : List ℕ) (n : ℕ) → IsZero n image → r.at + r.len < n → opened r image ≡ None
zero_closed r image n is lt = ap (λ g. if g == 0xA5 then Some (bytes_at r.at r.len image) else None) (is.each (r.at + r.len) lt)

-- a put on a durable disk is a put of what is read
pub read_put : (r : Region) (payload : List ℕ) (old new : DiskState) → IsDurable old → CrashSafe (Puts r payload) old new → new.since old.moment new.bytes → Puts r payload old.bytes new.bytes
read_put r payload old new durable safe now =
    let from = safe.each new.bytes now in
    subst (λ (d : List ℕ). Puts r payload d new.bytes) (durable from.0 from.1) from.2

module _ (others : LeavesOthers) (plan : List Line) (sizes : Sizes) (shape : is_shape sizes ≡ true) (wiped slotted image : List ℕ) where
  abbrev slot_0 : Region
  slot_0 = slot (slots_of sizes) 0

  pub is_formatted : IsZero (size_of sizes) wiped → size_of sizes ≤ length image
      → Puts slot_0 (slot_bytes sizes.k 0 0 []) wiped slotted → opened slot_0 slotted ≡ Some (slot_bytes sizes.k 0 0 [])
      → Puts head_a (head_bytes 2 1 sizes (text_of plan)) slotted image → opened head_a image ≡ Some (head_bytes 2 1 sizes (text_of plan))
      → IsFormatted plan sizes image
  is_formatted is size first first_is second second_is =
      let first_of = slot_0 in
      let p = slot_bytes sizes.k 0 0 [] in
      let q = head_bytes 2 1 sizes (text_of plan) in
      let slots_1 = slot (slots_of sizes) 1 in
      let cell_1 = cell_of (ring_of sizes 0) 1 in
      let some : 0 < sizes.n = some_cells sizes shape in
      let lt : 1 % sizes.n < sizes.n = omega (arith, some) in
      let row : suc (1 % sizes.n) * (25 + 24 * sizes.m) ≤ sizes.n * (25 + 24 * sizes.m) = mul-le-mul_right (25 + 24 * sizes.m) lt in
      let after = λ (r : Region) (apart_first : Apart slot_0 r) (apart_second : Apart head_a r) (low : r.at + r.len < size_of sizes).
      others head_a r q slotted image apart_second second ∙ others first_of r p wiped slotted apart_first first ∙ zero_closed r wiped (size_of sizes) is low in
      record {
        head = record {
          shape = shape;
          size = size;
          first = second_is;
          second = after head_b (turned head_b first_of (heads_slots sizes 0).1) (inl (omega arith)) (omega arith);
        };
        slot_0 = others head_a first_of q slotted image (heads_slots sizes 0).0 second ∙ first_is;
        slot_1 = after slots_1 (inl (omega arith)) (heads_slots sizes 1).0 (omega arith);
        cell_1 = after cell_1 (slots_cells sizes 0 (1 % sizes.n)).0 (heads_cells sizes 0 (1 % sizes.n)).0 (omega (arith, row));
      }
