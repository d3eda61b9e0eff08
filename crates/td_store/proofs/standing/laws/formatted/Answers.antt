use Rattle.std.proofs.Common.{◌<◌, ◌≤◌, ◌^◌, ℕ, List, [], true, Option, Some, nat_le, ◌&&◌, refl, ap, ◌∙◌, arith}
use Rattle.std.proofs.lemmas.Bool.{and_parts, leb-true}
use Rattle.td_gate.specs.Region.{opened}
use Rattle.td_slots.specs.Slot.{slot, slot_bytes, AreSlotStates}
use Rattle.td_slots.specs.Newest.{newest_in}
use Rattle.td_store.specs.standing.Told.{inputs_of, folds_of, slots_of, ring_of}
use Rattle.td_store.proofs.standing.laws.formatted.Goals as goal

pub returns : goal.returns
returns c plan sizes image lawful is =
    let heads = c.first_head_tells.ensures plan sizes image lawful is.head in
    let one = and_parts (nat_le 1 sizes.m && nat_le sizes.m 65536 && (nat_le 1 sizes.n && nat_le sizes.n 65536)) (nat_le 1 sizes.k && nat_le sizes.k 1048576) is.head.shape in
    let k : sizes.k ≤ 1048576 = leb-true sizes.k 1048576 (and_parts (nat_le 1 sizes.k) (nat_le sizes.k 1048576) one.1).1 in
    let few : sizes.k < 2 ^ 32 = omega (arith, k) in
    let fit : AreSlotStates (folds_of plan) sizes.k [] = record { few = omega arith; room = few; lawful = refl; fits = tt } in
    record {
      canonical = true;
      text = heads.1;
      head_is = heads.0;
      checkpoint = ap (λ (h : Option (List ℕ)). newest_in 2 (folds_of plan) sizes.k h (opened (slot (slots_of sizes) 1) image)) is.slot_0
          ∙ ap (newest_in 2 (folds_of plan) sizes.k (Some (slot_bytes sizes.k 0 0 []))) is.slot_1
          ∙ c.slots_read_back.ensures.found 2 (folds_of plan) sizes.k 0 0 0 [] (omega arith) (record { lawful = refl; fits = omega arith }) fit;
      submitted = c.closed_tells_nothing.ensures (inputs_of plan) (ring_of sizes 0) image (Some 0) 0 is.cell_1;
    }
