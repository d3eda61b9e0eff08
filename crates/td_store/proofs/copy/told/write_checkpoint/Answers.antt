use Rattle.std.proofs.Common.{◌≡◌, ℕ, suc, ◌+◌, ◌%◌, ◌<◌, ◌≤◌, ◌^◌, List, refl, sym, ap, ◌∙◌, subst, arith}
use Rattle.std.specs.Prelude.{Option, Some, None}
use Rattle.td_gate.specs.CrashSafe.{CrashSafe}
use Rattle.td_gate.specs.Region.{opened, IsOpen, Puts}
use Rattle.td_slots.specs.declared.slots.Slots.{Slots}
use Rattle.td_slots.specs.Slot.{slot, slot_bytes, AreSlotStates}
use Rattle.td_slots.specs.Newest.{newest_in}
use Rattle.td_journal.specs.Cell.{cell_of}
use Rattle.td_store.specs.standing.Told.{inputs_of, folds_of, slots_of, ring_of}
use Rattle.std.proofs.Math.Nat.{mod-lt}
use Rattle.td_head.specs.Layout.{size_of}
use Rattle.td_store.specs.copy.Copied.{IsZeroBetween}
use Rattle.td_store.proofs.copy.Zeroed.{slot_closed, cell_closed}
use Rattle.td_store.proofs.copy.Steps.{Behind, opens_none, opens_in_turn, no_head_after, read_step}
use Rattle.td_store.proofs.copy.told.write_checkpoint.Goals as goal

pub returns-in_err-write-clause-no_head : goal.returns-in_err-write-clause-no_head
returns-in_err-write-clause-no_head g c lawful durable none =
    let view = g.D.Disk.view in
    let mid = c.put_zeros.new.device in
    let r = slot c.slots_of-slots.result 0 in
    let behind : Behind r = subst (λ (z : Slots). Behind (slot z 0)) (sym c.slots_of-slots.ensures.slots) (c.parts_are_apart.ensures.heads_slots c.args.shape 0) in
    let still = c.in_ok-put_zeros.ensures.device.lawful.0 lawful in
    let durable_mid = c.in_ok-put_zeros.ensures.durable lawful in
    opens_in_turn (view c.args.device.now).state (view mid).state (view c.write.new.device).state (c.in_ok-put_zeros.ensures.no_head lawful durable none)
    (opens_none c.put_leaves_others.ensures r _ behind (view mid).state (view c.write.new.device).state durable_mid (c.in_ok-put_zeros.ensures.head lawful durable none)
    (c.in_err-write.ensures.put.crash_safe still (c.durable_is_settled.ensures mid r durable_mid)))

pub returns-clause-no_head : goal.returns-clause-no_head
returns-clause-no_head g c lawful durable none =
    let view = g.D.Disk.view in
    let mid = c.put_zeros.new.device in
    let r = slot c.slots_of-slots.result 0 in
    let behind : Behind r = subst (λ (z : Slots). Behind (slot z 0)) (sym c.slots_of-slots.ensures.slots) (c.parts_are_apart.ensures.heads_slots c.args.shape 0) in
    let still = c.in_ok-put_zeros.ensures.device.lawful.0 lawful in
    let durable_mid = c.in_ok-put_zeros.ensures.durable lawful in
    opens_in_turn (view c.args.device.now).state (view mid).state (view c.write.new.device).state (c.in_ok-put_zeros.ensures.no_head lawful durable none)
    (opens_none c.put_leaves_others.ensures r _ behind (view mid).state (view c.write.new.device).state durable_mid (c.in_ok-put_zeros.ensures.head lawful durable none)
    (c.in_ok-write.ensures.put.crash_safe still (c.durable_is_settled.ensures mid r durable_mid)))

pub returns-clause-put : goal.returns-clause-put
returns-clause-put g c lawful plan valid durable none =
    let view = g.D.Disk.view in
    let laws = g.met.D.Disk in
    let others = c.put_leaves_others.ensures in
    let sizes = c.args.shape in
    let at = c.args.checkpoint.now in
    let mid = c.put_zeros.new.device in
    let new = c.write.new.device in
    let slots = c.slots_of-slots.result in
    let is : slots ≡ slots_of sizes = c.slots_of-slots.ensures.slots in
    let r = slot (slots_of sizes) 0 in
    let p = slot_bytes sizes.k at.epoch at.last at.states in
    let behind : Behind r = c.parts_are_apart.ensures.heads_slots sizes 0 in
    let still = c.in_ok-put_zeros.ensures.device.lawful.0 lawful in
    let durable_mid = c.in_ok-put_zeros.ensures.durable lawful in
    let settled = c.durable_is_settled.ensures mid (slot slots 0) durable_mid in
    let safe = subst (λ (z : Slots). CrashSafe (Puts (slot z 0) (slot_bytes z.k at.epoch at.last at.states)) (view mid).state (view new).state) is (c.in_ok-write.ensures.put.crash_safe still settled) in
    let is_open = subst (λ (z : Slots). IsOpen (slot z 0) (slot_bytes z.k at.epoch at.last at.states) (view new).state) is (c.in_ok-write.ensures.put.is_open still settled) in
    let also = c.in_ok-write.ensures.device.lawful.0 still in
    let now = laws.counts_now new (view mid).state.moment (view new).state.bytes also safe.later (laws.reads_image new also) in
    let put : Puts r p (view mid).state.bytes (view new).state.bytes = read_step (Puts r p) (view mid).state (view new).state durable_mid safe now in
    let zeros : IsZeroBetween 8258 (size_of sizes) (view mid).state.bytes = c.in_ok-put_zeros.ensures.behind lawful in
    let second : opened (slot (slots_of sizes) 1) (view new).state.bytes ≡ None =
    others r (slot (slots_of sizes) 1) p (view mid).state.bytes (view new).state.bytes (c.parts_are_apart.ensures.slots sizes) put ∙ slot_closed sizes (view mid).state.bytes zeros in
    let ring = ring_of sizes at.epoch in
    let cell : opened (cell_of ring (suc at.epoch)) (view new).state.bytes ≡ None =
    others r (cell_of ring (suc at.epoch)) p (view mid).state.bytes (view new).state.bytes (c.parts_are_apart.ensures.slots_cells sizes at.epoch (suc at.epoch % sizes.n)).0 put
    ∙ cell_closed sizes at.epoch (suc at.epoch % sizes.n) (view mid).state.bytes (c.parts_are_apart.ensures.ends sizes at.epoch (suc at.epoch % sizes.n) (mod-lt (suc at.epoch) c.requires.cells)) zeros in
    let limit : sizes.k ≤ 1048576 = subst (λ (z : Slots). z.k ≤ 1048576) is c.slots_of-slots.ensures.within.limit in
    let room : sizes.k < 2 ^ 32 = omega (arith, limit) in
    let fit : AreSlotStates (folds_of plan) sizes.k at.states = record { few = c.requires.few; room = room; lawful = valid; fits = c.in_ok-write.ensures.fits.fits } in
    let last : at.last < 2 ^ 64 = omega arith in
    record {
      no_head = no_head_after others r p behind (view mid).state.bytes (view new).state.bytes put (c.in_ok-put_zeros.ensures.head lawful durable none);
      slot = ap (λ (h : Option (List ℕ)). newest_in 2 (folds_of plan) sizes.k h (opened (slot (slots_of sizes) 1) (view new).state.bytes)) is_open.read
          ∙ ap (newest_in 2 (folds_of plan) sizes.k (Some p)) second
          ∙ c.slots_read_back.ensures.found 2 (folds_of plan) sizes.k 0 at.epoch at.last at.states c.requires.small (record { lawful = refl; fits = last }) fit;
      cells = c.closed_tells_nothing.ensures (inputs_of plan) ring (view new).state.bytes (Some at.last) at.epoch cell;
    }

pub returns-clause-head : goal.returns-clause-head
returns-clause-head g c lawful durable none =
    let view = g.D.Disk.view in
    let laws = g.met.D.Disk in
    let mid = c.put_zeros.new.device in
    let new = c.write.new.device in
    let slots = c.slots_of-slots.result in
    let r = slot slots 0 in
    let p = slot_bytes slots.k c.args.checkpoint.now.epoch c.args.checkpoint.now.last c.args.checkpoint.now.states in
    let behind : Behind r = subst (λ (z : Slots). Behind (slot z 0)) (sym c.slots_of-slots.ensures.slots) (c.parts_are_apart.ensures.heads_slots c.args.shape 0) in
    let still = c.in_ok-put_zeros.ensures.device.lawful.0 lawful in
    let durable_mid = c.in_ok-put_zeros.ensures.durable lawful in
    let safe = c.in_ok-write.ensures.put.crash_safe still (c.durable_is_settled.ensures mid r durable_mid) in
    let also = c.in_ok-write.ensures.device.lawful.0 still in
    let now = laws.counts_now new (view mid).state.moment (view new).state.bytes also safe.later (laws.reads_image new also) in
    no_head_after c.put_leaves_others.ensures r p behind (view mid).state.bytes (view new).state.bytes (read_step (Puts r p) (view mid).state (view new).state durable_mid safe now)
    (c.in_ok-put_zeros.ensures.head lawful durable none)

pub returns-clause-closed : goal.returns-clause-closed
returns-clause-closed g c lawful k low high =
    let view = g.D.Disk.view in
    let laws = g.met.D.Disk in
    let sizes = c.args.shape in
    let at = c.args.checkpoint.now in
    let mid = c.put_zeros.new.device in
    let new = c.write.new.device in
    let slots = c.slots_of-slots.result in
    let is : slots ≡ slots_of sizes = c.slots_of-slots.ensures.slots in
    let r = slot (slots_of sizes) 0 in
    let p = slot_bytes sizes.k at.epoch at.last at.states in
    let still = c.in_ok-put_zeros.ensures.device.lawful.0 lawful in
    let durable_mid = c.in_ok-put_zeros.ensures.durable lawful in
    let settled = c.durable_is_settled.ensures mid (slot slots 0) durable_mid in
    let safe = subst (λ (z : Slots). CrashSafe (Puts (slot z 0) (slot_bytes z.k at.epoch at.last at.states)) (view mid).state (view new).state) is (c.in_ok-write.ensures.put.crash_safe still settled) in
    let also = c.in_ok-write.ensures.device.lawful.0 still in
    let now = laws.counts_now new (view mid).state.moment (view new).state.bytes also safe.later (laws.reads_image new also) in
    let put : Puts r p (view mid).state.bytes (view new).state.bytes = read_step (Puts r p) (view mid).state (view new).state durable_mid safe now in
    let zeros : IsZeroBetween 8258 (size_of sizes) (view mid).state.bytes = c.in_ok-put_zeros.ensures.behind lawful in
    let i = (at.epoch + k) % sizes.n in
    c.put_leaves_others.ensures r (cell_of (ring_of sizes at.epoch) (at.epoch + k)) p (view mid).state.bytes (view new).state.bytes (c.parts_are_apart.ensures.slots_cells sizes at.epoch i).0 put
    ∙ cell_closed sizes at.epoch i (view mid).state.bytes (c.parts_are_apart.ensures.ends sizes at.epoch i (mod-lt (at.epoch + k) c.requires.cells)) zeros
