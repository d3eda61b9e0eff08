use Rattle.std.proofs.Common.{◌≤◌, ℕ, [], length, subst, sym, ◌∙◌}
use Rattle.td_stamp.specs.States.{StateList}
use Rattle.td_plan.specs.Lines.{text_of}
use Rattle.td_disk.specs.Disk.{IsDurable}
use Rattle.td_gate.specs.CrashSafe.{CrashSafe}
use Rattle.td_gate.specs.Region.{Puts, IsOpen}
use Rattle.td_head.specs.Layout.{size_of, head_a}
use Rattle.td_head.specs.Head.{head_bytes}
use Rattle.td_slots.specs.declared.slots.Slots.{Slots}
use Rattle.td_slots.specs.Slot.{slot, slot_bytes}
use Rattle.td_store.specs.standing.Told.{slots_of}
use Rattle.td_store.proofs.standing.Formats.{read_put, is_formatted}
use Rattle.td_store.proofs.standing.format.format_device.Goals as goal

pub returns-clause-kept : goal.returns-clause-kept
returns-clause-kept g c lawful =
    let view = g.D.Disk.view in
    let laws = g.met.D.Disk in
    let sizes = c.args.shape in
    let plan = c.args.plan.now in
    let wiped = c.wipe.new.device in
    let slotted = c.write.new.device in
    let new = c.put_first.new.device in
    let l1 = c.in_ok-wipe.ensures.device.lawful.0 lawful in
    let l2 = c.in_ok-write.ensures.device.lawful.0 l1 in
    let l3 = c.in_ok-put_first.ensures.device.lawful.0 l2 in
    let d1 : IsDurable (view wiped).state = c.in_ok-wipe.ensures.durable lawful in
    let d2 : IsDurable (view slotted).state = c.in_ok-write.ensures.put.durable l1 in
    let d3 : IsDurable (view new).state = c.in_ok-put_first.ensures.put.durable l2 in
    let slots : Slots = c.slots_of-slots.result in
    let settled_0 = c.durable_is_settled.ensures wiped (slot slots 0) d1 in
    let settled_a = c.durable_is_settled.ensures slotted head_a d2 in
    let payload = slot_bytes sizes.k 0 0 [] in
    let head = head_bytes 2 1 sizes (text_of plan) in
    let puts_0 : CrashSafe (Puts (slot (slots_of sizes) 0) payload) (view wiped).state (view slotted).state =
    subst (λ (x : StateList). CrashSafe (Puts (slot (slots_of sizes) 0) (slot_bytes sizes.k 0 0 x)) (view wiped).state (view slotted).state) c.new-states.ensures
    (subst (λ (z : Slots). CrashSafe (Puts (slot z 0) (slot_bytes z.k 0 0 c.new-states.result)) (view wiped).state (view slotted).state) c.slots_of-slots.ensures.slots (c.in_ok-write.ensures.put.crash_safe l1 settled_0)) in
    let open_0 : IsOpen (slot (slots_of sizes) 0) payload (view slotted).state =
    subst (λ (x : StateList). IsOpen (slot (slots_of sizes) 0) (slot_bytes sizes.k 0 0 x) (view slotted).state) c.new-states.ensures
    (subst (λ (z : Slots). IsOpen (slot z 0) (slot_bytes z.k 0 0 c.new-states.result) (view slotted).state) c.slots_of-slots.ensures.slots (c.in_ok-write.ensures.put.is_open l1 settled_0)) in
    let puts_a : CrashSafe (Puts head_a head) (view slotted).state (view new).state = c.in_ok-put_first.ensures.put.crash_safe l2 settled_a in
    let open_a : IsOpen head_a head (view new).state = c.in_ok-put_first.ensures.put.is_open l2 settled_a in
    let read_0 = laws.reads_image slotted l2 in
    let read_a = laws.reads_image new l3 in
    let put_0 : Puts (slot (slots_of sizes) 0) payload (view wiped).state.bytes (view slotted).state.bytes =
    read_put (slot (slots_of sizes) 0) payload (view wiped).state (view slotted).state d1 puts_0 (laws.counts_now slotted (view wiped).state.moment (view slotted).state.bytes l2 puts_0.later read_0) in
    let put_a : Puts head_a head (view slotted).state.bytes (view new).state.bytes =
    read_put head_a head (view slotted).state (view new).state d2 puts_a (laws.counts_now new (view slotted).state.moment (view new).state.bytes l3 puts_a.later read_a) in
    let room : size_of sizes ≤ length (view new).state.bytes =
    subst (λ (n : ℕ). size_of sizes ≤ n)
    (sym (laws.image_size new (view new).state.bytes l3 read_a ∙ c.in_ok-put_first.ensures.device.size ∙ c.in_ok-write.ensures.device.size ∙ c.in_ok-wipe.ensures.device.size)) c.requires in
    let is = is_formatted c.put_leaves_others.ensures plan sizes c.bytes-bytes.ensures.limits (view wiped).state.bytes (view slotted).state.bytes (view new).state.bytes
    (c.in_ok-wipe.ensures.zero lawful) room put_0 open_0.read put_a open_a.read in
    record { durable = d3; tells = c.formatted.ensures plan sizes (view new).state.bytes c.vertices-vertices.ensures.lawful is }
