use Rattle.std.proofs.Common.{inl, inr, ⊎_elim, ℕ, ◌≤◌, List, length, sym, ◌∙◌, subst, arith}
use Rattle.td_plan.specs.Lines.{text_of}
use Rattle.td_gate.specs.Region.{Puts}
use Rattle.td_head.specs.Layout.{head_a, size_of}
use Rattle.td_head.specs.Head.{head_bytes}
use Rattle.td_store.specs.standing.Read.{standing_of}
use Rattle.td_store.proofs.copy.Steps.{read_step}
use Rattle.td_store.proofs.copy.Headed.{headed_tells, while_put}
use Rattle.td_store.proofs.copy.told.write_all.Goals as goal

pub returns-in_err-put_first-clause-stopped : goal.returns-in_err-put_first-clause-stopped
returns-in_err-put_first-clause-stopped g c lawful rising durable none t image le left =
    let view = g.D.Disk.view in
    let laws = g.met.D.Disk in
    let mid = c.write_parts.new.device in
    let sizes = c.args.shape in
    let plan = c.args.plan.now in
    let p = head_bytes 2 1 sizes (text_of plan) in
    let parts_are = c.parts_are_apart.ensures in
    let first = c.in_ok-write_parts.ensures in
    let still = first.device.lawful.0 lawful in
    let durable_mid = first.durable lawful durable in
    let parts = first.put lawful plan c.requires.may_stand.states c.requires.may_stand.batches rising durable none in
    let puts = c.in_err-put_first.ensures.put.crash_safe still (c.durable_is_settled.ensures mid head_a durable_mid) in
    let room : size_of sizes ≤ length (view mid).state.bytes =
    subst (λ (n : ℕ). size_of sizes ≤ n) (sym (laws.image_size mid (view mid).state.bytes still (laws.reads_image mid still) ∙ first.device.size)) c.requires.bytes in
    ⊎_elim (λ was. ⊎_elim (λ before. inl before) (λ headless. inr (inl headless)) ((first.no_head lawful durable none).each t image le was))
    (λ from. inr (while_put c.put_leaves_others.ensures parts_are.heads parts_are.heads_slots parts_are.heads_cells c.slots_tell.ensures c.cells_tell.ensures c.first_head_tells.ensures
    plan c.vertices-vertices.ensures.lawful sizes c.bytes-bytes.ensures.limits (standing_of c.args.told.now) (view mid).state.bytes image room parts
    (subst (λ (d : List ℕ). Puts head_a p d image) (durable_mid from.0 from.1) from.2)))
    (puts.before t image (omega (arith, le, (first.no_head lawful durable none).later)) left)

pub returns-clause-stopped : goal.returns-clause-stopped
returns-clause-stopped g c lawful rising durable none t image le left =
    let view = g.D.Disk.view in
    let laws = g.met.D.Disk in
    let mid = c.write_parts.new.device in
    let sizes = c.args.shape in
    let plan = c.args.plan.now in
    let p = head_bytes 2 1 sizes (text_of plan) in
    let parts_are = c.parts_are_apart.ensures in
    let first = c.in_ok-write_parts.ensures in
    let still = first.device.lawful.0 lawful in
    let durable_mid = first.durable lawful durable in
    let parts = first.put lawful plan c.requires.may_stand.states c.requires.may_stand.batches rising durable none in
    let puts = c.in_ok-put_first.ensures.put.crash_safe still (c.durable_is_settled.ensures mid head_a durable_mid) in
    let room : size_of sizes ≤ length (view mid).state.bytes =
    subst (λ (n : ℕ). size_of sizes ≤ n) (sym (laws.image_size mid (view mid).state.bytes still (laws.reads_image mid still) ∙ first.device.size)) c.requires.bytes in
    ⊎_elim (λ was. ⊎_elim (λ before. inl before) (λ headless. inr (inl headless)) ((first.no_head lawful durable none).each t image le was))
    (λ from. inr (while_put c.put_leaves_others.ensures parts_are.heads parts_are.heads_slots parts_are.heads_cells c.slots_tell.ensures c.cells_tell.ensures c.first_head_tells.ensures
    plan c.vertices-vertices.ensures.lawful sizes c.bytes-bytes.ensures.limits (standing_of c.args.told.now) (view mid).state.bytes image room parts
    (subst (λ (d : List ℕ). Puts head_a p d image) (durable_mid from.0 from.1) from.2)))
    (puts.before t image (omega (arith, le, (first.no_head lawful durable none).later)) left)

pub returns-clause-copied : goal.returns-clause-copied
returns-clause-copied g c lawful rising durable none =
    let view = g.D.Disk.view in
    let laws = g.met.D.Disk in
    let mid = c.write_parts.new.device in
    let new = c.put_first.new.device in
    let sizes = c.args.shape in
    let plan = c.args.plan.now in
    let p = head_bytes 2 1 sizes (text_of plan) in
    let parts_are = c.parts_are_apart.ensures in
    let first = c.in_ok-write_parts.ensures in
    let still = first.device.lawful.0 lawful in
    let durable_mid = first.durable lawful durable in
    let parts = first.put lawful plan c.requires.may_stand.states c.requires.may_stand.batches rising durable none in
    let settled = c.durable_is_settled.ensures mid head_a durable_mid in
    let puts = c.in_ok-put_first.ensures.put.crash_safe still settled in
    let is_open = c.in_ok-put_first.ensures.put.is_open still settled in
    let also = c.in_ok-put_first.ensures.device.lawful.0 still in
    let now = laws.counts_now new (view mid).state.moment (view new).state.bytes also puts.later (laws.reads_image new also) in
    let room : size_of sizes ≤ length (view mid).state.bytes =
    subst (λ (n : ℕ). size_of sizes ≤ n) (sym (laws.image_size mid (view mid).state.bytes still (laws.reads_image mid still) ∙ first.device.size)) c.requires.bytes in
    record {
      durable = c.in_ok-put_first.ensures.put.durable still;
      tells = headed_tells c.put_leaves_others.ensures parts_are.heads parts_are.heads_slots parts_are.heads_cells c.slots_tell.ensures c.cells_tell.ensures c.first_head_tells.ensures
          plan c.vertices-vertices.ensures.lawful sizes c.bytes-bytes.ensures.limits (standing_of c.args.told.now) (view mid).state.bytes (view new).state.bytes room parts
          (read_step (Puts head_a p) (view mid).state (view new).state durable_mid puts now) is_open.read;
    }
