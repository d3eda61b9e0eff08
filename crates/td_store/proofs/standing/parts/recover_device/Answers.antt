use Rattle.std.proofs.Common.{inl, inr, ⊎_elim, List, ℕ, sym, subst}
use Rattle.td_disk.specs.Disk.{IsDurable}
use Rattle.td_store.specs.declared.standing.error.KeeperError.{KeeperError}
use Rattle.td_store.specs.declared.standing.error.KeeperError.TheVariants as refusal
use Rattle.td_store.specs.standing.Told.{Told}
use Rattle.td_store.specs.standing.Tells.{Tells}
use Rattle.td_store.specs.standing.Read.{Refused, standing_of}
use Rattle.td_store.proofs.standing.Refusing.{refused_by}
use Rattle.td_store.proofs.standing.parts.recover_device.Goals as goal

pub returns-in_err-recovered-clause-refused : goal.returns-in_err-recovered-clause-refused
returns-in_err-recovered-clause-refused g c =
    let view = g.D.Disk.view in
    let plan = c.args.plan.now in
    let old = c.args.device.now in
    let new = c.read_parts.new.device in
    let d = c.in_err-recovered.field-0.0 in
    refused_by c.from_residual-in_err-recovered.result (λ (e : KeeperError). e) d refusal.Device refusal.Memory (g.D.Disk.view old).lawful
    (λ (e : KeeperError). IsDurable (view new).state × Told plan (view new).state.bytes (Refused e))
    c.from_residual-in_err-recovered.ensures.1
    (⊎_elim inl (λ other. ⊎_elim (λ e. inr (inl e)) (λ told. inr (inr (λ lawful.
    let still = c.in_ok-sync.ensures.lawful.0 lawful in (
      c.in_err-recovered.ensures.read.durable still (c.in_ok-sync.ensures.durable lawful),
      subst (λ (b : List ℕ). Told plan b (Refused d)) (sym (c.in_err-recovered.ensures.read.same still)) (told still),
    )))) other) c.in_err-recovered.ensures.refused)

pub returns-in_default-clause-crash_safe : goal.returns-in_default-clause-crash_safe
returns-in_default-clause-crash_safe g c lawful =
    let still = c.in_ok-sync.ensures.lawful.0 lawful in
    c.reads_in_turn.ensures.unchanged c.args.device.now c.sync.new.self c.read_parts.new.device still
    (c.unchanged.ensures.call c.args.device.now c.sync.new.self lawful (c.in_ok-sync.ensures.images lawful) (c.in_ok-sync.ensures.time lawful))
    (c.in_ok-recovered.ensures.read.crash_safe still)

pub returns-clause-kept : goal.returns-clause-kept
returns-clause-kept g c lawful =
    let still = c.in_ok-sync.ensures.lawful.0 lawful in
    let r = c.in_ok-recovered.recovered in
    record {
      durable = c.in_ok-recovered.ensures.read.durable still (c.in_ok-sync.ensures.durable lawful);
      tells = subst (Tells c.args.plan.now r.head r.checkpoint.slot (standing_of r)) (sym (c.in_ok-recovered.ensures.read.same still)) (c.in_ok-recovered.ensures.told still);
    }

pub returns-clause-crash_safe : goal.returns-clause-crash_safe
returns-clause-crash_safe g c lawful =
    let still = c.in_ok-sync.ensures.lawful.0 lawful in
    c.reads_in_turn.ensures.unchanged c.args.device.now c.sync.new.self c.read_parts.new.device still
    (c.unchanged.ensures.call c.args.device.now c.sync.new.self lawful (c.in_ok-sync.ensures.images lawful) (c.in_ok-sync.ensures.time lawful))
    (c.in_ok-recovered.ensures.read.crash_safe still)
