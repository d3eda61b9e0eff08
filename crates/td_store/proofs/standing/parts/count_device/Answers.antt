use Rattle.std.proofs.Common.{inl, inr, ⊎_elim, List, ℕ, sym, subst}
use Rattle.td_disk.specs.Disk.{IsDurable}
use Rattle.td_store.specs.declared.standing.error.KeeperError.{KeeperError}
use Rattle.td_store.specs.declared.standing.error.KeeperError.TheVariants as refusal
use Rattle.td_store.specs.standing.Standing.{standing_from}
use Rattle.td_store.specs.standing.Told.{Told}
use Rattle.td_store.specs.standing.Tells.{Tells}
use Rattle.td_store.specs.standing.Read.{Refused}
use Rattle.td_store.proofs.standing.Refusing.{refused_by}
use Rattle.td_store.proofs.standing.parts.count_device.Goals as goal

pub returns-in_err-counted-clause-refused : goal.returns-in_err-counted-clause-refused
returns-in_err-counted-clause-refused g c =
    let view = g.D.Disk.view in
    let plan = c.args.plan.now in
    let old = c.args.device.now in
    let new = c.count_parts.new.device in
    let d = c.in_err-counted.field-0.0 in
    refused_by c.from_residual-in_err-counted.result (λ (e : KeeperError). e) d refusal.Device refusal.Memory (g.D.Disk.view old).lawful
    (λ (e : KeeperError). IsDurable (view new).state × Told plan (view new).state.bytes (Refused e))
    c.from_residual-in_err-counted.ensures.1
    (⊎_elim inl (λ other. ⊎_elim (λ e. inr (inl e)) (λ told. inr (inr (λ lawful.
    let still = c.in_ok-sync.ensures.lawful.0 lawful in (
      c.in_err-counted.ensures.read.durable still (c.in_ok-sync.ensures.durable lawful),
      subst (λ (b : List ℕ). Told plan b (Refused d)) (sym (c.in_err-counted.ensures.read.same still)) (told still),
    )))) other) c.in_err-counted.ensures.refused)

pub returns-clause-kept : goal.returns-clause-kept
returns-clause-kept g c =
    let counted = c.in_ok-counted.counted in
    let told = c.in_ok-counted.ensures.told in (
      told.0,
      told.1,
      (
        told.2.0,
        λ lawful.
            let still = c.in_ok-sync.ensures.lawful.0 lawful in
            record {
              durable = c.in_ok-counted.ensures.read.durable still (c.in_ok-sync.ensures.durable lawful);
              tells = subst (Tells c.args.plan.now counted.head counted.checkpoint.slot (standing_from counted.checkpoint told.0)) (sym (c.in_ok-counted.ensures.read.same still)) (told.2.1 still);
            },
      ),
    )

pub returns-clause-crash_safe : goal.returns-clause-crash_safe
returns-clause-crash_safe g c lawful =
    let still = c.in_ok-sync.ensures.lawful.0 lawful in
    c.reads_in_turn.ensures.unchanged c.args.device.now c.sync.new.self c.count_parts.new.device still
    (c.unchanged.ensures.call c.args.device.now c.sync.new.self lawful (c.in_ok-sync.ensures.images lawful) (c.in_ok-sync.ensures.time lawful))
    (c.in_ok-counted.ensures.read.crash_safe still)
