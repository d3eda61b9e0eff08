use Rattle.std.proofs.Common.{◌≡◌, inl, inr, ⊎_elim, ◌+◌, ◌^◌, ◌<◌, ◌≤◌, true, List, ℕ, length, arith, ◌∙◌, subst}
use Rattle.std.specs.Prelude.{All}
use Rattle.td_journal.specs.declared.error.JournalError.TheVariants as journal_error
use Rattle.td_journal.specs.Cell.{is_batch}
use Rattle.td_store.specs.declared.standing.error.KeeperError.{KeeperError}
use Rattle.td_store.specs.declared.standing.error.KeeperError.TheVariants as refusal
use Rattle.td_store.specs.standing.Refusals.{of_journal}
use Rattle.td_store.specs.standing.Told.{Told}
use Rattle.td_store.specs.standing.Read.{Refused}
use Rattle.td_store.proofs.standing.Refusing.{refused_by, same_ring, as_many}
use Rattle.td_store.proofs.standing.parts.count_parts.Goals as goal

pub returns-in_err-before-clause-refused : goal.returns-in_err-before-clause-refused
returns-in_err-before-clause-refused g c =
    refused_by c.from_residual.result (λ (e : KeeperError). e) c.in_err-before.field-0.0 refusal.Device refusal.Memory (g.D.Disk.view c.args.device.now).lawful
    (λ (e : KeeperError). Told c.args.plan.now (g.D.Disk.view c.args.device.now).state.bytes (Refused e)) c.from_residual.ensures.1 c.in_err-before.ensures.refused

pub returns-in_err-submitted-clause-refused : goal.returns-in_err-submitted-clause-refused
returns-in_err-submitted-clause-refused g c =
    let old = c.args.device.now in
    let bytes = (g.D.Disk.view old).state.bytes in
    let late = (g.D.Disk.view c.read_before.new.device).state.bytes in
    let b = c.in_ok-before.before in
    let d = c.in_err-submitted.field-0.0 in
    refused_by c.from_residual-in_err-submitted.result of_journal d journal_error.Device journal_error.Memory (g.D.Disk.view old).lawful (λ (e : KeeperError). Told c.args.plan.now bytes (Refused e))
    c.from_residual-in_err-submitted.ensures.1
    (⊎_elim inl (λ other. ⊎_elim (λ e. inr (inl e)) (λ told. inr (inr (λ lawful.
    c.in_ok-before.ensures.damaged lawful d
    (same_ring b.inputs.items c.deref.result.now bytes late b.journal b.floor b.checkpoint.epoch c.deref.ensures.value (c.in_ok-before.ensures.read.same lawful)
    ∙ told (c.in_ok-before.ensures.read.lawful.0 lawful))))) other) c.in_err-submitted.ensures.refused)

pub returns-clause-told : goal.returns-clause-told
returns-clause-told g c =
    let bytes = (g.D.Disk.view c.args.device.now).state.bytes in
    let late = (g.D.Disk.view c.read_before.new.device).state.bytes in
    let b = c.in_ok-before.before in
    let read = c.in_ok-submitted.ensures in
    let w = read.told.0 in
    let many = as_many w c.in_ok-submitted.submitted.items read.told.1 in
    let few : length w ≤ b.journal.n = omega (arith, many, read.fits.few) in
    let small : b.checkpoint.epoch + length w < 2 ^ 63 = omega (arith, many, read.fits.below) in (
      w,
      read.told.1,
      (
        c.in_ok-before.ensures.may_stand w (subst (λ (i : List ℕ). All (λ x. is_batch i x.batch ≡ true) w) c.deref.ensures.value read.told.2) few small,
        λ lawful. c.in_ok-before.ensures.told lawful w
            (same_ring b.inputs.items c.deref.result.now bytes late b.journal b.floor b.checkpoint.epoch c.deref.ensures.value (c.in_ok-before.ensures.read.same lawful)
            ∙ read.told.3 (c.in_ok-before.ensures.read.lawful.0 lawful)),
      ),
    )
