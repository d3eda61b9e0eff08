use Rattle.std.proofs.Common.{inl, inr, ⊎_elim, List, ℕ, ap, sym, ◌∙◌}
use Rattle.td_head.specs.declared.error.HeadError.TheVariants as head_error
use Rattle.td_slots.specs.declared.error.SlotsError.TheVariants as slots_error
use Rattle.td_slots.specs.declared.slots.Slots.{Slots}
use Rattle.td_slots.specs.Newest.{newest}
use Rattle.td_store.specs.declared.standing.error.KeeperError.{KeeperError}
use Rattle.td_store.specs.standing.Refusals.{of_head, of_slots}
use Rattle.td_store.specs.standing.Told.{Told, folds_of, slots_of}
use Rattle.td_store.specs.standing.Read.{Refused}
use Rattle.td_store.proofs.standing.Refusing.{refused_by}
use Rattle.td_store.proofs.standing.parts.read_before.Goals as goal

pub returns-in_err-head-clause-refused : goal.returns-in_err-head-clause-refused
returns-in_err-head-clause-refused g c =
    let plan = c.args.plan.now in
    let old = c.args.device.now in
    let bytes = (g.D.Disk.view old).state.bytes in
    let d = c.in_err-head.field-0.0 in
    refused_by c.from_residual-in_err-head.result of_head d head_error.Device head_error.Memory (g.D.Disk.view old).lawful (λ (e : KeeperError). Told plan bytes (Refused e))
    c.from_residual-in_err-head.ensures.1
    (⊎_elim inl (λ other. ⊎_elim (λ e. inr (inl e)) (λ told. inr (inr (λ lawful. c.told_refused.ensures.head plan bytes d (told lawful)))) other) c.in_err-head.ensures.refused)

pub returns-in_err-checkpoint-clause-refused : goal.returns-in_err-checkpoint-clause-refused
returns-in_err-checkpoint-clause-refused g c =
    let plan = c.args.plan.now in
    let old = c.args.device.now in
    let mid = c.read.new.device in
    let bytes = (g.D.Disk.view old).state.bytes in
    let h = c.in_ok-head.head in
    let d = c.in_err-checkpoint.field-0.0 in
    refused_by c.from_residual-in_err-checkpoint.result of_slots d slots_error.Device slots_error.Memory (g.D.Disk.view old).lawful (λ (e : KeeperError). Told plan bytes (Refused e))
    c.from_residual-in_err-checkpoint.ensures.1
    (⊎_elim inl (λ other. ⊎_elim (λ e. inr (inl e)) (λ told. inr (inr (λ lawful.
    c.told_refused.ensures.slots plan h bytes d (c.in_ok-head.ensures.told lawful)
    (ap (λ (b : List ℕ). newest h.version (folds_of plan) (slots_of h.shape) b) (sym (c.in_ok-head.ensures.read.same lawful))
    ∙ ap (λ (f : List ℕ). newest h.version f (slots_of h.shape) (g.D.Disk.view mid).state.bytes) (sym (c.deref.ensures.value ∙ c.in_ok-folds.ensures))
    ∙ ap (λ (z : Slots). newest h.version c.deref.result.now z (g.D.Disk.view mid).state.bytes) (sym c.slots_of-slots.ensures.slots)
    ∙ told (c.in_ok-head.ensures.read.lawful.0 lawful))))) other) c.in_err-checkpoint.ensures.refused)

pub returns-in_err-checkpoint-clause-read : goal.returns-in_err-checkpoint-clause-read
returns-in_err-checkpoint-clause-read g c = c.reads_in_turn.ensures.read _ _ _ c.in_ok-head.ensures.read c.in_err-checkpoint.ensures.read

pub returns-clause-read : goal.returns-clause-read
returns-clause-read g c = c.reads_in_turn.ensures.read _ _ _ c.in_ok-head.ensures.read c.in_ok-checkpoint.ensures.read
