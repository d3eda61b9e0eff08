use Rattle.std.proofs.Common.{inl, ℕ, List}
use Rattle.td_store.specs.declared.standing.error.KeeperError.TheVariants.{NotFormatted}
use Rattle.td_store.specs.standing.Told.{Told}
use Rattle.td_store.specs.standing.Tells.{Tells, first_head}
use Rattle.td_store.specs.standing.Read.{standing_of, Stood, Refused}
use Rattle.td_store.specs.copy.Copied.{HasNoHead}
use Rattle.td_store.proofs.copy.Fitting.{has_room}
use Rattle.td_store.proofs.copy.Stopped.{not_formatted, told_since}
use Rattle.td_store.proofs.copy.told.write_told.Goals as goal

pub write_all-requires-clause-fits : goal.write_all-requires-clause-fits
write_all-requires-clause-fits g c = has_room c.args.shape (standing_of c.args.told.now) c.in_ok-check_room.ensures.room

pub returns-in-Ok-true-clause-stopped : goal.returns-in-Ok-true-clause-stopped
returns-in-Ok-true-clause-stopped g c lawful rising =
    let view = g.D.Disk.view in
    let plan = c.args.plan.now in
    let s = standing_of c.args.told.now in
    let one : List ℕ → Type 0 = λ i. Told plan i (Refused NotFormatted) in
    let other : List ℕ → Type 0 = λ i. Told plan i (Stood s) in
    told_since one other one other (λ i told. told) (λ i told. told) (view c.args.device.now).state (view c.is_headed.new.device).state (view c.is_headed.new.device).state
    (λ t i le image. g.met.D.Disk.counts_now c.args.device.now t i lawful le image) (c.in-Ok-true.ensures.unchanged lawful) (λ t i le left. inl left)

pub returns-in_err-write_all-clause-stopped : goal.returns-in_err-write_all-clause-stopped
returns-in_err-write_all-clause-stopped g c lawful rising =
    let view = g.D.Disk.view in
    let plan = c.args.plan.now in
    let s = standing_of c.args.told.now in
    let head = first_head c.args.shape in
    let still = c.in-Ok-false.ensures.device.lawful.0 lawful in
    told_since HasNoHead (Tells plan head 0 s) (λ i. Told plan i (Refused NotFormatted)) (λ i. Told plan i (Stood s))
    (λ i none. not_formatted c.one_answer.ensures.either c.one_answer.ensures.not_both c.one_answer.ensures.one_plan c.told_refused.ensures.head plan i none)
    (λ i tells. c.told_in_parts.ensures.together plan head 0 s i tells)
    (view c.args.device.now).state (view c.is_headed.new.device).state (view c.write_all.new.device).state
    (λ t i le image. g.met.D.Disk.counts_now c.args.device.now t i lawful le image) (c.in-Ok-false.ensures.unchanged lawful)
    (c.in_err-write_all.ensures.stopped still rising (c.in-Ok-false.ensures.durable lawful) (c.in-Ok-false.ensures.not_headed c.in-Ok-false.field-0-test lawful))

pub returns-clause-stopped : goal.returns-clause-stopped
returns-clause-stopped g c lawful rising =
    let view = g.D.Disk.view in
    let plan = c.args.plan.now in
    let s = standing_of c.args.told.now in
    let head = first_head c.args.shape in
    let still = c.in-Ok-false.ensures.device.lawful.0 lawful in
    told_since HasNoHead (Tells plan head 0 s) (λ i. Told plan i (Refused NotFormatted)) (λ i. Told plan i (Stood s))
    (λ i none. not_formatted c.one_answer.ensures.either c.one_answer.ensures.not_both c.one_answer.ensures.one_plan c.told_refused.ensures.head plan i none)
    (λ i tells. c.told_in_parts.ensures.together plan head 0 s i tells)
    (view c.args.device.now).state (view c.is_headed.new.device).state (view c.write_all.new.device).state
    (λ t i le image. g.met.D.Disk.counts_now c.args.device.now t i lawful le image) (c.in-Ok-false.ensures.unchanged lawful)
    (c.in_ok-write_all.ensures.stopped still rising (c.in-Ok-false.ensures.durable lawful) (c.in-Ok-false.ensures.not_headed c.in-Ok-false.field-0-test lawful))
