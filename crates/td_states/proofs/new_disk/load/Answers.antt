use Rattle.std.proofs.Common.{◌≡◌, true, Some, List, refl, sym, ap, subst}
use Rattle.td_journal.specs.declared.payload.Submitted.{Submitted}
use Rattle.td_journal.specs.Numbers.{rise}
use Rattle.td_store.specs.declared.standing.error.KeeperError.TheVariants.{NotFormatted}
use Rattle.td_store.specs.standing.Standing.{Standing, standing_from}
use Rattle.td_store.specs.standing.Told.{Told}
use Rattle.td_store.specs.standing.Tells.{TellsSince}
use Rattle.td_store.specs.standing.Read.{Stood, Refused}
use Rattle.td_states.specs.Written.{loaded}
use Rattle.td_states.proofs.new_disk.load.Goals as goal

pub returns-clause-stopped : goal.returns-clause-stopped
returns-clause-stopped g c lawful =
    let plan = c.args.plan.now in
    let view = g.D.Disk.view in
    let none = c.new.ensures.items in
    let is : standing_from c.args.checkpoint c.new.result.items ≡ loaded c.args.checkpoint = ap (standing_from c.args.checkpoint) none in
    let rising : rise (Some c.args.checkpoint.last) c.new.result.items ≡ true = subst (λ (w : List Submitted). rise (Some c.args.checkpoint.last) w ≡ true) (sym none) refl in
    subst (λ (s : Standing). TellsSince (λ i. Told plan i (Refused NotFormatted)) (λ i. Told plan i (Stood s)) (view c.args.device.now).state (view c.write_told.new.device).state) is
    (c.write_told.ensures.stopped lawful rising)
