use Rattle.std.proofs.Common.{◌≡◌, ◌<◌, ◌≤◌, true, List, [], length, Some, refl, sym, subst}
use Rattle.std.specs.Prelude.{All}
use Rattle.td_journal.specs.declared.journal.Journal.{Journal}
use Rattle.td_journal.specs.Cell.{is_batch}
use Rattle.td_journal.specs.Numbers.{rise}
use Rattle.td_journal.specs.declared.payload.Submitted.{Submitted}
use Rattle.td_store.specs.standing.Standing.{standing_from}
use Rattle.td_store.specs.standing.Told.{inputs_of}
use Rattle.td_store.specs.copy.Copied.{AreClosedAfter, HasParts}
use Rattle.td_store.proofs.copy.Steps.{opens_in_turn}
use Rattle.td_store.proofs.copy.told.write_parts.Goals as goal

pub returns-in_err-put_epochs-clause-no_head : goal.returns-in_err-put_epochs-clause-no_head
returns-in_err-put_epochs-clause-no_head g c lawful durable none =
    let view = g.D.Disk.view in
    let first = c.in_ok-write_checkpoint.ensures in
    opens_in_turn (view c.args.device.now).state (view c.write_checkpoint.new.device).state (view c.put_epochs.new.device).state (first.no_head lawful durable none)
    (c.in_err-put_epochs.ensures.no_head (first.device.lawful.0 lawful) c.args.shape c.args.told.now.checkpoint.epoch c.ring_of-ring.ensures.ring (first.durable lawful durable) (first.head lawful durable none))

pub returns-clause-no_head : goal.returns-clause-no_head
returns-clause-no_head g c lawful durable none =
    let view = g.D.Disk.view in
    let first = c.in_ok-write_checkpoint.ensures in
    opens_in_turn (view c.args.device.now).state (view c.write_checkpoint.new.device).state (view c.put_epochs.new.device).state (first.no_head lawful durable none)
    (c.in_ok-put_epochs.ensures.no_head (first.device.lawful.0 lawful) c.args.shape c.args.told.now.checkpoint.epoch c.ring_of-ring.ensures.ring (first.durable lawful durable) (first.head lawful durable none))

pub returns-clause-put : goal.returns-clause-put
returns-clause-put g c lawful plan states batches rising durable none =
    let first = c.in_ok-write_checkpoint.ensures in
    let told = c.args.told.now in
    let is : c.as_slice.result.now ≡ told.submitted.items = c.as_slice.ensures.value in
    subst (λ (l : List Submitted). HasParts plan c.args.shape (standing_from told.checkpoint l) (g.D.Disk.view c.put_epochs.new.device).state.bytes) is
    (c.in_ok-put_epochs.ensures.put (first.device.lawful.0 lawful) plan c.args.shape (standing_from told.checkpoint []) c.ring_of-ring.ensures.ring refl
    (subst (λ (l : List Submitted). length l ≤ c.args.shape.n) (sym is) c.requires.fits.epochs)
    (subst (λ (l : List Submitted). rise (Some told.checkpoint.last) l ≡ true) (sym is) rising)
    (subst (λ (l : List Submitted). All (λ x. is_batch (inputs_of plan) x.batch ≡ true) l) (sym is) batches)
    (first.durable lawful durable) (subst (λ (j : Journal). AreClosedAfter j 0 (g.D.Disk.view c.write_checkpoint.new.device).state.bytes) (sym c.ring_of-ring.ensures.ring) (first.closed lawful))
    (first.put lawful plan states durable none))

pub write_checkpoint-requires-clause-cells : goal.write_checkpoint-requires-clause-cells
write_checkpoint-requires-clause-cells g c = subst (λ (j : Journal). 0 < j.n) c.ring_of-ring.ensures.ring c.ring_of-ring.ensures.within.cells
