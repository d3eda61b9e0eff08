use Rattle.std.proofs.Common.{◌≡◌, inr, ◌<◌, ◌^◌, ◌∙◌, refl, sym, ap, subst, arith, length, List, ℕ, Err}
use Rattle.std.specs.Io.KnownBytes.{Appends}
use Rattle.std.proofs.lemmas.List.{length-map}
use Rattle.td_disk.specs.Disk.{IsDurable, Rises}
use Rattle.td_journal.specs.Counts.{counts_of}
use Rattle.td_store.specs.declared.standing.error.KeeperError.{KeeperError}
use Rattle.td_store.specs.standing.Read.{Refused}
use Rattle.td_store.specs.standing.Standing.{standing_from}
use Rattle.td_store.specs.standing.Told.{Told}
use Rattle.td_store.specs.standing.Tells.{checkpoint_of}
use Rattle.td_console.specs.declared.faults.Fault.{Fault}
use Rattle.td_console.specs.Refusals.{keeper_fault}
use Rattle.td_states.specs.Lines.{checkpoint_text}
use Rattle.td_states.specs.Written.{IsNotWritten}
use Rattle.td_states.proofs.Refused.{if_err, refused}
use Rattle.td_states.proofs.write.write_states.Goals as goal

pub returns-in_err-counted-clause-refused : goal.returns-in_err-counted-clause-refused
returns-in_err-counted-clause-refused g c =
    let new = c.count_device.new.device in
    let view = g.D.Disk.view in
    let e = c.in_err-counted.field-0.0 in
    let plan = c.args.plan.now in
    let lawful = (g.D.Disk.view c.args.disk.now).lawful in
    let before = (g.D.Disk.view c.args.disk.now).failures in
    let after = (g.D.Disk.view new).failures in
    let tells = λ (d : KeeperError). lawful → IsDurable (view new).state × Told plan (view new).state.bytes (Refused d) in
    if_err c.from_residual.result (λ (f : Fault). f ≡ keeper_fault e) (IsNotWritten plan lawful (view new).state before after) c.from_residual.ensures.1
    (λ f is. inr (refused (Rises before after) tells e f is (λ device. c.in_err-counted.ensures.device.counts.rises (λ i. Err (device i))) c.in_err-counted.ensures.refused))

pub returns-clause-written : goal.returns-clause-written
returns-clause-written g c =
    let counted = c.in_ok-counted.counted in
    let stands = c.in_ok-counted.ensures.kept in
    let s = standing_from counted.checkpoint stands.0 in
    let before = g.W.Sink.contents c.args.writer.now in
    let after = g.W.Sink.contents c.write_answer.new.writer in
    let text : c.as_str.result.now ≡ checkpoint_text (checkpoint_of 0 s) = c.as_str.ensures.value ∙ c.in_ok-text.ensures.ok in
    let may = stands.2.0 in
    let small : counted.checkpoint.epoch < 2 ^ 63 = let h = may.small in omega (arith, h) in
    let count : length stands.0 ≡ length counted.submitted.items = sym (length-map stands.0 counts_of) ∙ ap length stands.1 in
    record {
      head = counted.head;
      side = counted.checkpoint.slot;
      standing = s;
      said = subst (λ (t : List ℕ). Appends before after t) text c.in_ok-write_answer.ensures.written;
      spelled = c.states_are_spelled.ensures c.args.plan.now (checkpoint_of 0 s) (record { states = may.states; small = small; slot = refl }) c.in_ok-text.ensures.last c.in_ok-text.ensures.fits;
      after_it = omega (arith, c.len.ensures, counted.submitted.ok.0, count);
      keeps = stands.2.1;
    }
