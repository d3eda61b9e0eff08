use Rattle.std.proofs.Common.{◌≡◌, ◌⊎◌, inr, ◌++◌, ◌∙◌, ap, subst, List, ℕ, Err}
use Rattle.std.specs.Prelude.{string_bytes}
use Rattle.std.specs.Io.KnownBytes.{Appends}
use Rattle.td_disk.specs.Disk.{IsDurable, Rises}
use Rattle.td_gate.specs.Reading.{Each}
use Rattle.td_journal.specs.declared.payload.Submitted.{Submitted}
use Rattle.td_store.specs.declared.standing.error.KeeperError.{KeeperError}
use Rattle.td_store.specs.declared.standing.error.KeeperError.TheVariants.{Device}
use Rattle.td_store.specs.standing.Read.{Refused, standing_of}
use Rattle.td_store.specs.standing.Told.{Told}
use Rattle.td_console.specs.declared.faults.Fault.{Fault}
use Rattle.td_console.specs.declared.faults.Fault.TheVariants.{Output, Memory, Keeper}
use Rattle.td_console.specs.Refusals.{keeper_fault}
use Rattle.td_report.specs.Shown.{IsRefusedAs}
use Rattle.td_report.specs.Dumped.{summary_line, placed_text, placed_dump, FitsLines, WritesFront}
use Rattle.td_report.specs.RefusedProofs.{on_ok, if_err, refused}
use Rattle.td_report.proofs.Pieces.{front_last}
use Rattle.td_report.proofs.placed_lines.dump_placed.Goals as goal

pub returns-in_err-_plan-clause-refused : goal.returns-in_err-_plan-clause-refused
returns-in_err-_plan-clause-refused g c =
    let new = c.recover_device.new.device in
    let view = g.D.Disk.view in
    let e = c.in_err-_plan.field-0.0 in
    let rose = Rises (g.D.Disk.view c.args.disk.now).failures (g.D.Disk.view new).failures in
    let tells = λ (d : KeeperError). (g.D.Disk.view c.args.disk.now).lawful → IsDurable (view new).state × Told c.args.plan.now (view new).state.bytes (Refused d) in
    if_err c.from_residual.result (λ (f : Fault). f ≡ keeper_fault e)
    (λ (f : Fault). (f ≡ Output) ⊎ ((f ≡ Memory) ⊎ (((f ≡ Keeper Device) × rose) ⊎ IsRefusedAs f tells)))
    c.from_residual.ensures.1
    (λ f is. inr (refused rose tells e f is (λ device. c.in_err-_plan.ensures.device.counts.rises (λ i. Err (device i))) c.in_err-_plan.ensures.refused))

pub returns-clause-dumped : goal.returns-clause-dumped
returns-clause-dumped g c =
    let plan = c.args.plan.now in
    let read = c.in_ok-_plan.recovered in
    let s = standing_of read in
    let before = g.W.Sink.contents c.args.writer.now in
    let there = g.W.Sink.contents c.write_epochs.new.writer in
    let after = g.W.Sink.contents c.write_answer.new.writer in
    let held = string_bytes c.write_epochs.new.lines in
    let law = c.placed_dumps_bring_on.ensures in
    let x : c.as_slice.result.now ≡ s.submitted = c.as_slice.ensures.value in
    let first : string_bytes c.reserve.new.self ++ placed_text s.epoch c.as_slice.result.now ≡ placed_dump read.head.shape s =
    ap (λ (l : List ℕ). l ++ placed_text s.epoch c.as_slice.result.now) (c.reserve.ensures.bytes ∙ c.in_ok-lines.ensures.ok)
    ∙ ap (λ (y : List Submitted). summary_line read.head.shape s ++ placed_text s.epoch y) x in
    let front = subst (λ (l : List ℕ). WritesFront before there l held) first c.in_ok-write_epochs.ensures.left in
    let fits = subst (λ (y : List Submitted). Each FitsLines y) x c.in_ok-write_epochs.ensures.fits in
    let lawful_plan = c.vertices-vertices.ensures.lawful in
    let may = c.in_ok-_plan.ensures.may_stand in
    on_ok c.write_answer.result
    (λ (wrote : Appends there after c.as_str.result.now). record {
      head = read.head;
      side = read.checkpoint.slot;
      standing = s;
      said = front_last before there after (placed_dump read.head.shape s) held front (subst (λ (l : List ℕ). Appends there after l) c.as_str.ensures.value wrote);
      keeps = λ lawful. c.in_ok-_plan.ensures.kept lawful;
      brings = λ lawful run history stands n from to.
          law.brings run plan read.head read.checkpoint.slot s (g.D.Disk.view c.recover_device.new.device).state.bytes history lawful_plan may fits (c.in_ok-_plan.ensures.kept lawful).tells stands n from to;
      behind = λ told last behind. law.behind plan read.head read.checkpoint.slot s lawful_plan may fits told last behind;
    })
    c.write_answer.ensures.written
