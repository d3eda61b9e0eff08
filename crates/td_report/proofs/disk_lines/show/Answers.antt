use Rattle.std.proofs.Common.{◌≡◌, ◌⊎◌, inr, ◌∙◌, subst, List, ℕ, Err}
use Rattle.td_disk.specs.Disk.{IsDurable, Rises}
use Rattle.td_store.specs.declared.standing.error.KeeperError.{KeeperError}
use Rattle.td_store.specs.declared.standing.error.KeeperError.TheVariants.{Device}
use Rattle.td_store.specs.standing.Read.{Refused}
use Rattle.td_store.specs.standing.Standing.{standing_from}
use Rattle.td_store.specs.standing.Told.{Told}
use Rattle.td_console.specs.declared.faults.Fault.{Fault}
use Rattle.td_console.specs.declared.faults.Fault.TheVariants.{Output, Memory, Keeper}
use Rattle.td_console.specs.Refusals.{keeper_fault}
use Rattle.td_report.specs.Shown.{shown, IsRefusedAs}
use Rattle.std.specs.Io.KnownBytes.{Appends}
use Rattle.td_report.proofs.Shown.{counted_is_shown}
use Rattle.td_report.specs.RefusedProofs.{on_ok, if_err, refused}
use Rattle.td_report.proofs.disk_lines.show.Goals as goal

pub returns-in_err-counted-clause-refused : goal.returns-in_err-counted-clause-refused
returns-in_err-counted-clause-refused g c =
    let new = c.count_device.new.device in
    let view = g.D.Disk.view in
    let e = c.in_err-counted.field-0.0 in
    let rose = Rises (g.D.Disk.view c.args.disk.now).failures (g.D.Disk.view new).failures in
    let tells = λ (d : KeeperError). (g.D.Disk.view c.args.disk.now).lawful → IsDurable (view new).state × Told c.args.plan.now (view new).state.bytes (Refused d) in
    if_err c.from_residual.result (λ (f : Fault). f ≡ keeper_fault e)
    (λ (f : Fault). (f ≡ Output) ⊎ ((f ≡ Memory) ⊎ (((f ≡ Keeper Device) × rose) ⊎ IsRefusedAs f tells)))
    c.from_residual.ensures.1
    (λ f is. inr (refused rose tells e f is (λ device. c.in_err-counted.ensures.device.counts.rises (λ i. Err (device i))) c.in_err-counted.ensures.refused))

pub returns-clause-shown : goal.returns-clause-shown
returns-clause-shown g c =
    let counted = c.in_ok-counted.counted in
    let stands = c.in_ok-counted.ensures.kept in
    let s = standing_from counted.checkpoint stands.0 in
    let before = g.W.Sink.contents c.args.writer.now in
    let after = g.W.Sink.contents c.write_answer.new.writer in
    let is : c.as_str.result.now ≡ shown s = c.as_str.ensures.value ∙ c.in_ok-text.ensures.ok ∙ counted_is_shown counted.checkpoint stands.0 counted.submitted.items stands.1 in
    on_ok c.write_answer.result
    (λ (wrote : Appends before after c.as_str.result.now). (
      s,
      subst (λ (t : List ℕ). Appends before after t) is wrote,
      λ lawful. let kept = stands.2.1 lawful in (kept.durable, c.told_in_parts.ensures.together c.args.plan.now counted.head counted.checkpoint.slot s (g.D.Disk.view c.count_device.new.device).state.bytes kept.tells),
    ))
    c.write_answer.ensures.written
