use Rattle.std.proofs.Common.{◌<◌, ap, arith, length, length-append, length-take, length-drop, ℕ}
use Rattle.std.proofs.lemmas.List.{length-map}
use Rattle.std.proofs.lemmas.List.Edits.{map_over_more}
use Rattle.td_report.specs.Narrowed.{narrow}
use Rattle.td_report.proofs.plan_text.narrowed.Goals as goal

pub loop-at-preserved : goal.loop-at-preserved
loop-at-preserved c =
    let within : c.loop-at.at < length c.args.text.items = omega arith in
    let size = ap length c.loop-at.invariant in
    let here : c.loop-at.at < length c.loop-at.text.items = omega (arith, size, length-append {A = ℕ}, length-map {A = ℕ} {B = ℕ}, length-take {A = ℕ}, length-drop {A = ℕ}) in
    rw c.narrow.ensures
    (map_over_more narrow c.args.text.items c.loop-at.text.items c.loop-at.at c.index.result.now within c.loop-at.invariant c.index.ensures)
