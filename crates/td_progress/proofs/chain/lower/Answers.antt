use Rattle.std.proofs.Common.{set, sym, ap, ◌∙◌, arith}
use Rattle.td_progress.specs.Cells.{gaps_of}
use Rattle.td_progress.specs.Gaps.{minus}
use Rattle.td_progress.proofs.ChainSteps.{length_gaps, cell_changed, none_changed}
use Rattle.td_progress.proofs.chain.lower.Goals as goal

pub returns-in-Some : goal.returns-in-Some
returns-in-Some c =
    let cs = c.args.cells.now.items in
    let cell = c.in-Some.cell.now in
    ap (λ g. gaps_of (set cs c.args.place (record { epoch = cell.epoch; gap = g; times = cell.times }))) c.saturating_sub-cell.ensures
    ∙ cell_changed (minus c.args.by) cs c.args.place cell c.in-Some.ensures.value

pub returns-in_default : goal.returns-in_default
returns-in_default c =
    let cs = c.args.cells.now.items in
    let long = length_gaps cs in
    sym (none_changed (minus c.args.by) (gaps_of cs) c.args.place (omega (arith, long, c.in_default.ensures.item.3)))
