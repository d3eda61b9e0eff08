use Rattle.std.proofs.Common.{arith, ◌-◌, ◌<◌, length, refl, sym, ap, ◌∙◌}
use Rattle.std.proofs.lemmas.List.{get_or_default}
use Rattle.td_shard.specs.declared.runs.Run.{Run}
use Rattle.td_shard.proofs.Lanes.{lane_eq-sound}
use Rattle.td_shard.proofs.runs.ends_on.Goals as goal

pub returns-then-run-end-clause-lane : goal.returns-then-run-end-clause-lane
returns-then-run-end-clause-lane c t d =
    let runs = c.args.runs.now in
    let r = c.in-Some.run'.now in
    let within : runs.len - 1 < length runs.items = omega (arith, c.in-Some.ensures.variant.0 refl, runs.ok.0) in
    ap (λ (x : Run). x.lane) (get_or_default runs.items (runs.len - 1) d r within ∙ sym c.in-Some.ensures.lookup) ∙ lane_eq-sound r.lane c.args.lane.now (sym c.eq.ensures ∙ t)
