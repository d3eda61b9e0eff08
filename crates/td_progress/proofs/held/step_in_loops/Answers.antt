use Rattle.std.proofs.Common.{◌≡◌, ◌-◌, ◌≤◌, length, sym, ap, ◌∙◌, subst, arith}
use Rattle.std.specs.List.{AllByRecursion, range_with_len}
use Rattle.td_progress.specs.Ways.{places_of}
use Rattle.td_progress.specs.Held.{stepped, shifted_at, all_shifted_at, IsOfPlan}
use Rattle.td_progress.proofs.Visits.{steps_next, step_of_plan}
use Rattle.td_progress.proofs.held.step_in_loops.Goals as goal

pub loop-index-preserved : goal.loop-index-preserved
loop-index-preserved c =
    let plan = c.args.ways.now in
    let k = c.args.class.now in
    let f = stepped c.args.step in
    let i = c.loop-index.index in
    let low : places_of plan ≤ i = omega (arith, c.places.ensures, c.from-index.ensures, c.loop-index.auto.index) in
    record {
      entries = c.step_at.ensures ∙ (ap (shifted_at plan k c.args.epoch f i) c.loop-index.invariant.entries ∙ steps_next plan k c.args.epoch f (places_of plan) i low c.args.chains.now.entries);
      each = subst (AllByRecursion (IsOfPlan plan)) (sym c.step_at.ensures) (step_of_plan plan k c.args.epoch f i c.loop-index.chains.entries c.loop-index.invariant.each);
    }

pub returns : goal.returns
returns c =
    let plan = c.args.ways.now in
    let ks = c.args.chains.now.entries in
    let end : c.loop-index.index ≡ length ks = omega (arith, c.requires.laid, c.places.ensures, c.from-index.ensures, c.loop-index.auto.index, c.loop-index.auto.index-end, c.loop-index-test.false, c.len-len.ensures.len) in
    c.loop-index.invariant.entries ∙ ap (λ n. all_shifted_at plan c.args.class.now c.args.epoch (stepped c.args.step) (range_with_len (places_of plan) (n - places_of plan)) ks) end
