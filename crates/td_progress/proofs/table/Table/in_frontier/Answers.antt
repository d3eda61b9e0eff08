use Rattle.std.proofs.Common.{sym, ◌∙◌, subst}
use Rattle.td_plan.specs.Faults.{IsPlan}
use Rattle.td_reach.specs.Paths.{IsOf}
use Rattle.td_reach.specs.Frontier.{Frontier}
use Rattle.td_progress.specs.Held.{all_marked}
use Rattle.td_progress.proofs.HeldCounts.{first_is_free, free_is_first}
use Rattle.td_progress.proofs.Marked.{frontier_listed, frontier_held}
use Rattle.td_progress.proofs.Times.{are_marked}
use Rattle.td_progress.proofs.table.Table.in_frontier.Goals as goal

pub is_first-requires-clause-of_plan : goal.is_first-requires-clause-of_plan
is_first-requires-clause-of_plan c = subst (λ a. IsOf a.plan c.args.stamp.now) (sym c.self.view_is) c.requires

pub returns : goal.returns
returns c =
    let p = c.args.stamp.now in
    let plan = c.self.inside.ways in
    let ks = c.self.inside.held in
    let kept = c.self.invariant in
    let marks = are_marked plan ks kept c.is_first.ensures.timed in
    let tested = c.could_tested.ensures.could plan (subst IsPlan (c.plan.ensures ∙ c.reach.ensures) c.vertices-plan.ensures.lawful) in
    let of_plan = subst (λ a. IsOf a.plan p) (sym c.self.view_is) c.requires in (
      λ t. subst (λ a. Frontier a.plan a.stamps p) c.self.view_is
          (frontier_listed plan ks (all_marked ks) marks p (first_is_free plan tested (c.could_order.ensures.reflexive plan) ks kept p of_plan (c.is_first.ensures.is.0 t))),
      λ f. c.is_first.ensures.is.1 (free_is_first plan tested (c.could_order.ensures.reflexive plan) ks kept p of_plan
          (frontier_held plan ks (all_marked ks) marks p (subst (λ a. Frontier a.plan a.stamps p) (sym c.self.view_is) f))),
    )
