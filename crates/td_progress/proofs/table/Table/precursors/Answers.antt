use Rattle.std.proofs.Common.{sym, ap, ◌∙◌, subst}
use Rattle.std.specs.Option.{IfSome}
use Rattle.td_plan.specs.Faults.{IsPlan}
use Rattle.td_reach.specs.Paths.{IsOf}
use Rattle.td_reach.specs.Frontier.{Precursors}
use Rattle.td_progress.specs.Bag.{occurrences}
use Rattle.td_progress.specs.Held.{all_marked}
use Rattle.td_progress.proofs.HeldCounts.{sum_bounds, none_if_gone, gone_if_none, if_counted}
use Rattle.td_progress.proofs.Times.{are_marked}
use Rattle.td_progress.proofs.Marked.{not_held, not_listed, listed}
use Rattle.td_progress.proofs.table.Table.precursors.Goals as goal

pub count-requires-clause-of_plan : goal.count-requires-clause-of_plan
count-requires-clause-of_plan c = subst (λ a. IsOf a.plan c.args.stamp.now) (sym c.self.view_is) c.requires

pub count-requires-clause-fits : goal.count-requires-clause-fits
count-requires-clause-fits c =
    let p = c.args.stamp.now in
    let plan = c.self.inside.ways in
    let tested = c.could_tested.ensures.could plan (subst IsPlan (c.plan.ensures ∙ c.reach.ensures) c.vertices-plan.ensures.lawful) in
    let of_plan = subst (λ a. IsOf a.plan p) (sym c.self.view_is) c.requires in
    sum_bounds plan tested (c.could_order.ensures.reflexive plan) c.self.inside.held c.self.invariant p of_plan

pub returns-clause-none : goal.returns-clause-none
returns-clause-none c =
    let p = c.args.stamp.now in
    let plan = c.self.inside.ways in
    let stamps = all_marked c.self.inside.held in
    let ks = c.self.inside.held in
    let tested = c.could_tested.ensures.could plan (subst IsPlan (c.plan.ensures ∙ c.reach.ensures) c.vertices-plan.ensures.lawful) in
    let of_plan = subst (λ a. IsOf a.plan p) (sym c.self.view_is) c.requires in
    let whole = ap (λ a. occurrences p a.stamps) c.self.view_is in (
      λ none. sym whole ∙ not_listed plan ks stamps (are_marked plan ks c.self.invariant c.count.ensures.timed) p (gone_if_none plan tested (c.could_order.ensures.reflexive plan) ks c.self.invariant p of_plan (sym c.count.ensures.is ∙ none)),
      λ gone. c.count.ensures.is ∙ none_if_gone plan tested (c.could_order.ensures.reflexive plan) ks c.self.invariant p of_plan (not_held plan ks stamps (are_marked plan ks c.self.invariant c.count.ensures.timed) p (whole ∙ gone)),
    )

pub returns-clause-some : goal.returns-clause-some
returns-clause-some c =
    let p = c.args.stamp.now in
    let plan = c.self.inside.ways in
    let stamps = all_marked c.self.inside.held in
    let ks = c.self.inside.held in
    let tested = c.could_tested.ensures.could plan (subst IsPlan (c.plan.ensures ∙ c.reach.ensures) c.vertices-plan.ensures.lawful) in
    let of_plan = subst (λ a. IsOf a.plan p) (sym c.self.view_is) c.requires in
    subst (λ a. IfSome c.count.result (Precursors a.plan a.stamps p)) c.self.view_is
    (subst (λ o. IfSome o (Precursors plan stamps p)) (sym c.count.ensures.is)
    (listed plan ks stamps (are_marked plan ks c.self.invariant c.count.ensures.timed) p (if_counted plan tested (c.could_order.ensures.reflexive plan) ks c.self.invariant p of_plan)))
