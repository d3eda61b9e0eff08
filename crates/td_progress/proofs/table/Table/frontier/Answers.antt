use Rattle.std.proofs.Common.{sym, ◌∙◌, subst, Contains}
use Rattle.std.specs.List.{IsDistinct}
use Rattle.td_plan.specs.Faults.{IsPlan}
use Rattle.td_reach.specs.Paths.{IsOf}
use Rattle.td_reach.specs.Frontier.{Frontier}
use Rattle.td_progress.specs.Bag.{is_stamp}
use Rattle.td_progress.specs.Held.{all_marked, between, held}
use Rattle.td_progress.proofs.Free.{all-has}
use Rattle.td_progress.proofs.HeldCounts.{first_is_free, free_is_first, all_of_plan}
use Rattle.td_progress.proofs.Times.{are_marked}
use Rattle.td_progress.proofs.Marked.{frontier_listed, frontier_held, to_held}
use Rattle.td_progress.proofs.Firsts.{is_a_first, is_among, first_of_plan, firsts_once}
use Rattle.td_progress.proofs.table.Table.frontier.Goals as goal

pub returns-clause-each : goal.returns-clause-each
returns-clause-each c p =
    let plan = c.self.inside.ways in
    let stamps = all_marked c.self.inside.held in
    let ks = c.self.inside.held in
    let kept = c.self.invariant in
    let count = between plan ks in
    let tested = c.could_tested.ensures.could plan (subst IsPlan (c.plan.ensures ∙ c.reach.ensures) c.vertices-plan.ensures.lawful) in (
      λ at.
          let there = subst (λ fs. Contains fs p) c.firsts.ensures.is at in
          let of_plan = first_of_plan plan count p ks kept.each there in
          subst (λ a. Frontier a.plan a.stamps p) c.self.view_is
          (frontier_listed plan ks stamps (are_marked plan ks c.self.invariant c.firsts.ensures.timed) p (first_is_free plan tested (c.could_order.ensures.reflexive plan) ks kept p of_plan (is_a_first plan count p ks kept.once kept.each there))),
      λ f.
          let own = subst (λ a. Frontier a.plan a.stamps p) (sym c.self.view_is) f in
          let of_plan = all-has (IsOf plan) (held ks) p (all_of_plan plan count ks kept.each) (to_held plan ks stamps (are_marked plan ks c.self.invariant c.firsts.ensures.timed) p own.is_active) in
          subst (λ fs. Contains fs p) (sym c.firsts.ensures.is)
          (is_among plan count p ks kept.each (free_is_first plan tested (c.could_order.ensures.reflexive plan) ks kept p of_plan (frontier_held plan ks stamps (are_marked plan ks c.self.invariant c.firsts.ensures.timed) p own))),
    )

pub returns-clause-once : goal.returns-clause-once
returns-clause-once c =
    let kept = c.self.invariant in
    subst (IsDistinct is_stamp) (sym c.firsts.ensures.is) (firsts_once c.self.inside.ways (between c.self.inside.ways c.self.inside.held) c.self.inside.held kept.once kept.each)
