use Rattle.std.proofs.Common.{◌∙◌, ◌==◌, not, filter, sym, ap}
use Rattle.td_stamp.specs.Orders.{output_cmp}
use Rattle.td_stamp.specs.Bag.{bag_of}
use Rattle.td_core.specs.Came.{came, came_at}
use Rattle.td_core.proofs.CameLists.{taken, none_taken, removed, found, found_at, those}
use Rattle.td_core.proofs.collect.Outputs.take.Goals as goal
use Rattle.td_core.proofs.collect.Outputs.take.Goals.{in-Some, in-None}

pub returns-clause-recs : goal.returns-clause-recs
returns-clause-recs c =
    let es = c.self.inside.epochs.entries in
    let k = c.args.epoch in
    let there = found k es c.self.invariant in
    c.from_vec.ensures ∙ elim c.match-remove.branch [
      | in-Some w ↦ ap (λ v. bag_of output_cmp v.items) w.outputs-is ∙ (sym (taken c.bags_of_states.ensures.outputs (λ v. v.items) k es _ (there ∙ ap (found_at k) (sym c.remove.ensures.value ∙ w.in-Some.is))) ∙ ap (came_at k) c.self.view_is)
      | in-None w ↦ ap (λ v. bag_of output_cmp v.items) w.outputs-is ∙ (ap (bag_of output_cmp) w.new-outputs.ensures.items ∙ (sym (none_taken c.bags_of_states.ensures.outputs (λ v. v.items) k es (there ∙ ap (found_at k) (sym c.remove.ensures.value ∙ w.in-None.is))) ∙ ap (came_at k) c.self.view_is))
    ]

pub returns-clause-left : goal.returns-clause-left
returns-clause-left c =
    let es = c.self.inside.epochs.entries in
    let k = c.args.epoch in
    ap (came (λ v. v.items)) (c.remove.ensures.entries ∙ removed k es c.self.invariant)
    ∙ (sym (those c.bags_of_states.ensures.outputs (λ v. v.items) (λ n. not (n == k)) es) ∙ ap (filter (λ o. not (o.epoch == k))) c.self.view_is)
