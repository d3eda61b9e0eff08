use Rattle.std.proofs.Common.{◌≡◌, ap, sym, ◌∙◌, subst}
use Rattle.std.specs.Ordering.{is_eq}
use Rattle.std.specs.Bool.{Decides}
use Rattle.td_stamp.specs.Time.{time_cmp}
use Rattle.td_task.proofs.SameValues.{ties_decide}
use Rattle.td_task.proofs.task.same_time.Goals as goal

pub returns : goal.returns
returns c =
    let tied : c.is_eq.result ≡ is_eq (time_cmp c.args.time.now c.args.other.now) = c.is_eq.ensures ∙ ap is_eq c.total_cmp.ensures in
    subst (λ b. Decides b (c.args.time.now ≡ c.args.other.now)) (sym tied)
    (ties_decide time_cmp c.time_list_order.ensures.total c.time_list_order.ensures.told_apart c.args.time.now c.args.other.now)
