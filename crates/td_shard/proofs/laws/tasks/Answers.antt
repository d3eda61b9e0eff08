use Rattle.std.proofs.Common.{◌≡◌, ◌<◌, ◌++◌, ◌⊎◌, length, sym, ap, ◌∙◌, subst, arith, refl}
use Rattle.std.specs.List.{AllByRecursion, slice_get, remove}
use Rattle.td_stamp.specs.Bag.{bag_of}
use Rattle.td_machine.specs.State.{message_cmp}
use Rattle.td_machine.specs.Steps.{task_size}
use Rattle.td_shard.specs.Messages.{IsBeside, same_edge, task_by, left_by}
use Rattle.td_shard.proofs.Orders.{message_total, message_apart}
use Rattle.td_shard.proofs.Parted.{all_parted, found, few_taken, all-taken, full, one_longer, is-beside, not-beside}
use Rattle.td_shard.proofs.laws.tasks.Goals as goal

pub returns-clause-parted : goal.returns-clause-parted
returns-clause-parted c ms pick h =
    let at = found ms pick h in
    let others = remove ms pick in
    ap (λ o. bag_of message_cmp (task_by o others ++ left_by o others)) at.1
    ∙ all_parted message_cmp (c.bags_by_any_order.ensures message_cmp message_total message_apart) (same_edge at.0) 63 ms pick at.0 at.1

pub returns-clause-picked : goal.returns-clause-picked
returns-clause-picked c ms pick h = let at = found ms pick h in ap (λ o. slice_get (task_by o (remove ms pick)) 0) at.1 ∙ sym at.1

pub returns-clause-some : goal.returns-clause-some
returns-clause-some c ms pick h = let at = found ms pick h in subst (λ o. 0 < length (task_by o (remove ms pick))) (sym at.1) (omega arith)

pub returns-clause-few : goal.returns-clause-few
returns-clause-few c ms pick = few_taken pick ms

pub returns-clause-beside : goal.returns-clause-beside
returns-clause-beside c ms pick m at =
    subst (λ o. AllByRecursion (IsBeside m) (task_by o (remove ms pick))) (sym at)
    ((refl, refl, refl), all-taken (IsBeside m) (same_edge m) (is-beside m) 63 (remove ms pick))

pub returns-clause-full : goal.returns-clause-full
returns-clause-full c ms pick m at =
    let others = remove ms pick in
    subst (λ o. (length (task_by o others) ≡ task_size) ⊎ AllByRecursion (λ d. IsBeside m d → ⊥) (left_by o others)) (sym at)
    (one_longer (IsBeside m) 63 m _ _ (full (IsBeside m) (same_edge m) (not-beside m) 63 others))
