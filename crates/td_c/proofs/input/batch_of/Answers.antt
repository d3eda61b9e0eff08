use Rattle.std.proofs.Common.{take, ap, ◌∙◌}
use Rattle.std.specs.List.{list_all}
use Rattle.td_stamp.specs.declared.values.Entry.{Entry}
use Rattle.td_stamp.specs.Bag.{bag_of}
use Rattle.td_stamp.specs.Orders.{entry_cmp}
use Rattle.td_plan.specs.Inputs.{is_input_of}
use Rattle.td_c.proofs.Accepted.{accepted}
use Rattle.td_c.proofs.input.batch_of.Goals as goal

pub returns-clause-accepted : goal.returns-clause-accepted
returns-clause-accepted c =
    let plan = c.args.plan.now in
    let inv = c.loop-index.invariant in
    ap (list_all (λ (e : Entry). is_input_of plan e.input)) (c.from_vec.ensures ∙ ap (bag_of entry_cmp) inv.entries)
    ∙ (accepted plan (take c.loop-index.index c.args.records.now) ∙ inv.inputs)
