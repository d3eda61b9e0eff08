use Rattle.std.proofs.Common.{sym, ◌∙◌}
use Rattle.td_keeper.proofs.Submitting.{lawful_batch}
use Rattle.td_keeper.proofs.submit_all.is_accepted.Goals as goal

pub returns-clause-lawful : goal.returns-clause-lawful
returns-clause-lawful c named =
    lawful_batch c.inputs_are_accepted.ensures c.batches_are_in_order.ensures.written c.args.plan.now c.args.batch.now c.vertices-plan.ensures.lawful c.list-in_order.ensures.sorted (sym c.accepts.ensures ∙ named)
