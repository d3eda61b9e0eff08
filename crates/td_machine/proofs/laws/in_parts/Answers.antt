use Rattle.td_machine.proofs.ByEdge.{posts_are_by_edge, stamps_are_by_edge, batches_are_by_edge, batch_stamps_are_by_edge, stamps_of_task, outputs_at_once, asks_once}
use Rattle.td_machine.proofs.laws.in_parts.Goals as goal

pub returns-clause-posts : goal.returns-clause-posts
returns-clause-posts c = posts_are_by_edge c.laws_below.ensures

pub returns-clause-stamps : goal.returns-clause-stamps
returns-clause-stamps c = stamps_are_by_edge c.laws_below.ensures

pub returns-clause-own_stamps : goal.returns-clause-own_stamps
returns-clause-own_stamps c = stamps_of_task

pub returns-clause-outputs : goal.returns-clause-outputs
returns-clause-outputs c = outputs_at_once

pub returns-clause-asked : goal.returns-clause-asked
returns-clause-asked c = asks_once

pub returns-clause-batch : goal.returns-clause-batch
returns-clause-batch c = batches_are_by_edge c.laws_below.ensures

pub returns-clause-batch_stamps : goal.returns-clause-batch_stamps
returns-clause-batch_stamps c = batch_stamps_are_by_edge c.laws_below.ensures
