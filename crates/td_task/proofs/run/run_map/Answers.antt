use Rattle.std.proofs.Common.{arith}
use Rattle.std.proofs.lemmas.Grind.{common_steps}
use Rattle.td_task.proofs.run.run_map.Goals as goal

pub loop-rec-preserved : goal.loop-rec-preserved
loop-rec-preserved g c = record {
  sent = grind (arith, common_steps);
  lists = omega (arith, c.loop-rec.invariant.lists, c.put.ensures.more_lists);
  records = omega (arith, c.loop-rec.invariant.records, c.put.ensures.more_members, c.as_slice.ensures.fits);
}
