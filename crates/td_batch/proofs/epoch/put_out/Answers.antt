use Rattle.std.proofs.Common.{arith}
use Rattle.std.proofs.lemmas.Grind.{common_steps}
use Rattle.td_batch.proofs.epoch.put_out.Goals as goal

pub loop-rec-preserved : goal.loop-rec-preserved
loop-rec-preserved c = grind (arith, common_steps)
