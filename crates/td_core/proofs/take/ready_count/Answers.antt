use Rattle.std.proofs.Common.{sym, subst}
use Rattle.td_core.proofs.NextReady.{IsCounted, none_counted}
use Rattle.td_core.proofs.take.ready_count.Goals as goal

pub loop-stamp-init : goal.loop-stamp-init
loop-stamp-init c =
    subst (λ ps. IsCounted c.args.table.now c.args.waiting.now ps 0) (sym c.into_iter-stamp-iterator.ensures.into_iter_gives)
    (none_counted c.args.table.now c.args.waiting.now c.counted.ensures.same c.requires.asked.once c.time_list_order.ensures.told_apart c.frontier-stamp-items.result c.frontier-stamp-items.ensures.each c.frontier-stamp-items.ensures.once)
