use Rattle.std.proofs.Common.{map}
use Rattle.td_core.proofs.NextReady.{first_at, next_place}
use Rattle.td_core.proofs.take.ready_at.Goals as goal

pub loop-passed-init : goal.loop-passed-init
loop-passed-init c = first_at c.args.table.now (map (λ w. w.0) c.args.waiting.now) c.next_ready-next.result c.requires.asked.once c.next_ready-next.ensures

pub loop-passed-preserved : goal.loop-passed-preserved
loop-passed-preserved c =
    next_place c.args.table.now (map (λ w. w.0) c.args.waiting.now) c.loop-passed._passed c.loop-passed.next c.next_ready-next-in-loop-passed.result (let none = c.is_none.ensures in let some = c.if-is_none.false in cc) c.requires.asked.once c.loop-passed.invariant
    c.next_ready-next-in-loop-passed.ensures
