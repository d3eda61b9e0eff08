use Rattle.std.proofs.Common.{inl, subst}
use Rattle.std.proofs.lemmas.Result.{on_ok_weaker}
use Rattle.td_keeper.specs.Keeping.{Keeping}
use Rattle.td_feed.specs.Stepping.{IsInTime}
use Rattle.td_feed.proofs.Carrying.{at_ok}
use Rattle.td_feed.proofs.Stepping.{in_time_still}
use Rattle.td_feed.proofs.under_way.Feeding.cut_or_settle.Goals as goal

pub returns-then-is_cut_due-clause-in_time : goal.returns-then-is_cut_due-clause-in_time
returns-then-is_cut_due-clause-in_time g c = λ alone. on_ok_weaker c.cut.result (λ has. inl has) (c.cut.ensures.cut alone)

pub returns-else-is_cut_due-clause-steps : goal.returns-else-is_cut_due-clause-steps
returns-else-is_cut_due-clause-steps g c = c.settle.ensures.steps c.args.seen

pub returns-else-is_cut_due-clause-in_time : goal.returns-else-is_cut_due-clause-in_time
returns-else-is_cut_due-clause-in_time g c = λ alone.
    let old = g.E.Obey.keeping c.args.self.now.engine in
    let new = g.E.Obey.keeping c.settle.new.self.engine in
    let stays = c.settle.ensures.stays in
    at_ok c.settle.result (in_time_still c.args.every c.args.seen old new stays.stands stays.base.head
    (subst (λ (k : Keeping g.row.D.Denot). IsInTime c.args.every c.args.seen k) c.keeper.ensures (c.is_cut_due.ensures c.if-is_cut_due.false)))
