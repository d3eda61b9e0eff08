use Rattle.std.proofs.Common.{sym, subst}
use Rattle.td_keeper.specs.Keeping.{Keeping}
use Rattle.td_theorem.specs.Life.{Obeyed}
use Rattle.td_theorem.proofs.run.recover_and_watch.Goals as goal

pub returns : goal.returns
returns g c lawful =
    let view = g.D.Disk.view in
    let answers = g.L.Law.answers in
    let still = c.in-Ok.ensures.device.lawful.0 lawful in
    let watch = c.watched-keeper.ensures.0 in
    let first = c.watches_come_and_go.ensures.driven _ _ _ _ c.in-Ok-drive.ensures.driven.driven in
    let second = c.watches_come_and_go.ensures.driven _ _ _ _ c.in-Some.ensures.driven in (
      c.in-Ok.keeper,
      λ more unseen ended left stopped crashed. record {
        unwritten = c.in-Ok.ensures.crash_safe lawful;
        lawful = still;
        for_plan = c.in-Ok.ensures.plan;
        keeps = c.in-Ok.ensures.kept lawful;
        fresh = c.in-Ok.ensures.fresh;
        kept = c.each_is_kept.ensures;
        obeyed = c.watches_come_and_go.ensures.attached watch _ _ _ _ _ _ _ first
            (subst (λ (k : Keeping g.row.D.Denot). Obeyed view answers c.args.after.items c.in-Some.others.items k c.replies_to.new.keeper) c.watched-keeper.ensures.1 second);
        held = c.each_disk_holds.ensures (c.in-Some.ensures.lawful.0 (subst (λ (k : Keeping g.row.D.Denot). (view k.device).lawful) (sym c.watched-keeper.ensures.1) (c.in-Ok-drive.ensures.lawful.0 still)));
        stopped = stopped;
        crashed = crashed;
      },
    )
