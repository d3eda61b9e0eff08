use Rattle.std.proofs.Common.{refl}
use Rattle.td_theorem.proofs.run.recover_and_drive.Goals as goal

pub returns : goal.returns
returns g c lawful =
    let still = c.in-Ok.ensures.device.lawful.0 lawful in (
      c.in-Ok.keeper,
      λ more unseen ended left stopped crashed. record {
        unwritten = c.in-Ok.ensures.crash_safe lawful;
        lawful = still;
        for_plan = c.in-Ok.ensures.plan;
        keeps = c.in-Ok.ensures.kept lawful;
        fresh = c.in-Ok.ensures.fresh;
        kept = c.each_is_kept.ensures;
        obeyed = c.watches_come_and_go.ensures.driven _ _ _ _ c.in-Ok-drive.ensures.driven.driven;
        held = c.each_disk_holds.ensures (c.in-Ok-drive.ensures.lawful.0 still);
        stopped = stopped;
        crashed = crashed;
      },
    )
