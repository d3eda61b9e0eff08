use Rattle.td_theorem.proofs.Found.{keeps_first}
use Rattle.td_theorem.proofs.run.format_and_drive.Goals as goal

pub returns : goal.returns
returns g c lawful =
    let found = c.in-Ok.keeper in
    let made = c.in-Ok.ensures in
    let still = made.device.lawful.0 lawful in (
      found.device,
      made.kept lawful,
      (
        found,
        λ more unseen ended left stopped crashed. record {
          unwritten = c.lives_go_on.ensures.own found.device still;
          lawful = still;
          for_plan = made.plan;
          keeps = keeps_first found _ _ _ made.head.0 made.head.1 made.standing (made.kept lawful);
          fresh = made.fresh;
          kept = c.each_is_kept.ensures;
          obeyed = c.watches_come_and_go.ensures.driven _ _ _ _ c.in-Ok-drive.ensures.driven.driven;
          held = c.each_disk_holds.ensures (c.in-Ok-drive.ensures.lawful.0 still);
          stopped = stopped;
          crashed = crashed;
        },
      ),
    )
