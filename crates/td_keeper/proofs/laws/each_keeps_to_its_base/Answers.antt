use Rattle.td_keeper.proofs.Since.{all_keep_to}
use Rattle.td_keeper.proofs.laws.each_keeps_to_its_base.Goals as goal

pub returns : goal.returns
returns g c lawful =
    let k = c.args.keeper.now in
    all_keep_to k.plan c.told_in_parts.ensures.one_answer k.base k.broken g.L.Law.answers c.told_in_parts.ensures.together k.head k.side k.standing (g.D.Disk.view k.device).state (c.each_disk_holds.ensures lawful) (c.each_stops_short.ensures lawful)
    c.each_is_kept.ensures.from_checkpoint
