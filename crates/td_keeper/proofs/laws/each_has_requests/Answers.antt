use Rattle.td_keeper.proofs.Receiving.{held_requests}
use Rattle.td_keeper.proofs.laws.each_has_requests.Goals as goal

pub returns : goal.returns
returns g c lawful image left =
    let k = c.args.keeper.now in
    held_requests k.broken g.L.Law.answers k.plan k.head k.side k.standing (g.D.Disk.view k.device).state c.told_in_parts.ensures.together c.last_request_never_falls.ensures.told (c.each_disk_holds.ensures lawful) image left
