use Rattle.std.proofs.Common.{◌∙◌}
use Rattle.td_feed.proofs.Acknowledged.{told_of}
use Rattle.td_feed.proofs.laws.acknowledged_is_told.Goals as goal

pub returns : goal.returns
returns g c marks result plan alone disk left before after wanted from lawful commands replies driven image is =
    let ended = from.ended in
    let counted = c.acknowledged_is_counted.ensures commands replies (record from.keeper { watch = from.watch }) ended from.kept (from.lawful lawful) driven in
    told_of ended.broken g.L.Law.answers plan ended.plan ended.head ended.side ended.standing (g.D.Disk.view left).state replies c.told_in_parts.ensures.together (counted.0 ∙ from.plan_is)
    (from.holds (from.lawful_left lawful)) counted.1 image is
