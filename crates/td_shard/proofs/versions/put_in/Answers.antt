use Rattle.std.proofs.Common.{◌∙◌, ap, sym}
use Rattle.std.specs.List.{insert}
use Rattle.td_stamp.specs.Bag.{bag_insert}
use Rattle.td_shard.specs.Versions.{version_cmp}
use Rattle.td_shard.proofs.LeftOrders.{version_total}
use Rattle.td_shard.proofs.Rising.{put-at}
use Rattle.td_shard.proofs.versions.put_in.Goals as goal

pub returns-clause-ok : goal.returns-clause-ok
returns-clause-ok c =
    let v = c.args.version in
    let place = c.place_for-place.result in
    let same = c.as_slice.ensures.value in
    c.in_ok-insert.ensures.items
    ∙ (ap (λ l. insert l place v) (sym same)
    ∙ (put-at version_cmp version_total v c.as_slice.result.now place c.place_for-place.ensures.within c.place_for-place.ensures.place ∙ ap (bag_insert version_cmp v) same))
