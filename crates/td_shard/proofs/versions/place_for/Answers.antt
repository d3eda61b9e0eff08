use Rattle.std.proofs.Common.{rules}
use Rattle.std.specs.Ordering.{is_gt}
use Rattle.std.proofs.lemmas.List.Sorted.{IsPartitionPoint-from_clause}
use Rattle.td_shard.specs.declared.versions.Version.{Version}
use Rattle.td_shard.specs.Versions.{version_cmp}
use Rattle.td_shard.proofs.LeftOrders.{version_total}
use Rattle.td_shard.proofs.Rising.{parted, is-place}
use Rattle.td_shard.proofs.versions.place_for.Goals as goal

pub returns-clause-place : goal.returns-clause-place
returns-clause-place c =
    let v = c.args.version in
    let vs = c.args.versions.now in
    is-place version_cmp version_total v vs c.partition_point.result
    (IsPartitionPoint-from_clause (λ (w : Version). is_gt (version_cmp v w)) vs _ c.partition_point.ensures.partitioned (parted version_cmp version_total v vs c.requires) (λ a r q k. search rules))
