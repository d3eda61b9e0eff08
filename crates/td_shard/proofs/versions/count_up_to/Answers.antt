use Rattle.std.proofs.Common.{nat_le, length, sym, ◌∙◌, arith, rules}
use Rattle.std.proofs.lemmas.List.{take_all, drop_all}
use Rattle.std.proofs.lemmas.List.Sorted.{IsPartitionPoint-from_clause}
use Rattle.td_shard.specs.declared.versions.Version.{Version}
use Rattle.td_shard.proofs.Rising.{first-pass}
use Rattle.td_shard.proofs.VersionOrder.{epochs-parted, others-after, up_to-all, after-none}
use Rattle.td_shard.proofs.versions.count_up_to.Goals as goal

pub returns-then-are_up_to-clause-before : goal.returns-then-are_up_to-clause-before
returns-then-are_up_to-clause-before c =
    let vs = c.args.versions.now in
    take_all (length vs) vs (omega arith) ∙ sym (up_to-all vs c.args.epoch (c.are_up_to.ensures.0 c.if-are_up_to.true))

pub returns-then-are_up_to-clause-behind : goal.returns-then-are_up_to-clause-behind
returns-then-are_up_to-clause-behind c =
    let vs = c.args.versions.now in
    drop_all (length vs) vs (omega arith) ∙ sym (after-none vs c.args.epoch (c.are_up_to.ensures.0 c.if-are_up_to.true))

pub returns-clause-before : goal.returns-clause-before
returns-clause-before c =
    let vs = c.args.versions.now in
    let point = IsPartitionPoint-from_clause (λ (v : Version). nat_le v.epoch c.args.epoch) vs _ c.partition_point.ensures.partitioned (epochs-parted vs c.args.epoch c.requires) (λ a r q k. search rules) in
    first-pass (λ (v : Version). nat_le v.epoch c.args.epoch) vs c.partition_point.result c.partition_point.ensures.bound point

pub returns-clause-behind : goal.returns-clause-behind
returns-clause-behind c =
    let vs = c.args.versions.now in
    let point = IsPartitionPoint-from_clause (λ (v : Version). nat_le v.epoch c.args.epoch) vs _ c.partition_point.ensures.partitioned (epochs-parted vs c.args.epoch c.requires) (λ a r q k. search rules) in
    others-after vs c.args.epoch c.partition_point.result c.partition_point.ensures.bound point
