use Rattle.std.proofs.Common.{◌≡◌, ◌<◌, ◌≤◌, ◌+◌, ltb, length, get_or, arith, rules, sym, ap, subst}
use Rattle.std.proofs.lemmas.Bool.{ltb-true, ltb-false}
use Rattle.std.proofs.lemmas.List.Sorted.{IsPartitionPoint-from_clause, IsPartitionedBy-ltb}
use Rattle.td_stamp.specs.declared.values.Entry.{Entry}
use Rattle.td_stamp.proofs.batch.split_at_input.Goals as goal

pub returns-clause-before : goal.returns-clause-before
returns-clause-before c =
    let parted = IsPartitionedBy-ltb (λ (e : Entry). e.input) _ c.args.input c.requires in
    let point = IsPartitionPoint-from_clause (λ (e : Entry). ltb e.input c.args.input) _ _ c.partition_point-start.ensures.partitioned parted (λ a r q k. search rules) in
    λ k d h.
    let below : k < c.partition_point-start.result = omega (arith, h, c.split_at.ensures.front_len) in
    let same : get_or c.split_at.result.0.now k d ≡ get_or c.args.in_order.now k d = c.split_at.ensures.by_index.1 k d below in
    subst (λ (e : Entry). e.input < c.args.input) (sym same) (ltb-true _ _ (point.0 k d (omega arith) below))

pub returns-clause-others : goal.returns-clause-others
returns-clause-others c =
    let parted = IsPartitionedBy-ltb (λ (e : Entry). e.input) _ c.args.input c.requires in
    let point = IsPartitionPoint-from_clause (λ (e : Entry). ltb e.input c.args.input) _ _ c.partition_point-start.ensures.partitioned parted (λ a r q k. search rules) in
    let start = c.partition_point-start.result in
    λ k d h.
    let within : start + k < length c.args.in_order.now = omega (arith, h, c.split_at.ensures.back_len) in
    let same : get_or c.split_at.result.1.now k d ≡ get_or c.args.in_order.now (start + k) d = c.split_at.ensures.by_index.2 k d in
    subst (λ (e : Entry). c.args.input ≤ e.input) (sym same) (ltb-false _ _ (point.1 (start + k) d (omega arith) within))

pub returns-clause-in_order : goal.returns-clause-in_order
returns-clause-in_order c = λ i j d le h.
    let start = c.partition_point-start.result in
    let within : start + j < length c.args.in_order.now = omega (arith, h, c.split_at.ensures.back_len) in
    let mine = ap (λ (e : Entry). e.input) (c.split_at.ensures.by_index.2 i d) in
    let others = ap (λ (e : Entry). e.input) (c.split_at.ensures.by_index.2 j d) in
    omega (arith, mine, others, c.requires (start + i) (start + j) d (omega arith) within)
