-- Proofs: the orders of asked notifications and of places are total. They stand here and not in proofs/ since the impls of traits take from specs/ alone.
use Rattle.std.specs.Prelude.{reverse}
use Rattle.std.specs.Ordering.{eq_by_cmp}
use Rattle.std.specs.Cmp.{IsTotalOrder, IsEquivalence, then_total, on_total, nat_cmp_total, eq_by_cmp_equiv}
use Rattle.std.specs.Cmp.Lexicographic.{lists_total}
use Rattle.td_stamp.specs.Time.{time_cmp}
use Rattle.td_shard.specs.Asked.{noted_cmp}
use Rattle.td_shard.specs.Seen.{place_cmp}

pub time_total : IsTotalOrder time_cmp
time_total = then_total (on_total (λ t. t.epoch) nat_cmp_total) (on_total (λ t. reverse t.turns) (lists_total nat_cmp_total))

pub noted_total : IsTotalOrder noted_cmp
noted_total = then_total (on_total (λ n. n.time) time_total) (on_total (λ n. n.vertex) nat_cmp_total)

pub noted_equiv : IsEquivalence (eq_by_cmp noted_cmp)
noted_equiv = eq_by_cmp_equiv noted_total

pub place_total : IsTotalOrder place_cmp
place_total = then_total (on_total (λ p. p.vertex) nat_cmp_total) (on_total (λ p. p.time) time_total)

pub place_equiv : IsEquivalence (eq_by_cmp place_cmp)
place_equiv = eq_by_cmp_equiv place_total
