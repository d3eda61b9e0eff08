-- In the orders of times and messages only equal ones tie.
use Rattle.std.proofs.Common.{ap, sym, ◌∙◌, reverse}
use Rattle.std.specs.Cmp.{IsTotalOrder, then_total, on_total, nat_cmp_total}
use Rattle.std.specs.Ordering.{nat_cmp}
use Rattle.std.specs.FinMap.{IsAntisymmetric, nat_cmp-IsAntisymmetric, slice_cmp-IsAntisymmetric}
use Rattle.std.proofs.lemmas.List.{reverse-reverse}
use Rattle.td_stamp.specs.ProvedOrders.{both_tie, rec_total, rec_apart}
use Rattle.td_stamp.specs.Time.{counters_cmp, time_cmp}
use Rattle.td_machine.specs.State.{message_cmp}
use Rattle.td_shard.specs.ProvedOrders.{time_total}

pub time_apart : IsAntisymmetric time_cmp
time_apart t u e =
    let tied = both_tie (nat_cmp t.epoch u.epoch) (counters_cmp t.turns u.turns) e in
    let backwards = slice_cmp-IsAntisymmetric nat_cmp-IsAntisymmetric (reverse t.turns) (reverse u.turns) tied.1 in
    let turns = sym (reverse-reverse t.turns) ∙ ap reverse backwards ∙ reverse-reverse u.turns in
    λ i. record { epoch = nat_cmp-IsAntisymmetric t.epoch u.epoch tied.0 i; turns = turns i }

pub message_total : IsTotalOrder message_cmp
message_total = then_total (on_total (λ c. c.vertex) nat_cmp_total) (then_total (on_total (λ c. c.port) nat_cmp_total) (then_total (on_total (λ c. c.time) time_total) (on_total (λ c. c.rec) rec_total)))

pub message_apart : IsAntisymmetric message_cmp
message_apart x y e =
    let a = both_tie _ _ e in let b = both_tie _ _ a.1 in let c = both_tie _ _ b.1 in
    λ i. record { vertex = nat_cmp-IsAntisymmetric x.vertex y.vertex a.0 i; port = nat_cmp-IsAntisymmetric x.port y.port b.0 i; time = time_apart x.time y.time c.0 i; rec = rec_apart x.rec y.rec c.1 i }
