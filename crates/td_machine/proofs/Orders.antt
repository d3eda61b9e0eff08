-- The orders of a state's lists are total, and only equal elements tie.
use Rattle.std.specs.Prelude.{◌≡◌, ◌==◌, ◌&&◌, Bool, true, false, Some, None, ℕ, reverse}
use Rattle.std.proofs.Common.{refl, ap, sym, ◌∙◌, rules, inr, arith}
use Rattle.std.specs.declared.cmp.Ordering.{Ordering}
use Rattle.std.specs.declared.cmp.Ordering.TheVariants.{Less, Equal, Greater}
use Rattle.std.specs.Ordering.{is_eq, nat_cmp}
use Rattle.std.specs.Option.{option_cmp}
use Rattle.std.specs.Cmp.{IsTotalOrder, then_total, on_total, nat_cmp_total}
use Rattle.std.specs.Cmp.Lexicographic.{options_total, lists_total}
use Rattle.std.proofs.lemmas.Cmp.{int_cmp_total, tied_itself}
use Rattle.std.proofs.lemmas.Bool.{eqb-true}
use Rattle.std.specs.FinMap.{IsAntisymmetric, nat_cmp-IsAntisymmetric, int_cmp-IsAntisymmetric, slice_cmp-IsAntisymmetric}
use Rattle.std.proofs.lemmas.List.{reverse-reverse}
use Rattle.td_stamp.specs.ProvedOrders.{both_tie, rec_total, rec_apart, output_total, output_apart}
use Rattle.td_stamp.specs.Time.{Timestamp, IsAtMost, counters_cmp, time_cmp}
use Rattle.td_machine.specs.State.{message_cmp, stamped_cmp, notification_cmp, output_at_cmp, state_cmp, left_cmp, same_time, is_there}

pub time_total : IsTotalOrder time_cmp
time_total = then_total (on_total (λ t. t.epoch) nat_cmp_total) (on_total (λ t. reverse t.turns) (lists_total nat_cmp_total))

pub time_apart : IsAntisymmetric time_cmp
time_apart t u e =
    let tied = both_tie (nat_cmp t.epoch u.epoch) (counters_cmp t.turns u.turns) e in
    let backwards = slice_cmp-IsAntisymmetric nat_cmp-IsAntisymmetric (reverse t.turns) (reverse u.turns) tied.1 in
    let turns = sym (reverse-reverse t.turns) ∙ ap reverse backwards ∙ reverse-reverse u.turns in
    λ i. record { epoch = nat_cmp-IsAntisymmetric t.epoch u.epoch tied.0 i; turns = turns i }

-- a time is at most itself
pub IsAtMost-refl : (t : Timestamp) → IsAtMost t t
IsAtMost-refl t = record { epoch = omega arith; turns = inr refl }

pub message_total : IsTotalOrder message_cmp
message_total = then_total (on_total (λ c. c.vertex) nat_cmp_total) (then_total (on_total (λ c. c.port) nat_cmp_total) (then_total (on_total (λ c. c.time) time_total) (on_total (λ c. c.rec) rec_total)))

pub message_apart : IsAntisymmetric message_cmp
message_apart x y e =
    let a = both_tie _ _ e in let b = both_tie _ _ a.1 in let c = both_tie _ _ b.1 in
    λ i. record { vertex = nat_cmp-IsAntisymmetric x.vertex y.vertex a.0 i; port = nat_cmp-IsAntisymmetric x.port y.port b.0 i; time = time_apart x.time y.time c.0 i; rec = rec_apart x.rec y.rec c.1 i }

pub stamped_total : IsTotalOrder stamped_cmp
stamped_total = then_total (on_total (λ c. c.vertex) nat_cmp_total) (then_total (on_total (λ c. c.time) time_total) (on_total (λ c. c.rec) rec_total))

pub stamped_apart : IsAntisymmetric stamped_cmp
stamped_apart x y e =
    let a = both_tie _ _ e in let c = both_tie _ _ a.1 in
    λ i. record { vertex = nat_cmp-IsAntisymmetric x.vertex y.vertex a.0 i; time = time_apart x.time y.time c.0 i; rec = rec_apart x.rec y.rec c.1 i }

pub notification_total : IsTotalOrder notification_cmp
notification_total = then_total (on_total (λ c. c.vertex) nat_cmp_total) (then_total (on_total (λ c. c.time) time_total) (on_total (λ c. c.shard) nat_cmp_total))

pub notification_apart : IsAntisymmetric notification_cmp
notification_apart x y e =
    let a = both_tie _ _ e in let c = both_tie _ _ a.1 in
    λ i. record { vertex = nat_cmp-IsAntisymmetric x.vertex y.vertex a.0 i; time = time_apart x.time y.time c.0 i; shard = nat_cmp-IsAntisymmetric x.shard y.shard c.1 i }

pub output_at_total : IsTotalOrder output_at_cmp
output_at_total = then_total (on_total (λ c. c.epoch) nat_cmp_total) (on_total (λ c. c.output) output_total)

pub output_at_apart : IsAntisymmetric output_at_cmp
output_at_apart x y e = let a = both_tie _ _ e in λ i. record { epoch = nat_cmp-IsAntisymmetric x.epoch y.epoch a.0 i; output = output_apart x.output y.output a.1 i }

state_total : IsTotalOrder state_cmp
state_total = then_total (on_total (λ c. c.a) int_cmp_total) (on_total (λ c. c.b) int_cmp_total)

state_apart : IsAntisymmetric state_cmp
state_apart x y e = let a = both_tie _ _ e in λ i. record { a = int_cmp-IsAntisymmetric x.a y.a a.0 i; b = int_cmp-IsAntisymmetric x.b y.b a.1 i }

states_apart : IsAntisymmetric (option_cmp state_cmp)
states_apart None None e = refl
states_apart None (Some y) e = cc
states_apart (Some x) None e = cc
states_apart (Some x) (Some y) e = ap Some (state_apart x y e)

pub left_total : IsTotalOrder left_cmp
left_total = then_total (on_total (λ c. c.epoch) nat_cmp_total) (then_total (on_total (λ c. c.vertex) nat_cmp_total) (then_total (on_total (λ c. c.key) nat_cmp_total) (on_total (λ c. c.state) (options_total state_total))))

pub left_apart : IsAntisymmetric left_cmp
left_apart x y e =
    let a = both_tie _ _ e in let b = both_tie _ _ a.1 in let c = both_tie _ _ b.1 in
    λ i. record { epoch = nat_cmp-IsAntisymmetric x.epoch y.epoch a.0 i; vertex = nat_cmp-IsAntisymmetric x.vertex y.vertex b.0 i; key = nat_cmp-IsAntisymmetric x.key y.key c.0 i; state = states_apart x.state y.state c.1 i }

-- the test of a vertex and a time
pub tied : (o : Ordering) → is_eq o ≡ true → o ≡ Equal
tied Less e = cc
tied Equal e = refl
tied Greater e = cc

pub and_true : (a b : Bool) → (a && b) ≡ true → (a ≡ true) × (b ≡ true)
and_true true b e = (refl, e)
and_true false b e = cc

pub there_is : (v w : ℕ) (t u : Timestamp) → is_there v t w u ≡ true → (w ≡ v) × (u ≡ t)
there_is v w t u e = let a = and_true (w == v) (same_time u t) e in (eqb-true w v a.0, time_apart u t (tied (time_cmp u t) a.1))

eqb-refl : (n : ℕ) → (n == n) ≡ true
eqb-refl n = search rules

pub there_itself : (v : ℕ) (t : Timestamp) → is_there v t v t ≡ true
there_itself v t = rw (eqb-refl v, tied_itself time_total t) refl
