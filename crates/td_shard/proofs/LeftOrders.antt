-- The order of what folds left is total, and only equal ones tie.
use Rattle.std.proofs.Common.{◌≡◌, refl, ap, Some, None, ℕ}
use Rattle.std.specs.declared.cmp.Ordering.TheVariants.{Equal}
use Rattle.std.specs.Ordering.{ordering_then, nat_cmp}
use Rattle.std.specs.Option.{option_cmp}
use Rattle.std.specs.Cmp.{IsTotalOrder, then_total, on_total, nat_cmp_total}
use Rattle.std.specs.Cmp.Lexicographic.{options_total}
use Rattle.std.proofs.lemmas.Cmp.{int_cmp_total, tied_itself}
use Rattle.std.specs.FinMap.{IsAntisymmetric, nat_cmp-IsAntisymmetric, int_cmp-IsAntisymmetric}
use Rattle.td_stamp.specs.ProvedOrders.{both_tie}
use Rattle.td_stamp.specs.Orders.{state_key_cmp}
use Rattle.td_machine.specs.State.{state_cmp, left_cmp}
use Rattle.td_shard.specs.declared.versions.Version.{Version}
use Rattle.td_shard.specs.Versions.{left_of, version_cmp}

state_total : IsTotalOrder state_cmp
state_total = then_total (on_total (λ c. c.a) int_cmp_total) (on_total (λ c. c.b) int_cmp_total)

state_apart : IsAntisymmetric state_cmp
state_apart x y e = let a = both_tie _ _ e in λ i. record { a = int_cmp-IsAntisymmetric x.a y.a a.0 i; b = int_cmp-IsAntisymmetric x.b y.b a.1 i }

states_apart : IsAntisymmetric (option_cmp state_cmp)
states_apart None None e = refl
states_apart None (Some y) e = cc
states_apart (Some x) None e = cc
states_apart (Some x) (Some y) e = ap Some (state_apart x y e)

pub version_total : IsTotalOrder version_cmp
version_total = then_total (on_total (λ c. c.epoch) nat_cmp_total) (on_total (λ c. c.state) (options_total state_total))

pub version_apart : IsAntisymmetric version_cmp
version_apart x y e = let a = both_tie _ _ e in λ i. record { epoch = nat_cmp-IsAntisymmetric x.epoch y.epoch a.0 i; state = states_apart x.state y.state a.1 i }

pub left_total : IsTotalOrder left_cmp
left_total = then_total (on_total (λ c. c.epoch) nat_cmp_total) (then_total (on_total (λ c. c.vertex) nat_cmp_total) (then_total (on_total (λ c. c.key) nat_cmp_total) (on_total (λ c. c.state) (options_total state_total))))

pub left_apart : IsAntisymmetric left_cmp
left_apart x y e =
    let a = both_tie _ _ e in let b = both_tie _ _ a.1 in let c = both_tie _ _ b.1 in
    λ i. record { epoch = nat_cmp-IsAntisymmetric x.epoch y.epoch a.0 i; vertex = nat_cmp-IsAntisymmetric x.vertex y.vertex b.0 i; key = nat_cmp-IsAntisymmetric x.key y.key c.0 i; state = states_apart x.state y.state c.1 i }

-- the versions of one place stand as they were left
pub left_of-cmp : (place : ℕ × ℕ) (x y : Version) → left_cmp (left_of place x) (left_of place y) ≡ version_cmp x y
left_of-cmp place x y =
    let states = option_cmp state_cmp x.state y.state in
    λ i. ordering_then (nat_cmp x.epoch y.epoch) (ordering_then (tied_itself nat_cmp_total place.0 i) (ordering_then (tied_itself nat_cmp_total place.1 i) states))

-- what was left at two places differs
pub places_tie : (p q : ℕ × ℕ) (x y : Version) → left_cmp (left_of p x) (left_of q y) ≡ Equal → state_key_cmp p q ≡ Equal
places_tie p q x y e =
    let a = both_tie (nat_cmp x.epoch y.epoch) (ordering_then (nat_cmp p.0 q.0) (ordering_then (nat_cmp p.1 q.1) (option_cmp state_cmp x.state y.state))) e in
    let b = both_tie (nat_cmp p.0 q.0) (ordering_then (nat_cmp p.1 q.1) (option_cmp state_cmp x.state y.state)) a.1 in
    let c = both_tie (nat_cmp p.1 q.1) (option_cmp state_cmp x.state y.state) b.1 in
    λ i. ordering_then (b.0 i) (c.0 i)
