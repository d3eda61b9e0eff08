-- Proofs: the orders of the plain values are total and tell different values apart, and equality of entries is an
-- equivalence. They stand here and not in proofs/ since the impls of traits take from specs/ alone.
use Rattle.std.specs.Prelude.{◌≡◌}
use Rattle.std.proofs.Common.{ℕ, ◌==◌, ◌&&◌, refl, ap, ◌∙◌}
use Rattle.std.specs.declared.cmp.Ordering.{Ordering}
use Rattle.std.specs.declared.cmp.Ordering.TheVariants.{Less, Equal, Greater}
use Rattle.std.specs.Ordering.{ordering_then, nat_cmp, int_cmp, is_eq, eq_by_cmp}
use Rattle.std.specs.Cmp.{IsTotalOrder, IsEquivalence, then_total, on_total, on_equiv, and_equiv, nat_cmp_total, nat_eq_equiv, unsigned_tied}
use Rattle.std.proofs.lemmas.Cmp.{int_cmp_total, int_eq_equiv}
use Rattle.std.specs.FinMap.{IsAntisymmetric, nat_cmp-IsAntisymmetric, int_cmp-IsAntisymmetric}
use Rattle.td_stamp.specs.Orders.{rec_cmp, item_cmp, arrival_cmp, entry_cmp, output_cmp, state_key_cmp}
use Rattle.td_stamp.specs.States.{same_entry, same_place}

-- where two orders in turn tie, each does
pub both_tie : (r s : Ordering) → ordering_then r s ≡ Equal → (r ≡ Equal) × (s ≡ Equal)
both_tie Less s e = cc
both_tie Equal s e = (refl, e)
both_tie Greater s e = cc

pub rec_total : IsTotalOrder rec_cmp
rec_total = then_total (on_total (λ r. r.key) nat_cmp_total) (on_total (λ r. r.val) int_cmp_total)

pub item_total : IsTotalOrder item_cmp
item_total = then_total (on_total (λ i. i.port) nat_cmp_total) (on_total (λ i. i.val) int_cmp_total)

pub arrival_total : IsTotalOrder arrival_cmp
arrival_total = then_total (on_total (λ a. a.key) nat_cmp_total) (on_total (λ a. a.item) item_total)

pub entry_total : IsTotalOrder entry_cmp
entry_total = then_total (on_total (λ e. e.input) nat_cmp_total) (on_total (λ e. e.rec) rec_total)

pub output_total : IsTotalOrder output_cmp
output_total = then_total (on_total (λ o. o.vertex) nat_cmp_total) (on_total (λ o. o.rec) rec_total)

pub state_key_total : IsTotalOrder state_key_cmp
state_key_total = then_total (on_total (λ p. p.0) nat_cmp_total) (on_total (λ p. p.1) nat_cmp_total)

pub rec_apart : IsAntisymmetric rec_cmp
rec_apart x y e =
    let tied = both_tie (nat_cmp x.key y.key) (int_cmp x.val y.val) e in
    λ i. record { key = nat_cmp-IsAntisymmetric x.key y.key tied.0 i; val = int_cmp-IsAntisymmetric x.val y.val tied.1 i }

pub state_key_apart : IsAntisymmetric state_key_cmp
state_key_apart x y e =
    let tied = both_tie (nat_cmp x.0 y.0) (nat_cmp x.1 y.1) e in
    λ i. (nat_cmp-IsAntisymmetric x.0 y.0 tied.0 i, nat_cmp-IsAntisymmetric x.1 y.1 tied.1 i)

-- a place is tied with itself alone
then_tied : (r s : Ordering) → is_eq (ordering_then r s) ≡ (is_eq r && is_eq s)
then_tied Less s = refl
then_tied Equal s = refl
then_tied Greater s = refl

pub places_tied : (p q : ℕ × ℕ) → eq_by_cmp state_key_cmp p q ≡ same_place p q
places_tied p q =
    then_tied (nat_cmp p.0 q.0) (nat_cmp p.1 q.1) ∙ ap (λ b. b && is_eq (nat_cmp p.1 q.1)) (unsigned_tied p.0 q.0) ∙ ap (λ b. p.0 == q.0 && b) (unsigned_tied p.1 q.1)

pub item_apart : IsAntisymmetric item_cmp
item_apart x y e =
    let tied = both_tie (nat_cmp x.port y.port) (int_cmp x.val y.val) e in
    λ i. record { port = nat_cmp-IsAntisymmetric x.port y.port tied.0 i; val = int_cmp-IsAntisymmetric x.val y.val tied.1 i }

pub arrival_apart : IsAntisymmetric arrival_cmp
arrival_apart x y e =
    let tied = both_tie (nat_cmp x.key y.key) (item_cmp x.item y.item) e in
    λ i. record { key = nat_cmp-IsAntisymmetric x.key y.key tied.0 i; item = item_apart x.item y.item tied.1 i }

pub entry_apart : IsAntisymmetric entry_cmp
entry_apart x y e =
    let tied = both_tie (nat_cmp x.input y.input) (rec_cmp x.rec y.rec) e in
    λ i. record { input = nat_cmp-IsAntisymmetric x.input y.input tied.0 i; rec = rec_apart x.rec y.rec tied.1 i }

pub output_apart : IsAntisymmetric output_cmp
output_apart x y e =
    let tied = both_tie (nat_cmp x.vertex y.vertex) (rec_cmp x.rec y.rec) e in
    λ i. record { vertex = nat_cmp-IsAntisymmetric x.vertex y.vertex tied.0 i; rec = rec_apart x.rec y.rec tied.1 i }

pub same_entry_equiv : IsEquivalence same_entry
same_entry_equiv =
    and_equiv (on_equiv (λ e. e.0) (and_equiv (on_equiv (λ k. k.0) nat_eq_equiv) (on_equiv (λ k. k.1) nat_eq_equiv)))
    (on_equiv (λ e. e.1) (and_equiv (on_equiv (λ s. s.a) int_eq_equiv) (on_equiv (λ s. s.b) int_eq_equiv)))
