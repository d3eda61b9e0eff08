-- Lanes, and messages of one edge and time, are compared as they should be.
use Rattle.std.proofs.Common.{◌≡◌, ℕ, ◌==◌, Bool, true, false, ◌&&◌, List, [], ◌∷◌, reverse, refl, sym, ap, ◌∙◌}
use Rattle.std.specs.Cmp.{IsEquivalence, on_equiv, and_equiv, nat_eq_equiv}
use Rattle.std.specs.Cmp.Lexicographic.{pointwise, lists_equiv}
use Rattle.std.proofs.lemmas.List.{reverse-reverse}
use Rattle.std.proofs.lemmas.Bool.{eqb-true}
use Rattle.td_stamp.specs.Time.{Timestamp}
use Rattle.td_shard.specs.declared.runs.Lane.{Lane}
use Rattle.td_shard.specs.Runs.{lane_eq}
use Rattle.td_shard.specs.Messages.{equal_times}

pub time_equiv : IsEquivalence equal_times
time_equiv = and_equiv (on_equiv (λ t. t.epoch) nat_eq_equiv) (on_equiv (λ t. reverse t.turns) (lists_equiv nat_eq_equiv))

pub lane_equiv : IsEquivalence lane_eq
lane_equiv = and_equiv (on_equiv (λ k. k.vertex) nat_eq_equiv) (and_equiv (on_equiv (λ k. k.port) nat_eq_equiv) (on_equiv (λ k. k.time) time_equiv))

and-both : (a b : Bool) → a && b ≡ true → (a ≡ true) × (b ≡ true)
and-both true b e = (refl, e)
and-both false b e = absurd (cc)

same_nat : (m n : ℕ) → (m == n) ≡ true → m ≡ n
same_nat m n e = eqb-true m n e

pub same_list : (xs ys : List ℕ) → pointwise (λ i j. i == j) xs ys ≡ true → xs ≡ ys
same_list [] [] e = refl
same_list [] (y ∷ ys) e = absurd (cc)
same_list (x ∷ xs) [] e = absurd (cc)
same_list (x ∷ xs) (y ∷ ys) e =
    let both = and-both (x == y) (pointwise (λ i j. i == j) xs ys) e in
    let at : x ≡ y = same_nat x y both.0 in
    let rest : xs ≡ ys = same_list xs ys both.1 in
    cc

-- times that are found the same are the same
pub equal_times-sound : (t u : Timestamp) → equal_times t u ≡ true → t ≡ u
equal_times-sound t u e =
    let both = and-both (t.epoch == u.epoch) (pointwise (λ i j. i == j) (reverse t.turns) (reverse u.turns)) e in
    let epochs : t.epoch ≡ u.epoch = same_nat t.epoch u.epoch both.0 in
    let turns : t.turns ≡ u.turns = sym (reverse-reverse t.turns) ∙ (ap reverse (same_list (reverse t.turns) (reverse u.turns) both.1) ∙ reverse-reverse u.turns) in
    λ i. record { epoch = epochs i; turns = turns i }

pub lane_eq-sound : (j k : Lane) → lane_eq j k ≡ true → j ≡ k
lane_eq-sound j k e =
    let outer = and-both (j.vertex == k.vertex) ((j.port == k.port) && equal_times j.time k.time) e in
    let inner = and-both (j.port == k.port) (equal_times j.time k.time) outer.1 in
    let vertices : j.vertex ≡ k.vertex = same_nat j.vertex k.vertex outer.0 in
    let ports : j.port ≡ k.port = same_nat j.port k.port inner.0 in
    let times : j.time ≡ k.time = equal_times-sound j.time k.time inner.1 in
    λ i. record { vertex = vertices i; port = ports i; time = times i }
