-- Could-result-in takes the epochs apart: it holds of two pointstamps where the one's epoch is not later, and it holds of their places
-- and counters.
use Rattle.std.proofs.Common.{◌≡◌, ℕ, Bool, true, false, ◌&&◌, ◌||◌, List, Option, Some, None, refl, ap, ◌∙◌, nat_le}
use Rattle.std.specs.Ordering.{is_le}
use Rattle.td_stamp.specs.Time.{Timestamp, counters_cmp, time_le}
use Rattle.td_plan.specs.Lines.{Line}
use Rattle.td_reach.specs.declared.stamp.Stamp.{Stamp}
use Rattle.td_reach.specs.Summaries.{Effect}
use Rattle.td_reach.specs.Tables.{could_test, turns_to, turns_from, first_vertex, effect_to, is_same_edge}
use Rattle.td_progress.specs.Held.{at, class_of}
use Rattle.td_progress.proofs.HeldBags.{at_class}

neither : (n : Bool) → false ≡ (n && false)
neither true = refl
neither false = refl

apart : (s n c t : Bool) → ((s && (n && c)) || (n && t)) ≡ (n && ((s && c) || t))
apart true true c t = refl
apart true false c t = refl
apart false true c t = refl
apart false false c t = refl

abbrev time_at : ℕ → List ℕ → Timestamp
time_at e turns = record { epoch = e; turns = turns }

turns_apart : (o : Option Effect) (d e : ℕ) (t u : List ℕ) → turns_to o (time_at d t) (time_at e u) ≡ (nat_le d e && turns_to o (time_at 0 t) (time_at 0 u))
turns_apart None d e t u = neither (nat_le d e)
turns_apart (Some s) d e t u = refl

from_apart : (plan : List Line) (o : Option ℕ) (d e : ℕ) (p q : Stamp) → turns_from plan o (at d p) (at e q) ≡ (nat_le d e && turns_from plan o (at 0 p) (at 0 q))
from_apart plan None d e p q = neither (nat_le d e)
from_apart plan (Some u) d e p q = turns_apart (effect_to plan u q.place) d e p.time.turns q.time.turns

pub could_apart : (plan : List Line) (d e : ℕ) (p q : Stamp) → could_test plan (at d p) (at e q) ≡ (nat_le d e && could_test plan (at 0 p) (at 0 q))
could_apart plan d e p q =
    ap (λ b. (is_same_edge p.place q.place && time_le (time_at d p.time.turns) (time_at e q.time.turns)) || b) (from_apart plan (first_vertex plan p.place) d e p q)
    ∙ apart (is_same_edge p.place q.place) (nat_le d e) (is_le (counters_cmp p.time.turns q.time.turns)) (turns_from plan (first_vertex plan p.place) (at 0 p) (at 0 q))

-- of a place and counters, and a pointstamp
pub could_in : (plan : List Line) (x : ℕ) (k p : Stamp) → k.time.epoch ≡ 0 → could_test plan (at x k) p ≡ (nat_le x p.time.epoch && could_test plan k (class_of p))
could_in plan x k p class =
    could_apart plan x p.time.epoch k p ∙ ap (λ s. nat_le x p.time.epoch && could_test plan s (class_of p)) (at_class k class)
