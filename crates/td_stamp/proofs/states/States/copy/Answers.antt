use Rattle.std.proofs.Common.{◌≡◌, ℕ}
use Rattle.std.proofs.lemmas.Map.Entries.{entries_from_clone}
use Rattle.std.proofs.lemmas.List.Elements.{same_from_all_zip}
use Rattle.td_stamp.specs.declared.values.State.{State}
use Rattle.td_stamp.proofs.states.States.copy.Goals as goal

-- a copy of a place, part by part
abbrev IsCopy : ℕ × ℕ → ℕ × ℕ → Type 0
IsCopy p q = (q.0 ≡ p.0) × (q.1 ≡ p.1)

copied : (p q : ℕ × ℕ) → IsCopy p q → q ≡ p
copied p q h = λ i. (h.0 i, h.1 i)

pub invariant_of-result : goal.invariant_of-result
invariant_of-result c =
    let kept = entries_from_clone IsCopy (λ (s t : State). t ≡ s) copied (λ s t h. h) c.self.inside.kept.entries c.in_ok-kept.kept.entries c.in_ok-kept.ensures.cases in
    let order = same_from_all_zip IsCopy c.self.inside.order.keys c.in_ok-order.order.keys c.in_ok-order.ensures.cases copied in
    rw (kept, order) c.self.invariant

pub returns : goal.returns
returns c =
    let kept = entries_from_clone IsCopy (λ (s t : State). t ≡ s) copied (λ s t h. h) c.self.inside.kept.entries c.in_ok-kept.kept.entries c.in_ok-kept.ensures.cases in
    let order = same_from_all_zip IsCopy c.self.inside.order.keys c.in_ok-order.order.keys c.in_ok-order.ensures.cases copied in
    rw (kept, order) c.self.view_is
