use Rattle.std.proofs.Common.{◌≡◌, ℕ, ◌==◌, ◌+◌, ◌-◌, ◌<◌, ◌≤◌, ◌++◌, true, length}
use Rattle.std.specs.List.{list_any}
use Rattle.td_batch.specs.Meaning.{emitted}
use Rattle.td_batch.specs.Steps.Tree.{nodes_of, reads}
use Rattle.td_batch.proofs.rounds.collect.Given as goal

abbrev pub invariant-loop-alloc : goal.invariant-loop-alloc
invariant-loop-alloc l = (length l.collected.items ≤ length l.made) × ((i : ℕ) → emitted l.collected.items i ≡ emitted l.initial.collected.items i)

abbrev pub decreases-loop-alloc : goal.decreases-loop-alloc
decreases-loop-alloc l = length l.made - length l.collected.items

abbrev pub invariant-loop-place : goal.invariant-loop-place
invariant-loop-place l =
    (length l.collected.items ≡ length l.made)
    × ((i : ℕ) → i < l.place → list_any (λ s. s == l.first + i) (reads l.is_first (nodes_of l.rest) ++ l.need) ≡ true → emitted l.collected.items i ≡ emitted l.fn.collected.items i ++ emitted l.made i)
    × ((i : ℕ) → l.place ≤ i → emitted l.collected.items i ≡ emitted l.fn.collected.items i)
