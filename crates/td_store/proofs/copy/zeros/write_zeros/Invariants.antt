use Rattle.std.proofs.Common.{◌≡◌, ◌-◌, ◌<◌, ◌≤◌, ℕ}
use Rattle.std.specs.Prelude.{◌↔◌, slice_index}
use Rattle.td_store.specs.copy.Copied.{EachHasNoHead, IsZeroBetween, OpensNoHead}
use Rattle.td_store.proofs.copy.zeros.write_zeros.Given as goal

abbrev pub invariant-loop-from : goal.invariant-loop-from
invariant-loop-from g l = record {
  begun : l.fn.at ≤ l.from;
  zero : (g.D.Disk.view l.fn.device).lawful → IsZeroBetween l.fn.at l.from (g.D.Disk.view l.device).state.bytes;
  before : (g.D.Disk.view l.fn.device).lawful → (i : ℕ) → i < l.fn.at → slice_index (g.D.Disk.view l.device).state.bytes i ≡ slice_index (g.D.Disk.view l.fn.device).state.bytes i;
  no_head : (g.D.Disk.view l.fn.device).lawful → EachHasNoHead (g.D.Disk.view l.fn.device).state → EachHasNoHead (g.D.Disk.view l.device).state × OpensNoHead (g.D.Disk.view l.fn.device).state (g.D.Disk.view l.device).state;
  size : (g.D.Disk.view l.device).capacity ≡ (g.D.Disk.view l.fn.device).capacity;
  lawful : (g.D.Disk.view l.fn.device).lawful ↔ (g.D.Disk.view l.device).lawful;
  count : (g.D.Disk.view l.device).failures ≡ (g.D.Disk.view l.fn.device).failures;
}

abbrev pub decreases-loop-from : goal.decreases-loop-from
decreases-loop-from g l = l.end - l.from
