use Rattle.std.proofs.Common.{◌≡◌, ◌↔◌, ℕ, ◌+◌, ◌<◌, true, List, [], length, take, Some}
use Rattle.std.specs.Prelude.{All}
use Rattle.td_plan.specs.Lines.{Line}
use Rattle.td_head.specs.Layout.{Sizes}
use Rattle.td_journal.specs.Cell.{is_batch}
use Rattle.td_journal.specs.Numbers.{rise}
use Rattle.td_store.specs.standing.Standing.{Standing, with_more}
use Rattle.td_store.specs.standing.Told.{inputs_of, ring_of}
use Rattle.td_store.specs.copy.Copied.{AreClosedAfter, EachHasNoHead, HasParts, OpensNoHead}
use Rattle.td_store.proofs.copy.epochs.write_epochs.Given as goal

-- the epochs before stand in their cells, the cells behind them are closed, and no head was opened
abbrev pub invariant-loop-each : goal.invariant-loop-each
invariant-loop-each g l = record {
  epoch : l.epoch ≡ l.journal.kept + l.each-index;
  size : (g.D.Disk.view l.device).capacity ≡ (g.D.Disk.view l.fn.device).capacity;
  lawful : (g.D.Disk.view l.fn.device).lawful ↔ (g.D.Disk.view l.device).lawful;
  failures : (g.D.Disk.view l.device).failures ≡ (g.D.Disk.view l.fn.device).failures;
  no_head : (g.D.Disk.view l.fn.device).lawful → EachHasNoHead (g.D.Disk.view l.fn.device).state → EachHasNoHead (g.D.Disk.view l.device).state × OpensNoHead (g.D.Disk.view l.fn.device).state (g.D.Disk.view l.device).state;
  closed : (g.D.Disk.view l.fn.device).lawful → AreClosedAfter l.journal 0 (g.D.Disk.view l.fn.device).state.bytes → AreClosedAfter l.journal l.each-index (g.D.Disk.view l.device).state.bytes;
  put : (g.D.Disk.view l.fn.device).lawful → (plan : List Line) (sizes : Sizes) (s : Standing) → l.journal ≡ ring_of sizes s.epoch → s.submitted ≡ [] → length l.submitted < sizes.n
      → rise (Some s.last) l.submitted ≡ true → All (λ x. is_batch (inputs_of plan) x.batch ≡ true) l.submitted
      → AreClosedAfter l.journal 0 (g.D.Disk.view l.fn.device).state.bytes → HasParts plan sizes s (g.D.Disk.view l.fn.device).state.bytes
      → HasParts plan sizes (with_more s (take l.each-index l.submitted)) (g.D.Disk.view l.device).state.bytes;
}
