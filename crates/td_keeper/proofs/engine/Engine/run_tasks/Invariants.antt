use Rattle.std.proofs.Common.{◌≡◌}
use Rattle.std.specs.Prelude.{None}
use Rattle.td_plan.specs.Blocks.{vertices}
use Rattle.td_calls.specs.Fits.{first_lack}
use Rattle.td_core.specs.Drained.{IsKept}
use Rattle.td_keeper.specs.Halls.{IsAtHome}
use Rattle.td_keeper.proofs.engine.Engine.run_tasks.Given as goal

-- the keeper is as it was, and its hall at home, with what was released, cut and collected
abbrev pub invariant-loop-task : goal.invariant-loop-task
invariant-loop-task g l = record {
  same : l.self-inside.keeper ≡ l.fn.self.keeping;
  kept : IsKept l.fn.self.hall l.self-inside.hall;
  home : IsAtHome l.self-inside.keeper l.self-inside.hall;
  fits : first_lack (g.C.Closures.stored l.self-inside.calls.now) (vertices l.self-inside.keeper.plan) ≡ None;
}
