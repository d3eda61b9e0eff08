use Rattle.std.proofs.Common.{◌≡◌, drop}
use Rattle.td_plan.specs.Blocks.{vertices}
use Rattle.td_calls.specs.Fits.{first_lack}
use Rattle.td_calls.proofs.calls.Closures.fits.Given as goal

-- the first lack of the vertices that are left is that of all
abbrev pub invariant-loop-vertex : goal.invariant-loop-vertex
invariant-loop-vertex g l =
    first_lack (g.Self.Closures.stored l.self) (drop l.vertex-index (vertices l.plan))
    ≡ first_lack (g.Self.Closures.stored l.self) (vertices l.plan)
