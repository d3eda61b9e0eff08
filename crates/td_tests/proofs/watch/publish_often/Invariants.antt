use Rattle.std.proofs.Common.{◌≡◌, ◌+◌, [], ◌∷◌}
use Rattle.td_tests.proofs.watch.publish_often.Given as goal

abbrev pub invariant-loop-i : goal.invariant-loop-i
invariant-loop-i l =
    (l.writer.watch ≡ l.fn.writer.watch) × (l.writer.words ≡ (l.i + 2) ∷ (l.i + 1) ∷ l.i ∷ [])
