use Rattle.std.proofs.Common.{◌≡◌, ◌++◌, map}
use Rattle.td_batch.proofs.epoch.put_out.Given as goal

abbrev pub invariant-loop-rec : goal.invariant-loop-rec
invariant-loop-rec l =
    l.outputs.items ++ map (λ r. record { vertex = l.vertex; rec = r }) l.rec-iterator ≡ l.initial.outputs.items ++ map (λ r. record { vertex = l.vertex; rec = r }) l.records
