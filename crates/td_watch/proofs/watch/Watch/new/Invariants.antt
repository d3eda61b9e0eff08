use Rattle.std.proofs.Common.{◌≡◌, vec_len, All}
use Rattle.td_watch.proofs.watch.Watch.new.Given as goal

abbrev pub invariant-loop : goal.invariant-loop
invariant-loop l =
    (l.writer.words ≡ l.words) × (vec_len l.all ≡ l.counter) × All (λ r. r ≡ l.writer) l.all.items
