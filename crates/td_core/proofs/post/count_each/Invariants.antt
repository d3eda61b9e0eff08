use Rattle.std.proofs.Common.{◌≡◌, ◌+◌, ◌*◌, ◌<◌, ℕ, drop, get_or, length}
use Rattle.td_core.specs.Posted.{count_of}
use Rattle.td_core.proofs.post.count_each.Given as goal

abbrev pub invariant-loop-rec : goal.invariant-loop-rec
invariant-loop-rec l = record {
  counts : (s : ℕ) → s < l.workers
      → get_or l.counts s 0 + count_of l.workers (drop l.rec-index l.recs) s * l.edges ≡ get_or l.fn.counts s 0 + count_of l.workers l.recs s * l.edges;
  many : length l.counts ≡ 16;
}
