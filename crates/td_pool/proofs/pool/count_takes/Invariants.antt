use Rattle.std.specs.Prelude.{◌≡◌, ◌+◌, ◌*◌}
use Rattle.td_pool.specs.Counts.{take_weight}
use Rattle.td_pool.proofs.pool.count_takes.Given as goal

-- so many takes were counted
abbrev pub invariant-loop-take : goal.invariant-loop-take
invariant-loop-take g l = record {
  total : l.book.total ≡ l.initial.book.total + take_weight * l._take;
  amount : l.share.amount ≡ l.initial.share.amount + take_weight * l._take;
  parts : l.share.parts ≡ l.initial.share.parts;
}
