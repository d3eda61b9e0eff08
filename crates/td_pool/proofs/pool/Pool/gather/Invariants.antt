use Rattle.std.specs.Prelude.{◌≡◌, length, map, sum}
use Rattle.td_pool.proofs.pool.Pool.gather.Given as goal

-- the shares of the seats so far are together
abbrev pub invariant-loop-seat : goal.invariant-loop-seat
invariant-loop-seat g l = record {
  parts : l.all.parts ≡ length l.yielded;
  amount : l.all.amount ≡ sum (map (λ s. s.share.amount) l.yielded);
}
