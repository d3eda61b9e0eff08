use Rattle.std.proofs.Common.{◌≡◌, length, map}
use Rattle.td_picture.specs.Words.{row_at}
use Rattle.td_picture.proofs.words.row_at.Given as goal

abbrev pub invariant-loop-rest : goal.invariant-loop-rest
invariant-loop-rest l = row_at (map (λ r. (r.0, r.1, r.2, r.3.now, r.4.now)) l.rest) l.code ≡ row_at (map (λ r. (r.0, r.1, r.2, r.3.now, r.4.now)) l.fn.rows) l.code

abbrev pub decreases-loop-rest : goal.decreases-loop-rest
decreases-loop-rest l = length l.rest
