use Rattle.std.proofs.Common.{arith, sym, ◌==◌, get_or}
use Rattle.std.proofs.lemmas.Bool.{ne_eqb, eq-eqb}
use Rattle.std.proofs.lemmas.List.Sums.{position_or_len_is}
use Rattle.td_console.proofs.parts.line_end.Goals as goal

pub returns-then-bytes-end-eq10-clause-place : goal.returns-then-bytes-end-eq10-clause-place
returns-then-bytes-end-eq10-clause-place c =
    sym (position_or_len_is (λ b. b == 10) c.args.bytes.now c.loop-end.end 0 c.loop-end.invariant.bound (λ k lt. ne_eqb (get_or c.args.bytes.now k 0) 10 (c.loop-end.invariant.none k lt))
    (λ lt. eq-eqb (get_or c.args.bytes.now c.loop-end.end 0) 10 c.if-bytes-end-eq10.true))

pub returns-clause-place : goal.returns-clause-place
returns-clause-place c =
    sym (position_or_len_is (λ b. b == 10) c.args.bytes.now c.loop-end.end 0 c.loop-end.invariant.bound (λ k lt. ne_eqb (get_or c.args.bytes.now k 0) 10 (c.loop-end.invariant.none k lt))
    (λ lt. let over = c.loop-end-test.false in absurd (omega arith)))
