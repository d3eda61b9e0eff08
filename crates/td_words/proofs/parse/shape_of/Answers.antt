use Rattle.td_words.proofs.Asked.{when_none}
use Rattle.td_words.proofs.parse.shape_of.Goals as goal

pub returns-in_err-m-clause-none : goal.returns-in_err-m-clause-none
returns-in_err-m-clause-none c = when_none _ c.from_residual.ensures (λ m n k has. c.in_err-m.ensures.none m has.0)

pub returns-in_err-n-clause-none : goal.returns-in_err-n-clause-none
returns-in_err-n-clause-none c = when_none _ c.from_residual-in_err-n.ensures (λ m n k has. c.in_err-n.ensures.none n has.1)

pub returns-in_err-k-clause-none : goal.returns-in_err-k-clause-none
returns-in_err-k-clause-none c = when_none _ c.from_residual-in_err-k.ensures (λ m n k has. c.in_err-k.ensures.none k has.2)

pub returns-clause-some : goal.returns-clause-some
returns-clause-some c = (c.in_ok-m.ensures.some, c.in_ok-n.ensures.some, c.in_ok-k.ensures.some)
