use Rattle.td_machine.proofs.Moves.{stamps_move}
use Rattle.td_machine.proofs.laws.stamps_move.Goals as goal

pub returns : goal.returns
returns g c = stamps_move c.laws_below.ensures g.L.Law.answers
