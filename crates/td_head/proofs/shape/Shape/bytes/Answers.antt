use Rattle.std.proofs.Common.{rules}
use Rattle.td_head.proofs.shape.Shape.bytes.Goals as goal

pub returns-clause-size : goal.returns-clause-size
returns-clause-size c = search rules
