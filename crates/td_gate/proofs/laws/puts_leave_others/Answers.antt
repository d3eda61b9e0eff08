use Rattle.td_gate.proofs.Frame.{puts_elsewhere}
use Rattle.td_gate.proofs.laws.puts_leave_others.Goals as goal

pub returns : goal.returns
returns c puts s old new apart step = puts_elsewhere puts s old new apart step
