use Rattle.td_gate.proofs.Frame.{puts_then, puts_then_done}
use Rattle.td_gate.proofs.laws.puts_in_turn.Goals as goal

pub returns-clause-begun : goal.returns-clause-begun
returns-clause-begun g c puts more old mid new one follows two =
    let view = g.D.Disk.view in puts_then puts more (view old).state (view mid).state (view new).state one follows two

pub returns-clause-done : goal.returns-clause-done
returns-clause-done g c puts more old mid new one two =
    let view = g.D.Disk.view in puts_then_done puts more (view old).state (view mid).state (view new).state one two
