use Rattle.td_gate.proofs.CrashSafety.{HasClock}
use Rattle.td_gate.proofs.Frame.{one_in_turn, one_done}
use Rattle.td_gate.proofs.laws.one_put.Goals as goal

pub returns-clause-begun : goal.returns-clause-begun
returns-clause-begun g c put old new one =
    let view = g.D.Disk.view in one_in_turn put (view old).state (view new).state one

pub returns-clause-done : goal.returns-clause-done
returns-clause-done g c put old new lawful one is_open =
    let laws = g.met.D.Disk in
    let view = g.D.Disk.view in
    let clock : HasClock (view new).state = record { counts_now = λ t f. laws.counts_now new t f lawful; only_now = λ f. laws.only_now new f lawful } in
    one_done put (view old).state (view new).state clock one is_open
