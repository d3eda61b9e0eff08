use Rattle.std.proofs.Common.{[], refl, inl, arith}
use Rattle.td_gate.specs.Regions.{PutsInTurn}
use Rattle.td_gate.proofs.CrashSafety.{one_call}
use Rattle.td_gate.proofs.laws.no_puts.Goals as goal

pub returns-clause-none : goal.returns-clause-none
returns-clause-none g c d lawful = record {
  later = omega arith;
  each = λ f left. (f, g.met.D.Disk.only_now d f lawful left, refl);
  before = λ t f le left. inl left;
}

pub returns-clause-begun : goal.returns-clause-begun
returns-clause-begun g c old new lawful no_new time =
    let laws = g.met.D.Disk in
    let view = g.D.Disk.view in
    one_call (PutsInTurn []) (view old).state (view new).state (record { counts_now = λ t f. laws.counts_now old t f lawful; only_now = λ f. laws.only_now old f lawful })
    (λ f. refl) time (λ f now. (f, no_new f now, refl))

pub returns-clause-done : goal.returns-clause-done
returns-clause-done g c old new no_new f now = (f, no_new f now, refl)
