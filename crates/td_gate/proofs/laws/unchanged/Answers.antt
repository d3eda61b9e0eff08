use Rattle.std.proofs.Common.{refl, sym, inl, arith, ◌∙◌}
use Rattle.td_gate.specs.CrashSafe.{Unchanged}
use Rattle.td_gate.proofs.CrashSafety.{one_call}
use Rattle.td_gate.proofs.laws.unchanged.Goals as goal

pub returns-clause-none : goal.returns-clause-none
returns-clause-none g c d lawful = record {
  later = omega arith;
  each = λ f left. (f, g.met.D.Disk.only_now d f lawful left, refl);
  before = λ t f le left. inl left;
}

pub returns-clause-call : goal.returns-clause-call
returns-clause-call g c old new lawful no_new time =
    let laws = g.met.D.Disk in
    let view = g.D.Disk.view in
    one_call Unchanged (view old).state (view new).state (record { counts_now = λ t f. laws.counts_now old t f lawful; only_now = λ f. laws.only_now old f lawful })
    (λ f. refl) time (λ f now. (f, no_new f now, refl))

pub returns-clause-durable : goal.returns-clause-durable
returns-clause-durable g c old new lawful durable same one f now =
    let from = one.each f (g.met.D.Disk.counts_now new (g.D.Disk.view old).state.moment f lawful one.later now) in
    from.2 ∙ (durable from.0 from.1 ∙ sym same)
