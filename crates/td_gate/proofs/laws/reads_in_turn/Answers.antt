use Rattle.std.proofs.Common.{refl, inl, arith}
use Rattle.td_gate.proofs.OnlyReads.{unchanged_in_turn, read_in_turn}
use Rattle.td_gate.proofs.laws.reads_in_turn.Goals as goal

pub returns-clause-unchanged : goal.returns-clause-unchanged
returns-clause-unchanged g c old mid new lawful one two =
    let laws = g.met.D.Disk in
    let view = g.D.Disk.view in
    unchanged_in_turn (view old).state (view mid).state (view new).state (record { counts_now = λ t f. laws.counts_now mid t f lawful; only_now = λ f. laws.only_now mid f lawful }) one two

pub returns-clause-none : goal.returns-clause-none
returns-clause-none g c d = record {
  size = refl;
  lawful = (λ l. l, λ l. l);
  same = λ l. refl;
  durable = λ l durable. durable;
  crash_safe = λ lawful. record {
    later = omega arith;
    each = λ f left. (f, g.met.D.Disk.only_now d f lawful left, refl);
    before = λ t f le left. inl left;
  };
}

pub returns-clause-read : goal.returns-clause-read
returns-clause-read g c = read_in_turn g.D.Disk.view
    (λ d l. record { counts_now = λ t f. g.met.D.Disk.counts_now d t f l; only_now = λ f. g.met.D.Disk.only_now d f l })
