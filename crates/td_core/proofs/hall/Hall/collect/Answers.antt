use Rattle.td_core.proofs.CollectSteps.{still_hall, answered}
use Rattle.td_core.proofs.Meant.{outs_meant}
use Rattle.td_core.proofs.hall.Hall.collect.Goals as goal

pub collect_passed-requires : goal.collect_passed-requires
collect_passed-requires g c = (c.reached_in_order.ensures.numbers _ c.self.invariant.reached).collected

pub invariant_of-self : goal.invariant_of-self
invariant_of-self g c =
    still_hall g.L.Law.answers c.in_any_order.ensures.passed c.reached.ensures.step c.self.inside.parts c.collect_passed.new.parts c.self.invariant c.collect_passed.result
    c.collect_passed.ensures.ok c.collect_passed.ensures.err

pub returns-clause-ok : goal.returns-clause-ok
returns-clause-ok g c =
    answered g.L.Law.answers c.in_any_order.ensures.passed c.reached.ensures.step c.self.inside.parts c.collect_passed.new.parts c.self.invariant c.collect_passed.result
    c.collect_passed.ensures.outs c.collect_passed.ensures.ok c.args.self.now c.self.view_is

pub returns-clause-meaning : goal.returns-clause-meaning
returns-clause-meaning g c =
    outs_meant g.L.Law.answers c.in_any_order.ensures.passed c.self.inside.parts c.self.invariant (c.reached.ensures.sound _ c.self.invariant.reached) c.collect_passed.result
    c.collect_passed.ensures.outs c.args.self.now c.self.view_is
