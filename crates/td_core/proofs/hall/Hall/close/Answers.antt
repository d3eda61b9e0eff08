use Rattle.std.proofs.Common.{◌≤◌, ◌++◌, map, sym, ap, ◌∙◌, subst}
use Rattle.td_progress.specs.Bag.{occurrences, input_stamp}
use Rattle.td_core.proofs.CloseSteps.{closes}
use Rattle.td_core.proofs.CloseSteps.{enough}
use Rattle.td_core.proofs.hall.Hall.close.Goals as goal

pub take_off_inputs-requires : goal.take_off_inputs-requires
take_off_inputs-requires g c p =
    let parts = c.self.inside.parts in
    subst (λ l. occurrences p (map (input_stamp parts.next) l) ≤ occurrences p parts.table.stamps) (sym c.as_slice-inputs.ensures.value)
    (enough c.counted.ensures.append parts c.if-not-self.true c.self.invariant.counted c.self.invariant.inputs p)

pub invariant_of-self : goal.invariant_of-self
invariant_of-self g c =
    let parts = c.self.inside.parts in
    closes g.L.Law.answers c.counted.ensures.append c.reached.ensures.step parts c.if-not-self.true c.take_off_inputs.new.table c.take_off_inputs.ensures.plan c.self.invariant
    (λ p. c.take_off_inputs.ensures.stamps p ∙ ap (λ l. occurrences p (map (input_stamp parts.next) l ++ c.take_off_inputs.new.table.stamps)) c.as_slice-inputs.ensures.value)
