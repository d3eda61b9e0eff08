use Rattle.std.proofs.Common.{◌≡◌, Some, OnOk, OnErr, inr, refl, sym, ap, ◌∙◌, subst}
use Rattle.std.specs.List.{Contains, slice_get}
use Rattle.td_machine.specs.State.{HallState, Task}
use Rattle.td_machine.specs.Steps.{Gives}
use Rattle.td_machine.specs.Steps.Answer.{has_given}
use Rattle.td_machine.specs.Steps.Refusal.{stranger}
use Rattle.td_core.specs.declared.error.HallError.{HallError}
use Rattle.td_core.specs.declared.error.HallError.TheVariants.{Memory}
use Rattle.td_core.specs.Parts.{state_of}
use Rattle.td_core.proofs.CutSteps.{at_err}
use Rattle.td_core.proofs.GiveTask.{hall_still, has_given_it, as_it_was, is_no_task}
use Rattle.td_core.proofs.GiveSteps.{among}
use Rattle.td_core.proofs.hall.Hall.give.Goals as goal
use Rattle.td_core.proofs.hall.Hall.give.Goals.{in-Ok, in-Err}

pub returns-in_default-clause-refused : goal.returns-in_default-clause-refused
returns-in_default-clause-refused g c =
    let tasks = sym (ap (λ S. S.out) c.self.view_is) ∙ sym c.as_slice.ensures.value in
    inr (
      stranger,
      refl,
      is_no_task g.L.Law.answers c.args.self.now c.args.done (λ there.
          c.in_default.ensures.missing refl (subst (λ (t : Task). Contains c.as_slice.result.now t) (sym c.task.ensures) (subst (λ l. Contains l c.args.done) tasks there))),
    )

pub invariant_of-self : goal.invariant_of-self
invariant_of-self g c =
    hall_still g.L.Law.answers c.self.inside.parts c.give_task.new.parts c.give_task.result c.give_task.ensures.hall c.give_task.ensures.err c.self.invariant

pub returns-clause-given : goal.returns-clause-given
returns-clause-given g c =
    let parts = c.self.inside.parts in
    let new = c.give_task.new.parts in
    let found : slice_get parts.out.items c.in-Some.place ≡ Some c.args.done =
    ap (λ l. slice_get l c.in-Some.place) (sym c.as_slice.ensures.value) ∙ (c.in-Some.ensures.there ∙ ap Some c.task.ensures) in
    let there = among parts.out.items c.in-Some.place c.args.done found in
    elim c.match-give_task.branch [
      | in-Ok w ↦ subst (λ r. OnOk r (Gives g.L.Law.answers c.args.self.now c.args.done has_given (state_of new))) (sym w.result-is)
          (has_given_it g.L.Law.answers parts new c.args.self.now c.args.done c.give_task.result _ w.in-Ok.is c.self.view_is there c.give_task.ensures.state)
      | in-Err w ↦ subst (λ r. OnOk r (Gives g.L.Law.answers c.args.self.now c.args.done has_given (state_of new))) (sym w.result-is) tt
    ]

pub returns-clause-memory_last : goal.returns-clause-memory_last
returns-clause-memory_last g c =
    let parts = c.self.inside.parts in
    let found : slice_get parts.out.items c.in-Some.place ≡ Some c.args.done =
    ap (λ l. slice_get l c.in-Some.place) (sym c.as_slice.ensures.value) ∙ (c.in-Some.ensures.there ∙ ap Some c.task.ensures) in
    let there = subst (λ (S : HallState). Contains S.out c.args.done) c.self.view_is (among parts.out.items c.in-Some.place c.args.done found) in
    at_err (λ (e : HallError × Task). e.0 ≡ Memory) there c.match-give_task.result

pub returns-clause-err : goal.returns-clause-err
returns-clause-err g c =
    let parts = c.self.inside.parts in
    let new = c.give_task.new.parts in
    elim c.match-give_task.branch [
      | in-Ok w ↦ subst (λ r. OnErr r (state_of new ≡ c.args.self.now)) (sym w.result-is) tt
      | in-Err w ↦ subst (λ r. OnErr r (state_of new ≡ c.args.self.now)) (sym w.result-is)
          (as_it_was g.L.Law.answers parts new c.args.self.now c.give_task.result _ w.in-Err.is c.self.view_is c.give_task.ensures.err)
    ]
