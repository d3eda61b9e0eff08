use Rattle.std.proofs.Common.{◌<◌, length, refl, inl, inr, ap, ◌∙◌, arith}
use Rattle.td_machine.specs.State.{HallState}
use Rattle.td_machine.specs.Sound.{run_states}
use Rattle.td_questions.specs.Asked.{answer_to}
use Rattle.td_keeper.proofs.Answering.{based_before, none_after, last_meaning}
use Rattle.td_keeper.proofs.keeper.Keeper.answer_own.Goals as goal

pub overflow_add-released : goal.overflow_add-released
overflow_add-released g c =
    let S = g.H.AnyHall.state c.args.hall.now in
    let few = none_after g.L.Law.answers c.run_joins.ensures.states c.run_joins.ensures.outs c.args.self.now c.each_is_kept.ensures S c.requires c.each_is_sound.ensures.sound in
    omega (arith, few, c.each_is_kept.ensures.small, c.requires.base, c.base.ensures.epoch, c.len.ensures, c.inputs.result.now.ok.0, ap length c.inputs.ensures, ap (λ (S : HallState). length S.batches) c.hall.ensures)

pub returns-then-released-last-clause-refused : goal.returns-then-released-last-clause-refused
returns-then-released-last-clause-refused g c =
    inr (_, refl, inl (omega (arith, c.if-released-last.true, c.last_epoch-last.ensures, c.requires.base, c.each_is_sound.ensures.sound.released, c.base.ensures.epoch, c.len.ensures, c.inputs.result.now.ok.0, ap length c.inputs.ensures, ap (λ (S : HallState). length S.batches) c.hall.ensures)))

pub states_at-requires-clause-after : goal.states_at-requires-clause-after
states_at-requires-clause-after g c =
    let S = g.H.AnyHall.state c.args.hall.now in
    let after = based_before g.L.Law.answers c.run_joins.ensures.states c.run_joins.ensures.outs c.args.self.now c.each_is_kept.ensures S c.requires c.each_is_sound.ensures.sound in
    omega (arith, after, c.last_epoch-last.ensures, ap (λ (S : HallState). S.base) c.hall-2.ensures)

pub states_at-requires-clause-released : goal.states_at-requires-clause-released
states_at-requires-clause-released g c =
    omega (arith, c.if-released-last.false, c.requires.base, c.each_is_sound.ensures.sound.released, c.base.ensures.epoch, c.len.ensures, c.inputs.result.now.ok.0, ap length c.inputs.ensures, ap (λ (S : HallState). length S.batches) c.hall.ensures, ap (λ (S : HallState). S.next) c.hall-2.ensures)

pub returns-in-Ok-answer-clause-answer : goal.returns-in-Ok-answer-clause-answer
returns-in-Ok-answer-clause-answer g c =
    let answers = g.L.Law.answers in
    let S = g.H.AnyHall.state c.args.hall.now in
    let last = c.last_epoch-last.result in
    let before : last < S.next = omega (arith, c.if-released-last.false, c.requires.base, c.each_is_sound.ensures.sound.released, c.base.ensures.epoch, c.len.ensures, c.inputs.result.now.ok.0, ap length c.inputs.ensures, ap (λ (T : HallState). length T.batches) c.hall.ensures) in
    let states = c.in-Ok.ensures.meaning ∙ ap (λ (T : HallState). run_states answers T last) c.hall-2.ensures in
    let meant = last_meaning answers c.run_joins.ensures.states c.run_joins.ensures.outs c.args.self.now c.each_is_kept.ensures S c.requires c.each_is_sound.ensures.sound last c.last_epoch-last.ensures before _ states in
    (c.last_epoch-last.ensures, c.from_vec.ensures ∙ (c.in-Ok-answer.ensures ∙ ap (answer_to c.args.vertex c.args.wanted) meant))
