use Rattle.std.proofs.Common.{refl, ◌≡◌, IsTrue, true, ap, sym, ◌∙◌, subst, arith, length, inl}
use Rattle.std.specs.List.{list_all}
use Rattle.std.proofs.lemmas.List.Elements.{All-get_or}
use Rattle.std.proofs.lemmas.Iterator.Consumers.{YieldsList-turn}
use Rattle.std.proofs.lemmas.Iterator.Adapters.{YieldsList-from_vec}
use Rattle.td_plan.specs.Inputs.{is_input_of}
use Rattle.td_machine.specs.Steps.{with_batch, accepts}
use Rattle.td_console.proofs.Released.{IsReleased, is_released, released-push, is_taken, only_memory}
use Rattle.td_console.proofs.hall.release_all.Goals as goal

pub loop-batch-init : goal.loop-batch-init
loop-batch-init g c = refl

pub release-requires : goal.release-requires
release-requires g c =
    let start = c.args.hall.now in
    let facts = subst (IsReleased start c.loop-batch.yielded) (sym c.loop-batch.invariant) (is_released start c.loop-batch.yielded) in
    let given = c.into_iter-batch-iterator.ensures.into_iter_gives in
    let turn = YieldsList-turn (YieldsList-from_vec c.args.batches.items given.0 (given.1 ∙ c.args.batches.ok.0)) c.loop-batch.yielded c.loop-batch.batch-iterator c.loop-batch.yielded_by c.next.result c.next.new.self c.in-Some.batch c.in-Some.is c.next.ensures.steps in
    let here = All-get_or (λ batch. IsTrue (list_all (λ e. is_input_of c.args.hall.now.plan e.input) batch)) c.args.batches.items (length c.loop-batch.yielded) c.in-Some.batch turn.0 c.requires.accepted in
    subst (λ plan. accepts plan c.in-Some.batch ≡ true) (sym facts.plan) (subst (λ batch. accepts c.args.hall.now.plan batch ≡ true) (sym turn.1) here)

pub hall_fault-requires : goal.hall_fault-requires
hall_fault-requires g c =
    let start = c.args.hall.now in
    let facts = subst (IsReleased start c.loop-batch.yielded) (sym c.loop-batch.invariant) (is_released start c.loop-batch.yielded) in
    let given = c.into_iter-batch-iterator.ensures.into_iter_gives in
    let turn = YieldsList-turn (YieldsList-from_vec c.args.batches.items given.0 (given.1 ∙ c.args.batches.ok.0)) c.loop-batch.yielded c.loop-batch.batch-iterator c.loop-batch.yielded_by c.next.result c.next.new.self c.in-Some.batch c.in-Some.is c.next.ensures.steps in
    inl (only_memory c.loop-batch.hall c.in-Some.batch (facts.closed ∙ c.requires.opened) (omega (arith, facts.next, turn.0, c.requires.few)) c.in-Err.error c.in-Err.ensures.refused)

pub returns-in-Err-clause-err : goal.returns-in-Err-clause-err
returns-in-Err-clause-err g c =
    let start = c.args.hall.now in
    let facts = subst (IsReleased start c.loop-batch.yielded) (sym c.loop-batch.invariant) (is_released start c.loop-batch.yielded) in
    let given = c.into_iter-batch-iterator.ensures.into_iter_gives in
    let turn = YieldsList-turn (YieldsList-from_vec c.args.batches.items given.0 (given.1 ∙ c.args.batches.ok.0)) c.loop-batch.yielded c.loop-batch.batch-iterator c.loop-batch.yielded_by c.next.result c.next.new.self c.in-Some.batch c.in-Some.is c.next.ensures.steps in
    c.hall_fault.ensures.memory (only_memory c.loop-batch.hall c.in-Some.batch (facts.closed ∙ c.requires.opened) (omega (arith, facts.next, turn.0, c.requires.few)) c.in-Err.error c.in-Err.ensures.refused)

pub loop-batch-preserved : goal.loop-batch-preserved
loop-batch-preserved g c =
    let start = c.args.hall.now in
    let facts = subst (IsReleased start c.loop-batch.yielded) (sym c.loop-batch.invariant) (is_released start c.loop-batch.yielded) in
    let given = c.into_iter-batch-iterator.ensures.into_iter_gives in
    let turn = YieldsList-turn (YieldsList-from_vec c.args.batches.items given.0 (given.1 ∙ c.args.batches.ok.0)) c.loop-batch.yielded c.loop-batch.batch-iterator c.loop-batch.yielded_by c.next.result c.next.new.self c.in-Some.batch c.in-Some.is c.next.ensures.steps in
    is_taken c.loop-batch.hall c.in-Some.batch (facts.closed ∙ c.requires.opened) (omega (arith, facts.next, turn.0, c.requires.few)) c.in_default.field-0 c.release.new.self c.in_default.ensures.released
    ∙ ap (λ S. with_batch S c.in-Some.batch) c.loop-batch.invariant
    ∙ sym (released-push start c.loop-batch.yielded c.in-Some.batch)
