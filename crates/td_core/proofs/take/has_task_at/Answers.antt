use Rattle.std.proofs.Common.{◌==◌, IsTrue, true≢false, ap, sym, ◌∙◌, subst, arith}
use Rattle.std.specs.List.{list_any}
use Rattle.td_core.proofs.TakeSteps.{none_beyond, are_asked}
use Rattle.td_core.proofs.TakenHall.{has_one}
use Rattle.td_core.proofs.take.has_task_at.Goals as goal

pub returns-then-is_busy : goal.returns-then-is_busy
returns-then-is_busy g c =
    let busy = sym (c.is_busy.ensures ∙ ap (λ l. list_any (λ t. t.shard == c.args.shard) l) c.as_slice.ensures.value) ∙ c.if-is_busy.true in
    (λ t. absurd (true≢false (sym t)), λ h. absurd (true≢false (sym busy ∙ h.0)))

pub returns-then-from-len : goal.returns-then-from-len
returns-then-from-len g c =
    let parts = c.args.parts.now in
    let free = sym (c.is_busy.ensures ∙ ap (λ l. list_any (λ t. t.shard == c.args.shard) l) c.as_slice.ensures.value) ∙ c.if-is_busy.false in (
      λ t. absurd (true≢false (sym t)),
      λ h. absurd (
          none_beyond g.L.Law.answers parts c.requires.hall c.known.ensures.bags_of_states.messages c.known.ensures.bags_of_states.notifications c.known.ensures.time_list_order.told_apart c.known.ensures.in_any_order.frontier
          (c.known.ensures.reached_in_order.lists _ c.requires.hall.reached) (c.known.ensures.reached_in_order.tasks _ c.requires.hall.reached) (c.known.ensures.reached_in_order.numbers _ c.requires.hall.reached)
          c.known.ensures.none_left.task c.args.shard free (omega (arith, c.if-from-len.true, c.from.ensures, c.len.ensures)) h.1.0 h.1.1
          ),
    )

pub first_candidate-requires-clause-asked : goal.first_candidate-requires-clause-asked
first_candidate-requires-clause-asked g c d =
    are_asked g.L.Law.answers c.args.parts.now c.requires.hall c.known.ensures.bags_of_states.messages c.known.ensures.bags_of_states.notifications c.known.ensures.time_list_order.told_apart c.known.ensures.in_any_order.frontier
    (c.known.ensures.reached_in_order.lists _ c.requires.hall.reached) (c.known.ensures.reached_in_order.tasks _ c.requires.hall.reached) (c.known.ensures.reached_in_order.numbers _ c.requires.hall.reached)
    c.known.ensures.counted.contains (c.known.ensures.asked_where_notified _ c.requires.hall.reached) (c.known.ensures.active_of_plan _ c.requires.hall.reached) c.args.shard d (omega (arith, c.if-from-len.false, c.from.ensures, c.len.ensures))

pub returns : goal.returns
returns g c =
    let free = sym (c.is_busy.ensures ∙ ap (λ l. list_any (λ t. t.shard == c.args.shard) l) c.as_slice.ensures.value) ∙ c.if-is_busy.false in
    let both = has_one g.L.Law.answers c.args.parts.now c.requires.hall c.known.ensures.bags_of_states.messages c.known.ensures.bags_of_states.notifications c.known.ensures.time_list_order.told_apart c.known.ensures.in_any_order.frontier
    (c.known.ensures.reached_in_order.lists _ c.requires.hall.reached) (c.known.ensures.reached_in_order.tasks _ c.requires.hall.reached) (c.known.ensures.reached_in_order.numbers _ c.requires.hall.reached)
    c.known.ensures.tasks.parted c.known.ensures.tasks.some c.known.ensures.tasks.few c.known.ensures.tasks.beside c.known.ensures.what_waits.place c.known.ensures.what_waits.items c.known.ensures.none_left.task c.known.ensures.reached.step c.args.shard 0
    (omega (arith, c.if-from-len.false, c.from.ensures, c.len.ensures)) free c.first_candidate.result c.first_candidate.ensures in
    (λ t. both.0 (subst IsTrue c.is_some.ensures t), λ h. subst IsTrue (sym c.is_some.ensures) (both.1 h))
