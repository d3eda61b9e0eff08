use Rattle.std.proofs.Common.{◌≡◌, ◌++◌, List, refl, ap, ◌∙◌, subst}
use Rattle.std.specs.Prelude.{IfOk, OnOk}
use Rattle.td_stamp.specs.declared.values.Arrival.{Arrival}
use Rattle.td_stamp.specs.Orders.{arrival_cmp}
use Rattle.td_stamp.specs.Bag.{bag_of}
use Rattle.td_stamp.specs.States.{state_of}
use Rattle.td_calls.specs.Callbacks.{sends, nothing_kept}
use Rattle.td_batch.specs.Changes.{changes_by}
use Rattle.td_batch.proofs.InOrder.{changes_in_order}
use Rattle.td_batch.proofs.sent.answer_several.Goals as goal

pub returns-clause-sent : goal.returns-clause-sent
returns-clause-sent g c =
    let answers = g.L.Law.answers in
    let state = state_of (g.S.KeptStates.states c.args.states.now) c.args.vertex in
    let xs : List Arrival = c.args.arrived.items in
    let is : sends answers state c.args.kind nothing_kept c.several-arrived.result ≡ sends answers state c.args.kind nothing_kept xs =
    ap (sends answers state c.args.kind nothing_kept) (c.several-arrived.ensures.all ∙ c.from_vec-in_order.ensures)
    ∙ c.in_any_order.ensures answers state c.args.kind nothing_kept nothing_kept (bag_of arrival_cmp xs) xs (λ e r. refl) (λ e. refl) (c.bags.ensures.gives_a_bag xs) in
    subst (λ ys. IfOk c.answer.result (λ sent. sent ≡ ys)) is c.answer.ensures.sent

pub returns-clause-kept : goal.returns-clause-kept
returns-clause-kept g c =
    let answers = g.L.Law.answers in
    let state = state_of (g.S.KeptStates.states c.args.states.now) c.args.vertex in
    let xs : List Arrival = c.args.arrived.items in
    let is : changes_by answers state c.args.vertex c.args.kind c.several-arrived.result ≡ changes_by answers state c.args.vertex c.args.kind xs =
    ap (changes_by answers state c.args.vertex c.args.kind) (c.several-arrived.ensures.all ∙ c.from_vec-in_order.ensures) ∙ changes_in_order c.groups_of_a_bag.ensures answers state c.args.vertex c.args.kind xs in
    subst (λ cs. OnOk c.answer.result (c.answer.new.changes.items ≡ c.args.changes.now.items ++ cs)) is c.answer.ensures.kept
