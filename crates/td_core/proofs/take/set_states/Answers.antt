use Rattle.std.proofs.Common.{◌≡◌, ◌+◌, suc, length, set, slice_get, nat_le, filter, Some, ap, sym, ◌∙◌, subst, arith}
use Rattle.td_stamp.specs.States.{state_of}
use Rattle.td_machine.specs.State.{KeyItems, with_left}
use Rattle.td_task.specs.KeyAts.{key_items}
use Rattle.td_task.specs.KeyLists.{with_state}
use Rattle.td_core.proofs.TakeLists.{first_mapped, length-first_mapped, next_mapped, all_mapped}
use Rattle.td_core.proofs.take.set_states.Goals as goal

pub at-requires : goal.at-requires
at-requires c = let many = ap length c.loop-index.invariant ∙ length-first_mapped _ c.loop-index.index c.args.items.now in omega (arith, many, c.loop-index-test.true, c.len-index-end.ensures)

pub set_state-requires : goal.set_state-requires
set_state-requires c = let many = ap length c.loop-index.invariant ∙ length-first_mapped _ c.loop-index.index c.args.items.now in omega (arith, many, c.loop-index-test.true, c.len-index-end.ensures)

pub loop-index-preserved : goal.loop-index-preserved
loop-index-preserved c =
    let f : KeyItems → KeyItems = λ k. with_state k (state_of (with_left c.args.base.now (filter (λ one. nat_le one.epoch c.args.epoch) c.args.versions.now)) c.args.vertex k.key) in
    let i = c.loop-index.index in
    let k = key_items c.at.result in
    let here : slice_get c.loop-index.items i ≡ Some k = sym c.at.ensures in
    let next : suc i ≡ i + 1 = omega arith in
    c.set_state.ensures k here
    ∙ (ap (λ st. set c.loop-index.items i (with_state k st)) c.state_at-state.ensures
    ∙ (ap (λ l. set l i (f k)) c.loop-index.invariant
    ∙ (next_mapped f i c.args.items.now k (subst (λ l. slice_get l i ≡ Some k) c.loop-index.invariant here)
    ∙ ap (λ n. first_mapped f n c.args.items.now) next)))

pub returns : goal.returns
returns c = c.loop-index.invariant ∙ all_mapped _ c.loop-index.index c.args.items.now (omega (arith, c.loop-index-test.false, c.len-index-end.ensures))
