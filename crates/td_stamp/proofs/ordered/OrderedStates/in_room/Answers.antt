use Rattle.std.proofs.Common.{◌++◌, ◌∷◌, [], length, sym, ap, ◌∙◌, subst, append-nil, append_assoc, arith}
use Rattle.td_stamp.specs.States.{AreStates}
use Rattle.td_stamp.proofs.ordered.OrderedStates.in_room.Goals as goal

pub loop-state-init : goal.loop-state-init
loop-state-init c =
    let given = c.into_iter-state-iterator.ensures.into_iter_gives ∙ c.list-state-items.ensures.all in
    let room = c.args.room.ok.0 in
    ((λ i. c.requires.empty i ++ given i), omega (arith, c.requires.enough, ap length given, ap length c.requires.empty, room))

pub push_reserved-requires : goal.push_reserved-requires
push_reserved-requires c = let more = ap length c.in-Some.ensures.steps in omega (arith, c.loop-state.invariant.1, more)

pub loop-state-preserved : goal.loop-state-preserved
loop-state-preserved c =
    let before = c.loop-state.entries.items in
    let more = ap length c.in-Some.ensures.steps in (
      ap (λ l. l ++ c.next.new.self) c.push_reserved.ensures.items
          ∙ (append_assoc before (c.in-Some.state ∷ []) c.next.new.self ∙ (ap (λ l. before ++ l) (sym c.in-Some.ensures.steps) ∙ c.loop-state.invariant.0)),
      omega (arith, c.loop-state.invariant.1, more, c.push_reserved.ensures.len, c.push_reserved.ensures.capacity),
    )

pub invariant_of-result : goal.invariant_of-result
invariant_of-result c =
    let all = sym (append-nil c.loop-state.entries.items) ∙ (ap (λ l. c.loop-state.entries.items ++ l) (sym c.in-None.ensures.steps.0) ∙ c.loop-state.invariant.0) in
    subst AreStates (sym all) c.list-state-items.ensures.ordered

pub returns : goal.returns
returns c = sym (append-nil c.loop-state.entries.items) ∙ (ap (λ l. c.loop-state.entries.items ++ l) (sym c.in-None.ensures.steps.0) ∙ c.loop-state.invariant.0)
