use Rattle.std.proofs.Common.{◌≡◌, ◌++◌, ◌∷◌, [], refl, ap, sym, ◌∙◌, length, append_assoc, arith}
use Rattle.td_stamp.specs.States.{same_entry}
use Rattle.td_stamp.proofs.SameMembers.{entries_decide, next_is, next_is_not, after_same, as_long}
use Rattle.td_stamp.proofs.Listed.{all_listed, listed_at_item}
use Rattle.td_stamp.proofs.ordered.OrderedStates.are.Goals as goal

pub loop-own-preserved : goal.loop-own-preserved
loop-own-preserved c =
    let yielded = c.loop-own.yielded in
    let rest = c.next-in-loop-own.new.self in
    c.loop-own.invariant
    ∙ ap (λ l. yielded ++ l)
    (next_is same_entry entries_decide c.next-in-loop-own.result c.loop-own.others rest c.in-Some.own
    c.next-in-loop-own.ensures.steps (sym c.ne.ensures ∙ c.if-ne.false))
    ∙ sym (append_assoc yielded (c.in-Some.own ∷ []) rest)

pub returns-then-ne : goal.returns-then-ne
returns-then-ne c = (
  λ h. cc,
  λ e.
      let here : c.args.self.now ≡ c.loop-own.yielded ++ c.in-Some.own ∷ c.next.new.self =
      listed_at_item c.args.self.now c.loop-own.yielded c.into_iter-own-iterator.result c.loop-own.own-iterator c.next.new.self c.next.result c.in-Some.own
      (c.into_iter-own-iterator.ensures.into_iter_gives ∙ c.list-own-items.ensures.all) c.loop-own.yielded_by c.in-Some.ensures.steps in
      let there = after_same c.loop-own.yielded c.loop-own.others (c.in-Some.own ∷ c.next.new.self) (sym c.loop-own.invariant ∙ sym e ∙ here) in
      absurd (next_is_not same_entry entries_decide c.next-in-loop-own.result c.loop-own.others c.next-in-loop-own.new.self
      c.next.new.self c.in-Some.own c.next-in-loop-own.ensures.steps (sym c.ne.ensures ∙ c.if-ne.true) there),
)

pub returns : goal.returns
returns c =
    let yielded = c.loop-own.yielded in
    let own : yielded ≡ c.args.self.now =
    all_listed c.args.self.now yielded c.into_iter-own-iterator.result c.loop-own.own-iterator (c.into_iter-own-iterator.ensures.into_iter_gives ∙ c.list-own-items.ensures.all)
    c.loop-own.yielded_by c.in-None.ensures.steps.0 in
    let long : length yielded ≡ length c.args.other.now = ap length own ∙ omega (arith, c.len.ensures, c.len-2.ensures, c.if-len.false) in
    (λ h. sym own ∙ as_long c.args.other.now yielded c.loop-own.others c.loop-own.invariant long, λ e. refl)
