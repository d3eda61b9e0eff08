use Rattle.std.proofs.Common.{◌≡◌, ◌++◌, ◌∷◌, [], List, refl, ap, sym, ◌∙◌, true, false, length, length-append, append_assoc, append-nil, arith}
use Rattle.td_stamp.proofs.SameMembers.{members_decide, told_by, next_is, next_is_not, after_same, as_long}
use Rattle.td_stamp.proofs.Listed.{all_listed, listed_at_item}
use Rattle.td_stamp.proofs.equal.BagPartialEq.eq.Goals as goal

pub loop-mine-preserved : goal.loop-mine-preserved
loop-mine-preserved g c =
    let yielded = c.loop-mine.yielded in
    let rest = c.next-in-loop-mine.new.self in
    c.loop-mine.invariant
    ∙ ap (λ l. yielded ++ l)
    (next_is g.T.PartialEq.eq (members_decide g.T.Ord.cmp g.met.T.Ord.total g.met.T.Member.told_apart g.T.PartialEq.eq g.met.T.Ord.matches_eq) c.next-in-loop-mine.result c.loop-mine.theirs rest c.in-Some.mine
    c.next-in-loop-mine.ensures.steps (sym c.ne.ensures ∙ c.if-ne.false))
    ∙ sym (append_assoc yielded (c.in-Some.mine ∷ []) rest)

pub returns-then-ne-clause-same : goal.returns-then-ne-clause-same
returns-then-ne-clause-same g c = (
  λ h. cc,
  λ e.
      let here : c.args.self.now ≡ c.loop-mine.yielded ++ c.in-Some.mine ∷ c.next.new.self =
      listed_at_item c.args.self.now c.loop-mine.yielded c.into_iter-mine-iterator.result c.loop-mine.mine-iterator c.next.new.self c.next.result c.in-Some.mine
      (c.into_iter-mine-iterator.ensures.into_iter_gives ∙ c.list-mine-items.ensures.all) c.loop-mine.yielded_by c.in-Some.ensures.steps in
      let there = after_same c.loop-mine.yielded c.loop-mine.theirs (c.in-Some.mine ∷ c.next.new.self) (sym c.loop-mine.invariant ∙ sym e ∙ here) in
      absurd (next_is_not g.T.PartialEq.eq (members_decide g.T.Ord.cmp g.met.T.Ord.total g.met.T.Member.told_apart g.T.PartialEq.eq g.met.T.Ord.matches_eq) c.next-in-loop-mine.result c.loop-mine.theirs c.next-in-loop-mine.new.self
      c.next.new.self c.in-Some.mine c.next-in-loop-mine.ensures.steps (sym c.ne.ensures ∙ c.if-ne.true) there),
)

pub returns-then-ne-clause-gives : goal.returns-then-ne-clause-gives
returns-then-ne-clause-gives g c =
    told_by g.T.PartialEq.eq (members_decide g.T.Ord.cmp g.met.T.Ord.total g.met.T.Member.told_apart g.T.PartialEq.eq g.met.T.Ord.matches_eq) false c.args.self.now c.args.other.now (returns-then-ne-clause-same g c)

pub returns-clause-same : goal.returns-clause-same
returns-clause-same g c =
    let yielded = c.loop-mine.yielded in
    let mine : yielded ≡ c.args.self.now =
    all_listed c.args.self.now yielded c.into_iter-mine-iterator.result c.loop-mine.mine-iterator (c.into_iter-mine-iterator.ensures.into_iter_gives ∙ c.list-mine-items.ensures.all)
    c.loop-mine.yielded_by c.in-None.ensures.steps.0 in
    let long : length yielded ≡ length c.args.other.now = ap length mine ∙ omega (arith, c.len.ensures, c.len-2.ensures, c.if-len.false) in
    (λ h. sym mine ∙ as_long c.args.other.now yielded c.loop-mine.theirs c.loop-mine.invariant long, λ e. refl)

pub returns-clause-gives : goal.returns-clause-gives
returns-clause-gives g c =
    told_by g.T.PartialEq.eq (members_decide g.T.Ord.cmp g.met.T.Ord.total g.met.T.Member.told_apart g.T.PartialEq.eq g.met.T.Ord.matches_eq) true c.args.self.now c.args.other.now (returns-clause-same g c)
