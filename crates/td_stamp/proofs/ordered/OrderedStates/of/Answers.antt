use Rattle.std.proofs.Common.{◌++◌, ◌∷◌, [], sym, ap, ◌∙◌, subst, append-nil, append_assoc}
use Rattle.td_stamp.specs.States.{AreStates}
use Rattle.td_stamp.proofs.ordered.OrderedStates.of.Goals as goal

pub loop-entry-init : goal.loop-entry-init
loop-entry-init c = (λ i. c.in_ok-entries.ensures.items i ++ c.into_iter-entry-iterator.ensures.into_iter_gives i) ∙ c.list-entry-items.ensures.all

pub loop-entry-preserved : goal.loop-entry-preserved
loop-entry-preserved c =
    let before = c.loop-entry.entries.items in
    ap (λ l. l ++ c.next.new.self) c.in_ok-push.ensures.items
    ∙ (append_assoc before (c.in-Some.entry ∷ []) c.next.new.self ∙ (ap (λ l. before ++ l) (sym c.in-Some.ensures.steps) ∙ c.loop-entry.invariant))

pub invariant_of-result : goal.invariant_of-result
invariant_of-result c =
    let all = sym (append-nil c.loop-entry.entries.items) ∙ (ap (λ l. c.loop-entry.entries.items ++ l) (sym c.in-None.ensures.steps.0) ∙ c.loop-entry.invariant) in
    subst AreStates (sym all) c.list-entry-items.ensures.ordered

pub returns : goal.returns
returns c = sym (append-nil c.loop-entry.entries.items) ∙ (ap (λ l. c.loop-entry.entries.items ++ l) (sym c.in-None.ensures.steps.0) ∙ c.loop-entry.invariant)
