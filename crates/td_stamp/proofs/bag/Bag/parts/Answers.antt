use Rattle.std.proofs.Common.{◌++◌, subst, ap, sym, ◌∙◌, append-nil, ⊎_elim}
use Rattle.td_stamp.specs.Bag.{IsBag, members}
use Rattle.td_stamp.proofs.Rising.{IsBag-members}
use Rattle.td_stamp.proofs.bag.Bag.parts.Goals as goal

pub returns-clause-sorted : goal.returns-clause-sorted
returns-clause-sorted g c =
    let cmp = g.T.Ord.cmp in
    let listed = c.self.inside.in_order.items in
    let counted = members c.self.inside.counts.entries in
    subst (IsBag cmp) c.self.view_is
    (⊎_elim
    (λ e. subst (IsBag cmp) (ap (λ l. l ++ counted) (sym e)) (IsBag-members cmp g.met.T.Ord.total g.met.T.Member.told_apart c.self.inside.counts.entries c.iter.ensures.ordered))
    (λ e. subst (IsBag cmp) (sym (append-nil listed) ∙ ap (λ l. listed ++ l) (sym e)) c.self.invariant.2)
    c.self.invariant.1)
