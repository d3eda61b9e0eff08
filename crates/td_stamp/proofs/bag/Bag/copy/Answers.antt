use Rattle.std.proofs.lemmas.List.Elements.{same_from_all_zip}
use Rattle.td_stamp.proofs.Counts.{members-clone}
use Rattle.td_stamp.proofs.bag.Bag.copy.Goals as goal

pub invariant_of-result : goal.invariant_of-result
invariant_of-result g c =
    let listed = same_from_all_zip g.T.Clone.is_clone c.self.inside.in_order.items c.in_ok-clone.field-0.items c.in_ok-clone.ensures.cases.0 g.met.T.Member.copies in
    let counted = members-clone g.T.Clone.is_clone g.met.T.Member.copies c.self.inside.counts.entries c.in_ok-clone-2.field-0.entries c.in_ok-clone-2.ensures.cases in
    rw (listed, counted) c.self.invariant

pub returns : goal.returns
returns g c =
    let listed = same_from_all_zip g.T.Clone.is_clone c.self.inside.in_order.items c.in_ok-clone.field-0.items c.in_ok-clone.ensures.cases.0 g.met.T.Member.copies in
    let counted = members-clone g.T.Clone.is_clone g.met.T.Member.copies c.self.inside.counts.entries c.in_ok-clone-2.field-0.entries c.in_ok-clone-2.ensures.cases in
    rw (listed, counted) c.self.view_is
