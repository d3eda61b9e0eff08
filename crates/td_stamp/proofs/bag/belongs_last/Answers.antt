use Rattle.std.proofs.Common.{refl, ◌≡◌, ◌∙◌, ap, sym, subst, false, IsTrue}
use Rattle.std.specs.declared.cmp.Ordering.{Ordering}
use Rattle.std.specs.declared.cmp.Ordering.TheVariants.{Less, Equal, Greater}
use Rattle.std.specs.Ordering.{is_gt, is_le}
use Rattle.td_stamp.proofs.Sorted.{insert_last}
use Rattle.td_stamp.proofs.bag.belongs_last.Goals as goal

not_above : (r : Ordering) → IsTrue (is_le r) → is_gt r ≡ false
not_above Less h = refl
not_above Equal h = refl
not_above Greater h = cc

pub returns-in-Some : goal.returns-in-Some
returns-in-Some g c = λ h.
    insert_last g.T.Ord.cmp g.met.T.Ord.total g.met.T.Member.told_apart c.args.member.now c.in-Some.last.now c.args.in_order.now c.requires (sym (c.in-Some.ensures.value))
    (not_above (g.T.Ord.cmp c.in-Some.last.now c.args.member.now) (subst IsTrue (c.is_le.ensures ∙ ap is_le c.cmp.ensures) h))
