use Rattle.std.proofs.Common.{◌≡◌, ◌++◌, [], ap, sym, ◌∙◌, subst, append-nil, inr, arith, length}
use Rattle.std.specs.List.Sorted.{IsPermutation}
use Rattle.td_stamp.specs.Bag.{IsBag, bag_of, members}
use Rattle.td_stamp.proofs.Bags.{bag_of-IsBag}
use Rattle.td_stamp.proofs.Sorted.{sorted_is_bag, bag_of-both}
use Rattle.td_stamp.proofs.bag.Bag.merged.Goals as goal

pub invariant_of-result : goal.invariant_of-result
invariant_of-result g c =
    let cmp = g.T.Ord.cmp in
    let listed = c.append-2.new.list.items in
    let made : c.sort.new.self.items ≡ bag_of cmp listed =
    sorted_is_bag cmp g.met.T.Ord.total g.met.T.Member.told_apart listed c.sort.new.self.items c.sort.ensures.permutation c.in_ok-sort.ensures.sorted in
    let none : members c.new.result.entries ≡ [] = ap members c.new.ensures.empty in (
      omega (arith, c.len-len.ensures, c.sort.new.self.ok, ap length none),
      inr none,
      subst (IsBag cmp) (sym made) (bag_of-IsBag cmp g.met.T.Ord.total g.met.T.Member.told_apart listed),
    )

pub returns : goal.returns
returns g c =
    let cmp = g.T.Ord.cmp in
    let mine = c.args.self.now in
    let others = c.args.other.now in
    let both : c.append-2.new.list.items ≡ mine ++ others = c.in_ok-append-2.ensures.all ∙ ap (λ l. l ++ others) (c.in_ok-append.ensures.all ∙ ap (λ l. l ++ mine) c.new-in_order.ensures.items) in
    ap (λ l. c.sort.new.self.items ++ members l) c.new.ensures.empty ∙ append-nil c.sort.new.self.items
    ∙ sorted_is_bag cmp g.met.T.Ord.total g.met.T.Member.told_apart (mine ++ others) c.sort.new.self.items
    (subst (λ l. IsPermutation l c.sort.new.self.items) both c.sort.ensures.permutation) c.in_ok-sort.ensures.sorted
    ∙ bag_of-both cmp g.met.T.Ord.total g.met.T.Member.told_apart mine others c.in_ok-append.ensures.sorted c.in_ok-append-2.ensures.sorted
