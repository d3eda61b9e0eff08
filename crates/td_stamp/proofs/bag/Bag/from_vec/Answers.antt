use Rattle.std.proofs.Common.{◌≡◌, ◌++◌, [], List, ℕ, ap, sym, ◌∙◌, subst, append-nil, inr, arith, length, take, drop}
use Rattle.std.proofs.lemmas.List.{take_at}
use Rattle.td_stamp.specs.Bag.{IsBag, bag_of, members}
use Rattle.td_stamp.proofs.Bags.{bag_of-IsBag}
use Rattle.td_stamp.proofs.bag.Bag.from_vec.Goals as goal

-- what a slice of a whole list leaves there
written : {X : Type 0} (n : ℕ) (xs all : List X) → length xs ≡ n → take n (xs ++ drop (length xs) all) ≡ xs
written n xs all long = take_at xs (drop (length xs) all) n long

pub invariant_of-result : goal.invariant_of-result
invariant_of-result g c =
    let cmp = g.T.Ord.cmp in
    let n = c.args.members.len in
    let long : length c.sort.new.members ≡ n = omega (arith, c.sort.auto.members, c.as_mut_slice.ensures.len, c.args.members.ok) in
    let made = written n c.sort.new.members c.args.members.items long ∙ c.sort.ensures ∙ ap (bag_of cmp) c.as_mut_slice.ensures.value in
    let none : members c.new.result.entries ≡ [] = ap members c.new.ensures.empty in (
      omega (arith, c.len-len.ensures, ap length (written n c.sort.new.members c.args.members.items long), long, ap length none),
      inr none,
      subst (IsBag cmp) (sym made) (bag_of-IsBag cmp g.met.T.Ord.total g.met.T.Member.told_apart c.args.members.items),
    )

pub returns : goal.returns
returns g c =
    let cmp = g.T.Ord.cmp in
    let n = c.args.members.len in
    let long : length c.sort.new.members ≡ n = omega (arith, c.sort.auto.members, c.as_mut_slice.ensures.len, c.args.members.ok) in
    let made = written n c.sort.new.members c.args.members.items long ∙ c.sort.ensures ∙ ap (bag_of cmp) c.as_mut_slice.ensures.value in
    ap (λ l. take n (c.sort.new.members ++ drop (length c.sort.new.members) c.args.members.items) ++ members l) c.new.ensures.empty
    ∙ append-nil (take n (c.sort.new.members ++ drop (length c.sort.new.members) c.args.members.items)) ∙ made
