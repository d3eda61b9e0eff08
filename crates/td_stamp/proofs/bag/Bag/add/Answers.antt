use Rattle.std.proofs.Common.{◌≡◌, ◌++◌, ◌∷◌, [], List, ap, ◌∙◌, sym, subst, refl, arith, length, length-append, inl, inr}
use Rattle.td_stamp.specs.Bag.{bag_insert, IsBag, members}
use Rattle.td_stamp.proofs.Bags.{length-bag_insert, join-IsBag}
use Rattle.td_stamp.proofs.bag.Bag.add.Goals as goal
use Rattle.td_stamp.proofs.bag.Bag.add.Goals.{then-len-self+then-belongs_last+in_ok-push, else-len-self+in_ok-count_in+in_ok-count_one}

empty : {X : Type 0} (xs : List X) → length xs ≡ 0 → xs ≡ []
empty [] e = refl
empty (x ∷ xs) e = absurd (omega (arith, e))

pub invariant_of-self-2 : goal.invariant_of-self-2
invariant_of-self-2 g c =
    let cmp = g.T.Ord.cmp in
    let listed = c.self.inside.in_order.items in
    let counted = members c.self.inside.counts.entries in
    let k = c.args.member in
    elim c.if-len-self.branch [
      | then-len-self+then-belongs_last+in_ok-push w ↦
          let none : counted ≡ [] = empty counted (omega (arith, w.if-len-self.true, c.len.ensures, c.self.inside.in_order.ok.0, c.self.invariant.0)) in
          let pushed : w.push.new.self.items ≡ bag_insert cmp k listed = w.in_ok-push.ensures.items ∙ sym (subst (λ l. bag_insert cmp k l ≡ l ++ k ∷ []) w.as_slice.ensures.value (w.if-belongs_last.ensures refl)) in
          rw w.self-inside-is (
            omega (arith, c.in-Some.ensures, c.self.invariant.0, ap length pushed, length-bag_insert cmp k listed),
            inr none,
            subst (IsBag cmp) (sym pushed) (join-IsBag cmp g.met.T.Ord.total g.met.T.Member.told_apart (k ∷ []) listed c.self.invariant.2),
          )
      | else-len-self+in_ok-count_in+in_ok-count_one w ↦
          let none : w.count_in.new.in_order.items ≡ [] = w.in_ok-count_in.ensures.ok in
          let all : members w.count_one.new.counts.entries ≡ bag_insert cmp k (listed ++ counted) = w.in_ok-count_one.ensures.ok ∙ ap (bag_insert cmp k) w.in_ok-count_in.ensures.all in
          rw w.self-inside-is (
            omega (arith, c.in-Some.ensures, c.self.invariant.0, ap length none, ap length all, length-bag_insert cmp k (listed ++ counted), length-append listed counted),
            inl none,
            subst (IsBag cmp) (sym none) refl,
          )
    ]
