use Rattle.std.proofs.Common.{◌≡◌, Bool, true, false, not, cond, refl, sym, ap, ◌∙◌}
use Rattle.td_stamp.specs.Orders.{rec_cmp}
use Rattle.td_stamp.specs.Bag.{bag_insert, has}
use Rattle.td_shard.proofs.Between.{key-is-has, key-inserted}
use Rattle.td_shard.proofs.seen.put_in_one.Goals as goal

not-in : (b : Bool) → true ≡ not b → b ≡ false
not-in true e = absurd (cc)
not-in false e = refl

pub returns-then-branch-clause-ok : goal.returns-then-branch-clause-ok
returns-then-branch-clause-ok c =
    let keys = c.args.set.now.keys in
    let r = c.args.rec in
    let new : has rec_cmp r keys ≡ false = sym (key-is-has rec_cmp r keys) ∙ not-in _ (sym c.if-branch.true ∙ c.in_ok-insert.ensures.added) in
    c.in_ok-insert.ensures.keys ∙ (key-inserted rec_cmp r keys new ∙ sym (ap (λ b. cond b keys (bag_insert rec_cmp r keys)) new))
