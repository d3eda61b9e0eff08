use Rattle.std.proofs.Common.{◌≡◌, ◌++◌, ◌∷◌, [], ◌+◌, ◌-◌, suc, set, ap, ◌∙◌, sym, subst, length, arith}
use Rattle.std.proofs.lemmas.Grind.{common_steps}
use Rattle.td_task.specs.Cuts.{cut, with_last, EndsAt}
use Rattle.td_task.proofs.CutLists.{cut-longer, EndsAt-longer, length-cut}
use Rattle.td_task.proofs.keyed.Lists.put_into_last.Goals as goal

pub invariant_of-self : goal.invariant_of-self
invariant_of-self g c =
    let all = c.self.inside.all.items in
    let ends = c.self.inside.ends.items in
    let some : length ends ≡ length c.args.self.now.lists = sym (length-cut 0 ends all) ∙ ap (λ v. length v.lists) c.self.view_is in
    let last : suc (c.len-last.result - 1) ≡ length ends = grind (arith, common_steps, some) in
    let size : c.len.result ≡ length all + 1 = grind (arith, common_steps) in
    let more : length c.push_reserved.new.self.items ≡ length all + 1 = grind (arith, common_steps) in
    subst (EndsAt 0 (set ends (c.len-last.result - 1) c.len.result)) (sym more)
    (subst (λ n. EndsAt 0 (set ends (c.len-last.result - 1) n) (length all + 1)) (sym size) (EndsAt-longer 0 (length all) (c.len-last.result - 1) ends last c.self.invariant))

pub returns-clause-lists : goal.returns-clause-lists
returns-clause-lists g c =
    let all = c.self.inside.all.items in
    let ends = c.self.inside.ends.items in
    let some : length ends ≡ length c.args.self.now.lists = sym (length-cut 0 ends all) ∙ ap (λ v. length v.lists) c.self.view_is in
    let last : suc (c.len-last.result - 1) ≡ length ends = grind (arith, common_steps, some) in
    let size : c.len.result ≡ length all + 1 = grind (arith, common_steps) in
    let more : c.push_reserved.new.self.items ≡ all ++ c.args.member ∷ [] = c.push_reserved.ensures.items in
    ap (λ n. cut 0 (set ends (c.len-last.result - 1) n) c.push_reserved.new.self.items) size
    ∙ ap (cut 0 (set ends (c.len-last.result - 1) (length all + 1))) more
    ∙ cut-longer 0 (c.len-last.result - 1) ends all c.args.member last c.self.invariant
    ∙ ap (λ v. with_last v.lists c.args.member) c.self.view_is
