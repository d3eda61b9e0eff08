use Rattle.std.proofs.Common.{◌≡◌, ◌++◌, ◌∷◌, [], ◌+◌, ap, ◌∙◌, length, arith, length-append}
use Rattle.std.proofs.lemmas.Grind.{common_steps}
use Rattle.td_task.specs.Cuts.{cut}
use Rattle.td_task.proofs.CutLists.{cut-add, EndsAt-add}
use Rattle.td_task.proofs.keyed.Lists.put.Goals as goal

pub invariant_of-self : goal.invariant_of-self
invariant_of-self g c =
    let all = c.self.inside.all.items in
    let ends = c.self.inside.ends.items in
    let more : c.append.new.all.items ≡ all ++ c.args.members.now = c.append.ensures.items in
    let size : length c.append.new.all.items ≡ length all + length c.args.members.now = ap length more ∙ length-append all c.args.members.now in
    let ended : c.push_reserved.new.self.items ≡ ends ++ (length all + length c.args.members.now) ∷ [] = grind (arith, common_steps, size) in
    simp (ended, size) (EndsAt-add 0 (length all) (length c.args.members.now) ends c.self.invariant)

pub returns-clause-lists : goal.returns-clause-lists
returns-clause-lists g c =
    let all = c.self.inside.all.items in
    let ends = c.self.inside.ends.items in
    let more : c.append.new.all.items ≡ all ++ c.args.members.now = c.append.ensures.items in
    let size : length c.append.new.all.items ≡ length all + length c.args.members.now = ap length more ∙ length-append all c.args.members.now in
    let ended : c.push_reserved.new.self.items ≡ ends ++ (length all + length c.args.members.now) ∷ [] = grind (arith, common_steps, size) in
    ap (λ e. cut 0 e c.append.new.all.items) ended ∙ ap (cut 0 (ends ++ (length all + length c.args.members.now) ∷ [])) more
    ∙ cut-add 0 ends all c.args.members.now c.self.invariant ∙ ap (λ v. v.lists ++ c.args.members.now ∷ []) c.self.view_is
