use Rattle.std.proofs.Common.{◌≡◌, suc, ◌<◌, length, ap, ◌∙◌, sym, arith}
use Rattle.std.proofs.lemmas.Grind.{common_steps}
use Rattle.td_task.specs.Cuts.{start_of}
use Rattle.td_task.proofs.CutLists.{starts_at_end}
use Rattle.td_task.proofs.keyed.start_of.Goals as goal

pub returns-in-Some : goal.returns-in-Some
returns-in-Some c =
    let next : c.args.index ≡ suc c.in-Some.before = grind (arith, common_steps) in
    let there : c.in-Some.before < length c.args.ends.now = grind (arith, common_steps, next) in
    sym (starts_at_end 0 c.in-Some.before c.args.ends.now there) ∙ ap (λ i. start_of 0 i c.args.ends.now) (sym next)
