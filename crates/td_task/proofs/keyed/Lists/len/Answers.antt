use Rattle.std.proofs.Common.{◌≡◌, ap, ◌∙◌, sym, length, arith}
use Rattle.std.proofs.lemmas.Grind.{common_steps}
use Rattle.td_task.proofs.CutLists.{length-cut}
use Rattle.td_task.proofs.keyed.Lists.len.Goals as goal

pub returns : goal.returns
returns g c =
    let same : length c.self.inside.ends.items ≡ length c.args.self.now.lists =
    sym (length-cut 0 c.self.inside.ends.items c.self.inside.all.items) ∙ ap (λ v. length v.lists) c.self.view_is in
    grind (arith, common_steps, same)
