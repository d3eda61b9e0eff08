use Rattle.std.proofs.Common.{ap, ◌∙◌, sym}
use Rattle.std.specs.List.{flat_map}
use Rattle.td_task.proofs.CutLists.{all_of_cut}
use Rattle.td_task.proofs.keyed.Lists.all.Goals as goal

pub returns : goal.returns
returns g c =
    c.as_slice.ensures.value ∙ sym (all_of_cut 0 c.self.inside.ends.items c.self.inside.all.items c.self.invariant) ∙ ap (λ v. flat_map (λ list. list) v.lists) c.self.view_is
