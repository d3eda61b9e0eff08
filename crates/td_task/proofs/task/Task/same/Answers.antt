use Rattle.std.proofs.Common.{◌≡◌, ap, sym, ◌∙◌, arith, true}
use Rattle.std.proofs.lemmas.Grind.{common_steps}
use Rattle.td_machine.specs.State.{Task as TaskOut}
use Rattle.td_task.specs.Contents.{content_of}
use Rattle.td_task.proofs.task.Task.same.Goals as goal

pub returns : goal.returns
returns c =
    let number : c.self.inside.number ≡ c.other.inside.number = grind (arith, common_steps) in
    let shard : c.self.inside.shard ≡ c.other.inside.shard = grind (arith, common_steps) in
    let vertex : c.self.inside.vertex ≡ c.other.inside.vertex = grind (arith, common_steps) in
    let kind : c.self.inside.kind ≡ c.other.inside.kind = grind (arith, common_steps) in
    let tested : c.same_time.result ≡ true = grind (arith, common_steps) in
    let own = c.deref.ensures in
    let others = c.deref-2.ensures in
    let time : c.self.inside.time ≡ c.other.inside.time = c.same_time.ensures.0 tested in (
      λ h.
          let content = sym (ap content_of own) ∙ c.same.ensures.0 h ∙ ap content_of others in
          sym c.self.view_is
          ∙ (λ i. record { shard = shard i; number = number i; vertex = vertex i; kind = kind i; time = time i; content = content i })
          ∙ c.other.view_is,
      λ e. c.same.ensures.1 (ap content_of own ∙ ap (λ (t : TaskOut). t.content) (c.self.view_is ∙ e ∙ sym c.other.view_is) ∙ sym (ap content_of others)),
    )
