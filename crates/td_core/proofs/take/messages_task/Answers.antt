use Rattle.std.proofs.Common.{ap, sym, ◌∙◌}
use Rattle.td_task.specs.Contents.{content_of}
use Rattle.td_machine.specs.Active.{kind_of}
use Rattle.td_machine.specs.Steps.{coming}
use Rattle.td_core.proofs.take.messages_task.Goals as goal

pub returns-clause-ok : goal.returns-clause-ok
returns-clause-ok c =
    let made = c.new-2.ensures in
    let t = c.in_ok-taken.taken in
    record {
      shard_is = ap (λ x. x.shard) made;
      number = ap (λ x. x.number) made;
      kind = ap (λ x. x.kind) made ∙ (c.kind-kind.ensures ∙ (c.requires.routes.kind t.vertex ∙ sym (ap (λ x. kind_of c.args.parts.now.table.plan x.vertex) made)));
      content = (
        t.port,
        t.recs.items,
        ap (λ x. x.content) made ∙ ap content_of c.in_ok-work.ensures.ok,
        (λ i. coming (made i).vertex t.port (made i).time t.recs.items) ∙ c.in_ok-taken.ensures,
      );
    }
