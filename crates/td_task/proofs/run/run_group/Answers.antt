use Rattle.std.proofs.Common.{◌≡◌, ◌++◌, ◌∷◌, [], List, map, take, ap, ◌∙◌, arith}
use Rattle.td_stamp.specs.declared.values.Rec.{Rec}
use Rattle.td_plan.specs.declared.vertex.Kind.TheVariants.{Group}
use Rattle.td_calls.specs.Callbacks.{on_notification}
use Rattle.td_machine.specs.State.{KeyItems}
use Rattle.td_task.specs.KeyAts.{key_items}
use Rattle.td_task.proofs.OneMore.{one_more_at}
use Rattle.td_task.proofs.run.run_group.Goals as goal

pub loop-index-preserved : goal.loop-index-preserved
loop-index-preserved g c =
    let f : KeyItems → List Rec = λ k. (on_notification g.L.Law.answers (Group c.args.code) k.key k.state k.items).1 in
    let keys : List KeyItems = c.args.items.now in
    let i = c.loop-index.index in
    let sent : c.as_slice.result.now ≡ f (key_items c.at-at.result) = c.as_slice.ensures.value ∙ c.in-Some.ensures.law in
    record {
      sent = c.put.ensures.lists ∙ ap (λ l. l ++ c.as_slice.result.now ∷ []) c.loop-index.invariant.sent ∙ ap (λ s. map f (take i keys) ++ s ∷ []) sent
          ∙ one_more_at f keys i (key_items c.at-at.result) c.at-at.ensures;
      lists = omega (arith, c.loop-index.invariant.lists, c.put.ensures.more_lists);
      records = omega (arith, c.loop-index.invariant.records, c.put.ensures.more_members, c.as_slice.ensures.fits);
    }
