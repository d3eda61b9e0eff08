use Rattle.std.proofs.Common.{◌≡◌, ◌++◌, ◌∷◌, [], List, map, take, ap, ◌∙◌, arith}
use Rattle.std.specs.Prelude.{Option}
use Rattle.td_stamp.specs.declared.values.Rec.{Rec}
use Rattle.td_stamp.specs.declared.values.State.{State}
use Rattle.td_plan.specs.declared.vertex.Kind.TheVariants.{Fold}
use Rattle.td_calls.specs.Callbacks.{on_notification}
use Rattle.td_machine.specs.State.{KeyItems}
use Rattle.td_task.specs.KeyAts.{key_items}
use Rattle.td_task.proofs.OneMore.{one_more_at}
use Rattle.td_task.proofs.run.run_fold.Goals as goal

pub loop-index-preserved : goal.loop-index-preserved
loop-index-preserved g c =
    let sends : KeyItems → List Rec = λ k. (on_notification g.L.Law.answers (Fold c.args.code) k.key k.state k.items).1 in
    let keeps : KeyItems → Option State = λ k. (on_notification g.L.Law.answers (Fold c.args.code) k.key k.state k.items).0 in
    let keys : List KeyItems = c.args.items.now in
    let i = c.loop-index.index in
    let at = key_items c.at-at.result in
    let sent : c.as_slice.result.now ≡ sends at = c.as_slice.ensures.value ∙ ap (λ (p : Option State × List Rec). p.1) c.in-Some.ensures.law in
    let kept : c.in-Some.state ≡ keeps at = ap (λ (p : Option State × List Rec). p.0) c.in-Some.ensures.law in
    record {
      sent = c.put.ensures.lists ∙ ap (λ l. l ++ c.as_slice.result.now ∷ []) c.loop-index.invariant.sent ∙ ap (λ s. map sends (take i keys) ++ s ∷ []) sent
          ∙ one_more_at sends keys i at c.at-at.ensures;
      states = c.push_reserved.ensures.items ∙ ap (λ l. l ++ c.in-Some.state ∷ []) c.loop-index.invariant.states ∙ ap (λ s. map keeps (take i keys) ++ s ∷ []) kept
          ∙ one_more_at keeps keys i at c.at-at.ensures;
      lists = omega (arith, c.loop-index.invariant.lists, c.put.ensures.more_lists);
      records = omega (arith, c.loop-index.invariant.records, c.put.ensures.more_members, c.as_slice.ensures.fits);
      kept = omega (arith, c.loop-index.invariant.kept, c.push_reserved.ensures.len);
      capacity = omega (arith, c.loop-index.invariant.capacity, c.push_reserved.ensures.capacity);
    }
