use Rattle.std.proofs.Common.{arith, ◌+◌, sym, ap, ◌∙◌, subst}
use Rattle.std.specs.Option.{option_map}
use Rattle.td_shard.specs.Runs.{Parts, lane_eq, last_on, AreLinked, AreNumbered, all_of}
use Rattle.td_shard.proofs.Lanes.{lane_equiv}
use Rattle.td_shard.proofs.Dropped.{linked-rest, messages-rest, numbered-rest, numbers}
use Rattle.td_shard.proofs.TakenUp.{nothing}
use Rattle.td_shard.proofs.take.let_go.Goals as goal

pub loop-runs-preserved : goal.loop-runs-preserved
loop-runs-preserved c =
    let was = c.loop-runs.invariant in
    let now = c.drop_front.ensures in
    let ps = c.loop-runs.runs.parts in
    let some = c.front_is_taken.ensures.some c.loop-runs-test.true in
    let taken = c.front_is_taken.ensures.taken c.loop-runs-test.true in
    record {
      linked = subst (AreLinked lane_eq) (sym (ap (λ (v : Parts). v.parts) now.runs)) (linked-rest lane_eq ps was.linked);
      lasts = λ q. numbers lane_eq lane_equiv c.loop-runs.runs.first q ps nothing _ _ was.linked some (was.lasts q) (now.lasts nothing q)
          ∙ ap (λ (v : Parts). option_map (λ i. v.first + i) (last_on lane_eq q v.parts)) (sym now.runs);
      messages = ap (λ (v : Parts). all_of v.parts) now.runs ∙ (messages-rest ps nothing some (taken nothing) ∙ was.messages);
      numbered = λ next is. subst (AreNumbered next) (sym (ap (λ (v : Parts). v.parts) now.runs)) (numbered-rest next ps nothing some (taken nothing) (was.numbered next is));
      runs = ap (λ (v : Parts). v.runs) now.runs ∙ was.runs;
      room = ap (λ (v : Parts). v.room) now.runs ∙ was.room;
      spare = omega (arith, was.spare, now.spare);
    }
