use Rattle.std.proofs.Common.{arith, ◌+◌, ◌++◌, length, ap, ◌∙◌}
use Rattle.td_shard.proofs.Together.{StaysKept, stays_kept, posted_messages, ascend_on, run_from, run_below, run_messages, length-run}
use Rattle.td_shard.proofs.mailbox.Mailbox.post_run.Goals as goal

pub invariant_of-self : goal.invariant_of-self
invariant_of-self c =
    let was = c.self.invariant in
    let n = c.self.inside.next in
    let k = c.args.lane in
    let rs = c.args.recs.now in
    let now : StaysKept (n + length rs) (c.self.inside.len + length rs) c.put.new.runs =
    stays_kept n (length rs) c.self.inside.len (length rs) _ c.self.inside.runs c.put.new.runs c.put.ensures.appended was.front was.len was.counted was.numbers was.next (run_from k n rs) (ascend_on k n rs) (length-run k n rs) (omega arith)
    (omega (arith, c.requires.room, ap (λ m. m.room) c.self.view_is)) c.put.ensures.room in
    record {
      linked = c.put.ensures.linked;
      lasts = c.put.ensures.lasts;
      front = now.front;
      len = now.len;
      lasts_room = omega (arith, was.lasts_room, c.put.ensures.spare, c.put.ensures.runs, c.requires.runs, ap (λ m. m.runs) c.self.view_is);
      counted = now.counted;
      numbers = now.numbers;
      next = now.next;
    }

pub returns-clause-messages : goal.returns-clause-messages
returns-clause-messages c =
    let was = c.self.invariant in
    let n = c.self.inside.next in
    let k = c.args.lane in
    let rs = c.args.recs.now in
    posted_messages n (length rs) _ c.self.inside.runs c.put.new.runs was.numbers c.put.ensures.appended (run_from k n rs) (run_below k n rs)
    ∙ ((λ i. (ap (λ m. m.messages) c.self.view_is) i ++ run_messages k n rs i))
