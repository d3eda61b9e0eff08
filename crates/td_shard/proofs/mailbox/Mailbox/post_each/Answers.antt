use Rattle.std.proofs.Common.{arith, ◌≡◌, ◌+◌, ◌*◌, ◌++◌, length, sym, ap, ◌∙◌, append-nil}
use Rattle.std.proofs.lemmas.Bool.{eqb-true}
use Rattle.td_shard.proofs.Together.{StaysKept, stays_kept, posted_messages, ascend_each, each_from, each_below, each_messages, length-each, no_fewer, to_none, to_one}
use Rattle.td_shard.proofs.mailbox.Mailbox.post_each.Goals as goal

pub invariant_of-self-then-not-is_empty : goal.invariant_of-self-then-not-is_empty
invariant_of-self-then-not-is_empty c =
    let was = c.self.invariant in
    let n = c.self.inside.next in
    let t = c.args.time.now in
    let rs = c.args.recs.now in
    let os = c.args.outlets.now in
    let now : StaysKept (n + length rs) (c.self.inside.len + length rs * length os) c.append_each.new.runs =
    stays_kept n (length rs) c.self.inside.len (length rs * length os) _ c.self.inside.runs c.append_each.new.runs c.append_each.ensures.appended was.front was.len was.counted was.numbers was.next
    (each_from t n n rs os (omega arith)) (ascend_each t n rs os c.requires.apart) (length-each t n rs os) (no_fewer (length rs) (length os) (sym c.is_empty-else-is_empty.ensures ∙ c.if-not-is_empty.true))
    (omega (arith, c.requires.room, ap (λ m. m.room) c.self.view_is)) c.append_each.ensures.room in
    record {
      linked = c.append_each.ensures.linked;
      lasts = c.append_each.ensures.lasts;
      front = now.front;
      len = now.len;
      lasts_room = omega (arith, was.lasts_room, c.append_each.ensures.spare, c.append_each.ensures.runs, c.requires.runs, ap (λ m. m.runs) c.self.view_is);
      counted = now.counted;
      numbers = now.numbers;
      next = now.next;
    }

pub returns-then-not-is_empty-clause-messages : goal.returns-then-not-is_empty-clause-messages
returns-then-not-is_empty-clause-messages c =
    let was = c.self.invariant in
    let n = c.self.inside.next in
    let t = c.args.time.now in
    let rs = c.args.recs.now in
    let os = c.args.outlets.now in
    posted_messages n (length rs) _ c.self.inside.runs c.append_each.new.runs was.numbers c.append_each.ensures.appended (each_from t n n rs os (omega arith)) (each_below t n (n + length rs) rs os (omega arith))
    ∙ ((λ i. (ap (λ m. m.messages) c.self.view_is) i ++ each_messages t n rs os i))

pub returns-else-not-is_empty-clause-messages : goal.returns-else-not-is_empty-clause-messages
returns-else-not-is_empty-clause-messages c =
    let none : length c.args.outlets.now ≡ 0 = eqb-true (length c.args.outlets.now) 0 (sym c.is_empty-else-is_empty.ensures ∙ c.if-not-is_empty.false) in
    sym (ap (λ l. c.args.self.now.messages ++ l) (to_none c.args.time.now c.args.recs.now c.args.outlets.now none) ∙ append-nil c.args.self.now.messages)

pub returns-then-outlets-eq1-clause-messages : goal.returns-then-outlets-eq1-clause-messages
returns-then-outlets-eq1-clause-messages c =
    c.post.ensures.messages ∙ ap (λ l. c.args.self.now.messages ++ l) (to_one c.args.outlets.now (record { number = 0; reader = 0; port = 0 }) c.args.time.now c.args.recs.now c.if-outlets-eq1.true)
