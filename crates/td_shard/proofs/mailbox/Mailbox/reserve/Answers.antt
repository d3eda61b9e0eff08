use Rattle.std.proofs.Common.{arith, Result, Ok, Err, sym, ◌∙◌, subst}
use Rattle.std.specs.Result.{OnOk, OnErr}
use Rattle.td_shard.specs.Runs.{Parts}
use Rattle.td_shard.specs.Kept.{IsMailbox}
use Rattle.td_shard.proofs.mailbox.Mailbox.reserve.Goals as goal

-- what holds whether there was memory or not
either : {T E P Q G : Type 0} (r : Result T E) → OnOk r P → OnErr r Q → (P → G) → (Q → G) → G
either (Ok x) p q f g = f p
either (Err e) p q f g = g q

pub invariant_of-self-2 : goal.invariant_of-self-2
invariant_of-self-2 c =
    let was = c.self.invariant in
    let m = c.self.inside in
    let map = c.in_ok-reserve.ensures in
    let kept = λ (v : Parts). IsMailbox (record { runs = v; lasts = c.reserve.new.self; len = m.len; next = m.next; alloc = m.alloc }) in
    either c.reserve-2.result c.reserve-2.ensures.ok c.reserve-2.ensures.err
    (λ e. subst kept (sym e) (record {
      linked = was.linked;
      lasts = λ q. map.entries.2 q ∙ was.lasts q;
      front = was.front;
      len = was.len;
      lasts_room = omega (arith, was.lasts_room, map.spare, map.ok);
      counted = omega (arith, was.len, was.counted);
      numbers = was.numbers;
      next = omega (arith, was.next);
    }))
    (λ e. subst kept (sym e) (record {
      linked = was.linked;
      lasts = λ q. map.entries.2 q ∙ was.lasts q;
      front = was.front;
      len = was.len;
      lasts_room = omega (arith, was.lasts_room, map.spare);
      counted = was.counted;
      numbers = was.numbers;
      next = was.next;
    }))
