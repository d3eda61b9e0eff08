use Rattle.std.proofs.Common.{ℕ, ◌∙◌, List, length, take, drop, ap, arith}
use Rattle.td_disk.specs.Disk.{bytes_at}
use Rattle.td_disk.proofs.Blocks.{in_block, in_turn}
use Rattle.td_disk.proofs.ahead.ReadAheadDisk.read.Goals as goal

pub returns-in-Some-clause-read : goal.returns-in-Some-clause-read
returns-in-Some-clause-read g c lawful =
    let kept = c.look_ahead.new.self in
    let n = length c.args.bytes.now in
    c.copy_from_slice.ensures.after ∙ (ap (λ (k : ℕ). take k (drop c.in-Some.first c.deref.result.now)) (omega arith)
    ∙ (ap (λ (l : List ℕ). take n (drop c.in-Some.first l)) c.deref.ensures.value
    ∙ (in_block (g.D.Disk.view kept.inner).state.bytes kept.block.items kept.start c.in-Some.first c.args.at n (kept.current (c.look_ahead.ensures.lawful.0 lawful)) c.in-Some.ensures.0 c.in-Some.ensures.1
    ∙ ap (bytes_at c.args.at n) (c.look_ahead.ensures.same lawful))))

pub returns-then-is_err-clause-time : goal.returns-then-is_err-clause-time
returns-then-is_err-clause-time g c lawful = in_turn (g.D.Disk.view c.args.self.now.inner).state (g.D.Disk.view c.look_ahead.new.self.inner).state (g.D.Disk.view c.read-answer.new.self).state
    (λ t x le image. g.met.D.Disk.counts_now c.args.self.now.inner t x lawful le image) (c.look_ahead.ensures.images lawful) (c.look_ahead.ensures.time lawful)
    (c.read-answer.ensures.time (c.look_ahead.ensures.lawful.0 lawful))

pub returns-else-is_err-clause-time : goal.returns-else-is_err-clause-time
returns-else-is_err-clause-time g c lawful = in_turn (g.D.Disk.view c.args.self.now.inner).state (g.D.Disk.view c.look_ahead.new.self.inner).state (g.D.Disk.view c.read-answer.new.self).state
    (λ t x le image. g.met.D.Disk.counts_now c.args.self.now.inner t x lawful le image) (c.look_ahead.ensures.images lawful) (c.look_ahead.ensures.time lawful)
    (c.read-answer.ensures.time (c.look_ahead.ensures.lawful.0 lawful))
