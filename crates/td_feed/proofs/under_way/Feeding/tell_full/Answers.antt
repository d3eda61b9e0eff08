use Rattle.std.proofs.Common.{◌≡◌, refl, ap}
use Rattle.td_feed.proofs.Held.{base_itself, keeps_same}
use Rattle.td_feed.proofs.Lines.{no_device_if}
use Rattle.td_feed.proofs.Sessions.{disk_same, fed_full}
use Rattle.td_feed.proofs.Stepping.{steps_nothing}
use Rattle.td_feed.proofs.under_way.Feeding.tell_full.Goals as goal

pub returns-then-is_none-clause-steps : goal.returns-then-is_none-clause-steps
returns-then-is_none-clause-steps g c = steps_nothing (g.W.Sink.contents c.args.self.now.writer) c.requires.whole

pub returns-clause-steps : goal.returns-clause-steps
returns-clause-steps g c = record {
  disk = disk_same c.say_full.result refl (no_device_if c.say_full.result (c.say_full.new.writer ≡ c.args.self.now.writer) c.say_full.ensures.unsaid);
  fed = fed_full c.say_full.result c.last_epoch-last.result c.requires.whole c.say_full.ensures.said c.say_full.ensures.unsaid (λ same. ap g.W.Sink.contents same);
  held = keeps_same c.args.seen (base_itself (g.E.Obey.keeping c.args.self.now.engine));
  fault = c.say_full.ensures.fault;
}
