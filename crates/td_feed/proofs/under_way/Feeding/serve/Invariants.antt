use Rattle.std.proofs.Common.{◌≡◌, true, None}
use Rattle.td_feed.specs.Held.{seen_at, told_seen}
use Rattle.td_feed.specs.Session.{KeepsDisk}
use Rattle.td_feed.specs.Served.{script_at}
use Rattle.td_feed.specs.Stepping.{KeepsPace}
use Rattle.td_feed.proofs.Obeyed.{HasObeyed}
use Rattle.td_feed.proofs.Sessions.{done}
use Rattle.td_feed.proofs.under_way.Feeding.serve.Given as goal

-- the keeper has gone on with what the orders so far submit, the disk is kept, the host is told what was seen, no cut is due, and what is left has no longer a
-- line than the whole
abbrev pub invariant-loop-asked : goal.invariant-loop-asked
invariant-loop-asked g l = record {
  obeyed : HasObeyed g.D.Disk.view g.L.Law.answers g.W.Voice.marks g.H.New.Disk.view (script_at g.S.Asking.script (g.E.Obey.keeping l.fn.self.engine) l.fn.orders) (script_at g.S.Asking.script (g.E.Obey.keeping l.self.engine) l.orders) (g.W.Sink.contents l.fn.self.writer) (g.W.Sink.contents l.self.writer) (g.H.Host.copies l.fn.host) (g.H.Host.copies l.host) (g.E.Obey.keeping l.fn.self.engine) (g.E.Obey.keeping l.self.engine)
      (seen_at l.fn.pace (g.E.Obey.keeping l.fn.self.engine).standing.epoch) l.seen;
  disk : KeepsDisk g.D.Disk.view done (g.E.Obey.keeping l.fn.self.engine).device (g.E.Obey.keeping l.self.engine).device;
  told : g.H.Host.seen l.host ≡ told_seen (g.H.Host.seen l.fn.host) l.seen;
  unheld : seen_at l.fn.pace (g.E.Obey.keeping l.fn.self.engine).standing.epoch ≡ None → l.seen ≡ None;
  in_time : g.E.Obey.alone ≡ true → KeepsPace l.fn.pace l.seen (g.E.Obey.keeping l.self.engine);
  overlong : g.S.Asking.overlong l.orders ≡ true → g.S.Asking.overlong l.fn.orders ≡ true;
}
