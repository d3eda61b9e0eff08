use Rattle.std.proofs.Common.{◌≡◌, true, [], length}
use Rattle.std.specs.Prelude.{string_bytes}
use Rattle.td_feed.specs.Carried.{Carries}
use Rattle.td_feed.specs.Held.{SameBase}
use Rattle.td_feed.proofs.Lines.{Holding}
use Rattle.td_feed.proofs.under_way.Feeding.write_outs.Given as goal

-- the keeper has gone on, with nothing submitted, and the lines of its replies are written or held
abbrev pub invariant-loop-out : goal.invariant-loop-out
invariant-loop-out g l = record {
  said : Holding g.D.Disk.view g.L.Law.answers g.W.Voice.marks (g.W.Sink.contents l.fn.self.writer) (g.W.Sink.contents l.self.writer) (g.E.Obey.keeping l.fn.self.engine) (g.E.Obey.keeping l.self.engine) (string_bytes l.text);
  carried : Carries g.L.Law.answers (g.E.Obey.keeping l.fn.self.engine) (g.E.Obey.keeping l.self.engine) [];
  device : (g.E.Obey.keeping l.self.engine).device ≡ (g.E.Obey.keeping l.fn.self.engine).device;
  stands : (g.E.Obey.keeping l.self.engine).standing ≡ (g.E.Obey.keeping l.fn.self.engine).standing;
  collected : (g.E.Obey.keeping l.self.engine).collected ≡ (g.E.Obey.keeping l.fn.self.engine).collected;
  base : SameBase (g.E.Obey.keeping l.fn.self.engine) (g.E.Obey.keeping l.self.engine);
  own : g.E.Obey.alone ≡ true → g.E.Obey.hall l.self.engine ≡ g.E.Obey.hall l.fn.self.engine;
}

abbrev pub decreases-loop-out : goal.decreases-loop-out
decreases-loop-out g l = length (g.E.Obey.keeping l.self.engine).queue
