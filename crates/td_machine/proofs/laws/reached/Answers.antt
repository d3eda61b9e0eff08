use Rattle.std.proofs.Common.{[], refl}
use Rattle.td_machine.proofs.Joined.{step_reached}
use Rattle.td_machine.proofs.laws.reached.Goals as goal

pub returns-clause-opened : goal.returns-clause-opened
returns-clause-opened g c plan states first workers lawful ordered l m = record {
  plan = plan;
  states = states;
  first = first;
  workers = workers;
  events = [];
  replies = [];
  lawful = lawful;
  ordered = ordered;
  from_one = l;
  some_worker = m;
  plays = refl;
}

pub returns-clause-step : goal.returns-clause-step
returns-clause-step g c = step_reached g.L.Law.answers

pub returns-clause-sound : goal.returns-clause-sound
returns-clause-sound g c S r = c.each_is_sound.ensures r.plan r.states r.first r.workers r.events r.replies S r.lawful r.ordered r.from_one r.some_worker r.plays
