use Rattle.td_written.proofs.engine.sim_by.Goals as goal

pub returns : goal.returns
returns g c =
    let answered = c.sim.ensures in record {
      ok = answered.ok;
      end = answered.end;
      fault = answered.fault;
      input = answered.input;
      output = answered.output;
      room = answered.room;
      nothing = answered.nothing;
    }
