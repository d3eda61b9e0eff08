use Rattle.td_theorem.proofs.Below.{OfDisks, OfKeepers, OfStandings, OfPlays}
use Rattle.td_theorem.proofs.Lives.{the_theorem}
use Rattle.td_theorem.proofs.laws.the_theorem.Goals as goal

pub returns : goal.returns
returns g c =
    let keepers : OfKeepers g.D.Disk.view g.L.Law.answers = record {
      rest = c.others_rest.ensures;
      acknowledges = c.driven_acknowledges.ensures;
      advances = c.driven_advances.ensures;
      hands = c.driven_hands_on.ensures;
    } in
    let standings : OfStandings g.L.Law.answers = record {
      first = c.advance_stands.ensures.first;
      each = c.advance_stands.ensures.each;
      not_yet = c.standings_advance.ensures.not_yet;
      together = c.told_in_parts.ensures.together;
      apart = c.told_in_parts.ensures.apart;
      one_answer = c.told_in_parts.ensures.one_answer;
      one_more = c.numbers.ensures.one_more;
      joined = c.numbers.ensures.joined;
      in_order = c.states_are_in_order.ensures.read;
    } in
    let disks : OfDisks g.D.Disk.view = record {
      reads_image = g.met.D.Disk.reads_image;
      counts_now = g.met.D.Disk.counts_now;
      only_now = g.met.D.Disk.only_now;
    } in
    let plays : OfPlays g.L.Law.answers = record {
      states_join = c.run_joins.ensures.states;
      outs_join = c.run_joins.ensures.outs;
      joined = c.plays_join.ensures.joined;
      released = c.plays_join.ensures.released;
      confluence = c.confluence.ensures;
      never_stuck = c.never_stuck.ensures;
    } in
    the_theorem g.D.Disk.view g.L.Law.answers keepers standings disks plays
