use Rattle.std.proofs.Common.{[], sym, subst, arith}
use Rattle.td_plan.specs.Tree.{tree_of}
use Rattle.td_store.specs.standing.Standing.{nothing_told}
use Rattle.td_store.specs.standing.Tells.{Tells, first_head}
use Rattle.td_theorem.proofs.Below.{OfDisks}
use Rattle.td_theorem.proofs.Delivered.{all_hold, again}
use Rattle.td_theorem.proofs.held.outputs_are_held.Goals as goal

pub returns-clause-begins : goal.returns-clause-begins
returns-clause-begins g c plan sizes image disk keeps is = record {
  history = [];
  tells = record {
    standing = nothing_told;
    told = c.told_in_parts.ensures.together plan (first_head sizes) 0 nothing_told image (subst (Tells plan (first_head sizes) 0 nothing_told) (sym (keeps.durable image is)) keeps.tells);
    stands = c.advance_stands.ensures.first (tree_of plan);
  };
  low = omega arith;
}

pub returns-clause-held : goal.returns-clause-held
returns-clause-held g c plan last from to deliveries holds are =
    all_hold g.D.Disk.view g.L.Law.answers c.told_in_parts.ensures.one_answer c.moments_are_told.ensures plan deliveries from to last holds are

pub returns-clause-again : goal.returns-clause-again
returns-clause-again g c plan last image d holds alike is alone =
    let disks : OfDisks g.D.Disk.view = record {
      reads_image = g.met.D.Disk.reads_image;
      counts_now = g.met.D.Disk.counts_now;
      only_now = g.met.D.Disk.only_now;
    } in
    again g.D.Disk.view g.L.Law.answers c.told_in_parts.ensures.one_answer c.moments_are_told.ensures plan disks c.run_joins.ensures.states c.run_joins.ensures.outs
    c.driven_acknowledges.ensures c.driven_hands_on.ensures image d last holds alike is alone
