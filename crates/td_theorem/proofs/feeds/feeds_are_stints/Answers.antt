use Rattle.std.proofs.Common.{refl, subst}
use Rattle.td_store.specs.standing.Advanced.{HeldWhere}
use Rattle.td_theorem.proofs.Found.{is_kept}
use Rattle.td_theorem.proofs.Watches.{obeyed_from}
use Rattle.td_theorem.proofs.feeds.feeds_are_stints.Goals as goal

pub returns : goal.returns
returns g c marks result plan alone disk left before after x from lawful commands replies driven image was =
    let view = g.D.Disk.view in
    let ended = from.ended in
    record {
      unwritten = from.unwritten lawful;
      lawful = from.lawful lawful;
      for_plan = from.plan_is;
      keeps = from.found lawful;
      fresh = from.fresh;
      kept = is_kept from;
      obeyed = obeyed_from g.D.Disk.view g.L.Law.answers from.watch commands replies from.keeper ended driven;
      held = subst (λ (d : g.row.D.Denot). HeldWhere ended.broken g.L.Law.answers ended.plan ended.head ended.side ended.standing (view d).state) from.left_is (from.holds (from.lawful_left lawful));
      stopped = (ended.watch, refl);
      crashed = subst (λ (d : g.row.D.Denot). (view d).state.since (view d).state.moment image) from.left_is was;
    }
