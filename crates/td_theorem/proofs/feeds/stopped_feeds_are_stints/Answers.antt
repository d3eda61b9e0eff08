use Rattle.std.proofs.Common.{Bool, false, List, refl, sym, subst}
use Rattle.td_plan.specs.Lines.{Line}
use Rattle.td_store.specs.standing.Advanced.{HeldWhere}
use Rattle.td_theorem.proofs.Found.{is_kept}
use Rattle.td_theorem.proofs.Watches.{obeyed_from, obeyed_of}
use Rattle.td_theorem.proofs.feeds.stopped_feeds_are_stints.Goals as goal

pub returns-clause-unseen : goal.returns-clause-unseen
returns-clause-unseen g c marks result plan alone disk left before after x from lawful commands replies driven image was =
    let view = g.D.Disk.view in
    let keeper = from.keeper in
    record {
      unwritten = from.unwritten lawful;
      lawful = from.lawful lawful;
      for_plan = from.plan_is;
      keeps = from.found lawful;
      fresh = from.fresh;
      kept = is_kept from;
      obeyed = (keeper.watch, refl);
      held = subst (λ (b : Bool). HeldWhere b g.L.Law.answers keeper.plan keeper.head keeper.side keeper.standing (view keeper.device).state) (sym from.fresh.whole)
          (subst (λ (p : List Line). HeldWhere false g.L.Law.answers p keeper.head keeper.side keeper.standing (view keeper.device).state) (sym from.plan_is) (from.found lawful));
      stopped = obeyed_from g.D.Disk.view g.L.Law.answers from.watch commands replies keeper from.ended driven;
      crashed = subst (λ (d : g.row.D.Denot). (view d).state.since (view keeper.device).state.moment image) from.left_is was;
    }

pub returns-clause-seen : goal.returns-clause-seen
returns-clause-seen g c marks result plan alone disk left before after x from lawful commands replies stood driven held more unseen later image was =
    let view = g.D.Disk.view in
    record {
      unwritten = from.unwritten lawful;
      lawful = from.lawful lawful;
      for_plan = from.plan_is;
      keeps = from.found lawful;
      fresh = from.fresh;
      kept = is_kept from;
      obeyed = obeyed_from g.D.Disk.view g.L.Law.answers from.watch commands replies from.keeper stood driven;
      held = held;
      stopped = obeyed_of g.D.Disk.view g.L.Law.answers more unseen stood from.ended later;
      crashed = subst (λ (d : g.row.D.Denot). (view d).state.since (view stood.device).state.moment image) from.left_is was;
    }
