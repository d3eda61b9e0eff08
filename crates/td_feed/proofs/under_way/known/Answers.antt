use Rattle.std.proofs.Common.{refl, sym, ap, ◌∙◌, subst}
use Rattle.td_keeper.specs.Keeping.{Keeping}
use Rattle.td_keeper.specs.Calls.{HoldsStanding}
use Rattle.td_keeper.specs.Driven.{is_failed}
use Rattle.td_feed.proofs.Told.{carry, refused_any, refused_begins, rest, rests_stand, rises_none, not_repeated}
use Rattle.td_feed.proofs.Counting.{counts_of, or_false}
use Rattle.td_feed.proofs.Held.{moves}
use Rattle.td_feed.proofs.under_way.known.Goals as goal

pub returns-clause-keeper : goal.returns-clause-keeper
returns-clause-keeper g c = record {
  kept = c.each_at_work_is_kept.ensures;
  holds = subst (λ (k : Keeping g.row.D.Denot). HoldsStanding g.D.Disk.view g.L.Law.answers k) c.keeper.ensures c.each_disk_holds.ensures;
}

pub returns-clause-comes : goal.returns-clause-comes
returns-clause-comes g c = λ command reply old new before after obeys whole rising size lawful.
    let view = g.D.Disk.view in
    let answers = g.L.Law.answers in
    let others = c.others_rest.ensures in
    let told = c.each_is_told.ensures command reply old new before.kept before.holds after.kept obeys in
    record {
      disk = record {
        size = size;
        lawful = lawful;
        counts = counts_of reply (view old.device).failures (view new.device).failures told.counted (λ is. (told.fails (sym (or_false (is_failed reply)) ∙ is)).risen) (λ none. (told.whole (sym (or_false (is_failed reply)) ∙ none)).1);
      };
      obeyed = λ none. record {
        obeyed = obeys;
        driven = told.driven;
        done = none;
        carried = carry view answers others c.advance_stands.ensures.each c.standings_advance.ensures.cut command reply old new told.kept obeys whole none;
      };
      refused = λ is. record {
        refused = record { reply = reply; refused = is; fault_is = refl; driven = told.driven };
        left =
            refused_any view answers c.advance_stands.ensures.each old new whole lawful.1
            (λ sound i image. g.met.D.Disk.counts_now new.device (view old.device).state.moment i sound (told.further (lawful.1 sound) whole).later image)
            others command reply is obeys rising (λ sound. told.images sound whole);
        submitted = refused_begins view answers command reply old new is obeys rising;
      };
      new_one = not_repeated view answers command reply old new obeys rising;
      rests = rest view answers others command reply old new obeys whole;
      stands = rests_stand view answers others command reply old new obeys;
      base = moves view answers command reply old new obeys;
    }

pub returns-clause-resting : goal.returns-clause-resting
returns-clause-resting g c = λ command reply old new still before after obeys whole.
    let view = g.D.Disk.view in
    let rests = c.others_rest.ensures command reply old new still obeys in
    returns-clause-comes g c command reply old new before after obeys whole (rises_none view g.L.Law.answers old command still) (ap (λ (d : g.row.D.Denot). (view d).capacity) rests.device)
    (subst (λ (d : g.row.D.Denot). (view d).lawful) (sym rests.device), subst (λ (d : g.row.D.Denot). (view d).lawful) rests.device)
