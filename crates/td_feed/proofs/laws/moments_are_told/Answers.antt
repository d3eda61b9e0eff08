use Rattle.std.proofs.Common.{◌+◌, length, ⊎_elim, List, sym, subst, append-nil, arith}
use Rattle.td_plan.specs.Lines.{Line}
use Rattle.td_journal.specs.declared.payload.Submitted.{Submitted}
use Rattle.td_keeper.specs.Keeping.{Keeping}
use Rattle.td_store.specs.standing.Stops.{Stands}
use Rattle.td_store.specs.standing.Advanced.{TellsAdvance, states_by}
use Rattle.td_keeper.specs.Driven.{submitted_by}
use Rattle.td_feed.specs.Fed.{TellsHistory}
use Rattle.td_feed.proofs.Carrying.{found}
use Rattle.td_feed.proofs.Moments.{advanced_onward}
use Rattle.td_feed.proofs.laws.moments_are_told.Goals as goal

pub returns : goal.returns
returns g c marks result plan alone disk left before after wanted from lawful commands replies driven history told image was =
    let answers = g.L.Law.answers in
    let view = g.D.Disk.view in
    let keeper : Keeping g.row.D.Denot = record from.keeper { watch = from.watch } in
    let submitted : List Submitted = submitted_by commands replies in
    let now = from.lawful lawful in
    let safe = from.unwritten lawful in
    let stands : Stands (states_by answers plan) keeper.standing history =
    found answers plan history (view disk).state (view keeper.device).state safe
    (λ i at. g.met.D.Disk.counts_now keeper.device (view disk).state.moment i now safe.later at) told
    c.told_in_parts.ensures.one_answer (g.met.D.Disk.reads_image keeper.device now) keeper.standing (from.told lawful) in
    let advances = c.driven_advances.ensures commands replies keeper from.ended from.kept now from.fresh.whole driven in
    ⊎_elim
    (λ then.
    let before_it = safe.each image then in
    record {
      count = 0;
      few = omega arith;
      tells = subst (λ (h : List Submitted). TellsHistory answers plan h image) (sym (append-nil history)) (subst (λ i. TellsHistory answers plan history i) (sym before_it.2) (told before_it.0 before_it.1));
    })
    (λ it.
    advanced_onward answers c.advance_stands.ensures.each plan keeper.standing history submitted image stands
    (subst (λ (p : List Line). TellsAdvance answers p keeper.standing submitted (keeper.standing.epoch + length keeper.standing.submitted) image) from.plan_is it))
    (advances.since from.fresh.whole (view disk).state.moment image safe.later (subst (λ (d : g.row.D.Denot). (view d).state.since (view disk).state.moment image) from.left_is was))
