use Rattle.std.proofs.Common.{List, sym, subst}
use Rattle.td_plan.specs.Lines.{Line}
use Rattle.td_keeper.specs.Keeping.{Keeping}
use Rattle.td_keeper.specs.Answering.{AllOfHistory}
use Rattle.td_store.specs.standing.Stops.{Stands}
use Rattle.td_store.specs.standing.Advanced.{states_by}
use Rattle.td_feed.proofs.Carrying.{found}
use Rattle.td_feed.proofs.laws.answers_are_meant.Goals as goal

pub returns : goal.returns
returns g c marks result plan alone disk left before after wanted from lawful commands replies driven history told =
    let answers = g.L.Law.answers in
    let view = g.D.Disk.view in
    let keeper : Keeping g.row.D.Denot = record from.keeper { watch = from.watch } in
    let now = from.lawful lawful in
    let safe = from.unwritten lawful in
    let stands : Stands (states_by answers plan) keeper.standing history =
    found answers plan history (view disk).state (view keeper.device).state safe
    (λ i at. g.met.D.Disk.counts_now keeper.device (view disk).state.moment i now safe.later at) told
    c.told_in_parts.ensures.one_answer (g.met.D.Disk.reads_image keeper.device now) keeper.standing (from.told lawful) in
    subst (λ (p : List Line). AllOfHistory answers p history commands replies) from.plan_is
    (c.driven_answers.ensures commands replies keeper from.ended history from.kept driven (subst (λ (p : List Line). Stands (states_by answers p) keeper.standing history) (sym from.plan_is) stands))
