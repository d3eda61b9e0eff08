use Rattle.std.proofs.Common.{◌≡◌, ℕ, length, sym, subst}
use Rattle.std.specs.Prelude.{Result, Ok, Err, IfOk, OnOk}
use Rattle.td_machine.specs.State.{HallState}
use Rattle.td_machine.specs.Steps.{collect_step}
use Rattle.td_machine.specs.Sound.{outs_by}
use Rattle.td_store.specs.declared.standing.error.KeeperError.{KeeperError}
use Rattle.td_store.specs.standing.Standing.{last_epoch}
use Rattle.td_keeper.specs.Keeping.{Keeping}
use Rattle.td_keeper.specs.Halls.{IsDone, KeeperAndHall, with_collected, collected_hall}
use Rattle.td_keeper.proofs.Collecting.{collected_to_the_end}
use Rattle.td_keeper.proofs.engine.EngineObey.collect.Goals as goal

-- what comes of a hall of its own that is done, where what it collected is brought in
comes : {D : Type 0} (r : Result ℕ KeeperError) (k l : Keeping D) (S T : HallState) → IfOk r (λ n. (l ≡ with_collected k S) × (T ≡ collected_hall S) × (n ≡ length (outs_by (collect_step S).0)))
    → (collect_step S).1.collected ≡ last_epoch k.standing → IsDone k S → OnOk r ((l.collected ≡ last_epoch l.standing) × IsDone l T)
comes {D = D} (Ok n) k l S T is end done = (
  subst (λ (q : Keeping D). q.collected ≡ last_epoch q.standing) (sym is.0) end,
  subst (λ (q : Keeping D). IsDone q T) (sym is.0) (subst (IsDone (with_collected k S)) (sym is.1) (record { all = done.all; passed = done.passed })),
)
comes (Err e) k l S T is end done = tt

pub returns-clause-own : goal.returns-clause-own
returns-clause-own g c = λ alone.
    let k : Keeping g.row.D.Denot = c.self.inside.keeper in
    let S : HallState = c.self.inside.hall in
    let new = c.bring_in.new.self in
    let left = c.bring_in.new.hall in
    subst (λ (e : KeeperAndHall g.row.D.Denot). IsDone e.keeping e.hall → OnOk c.bring_in.result ((new.collected ≡ last_epoch new.standing) × IsDone new left)) c.self.view_is
    (λ done. comes c.bring_in.result k new S left c.bring_in.ensures.collected
    (collected_to_the_end g.L.Law.answers c.run_joins.ensures.states c.run_joins.ensures.outs k c.each_is_kept.ensures S c.self.invariant.0.own c.each_is_sound.ensures.sound done) done)
