use Rattle.std.proofs.Common.{◌≡◌, ◌∙◌, ℕ, sym, ap, subst}
use Rattle.std.specs.Prelude.{Option, Result, Ok, Err, IfOk}
use Rattle.td_machine.specs.State.{HallState}
use Rattle.td_store.specs.declared.standing.error.KeeperError.{KeeperError}
use Rattle.td_store.specs.standing.Standing.{last_epoch}
use Rattle.td_keeper.specs.Keeping.{Keeping}
use Rattle.td_keeper.specs.Halls.{IsOwn, IsDone, KeeperAndHall, with_collected, with_cut, collected_hall, cut_hall_up_to, cut_place, last_passed, place_between}
use Rattle.td_keeper.proofs.Collecting.{passed_to_the_end}
use Rattle.td_keeper.proofs.engine.EngineObey.cut.Goals as goal

-- where a hall of its own is cut that has passed to the end
there : {D : Type 0} (r : Result ℕ KeeperError) (most : Option ℕ) (k l : Keeping D) (S T : HallState) → IsOwn k S → last_passed S ≡ last_epoch k.standing
    → IfOk r (λ e. (e ≡ cut_place most S) × (T ≡ cut_hall_up_to most (collected_hall S)) × (l ≡ with_cut (with_collected k S) T))
    → IfOk r (λ e. e ≡ place_between k.base (last_epoch l.standing) most)
there {D = D} (Ok e) most k l S T own end is =
    is.0 ∙ (ap (λ (b : ℕ). place_between b (last_passed S) most) own.base ∙ ap (λ (n : ℕ). place_between k.base n most) (end ∙ sym (ap (λ (q : Keeping D). last_epoch q.standing) is.2)))
there (Err e) most k l S T own end is = tt

pub returns-clause-own : goal.returns-clause-own
returns-clause-own g c = λ alone.
    let k : Keeping g.row.D.Denot = c.self.inside.keeper in
    let S : HallState = c.self.inside.hall in
    let new = c.cut_own.new.self in
    let r = c.cut_own.result in
    let own = c.self.invariant.0.own in
    subst (λ (e : KeeperAndHall g.row.D.Denot). IsDone e.keeping e.hall → IfOk r (λ n. n ≡ place_between e.keeping.base (last_epoch new.standing) c.args.most)) c.self.view_is
    (λ done. there r c.args.most k new S c.cut_own.new.hall own
    (passed_to_the_end g.L.Law.answers c.run_joins.ensures.states c.run_joins.ensures.outs k c.each_is_kept.ensures S own c.each_is_sound.ensures.sound done) c.cut_own.ensures.cut)
