use Rattle.std.proofs.Common.{◌≡◌, ◌-◌, ◌<◌, Result, Ok, Err, IfErr, length, ap, ◌∙◌, arith}
use Rattle.std.proofs.lemmas.List.{length-drop}
use Rattle.td_keeper.specs.Halls.{with_released}
use Rattle.td_keeper.proofs.Batches.{may_come, comes, some_of_all, all_after}
use Rattle.td_keeper.proofs.release.release_after.Goals as goal

in_err : {A E P : Type 0} (r : Result A E) → P → IfErr r (λ (e : E). P)
in_err (Ok a) p = tt
in_err (Err e) p = p

pub returns-in_err-batch-clause-some : goal.returns-in_err-batch-clause-some
returns-in_err-batch-clause-some g c =
    in_err c.from_residual.result (c.loop-at.at - c.args.has, c.loop-at.invariant.hall ∙ ap (with_released (g.H.AnyHall.state c.args.hall.now)) (some_of_all c.args.has c.loop-at.at c.args.submitted.now.items))

pub release_batch-requires : goal.release_batch-requires
release_batch-requires g c =
    let xs = c.args.submitted.now in
    let before : c.loop-at.at < length xs.items = omega (arith, c.loop-at-test.true, c.len-at-end.ensures, xs.ok.0) in
    may_come (g.H.AnyHall.state c.args.hall.now) c.args.has xs.items c.requires.not_closed c.requires.numbers
    (λ v p e. c.look_ups.ensures.vertices (g.H.AnyHall.state c.args.hall.now).plan v p (c.reached_in_order.ensures.numbers (g.H.AnyHall.state c.args.hall.now) c.each_is_sound.ensures.reached).plan e)
    c.requires.batches c.loop-at.at (g.H.AnyHall.state c.loop-at.hall) c.loop-at.invariant.hall c.index.result.now before c.index.ensures c.in_ok-batch.batch c.in_ok-batch.ensures

pub returns-in-Err-clause-some : goal.returns-in-Err-clause-some
returns-in-Err-clause-some g c =
    (c.loop-at.at - c.args.has, c.in-Err.ensures.err ∙ (c.loop-at.invariant.hall ∙ ap (with_released (g.H.AnyHall.state c.args.hall.now)) (some_of_all c.args.has c.loop-at.at c.args.submitted.now.items)))

pub loop-at-preserved : goal.loop-at-preserved
loop-at-preserved g c =
    let xs = c.args.submitted.now in
    let before : c.loop-at.at < length xs.items = omega (arith, c.loop-at-test.true, c.len-at-end.ensures, xs.ok.0) in
    record {
      count = omega (arith, c.loop-at.invariant.count, c.loop-at.auto.at);
      hall = comes (g.H.AnyHall.state c.args.hall.now) (g.H.AnyHall.state c.loop-at.hall) (g.H.AnyHall.state c.release_batch.new.self) c.args.has c.loop-at.at xs.items c.loop-at.auto.at before c.loop-at.invariant.hall c.index.result.now c.index.ensures
          c.in_ok-batch.batch c.in_ok-batch.ensures _ c.in-Ok.ensures.released;
    }

pub returns-clause-released : goal.returns-clause-released
returns-clause-released g c =
    let xs = c.args.submitted.now in
    let to : length xs.items ≡ c.loop-at.at = omega (arith, c.loop-at-test.false, c.loop-at.auto.at-end, c.len-at-end.ensures, xs.ok.0, c.requires.within) in
    let left = length-drop c.args.has xs.items in (
      omega (arith, left, to, c.loop-at.invariant.count),
      c.loop-at.invariant.hall ∙ ap (with_released (g.H.AnyHall.state c.args.hall.now)) (all_after c.args.has c.loop-at.at xs.items c.loop-at.auto.at (omega (arith, to))),
    )
