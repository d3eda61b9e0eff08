use Rattle.std.proofs.Common.{◌≡◌, ◌∷◌, IfErr, All, subst}
use Rattle.std.proofs.lemmas.List.Elements.{All-head, All-tail}
use Rattle.td_calls.specs.Fits.{lacking_code}
use Rattle.td_workers.specs.Ended.{MayRefuse}
use Rattle.td_workers.proofs.workers.join_all.Goals as goal

pub loop-worker-preserved-then-is_ok : goal.loop-worker-preserved-then-is_ok
loop-worker-preserved-then-is_ok g c =
    let calls = c.args.calls.now in
    let worker = c.in-Some.worker in
    let rest = c.next.new.self.rest.items in
    let all : All (λ w. w.promise.calls.value ≡ calls) (worker ∷ rest) = subst (All (λ w. w.promise.calls.value ≡ calls)) c.in-Some.ensures.steps.0 c.loop-worker.invariant.1 in (
      subst (λ by. IfErr c.join-worked.result (MayRefuse (lacking_code (g.C.Closures.stored by))))
          (All-head (λ w. w.promise.calls.value ≡ calls) worker rest all) c.join-worked.ensures,
      All-tail (λ w. w.promise.calls.value ≡ calls) worker rest all,
    )

pub loop-worker-preserved : goal.loop-worker-preserved
loop-worker-preserved g c =
    let calls = c.args.calls.now in
    let worker = c.in-Some.worker in
    let rest = c.next.new.self.rest.items in
    (c.loop-worker.invariant.0, All-tail (λ w. w.promise.calls.value ≡ calls) worker rest (subst (All (λ w. w.promise.calls.value ≡ calls)) c.in-Some.ensures.steps.0 c.loop-worker.invariant.1))
