use Rattle.std.proofs.Common.{◌≡◌, ◌-◌, take, drop, pos, sym, ◌∙◌, subst, arith}
use Rattle.std.specs.List.{AllByRecursion}
use Rattle.td_machine.specs.State.{shard_of_key}
use Rattle.td_core.proofs.PostRuns.{own_more}
use Rattle.td_core.proofs.post.run_end.Goals as goal

pub loop-end-init : goal.loop-end-init
loop-end-init c =
    let b = c.args.begin in
    let recs = c.args.recs.now in
    let none : b - b ≡ 0 = omega arith in
    own_more (λ r. shard_of_key c.args.workers r.key ≡ c.args.shard) recs b b (record { key = 0; val = pos 0 }) (omega arith) c.requires.there
    (subst (λ n. AllByRecursion (λ r. shard_of_key c.args.workers r.key ≡ c.args.shard) (take n (drop b recs))) (sym none) tt) (c.requires.first (record { key = 0; val = pos 0 }))

pub loop-end-preserved : goal.loop-end-preserved
loop-end-preserved c =
    let from = c.loop-end.auto.end in
    own_more (λ r. shard_of_key c.args.workers r.key ≡ c.args.shard) c.args.recs.now c.args.begin c.loop-end.end (record { key = 0; val = pos 0 }) (omega (arith, from)) c.loop-end-test.true c.loop-end.invariant
    (sym c.shard.ensures ∙ c.if-shard.false)
