use Rattle.std.proofs.Common.{◌≡◌, ◌+◌, ◌%◌, ◌≤◌, Bool, true, false, cond, ap, sym, ◌∙◌, subst, arith, length}
use Rattle.std.specs.Prelude.{string_bytes}
use Rattle.td_console.specs.Turns.{IsTurn}
use Rattle.td_console.proofs.Turning.{not_played, played_on, turned, nearer, next_shard}
use Rattle.td_console.proofs.turns.play.Goals as goal

pub loop-idle-init : goal.loop-idle-init
loop-idle-init g c = record {
  so_far = not_played g.L.Law.answers c.args.workers (string_bytes c.args.text.now) c.args.hall.now;
  idle = omega arith;
  shard = omega (arith, c.requires.some);
  place = c.requires.picks;
}

pub loop-idle-smaller : goal.loop-idle-smaller
loop-idle-smaller g c =
    let t = turned g.L.Law.answers c.loop-idle.shard c.loop-idle.hall c.turn.new.hall (string_bytes c.loop-idle.text) (string_bytes c.turn.new.text) c.in_ok-worked.worked c.in_ok-worked.ensures.none c.in_ok-worked.ensures.worked in
    nearer g.L.Law.answers c.loop-idle.shard c.loop-idle.hall c.turn.new.hall t.0 c.loop-idle.idle c.idle_after-idle.result t.2 (c.idle_after-idle.ensures ∙ t.1 c.loop-idle.idle) (omega (arith, c.loop-idle-test.true, c.requires.most))

pub loop-idle-preserved : goal.loop-idle-preserved
loop-idle-preserved g c =
    let t = turned g.L.Law.answers c.loop-idle.shard c.loop-idle.hall c.turn.new.hall (string_bytes c.loop-idle.text) (string_bytes c.turn.new.text) c.in_ok-worked.worked c.in_ok-worked.ensures.none c.in_ok-worked.ensures.worked in
    let so_far = c.loop-idle.invariant.so_far in
    let on = played_on g.L.Law.answers c.args.workers (string_bytes c.args.text.now) (string_bytes c.loop-idle.text) c.args.hall.now c.loop-idle.hall c.turn.new.hall c.loop-idle.idle c.idle_after-idle.result so_far.0 t.0 (string_bytes c.turn.new.text)
    (subst (λ s. IsTurn g.L.Law.answers s c.loop-idle.hall t.0 c.turn.new.hall) so_far.1 t.2) t.3 (c.idle_after-idle.ensures ∙ t.1 c.loop-idle.idle) in
    record {
      so_far = (on.0, c.shard_after-shard.ensures.next ∙ next_shard (length so_far.0.turns) c.args.workers c.loop-idle.shard so_far.1 (omega (arith, c.requires.some)) ∙ ap (λ n. n % c.args.workers) (sym on.1));
      idle = few c.in_ok-worked.worked c.idle_after-idle.ensures;
      shard = c.shard_after-shard.ensures.within;
      place = c.place_after-place.ensures;
    }
  where
    few : (worked : Bool) → c.idle_after-idle.result ≡ cond worked 0 (c.loop-idle.idle + 1) → c.idle_after-idle.result ≤ c.args.workers
    few true e = omega (arith, e)
    few false e = omega (arith, e, c.loop-idle-test.true)
