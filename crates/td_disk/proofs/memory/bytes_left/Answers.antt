use Rattle.std.proofs.Common.{◌≡◌, ◌+◌, [], ◌∷◌, ◌++◌, take, sym, ◌∙◌, ap, arith}
use Rattle.std.proofs.lemmas.List.{take_more}
use Rattle.td_disk.specs.declared.memory.Call.{Call}
use Rattle.td_disk.specs.Record.{Contents, replay, synced, crash_image}
use Rattle.td_disk.proofs.OneCallMore.{replay_more}
use Rattle.td_disk.proofs.memory.bytes_left.Goals as goal

pub loop-call-preserved : goal.loop-call-preserved
loop-call-preserved c =
    let i = c.loop-call.call-index in
    let calls = c.args.calls.now in
    let call = c.call-item.result in
    let start = c.args.initial.now in
    let more : take (i + 1) calls ≡ take i calls ++ call ∷ [] = take_more calls i call (omega arith) ∙ ap (λ (x : Call). take i calls ++ x ∷ []) (sym c.call-item.is) in
    let state = replay_more start (take i calls) (take (i + 1) calls) call more in
    let next = c.in_ok-replay_call.ensures (replay (synced start) (take i calls)) c.loop-call.invariant.read c.loop-call.invariant.left in
    record {
      read = next.0 ∙ ap (λ (k : Contents). k.bytes) (sym state);
      left = next.1 ∙ ap (λ (k : Contents). crash_image c.args.fill k) (sym state);
    }
