use Rattle.std.proofs.Common.{◌∙◌, sym}
use Rattle.td_gate.specs.Regions.{PutsInTurn}
use Rattle.td_gate.proofs.CrashSafety.{HasClock}
use Rattle.td_gate.proofs.Frame.{in_turn_same, region_kept}
use Rattle.td_gate.proofs.laws.puts_keep_others.Goals as goal

pub returns : goal.returns
returns g c puts s old new lawful still apart settled safe =
    let laws = g.met.D.Disk in
    let view = g.D.Disk.view in
    let clock : HasClock (view new).state = record { counts_now = λ t f. laws.counts_now new t f still; only_now = λ f. laws.only_now new f still } in
    region_kept (PutsInTurn puts) s (view old).state (view new).state
    (λ d f step. in_turn_same puts s d f apart step)
    (λ f image. laws.image_size old f lawful image ∙ sym (laws.image_size old (view old).state.bytes lawful (laws.reads_image old lawful)))
    clock (laws.reads_image new still) settled safe
