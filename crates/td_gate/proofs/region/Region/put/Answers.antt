use Rattle.std.proofs.Common.{◌∙◌, sym, inl, inr, ⊎_elim}
use Rattle.td_gate.specs.Region.{Puts}
use Rattle.td_gate.proofs.CrashSafety.{HasClock}
use Rattle.td_gate.proofs.Frame.{same_elsewhere, opened_settled, region_kept}
use Rattle.td_gate.proofs.region.Region.put.Goals as goal

pub returns-clause-region : goal.returns-clause-region
returns-clause-region g c lawful settled image left =
    let laws = g.met.D.Disk in
    let view = g.D.Disk.view in
    let old = c.args.device.now in
    let from = (c.close_fill_open.ensures.crash_safe lawful settled).each image left in
    let was = opened_settled c.args.self.now (view old).state from.0 (laws.image_size old from.0 lawful from.1 ∙ sym (laws.image_size old (view old).state.bytes lawful (laws.reads_image old lawful))) settled from.1 in
    ⊎_elim (λ same. inl (same ∙ was)) (λ other. inr other) from.2.region

pub returns-clause-others : goal.returns-clause-others
returns-clause-others g c lawful settled s apart s_settled =
    let laws = g.met.D.Disk in
    let view = g.D.Disk.view in
    let old = c.args.device.now in
    let new = c.close_fill_open.new.device in
    let still = c.close_fill_open.ensures.device.lawful.0 lawful in
    let clock : HasClock (view new).state = record { counts_now = λ t f. laws.counts_now new t f still; only_now = λ f. laws.only_now new f still } in
    region_kept (Puts c.args.self.now c.args.payload.now) s (view old).state (view new).state
    (λ d f put. same_elsewhere c.args.self.now s d f apart put.others)
    (λ f image. laws.image_size old f lawful image ∙ sym (laws.image_size old (view old).state.bytes lawful (laws.reads_image old lawful)))
    clock (laws.reads_image new still) s_settled (c.close_fill_open.ensures.crash_safe lawful settled)
