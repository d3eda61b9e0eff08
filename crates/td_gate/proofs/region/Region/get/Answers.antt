use Rattle.std.proofs.Common.{◌∙◌, sym}
use Rattle.std.proofs.lemmas.Result.{IfOk-weaker}
use Rattle.td_gate.proofs.Frame.{opened_settled}
use Rattle.td_gate.proofs.Images.{whole_start}
use Rattle.td_gate.proofs.region.Region.get.Goals as goal

pub returns-clause-found : goal.returns-clause-found
returns-clause-found g c = IfOk-weaker c.start_if_open.result _ _ (λ found is lawful. is lawful ∙ whole_start c.args.self.now (g.D.Disk.view c.args.device.now).state.bytes)
    c.start_if_open.ensures.found

pub returns-clause-every : goal.returns-clause-every
returns-clause-every g c = IfOk-weaker c.start_if_open.result _ _ (λ found is lawful settled image now.
    let laws = g.met.D.Disk in
    let view = g.D.Disk.view in
    let old = c.args.device.now in
    let read = opened_settled c.args.self.now (view old).state image (laws.image_size old image lawful now ∙ sym (laws.image_size old (view old).state.bytes lawful (laws.reads_image old lawful))) settled now in
    is lawful ∙ whole_start c.args.self.now (view old).state.bytes ∙ sym read)
    c.start_if_open.ensures.found
