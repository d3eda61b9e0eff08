use Rattle.std.proofs.Common.{List, ℕ, Option, ◌∙◌, sym, ap}
use Rattle.std.proofs.lemmas.Result.{IfOk-weaker}
use Rattle.td_gate.specs.Region.{start_of}
use Rattle.td_gate.proofs.Frame.{opened_settled}
use Rattle.td_gate.proofs.region.Region.get_start.Goals as goal

pub returns-clause-every : goal.returns-clause-every
returns-clause-every g c = IfOk-weaker c.start_if_open.result _ _ (λ found is lawful settled image now.
    let laws = g.met.D.Disk in
    let view = g.D.Disk.view in
    let old = c.args.device.now in
    let read = opened_settled c.args.self.now (view old).state image (laws.image_size old image lawful now ∙ sym (laws.image_size old (view old).state.bytes lawful (laws.reads_image old lawful))) settled now in
    is lawful ∙ ap (λ (o : Option (List ℕ)). start_of c.args.count o) (sym read))
    c.start_if_open.ensures.found
