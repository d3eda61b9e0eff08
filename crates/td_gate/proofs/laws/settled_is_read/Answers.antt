use Rattle.std.proofs.Common.{◌∙◌, sym}
use Rattle.td_gate.proofs.Frame.{opened_settled}
use Rattle.td_gate.proofs.laws.settled_is_read.Goals as goal

pub returns : goal.returns
returns g c d r f lawful settled image =
    let laws = g.met.D.Disk in
    let view = g.D.Disk.view in
    opened_settled r (view d).state f (laws.image_size d f lawful image ∙ sym (laws.image_size d (view d).state.bytes lawful (laws.reads_image d lawful))) settled image
