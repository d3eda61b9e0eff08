use Rattle.td_gate.proofs.Frame.{put_elsewhere}
use Rattle.td_gate.proofs.laws.put_leaves_others.Goals as goal

pub returns : goal.returns
returns c r s payload old new apart put = put_elsewhere r s payload old new apart put
