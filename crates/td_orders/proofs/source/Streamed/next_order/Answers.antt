use Rattle.std.proofs.Common.{refl}
use Rattle.td_orders.specs.Scripts.{script_left}
use Rattle.td_orders.proofs.Scripts.{same_itself}
use Rattle.td_orders.proofs.source.Streamed.next_order.Goals as goal

pub loop-line-init : goal.loop-line-init
loop-line-init g c = record { script = same_itself (script_left c.args.self.now.rest c.args.self.now.place); overlong = λ is. is; ahead = refl; stopped = refl; refuses = refl }
