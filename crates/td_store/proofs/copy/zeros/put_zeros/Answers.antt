use Rattle.std.proofs.Common.{sym, subst}
use Rattle.td_store.specs.copy.Copied.{EachHasNoHead, HasNoHead}
use Rattle.td_store.proofs.copy.zeros.put_zeros.Goals as goal

pub returns-clause-head : goal.returns-clause-head
returns-clause-head g c lawful durable none =
    let view = g.D.Disk.view in
    let new = c.sync.new.self in
    let first = c.in_ok-write_zeros.ensures in
    let second = c.in_ok-write_zeros-2.ensures in
    let l1 = first.device.lawful.0 lawful in
    let l2 = second.device.lawful.0 l1 in
    let each : EachHasNoHead (view c.args.device.now).state = λ image left. subst HasNoHead (sym (durable image left)) none in
    let read = g.met.D.Disk.reads_image new (c.in_ok-sync.ensures.lawful.0 l2) in
    (second.no_head l1 (first.no_head lawful each).0).0 (view new).state.bytes (c.in_ok-sync.ensures.images l2 (view new).state.bytes read)
