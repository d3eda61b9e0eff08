use Rattle.std.proofs.Common.{arith}
use Rattle.td_core.specs.Posted.{occurring}
use Rattle.td_core.proofs.deliver.add_all_and_leave.Goals as goal

pub returns-then-is_err-clause-none_added : goal.returns-then-is_err-clause-none_added
returns-then-is_err-clause-none_added c p =
    let changes = occurring c.args.changes.now in
    let added = c.in_ok-add_all.ensures.ok p in
    let lowered = c.take_off_all.ensures.stamps p in
    let before = c.counted.ensures.append p changes c.args.table.now.stamps in
    let after = c.counted.ensures.append p changes c.take_off_all.new.table.stamps in
    omega (arith, added, lowered, before, after)
