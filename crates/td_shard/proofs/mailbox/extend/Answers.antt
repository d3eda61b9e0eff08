use Rattle.td_shard.proofs.Extended.{IsExtended, extended}
use Rattle.td_shard.proofs.TakenUp.{nothing}
use Rattle.td_shard.proofs.mailbox.extend.Goals as goal

its : (c : goal.After-extend_last) → IsExtended c.args.lane.now c.args.number c.args.recs.now c.args.runs.now c.extend_last.new.self c.extend_last.result
its c =
    let done = c.extend_last.ensures in
    extended c.args.lane.now c.args.number c.args.recs.now c.args.runs.now c.extend_last.new.self c.extend_last.result nothing c.requires.some c.requires.linked done.unchanged done.some done.lane done.extended

pub returns-clause-linked : goal.returns-clause-linked
returns-clause-linked c = (its c).linked

pub returns-clause-lasts : goal.returns-clause-lasts
returns-clause-lasts c = (its c).lasts

pub returns-clause-appended : goal.returns-clause-appended
returns-clause-appended c = (its c).appended
