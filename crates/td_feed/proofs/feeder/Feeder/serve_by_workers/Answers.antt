use Rattle.std.proofs.Common.{[], ◌∙◌}
use Rattle.td_feed.proofs.Causes.{of_opening}
use Rattle.td_feed.proofs.Counting.{memory_no_device, opening_no_device}
use Rattle.td_feed.proofs.Replies.{of_memory, of_opened}
use Rattle.td_feed.proofs.Serving.{serves_nothing, serves_ended, serves_same}
use Rattle.td_feed.proofs.feeder.Feeder.serve_by_workers.Goals as goal

pub returns-in-Err : goal.returns-in-Err
returns-in-Err g c =
    let refused = c.refused.ensures in
    let opening = c.in-Err.ensures.refused in
    serves_same refused.ended refused.keeper refused.writer refused.host
    (serves_nothing c.in-Err.fault c.args.self.whole (opening_no_device c.in-Err.fault opening) (of_opened c.in-Err.fault opening []) (λ s. of_opening (g.S.Asking.overlong c.args.self.orders) s g.W.Sink.HasRoom c.in-Err.fault opening))

pub returns-in-Ok-beside_workers_within : goal.returns-in-Ok-beside_workers_within
returns-in-Ok-beside_workers_within g c =
    let at = c.in-Ok-beside_workers_within in
    let ended = c.ended_as-ended.ensures in
    serves_ended at.served.ended c.ended_as-ended.result at.worked ended.ok ended.err at.ensures.gives

pub returns : goal.returns
returns g c =
    let back = c.in-Err-beside_workers_within.ensures.refused.1 in
    let refused = c.refused-in-Err-beside_workers_within.ensures in
    serves_same refused.ended (refused.keeper ∙ (λ i. (back i).feeder.keeper)) (refused.writer ∙ (λ i. (back i).feeder.writer)) (refused.host ∙ (λ i. (back i).feeder.host))
    (serves_nothing _ c.args.self.whole memory_no_device (of_memory []) (λ s. tt))
