use Rattle.std.proofs.Common.{[], refl, ap, ◌∙◌}
use Rattle.td_keeper.specs.Keeping.{Keeping}
use Rattle.td_keeper.specs.Halls.{KeeperAndHall}
use Rattle.td_feed.specs.Served.{script_at}
use Rattle.td_feed.proofs.Counting.{memory_no_device, epochs_no_device}
use Rattle.td_feed.proofs.Replies.{of_memory, of_epochs}
use Rattle.td_feed.proofs.Serving.{serves_nothing, serves_ended, serves_same, serves_given, serves_from}
use Rattle.td_feed.proofs.feeder.Feeder.serve_alone.Goals as goal

pub returns-then-is_at_last_number : goal.returns-then-is_at_last_number
returns-then-is_at_last_number g c =
    let refused = c.refused.ensures in
    serves_same refused.ended refused.keeper refused.writer refused.host (serves_nothing _ c.args.self.whole epochs_no_device (of_epochs []) (λ s. tt))

pub returns-in-Err : goal.returns-in-Err
returns-in-Err g c =
    serves_same refl c.in-Err.ensures.refused.1 refl refl (serves_nothing _ c.args.self.whole memory_no_device (of_memory []) (λ s. tt))

pub returns : goal.returns
returns g c =
    let ended = c.ended_as.ensures in
    let parts = c.into_parts-engine.ensures in
    let given = c.new-feeding.ensures in
    serves_from (λ (k : Keeping g.row.D.Denot). script_at g.S.Asking.script k c.args.self.orders) (ap (λ (e : KeeperAndHall g.row.D.Denot). e.keeping) given.engine ∙ c.in-Ok.ensures.same)
    (serves_same refl (c.into_keeper-keeper.ensures ∙ ap (λ (e : KeeperAndHall g.row.D.Denot). e.keeping) parts.engine) parts.writer refl
    (serves_given given.writer (serves_ended c.serve-obeyed.result c.ended_as.result c.worked_until.result ended.ok ended.err c.serve-obeyed.ensures)))
