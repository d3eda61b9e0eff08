use Rattle.std.proofs.Common.{refl, ◌∙◌}
use Rattle.td_keeper.specs.Keeping.{Keeping}
use Rattle.td_feed.specs.Served.{script_at}
use Rattle.td_feed.proofs.Serving.{serves_same, serves_given, serves_from}
use Rattle.td_feed.proofs.feeder.FeederBesideBeside.run.Goals as goal

pub returns : goal.returns
returns g c =
    let parts = c.into_parts-engine.ensures in
    let given = c.new-feeding.ensures in
    serves_from (λ (k : Keeping g.row.D.Denot). script_at g.S.Asking.script k c.args.self.feeder.orders) ((λ i. (given.engine i).engine) ∙ c.new-engine.ensures)
    (serves_same refl (c.into_keeper.ensures ∙ (λ i. (parts.engine i).engine)) parts.writer refl (serves_given given.writer c.serve-ended.ensures))
