use Rattle.std.proofs.Common.{◌∙◌, ap, false}
use Rattle.std.specs.Prelude.{None}
use Rattle.td_store.specs.standing.Told.{inputs_of, ring_of, floor_of}
use Rattle.td_orders.specs.Scripts.{Script}
use Rattle.td_report.specs.Dumped.{placed_dump}
use Rattle.td_orders.specs.Placed.{placed}
use Rattle.td_report.proofs.Reread.{are_read, told_new}
use Rattle.td_report.proofs.PlacedDump.{asks_placed}
use Rattle.td_report.proofs.BringsOn.{brought, none_put}
use Rattle.td_report.proofs.laws.placed_dumps_bring_on.Goals as goal

pub returns-clause-brings : goal.returns-clause-brings
returns-clause-brings c run plan head side s image history lawful may fits tells stands n from to =
    let read = are_read plan s.submitted fits (λ y. c.inputs_are_accepted.ensures plan y lawful) (c.batches_are_in_order.ensures.read (inputs_of plan)) may.batches in
    let asks = asks_placed plan head.shape s may.small read in
    let new = told_new head.version s.last s.submitted (c.told_numbers_rise.ensures (inputs_of plan) (ring_of head.shape s.epoch) image (floor_of head.version s.last) s.epoch s.submitted tells.submitted) in
    brought run plan (placed_dump head.shape s) s history asks.0 asks.1 asks.2 new stands n from to

pub returns-clause-behind : goal.returns-clause-behind
returns-clause-behind c plan head side s lawful may fits told last behind =
    let read = are_read plan s.submitted fits (λ y. c.inputs_are_accepted.ensures plan y lawful) (c.batches_are_in_order.ensures.read (inputs_of plan)) may.batches in
    let asks = asks_placed plan head.shape s may.small read in
    ap (λ (q : Script). (placed false told last q).orders) asks.2 ∙ none_put None told last s.epoch s.submitted asks.0 asks.1 behind
