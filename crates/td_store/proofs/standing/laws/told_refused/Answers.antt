use Rattle.std.proofs.Common.{ap, ◌∙◌}
use Rattle.td_store.specs.standing.Told.{from_head, from_checkpoint, with_batches}
use Rattle.td_store.proofs.standing.laws.told_refused.Goals as goal

pub returns-clause-head : goal.returns-clause-head
returns-clause-head c plan image e is = record { canonical = is.canonical; text = is.text; is = ap (from_head plan image) is.head }

pub returns-clause-slots : goal.returns-clause-slots
returns-clause-slots c plan head image e is refused =
    record { canonical = is.canonical; text = is.text; is = ap (from_head plan image) is.head ∙ ap (from_checkpoint plan head image) refused }

pub returns-clause-cells : goal.returns-clause-cells
returns-clause-cells c plan head image at e is checkpoint refused = record {
  canonical = is.canonical;
  text = is.text;
  is = ap (from_head plan image) is.head ∙ ap (from_checkpoint plan head image) checkpoint ∙ ap (with_batches at) refused;
}
