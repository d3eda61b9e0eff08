use Rattle.std.proofs.Common.{◌∙◌, subst}
use Rattle.std.specs.List.{IsDistinct}
use Rattle.std.specs.Map.{keys_of}
use Rattle.indexmap.specs.IndexMap.{insert_entry}
use Rattle.td_progress.proofs.Same.{same-is_stamp}
use Rattle.td_progress.proofs.Laid.{insert_next}
use Rattle.td_progress.proofs.held.laid_out.Goals as goal

pub loop-number-init : goal.loop-number-init
loop-number-init c = record {
  entries = c.new-chains.ensures.empty;
  once = subst (λ eq. IsDistinct eq (keys_of c.new-chains.result.entries)) same-is_stamp c.new-chains.ensures.unique;
}

pub loop-number-preserved : goal.loop-number-preserved
loop-number-preserved c = record {
  entries = c.in_ok-insert.ensures.entries
      ∙ ((λ i. insert_entry (same-is_stamp i) c.loop-number.chains.entries (c.outside.ensures i) (c.new.ensures i))
      ∙ insert_next c.args.ways.now c.loop-number.number c.loop-number.chains.entries c.loop-number.invariant.entries);
  once = subst (λ eq. IsDistinct eq (keys_of c.insert.new.self.entries)) same-is_stamp c.in_ok-insert.ensures.unique;
}
