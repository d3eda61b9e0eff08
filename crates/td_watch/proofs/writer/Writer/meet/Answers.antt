use Rattle.std.proofs.Common.{rules, sym, ap, ◌∙◌}
use Rattle.td_watch.proofs.Steps.{joins, compares}
use Rattle.td_watch.proofs.writer.Writer.meet.Goals as goal

pub join_seat-requires : goal.join_seat-requires
join_seat-requires c = (
  search rules,
  ap (λ v. v.watch) c.reader.view_is ∙ c.requires ∙ sym (ap (λ v. v.watch) c.self.view_is) ∙ c.self.invariant.same_table ∙ sym (ap (λ t. t.shared.table_id) c.deref.ensures),
  search rules,
  search rules,
  joins _ _ _ _,
)

pub load-requires : goal.load-requires
load-requires c = (
  search rules,
  search rules,
  rw (c.join_seat.ensures.2, c.self.invariant.has_view) (compares _ _ c.self.inside.seat.me.0.words c.reader.inside.seat.me.0),
)
