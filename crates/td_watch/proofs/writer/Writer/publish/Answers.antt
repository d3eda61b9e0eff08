use Rattle.std.proofs.Common.{rules, ap, arith}
use Rattle.std.specs.Prelude.{slice_index}
use Rattle.td_watch.specs.Words.{IsAtMost}
use Rattle.td_watch.proofs.Lists.{second_store, third_store}
use Rattle.td_watch.proofs.Steps.{stores}
use Rattle.td_watch.proofs.writer.Writer.publish.Goals as goal

pub store-requires : goal.store-requires
store-requires c =
    let rises : IsAtMost c.self.inside.seat.me.0.words c.args.words = rw (ap (λ v. v.words) c.self.view_is) c.requires.rises in (
      search rules,
      search rules,
      rw c.self.invariant.has_view (stores _ _ _ 0 _ rises.0 (λ k lt. absurd (omega arith))),
    )

pub store-requires-2 : goal.store-requires-2
store-requires-2 c =
    let rises : IsAtMost c.self.inside.seat.me.0.words c.args.words = rw (ap (λ v. v.words) c.self.view_is) c.requires.rises in
    let s = second_store c.self.inside.seat.me.0.words (slice_index c.args.words 0) (slice_index c.args.words 1) c.self.invariant.sees_three rises.1 c.requires.ordered.1 in (
      search rules,
      search rules,
      rw (c.store.ensures.2, c.self.invariant.has_view) (stores _ _ _ 1 _ s.0 s.1),
    )

pub store-requires-3 : goal.store-requires-3
store-requires-3 c =
    let rises : IsAtMost c.self.inside.seat.me.0.words c.args.words = rw (ap (λ v. v.words) c.self.view_is) c.requires.rises in
    let s = third_store c.self.inside.seat.me.0.words (slice_index c.args.words 0) (slice_index c.args.words 1) (slice_index c.args.words 2) c.self.invariant.sees_three rises.2 c.requires.ordered.0 c.requires.ordered.1 in (
      search rules,
      search rules,
      rw (c.store-2.ensures.2, c.store.ensures.2, c.self.invariant.has_view) (stores _ _ _ 2 _ s.0 s.1),
    )
