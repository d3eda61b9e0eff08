use Rattle.std.proofs.Common.{rules, ap, ◌≡◌, ◌≤◌, ◌∙◌, length, arith}
use Rattle.std.proofs.lemmas.List.{length-set}
use Rattle.td_watch.proofs.Lists.{loaded_at_most}
use Rattle.td_watch.proofs.Steps.{loads}
use Rattle.td_watch.proofs.reader.Reader.read.Goals as goal

pub load-kept-requires : goal.load-kept-requires
load-kept-requires c = (
  search rules,
  search rules,
  rw c.self.invariant.has_view (loads _ _ _ _),
)

pub load-done-requires : goal.load-done-requires
load-done-requires c = (
  search rules,
  search rules,
  rw (c.load-kept.ensures.2.0, c.self.invariant.has_view) (loads _ _ _ _),
)

pub load-acked-requires : goal.load-acked-requires
load-acked-requires c = (
  search rules,
  search rules,
  rw (c.load-done.ensures.2.0, c.load-kept.ensures.2.0, c.self.invariant.has_view) (loads _ _ _ _),
)

-- what a load tells of the later words bounds what was just loaded of them
pub returns-clause-ordered : goal.returns-clause-ordered
returns-clause-ordered c =
    let view = ap (λ m. m.0.words) c.self.invariant.has_view in
    let first = ap (λ m. m.0.words) c.load-kept.ensures.2.0 in
    let second = ap (λ m. m.0.words) c.load-done.ensures.2.0 in
    let three : length c.self.inside.seat.me.0.words ≡ 3 = ap length view ∙ c.self.invariant.sees_three in
    let still_three : length c.load-kept.new.seat.me.0.words ≡ 3 = ap length first ∙ (length-set c.self.inside.seat.me.0.words 2 c.load-kept.result ∙ three) in
    let kept_is_done : c.load-kept.result ≤ c.load-done.result = loaded_at_most _ _ 2 _ _ first (omega (arith, three)) (c.load-done.ensures.2.1 2 (omega arith)) in
    let done_is_acked : c.load-done.result ≤ c.load-acked.result = loaded_at_most _ _ 1 _ _ second (omega (arith, still_three)) (c.load-acked.ensures.2.1 1 (omega arith)) in (
      omega arith,
      omega arith,
    )
