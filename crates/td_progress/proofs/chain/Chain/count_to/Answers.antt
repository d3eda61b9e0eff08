use Rattle.std.proofs.Common.{◌-◌, Some, None, sym, ap, ◌∙◌, cond}
use Rattle.td_progress.specs.Gaps.{sum_to}
use Rattle.td_progress.proofs.chain.Chain.count_to.Goals as goal

pub sum_to-requires : goal.sum_to-requires
sum_to-requires c = (c.requires (sym c.is_at.ensures.is ∙ c.if-is_at.true)).1

pub returns-then-is_at : goal.returns-then-is_at
returns-then-is_at c =
    ap (λ n. Some (n - 1)) c.sum_to.ensures
    ∙ sym (ap (λ b. cond b (Some (sum_to c.args.epoch c.args.self.now - 1)) None) (sym c.is_at.ensures.is ∙ c.if-is_at.true))

pub returns-else-is_at : goal.returns-else-is_at
returns-else-is_at c = sym (ap (λ b. cond b (Some (sum_to c.args.epoch c.args.self.now - 1)) None) (sym c.is_at.ensures.is ∙ c.if-is_at.false))
