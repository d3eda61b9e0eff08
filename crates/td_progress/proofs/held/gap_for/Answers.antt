use Rattle.std.proofs.Common.{◌≤◌, sym, ap, ◌∙◌, subst, arith}
use Rattle.td_progress.specs.Held.{between, gaps_at}
use Rattle.td_progress.proofs.ChainSteps.{start_le}
use Rattle.td_progress.proofs.held.gap_for.Goals as goal

pub count_within-requires-clause-forward : goal.count_within-requires-clause-forward
count_within-requires-clause-forward c =
    subst (λ n. n ≤ c.args.epoch) (sym c.start_in-from.ensures) (start_le c.args.epoch 0 (gaps_at c.args.index c.args.chains.now.entries) (omega arith))

pub returns : goal.returns
returns c = c.count_within.ensures ∙ ap (λ n. between c.args.ways.now c.args.chains.now.entries c.args.class.now n c.args.epoch) c.start_in-from.ensures
