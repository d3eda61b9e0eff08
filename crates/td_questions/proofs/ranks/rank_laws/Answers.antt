use Rattle.td_questions.specs.Ranks.{ranked_cmp}
use Rattle.td_questions.proofs.Weights.{ranked_total, ranked_apart}
use Rattle.td_questions.proofs.ranks.rank_laws.Goals as goal

pub returns : goal.returns
returns c = c.sets_by_any_order.ensures ranked_cmp ranked_total ranked_apart
